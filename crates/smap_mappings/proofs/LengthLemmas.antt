-- How long a mappings text is.
use Rattle.std.proofs.Common.{ℕ, ◌+◌, ◌-◌, ◌*◌, ◌≤◌, max, List, [], ◌∷◌, length, map, Option, ℤ, ap, arith}
use Rattle.std.proofs.Common.{length-append}
use Rattle.std.specs.Prelude.{flat_map}
use Rattle.std.proofs.lemmas.Bool.Decides.{nat_tests}
use Rattle.std.proofs.lemmas.List.{length-replicate}
use Rattle.smap_vlq.specs.Number.{spelling}
use Rattle.smap_vlq.proofs.SpelledLemmas.{spelling-length}
use Rattle.smap_mappings.specs.declared.token.Token.{Token}
use Rattle.smap_mappings.specs.declared.token.Original.{Original}
use Rattle.smap_mappings.specs.declared.running.Running.{Running}
use Rattle.smap_mappings.specs.Text.{IsEncodable, last_or, line_count, mappings_text}
use Rattle.smap_mappings.specs.Writing.{original_from, segment_from, separator}
use Rattle.smap_mappings.specs.Steps.{at_start}
use Rattle.smap_mappings.proofs.RunningTextLemmas.{AreSegments, before_token, after_token, text_from}
use Rattle.smap_mappings.proofs.RunningTextLemmas.{numbers_from, mappings_text-from}
use Rattle.smap_mappings.proofs.LawLemmas.{segments_there}

spellings_length : (ns : List ℤ) → length (flat_map spelling ns) ≤ 7 * length ns
spellings_length [] = omega arith
spellings_length (n ∷ ns) =
    omega (arith, spelling-length n, spellings_length ns, length-append (spelling n) (flat_map spelling ns))

numbers_count : (r : Running) (o : Option Original) → length (original_from r o) ≤ 4
numbers_count r o = grind arith

-- seven digits for each of five numbers
segment_length : (r : Running) (t : Token) → length (segment_from r t) ≤ 35
segment_length r t = omega (arith, spellings_length (numbers_from r t), numbers_count r t.original)

-- a comma, or a semicolon for each further line
separator_length : (lines line : ℕ) → lines ≤ line + 1 → length (separator lines line) + lines ≤ line + 1 + 1
separator_length lines line le =
    grind (arith, nat_tests, length-replicate {A = ℕ} (line + 1 - max lines 1) 59)

text_length : (r : Running) (lines : ℕ) (ts : List Token) → AreSegments r lines ts
    → length (text_from r lines ts) + lines ≤ 36 * length ts + last_or lines (map (λ t. t.line + 1) ts)
text_length r lines [] h = omega arith
text_length r lines (t ∷ ts) h =
    omega (
      arith,
      length-append {A = ℕ},
      separator_length lines t.line h.0,
      segment_length (before_token r lines t) t,
      text_length (after_token r lines t) (t.line + 1) ts h.2,
    )

-- At most 36 bytes for a token and one for a line.
pub length_bound : (tokens : List Token) → IsEncodable tokens
    → length (mappings_text tokens) ≤ 36 * length tokens + line_count tokens
length_bound tokens h = omega (
  arith,
  ap length (mappings_text-from tokens h),
  text_length at_start 0 tokens (segments_there tokens h),
)
