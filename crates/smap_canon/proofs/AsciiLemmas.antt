-- A mappings text is ASCII.
use Rattle.std.proofs.lemmas.Bool.{cond_both}
use Rattle.smap_record.proofs.ListLemmas.{all_append}
use Rattle.std.proofs.Common.{ℕ, ◌<◌, List, [], ◌∷◌, ◌++◌, map, filter, zero, suc, arith}
use Rattle.std.specs.Prelude.{◌==◌, flat_map, IsUtf8, ℤ}
use Rattle.std.specs.List.{AllByRecursion, join_with_byte}
use Rattle.std.specs.Str.{IsAscii}
use Rattle.std.proofs.lemmas.Str.{IsUtf8-from_ascii}
use Rattle.std.proofs.lemmas.Bool.Decides.{nat_tests}
use Rattle.smap_vlq.specs.Number.{digit_byte, shortest_digits, unsigned_of, spelling}
use Rattle.smap_mappings.specs.declared.token.Token.{Token}
use Rattle.smap_mappings.specs.Text.{mappings_text, segments_after, differences, line_text, below_count}
use Rattle.smap_mappings.specs.Text.{line_count}

abbrev AreAscii : List ℕ → Type 0
AreAscii bs = AllByRecursion (λ b. b < 128) bs

join : (c : ℕ) (parts : List (List ℕ)) → c < 128 → AllByRecursion AreAscii parts
    → AreAscii (join_with_byte c parts)
join c [] low h = tt
join c (x ∷ []) low h = h.0
join c (x ∷ y ∷ xs) low h =
    all_append (λ b. b < 128) x (c ∷ join_with_byte c (y ∷ xs)) h.0 (low, join c (y ∷ xs) low h.1)

digit : (d : ℕ) → digit_byte d < 128
unfolding digit_byte
digit d = grind (arith, nat_tests)

digits : (ds : List ℕ) → AreAscii (map digit_byte ds)
digits [] = tt
digits (d ∷ ds) = (digit d, digits ds)

spelled : (ns : List ℤ) → AreAscii (flat_map spelling ns)
unfolding spelling
spelled [] = tt
spelled (n ∷ ns) =
    let ds = shortest_digits 7 (unsigned_of n) in
    all_append (λ b. b < 128) (map digit_byte ds) (flat_map spelling ns) (digits ds) (spelled ns)

segments : (before ts : List Token) → AllByRecursion (λ s. AreAscii s.1) (segments_after before ts)
segments before [] = tt
segments before (t ∷ ts) = (spelled (differences before t), segments (before ++ t ∷ []) ts)

on_line : (line : ℕ) (ss : List (ℕ × List ℕ)) → AllByRecursion (λ s. AreAscii s.1) ss
    → AreAscii (line_text ss line)
on_line line ss h = join 44 (map (λ s. s.1) (filter (λ s. s.0 == line) ss)) (omega arith) (kept ss h)
  where
    kept : (ss : List (ℕ × List ℕ)) → AllByRecursion (λ s. AreAscii s.1) ss
        → AllByRecursion AreAscii (map (λ s. s.1) (filter (λ s. s.0 == line) ss))
    kept [] h = tt
    kept (s ∷ ss) h = let rest = kept ss h.1 in
        cond_both (s.0 == line) (s ∷ filter (λ s. s.0 == line) ss) (filter (λ s. s.0 == line) ss)
        (λ ss. AllByRecursion AreAscii (map (λ s. s.1) ss)) (λ _. (h.0, rest)) (λ _. rest)

lines : (ss : List (ℕ × List ℕ)) (ls : List ℕ) → AllByRecursion (λ s. AreAscii s.1) ss
    → AllByRecursion AreAscii (map (line_text ss) ls)
lines ss [] h = tt
lines ss (l ∷ ls) h = (on_line l ss h, lines ss ls h)

each : (bs : List ℕ) → AreAscii bs → IsAscii bs
each [] h i = omega arith
each (b ∷ bs) h zero = h.0
each (b ∷ bs) h (suc i) = each bs h.1 i

pub IsUtf8-mappings_text : (tokens : List Token) → IsUtf8 (mappings_text tokens)
unfolding mappings_text
IsUtf8-mappings_text tokens = IsUtf8-from_ascii (mappings_text tokens) (each (mappings_text tokens)
    (join 59 (map (line_text (segments_after [] tokens)) (below_count (line_count tokens))) (omega arith)
    (lines (segments_after [] tokens) (below_count (line_count tokens)) (segments [] tokens))))
