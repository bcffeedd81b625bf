-- No file and no message puts a line feed into a line.
use lib.Utf8.{encode, next}
use Rattle.std.proofs.Common.{◌≡◌, ℕ, ◌+◌, ◌/◌, ◌%◌, ◌<◌, ◌≤◌, ◌^◌, ◌==◌, Bool, true, false, cond, List, []}
use Rattle.std.proofs.Common.{◌∷◌, ◌++◌, append_assoc, arith, chars, codes, decimal, nat_lt, Option, Some}
use Rattle.std.proofs.Common.{None, refl, string_bytes, subst, sym}
use Rattle.std.specs.Char.{digit_char}
use Rattle.std.specs.List.{flat_map}
use Rattle.std.specs.Prelude.{encode_utf8, if◌then◌else◌}
use Rattle.std.specs.Str.Lossy.{utf8_lossy}
use Rattle.std.proofs.lemmas.Bool.Decides.{nat_tests}
use Rattle.std.proofs.lemmas.Fmt.{decimal_by_steps}
use Rattle.std.proofs.lemmas.List.Concat.{flat_map-cons}
use Rattle.std.proofs.lemmas.List.Folds.{list_any-append}
use Rattle.serde_json.specs.Written.{compact_text}
use Rattle.smap_system.specs.Printing.{escaped as control, hex_byte, is_unsafe, printable, safe_char}
use Rattle.smap_report.specs.declared.escapes.Place.TheVariants.{Data as message_data, Property, Xml}
use Rattle.smap_report.specs.declared.findings.Finding.{Finding}
use Rattle.smap_report.specs.declared.findings.Level.{Level}
use Rattle.smap_report.specs.declared.findings.Level.TheVariants.{Note, Warning, Error}
use Rattle.smap_report.specs.declared.findings.Point.{Point}
use Rattle.smap_report.specs.declared.findings.Rule.{Rule}
use Rattle.smap_report.specs.Escapes.{escaped, json_text, shown, xml}
use Rattle.smap_report.specs.Findings.{level_word, rule_name}
use Rattle.smap_report.specs.Laws.{AreNamed, FindingsAreLines, holds_byte, IsLine, IsPlace}
use Rattle.smap_report.specs.Lines.{command, github_line, github_place, gnu_line, json_line, json_tree}
use Rattle.smap_report.specs.Junit.{case_line}
use Rattle.smap_report.specs.Text.{level_column, row}
use Rattle.smap_report.specs.Phrases.{place_text}

-- no line feed stands in a text
record IsPlain (text : List ℕ) : Type 0 where
  none : holds_byte 10 text ≡ false

fixed : (text : List ℕ) → holds_byte 10 text ≡ false → IsPlain text
fixed text e = record { none = e }

joined : (xs ys : List ℕ) → IsPlain xs → IsPlain ys → IsPlain (xs ++ ys)
joined xs ys p q = fixed (xs ++ ys) (rw (list_any-append (λ (x : ℕ). x == 10) xs ys, p.none, q.none) refl)

mapped : (f : ℕ → List ℕ) → ((c : ℕ) → IsPlain (f c)) → (cs : List ℕ) → IsPlain (flat_map f cs)
mapped f h [] = fixed [] refl
mapped f h (c ∷ cs) = subst IsPlain (sym (flat_map-cons f c cs))
    (joined (f c) (flat_map f cs) (h c) (mapped f h cs))

-- a byte that is no line feed, before others
differs : (x : ℕ) → 10 < x → (x == 10) ≡ false
differs x h = grind (arith, nat_tests)

above : (x : ℕ) (xs : List ℕ) → 10 < x → IsPlain xs → IsPlain (x ∷ xs)
above x xs h p = fixed (x ∷ xs) (rw (differs x h, p.none) refl)

-- words of the form itself, before others
after : (front rest : List ℕ) → holds_byte 10 front ≡ false → IsPlain rest → IsPlain (front ++ rest)
after front rest e p = joined front rest (fixed front e) p

-- two bytes
pair : (x y : ℕ) → 10 < x → 10 < y → IsPlain (x ∷ y ∷ [])
pair x y h k = above x (y ∷ []) h (above y [] k (fixed [] refl))

choice : (t : Bool) (xs ys : List ℕ) → IsPlain xs → IsPlain ys → IsPlain (cond t xs ys)
choice true xs ys p q = p
choice false xs ys p q = q

encoded : (c : ℕ) → (c == 10) ≡ false → IsPlain (encode_utf8 c)
unfolding encode
encoded c h = choice (nat_lt c 128) _ _ (fixed (c ∷ []) (rw h refl)) (choice (nat_lt c 2048) _ _
    (pair (192 + c / 64) (next c) (omega arith) (omega arith)) (choice (nat_lt c 65536) _ _
    (above (224 + c / 4096) _ (omega arith) (pair (next (c / 64)) (next c) (omega arith) (omega arith)))
    (above (240 + c / 262144) _ (omega arith) (above (next (c / 4096)) _ (omega arith)
    (pair (next (c / 64)) (next c) (omega arith) (omega arith))))))

digit : (d : ℕ) → 10 < digit_char d
digit d = grind (arith, nat_tests)

hex_plain : (b : ℕ) → IsPlain (hex_byte b)
hex_plain b = pair (digit_char (b / 16)) (digit_char (b % 16)) (digit (b / 16)) (digit (b % 16))

control_plain : (c : ℕ) → IsPlain (control c)
control_plain c = after (codes "\\u") _ refl
    (joined (hex_byte (c / 256)) (hex_byte (c % 256)) (hex_plain (c / 256)) (hex_plain (c % 256)))

safe_differs : (c : ℕ) → is_unsafe c ≡ false → (c == 10) ≡ false
safe_differs c e = grind (arith, nat_tests)

safe_split : (t : Bool) (c : ℕ) → is_unsafe c ≡ t → IsPlain (if t then control c else encode_utf8 c)
safe_split true c e = control_plain c
safe_split false c e = encoded c (safe_differs c e)

printable_plain : (text : List ℕ) → IsPlain (printable text)
printable_plain text = mapped safe_char (λ (c : ℕ). safe_split (is_unsafe c) c refl) (chars (utf8_lossy text))

decimal_plain : (n : ℕ) → n < 2 ^ 64 → IsPlain (decimal n)
decimal_plain n h = decimal_by_steps (λ (k : ℕ) (ds : List ℕ). IsPlain ds)
    (λ (k : ℕ) (low : k < 10). above (48 + k) [] (omega arith) (fixed [] refl))
    (λ (k : ℕ) (ds : List ℕ) (high : 10 ≤ k) (p : IsPlain ds). joined ds ((48 + k % 10) ∷ []) p
    (above (48 + k % 10) [] (omega arith) (fixed [] refl))) n h

place_plain : (before behind : List ℕ) (point : Option Point) → IsPlace point → IsPlain before
    → IsPlain behind → IsPlain (place_text before point behind)
place_plain before behind None h p q = fixed [] refl
place_plain before behind (Some at) h p q = joined before _ p (joined (decimal at.line) _
    (decimal_plain at.line h.0) (after (codes ":") _ refl
    (joined (decimal at.column) behind (decimal_plain at.column h.1) q)))

properties_plain : (point : Option Point) → IsPlace point → IsPlain (github_place point)
properties_plain None h = fixed [] refl
properties_plain (Some at) h = after (codes ",line=") _ refl (joined (decimal at.line) _
    (decimal_plain at.line h.0) (after (codes ",col=") _ refl (decimal_plain at.column h.1)))

level_plain : (level : Level) → IsPlain (level_word level)
level_plain Note = fixed (codes "note") refl
level_plain Warning = fixed (codes "warning") refl
level_plain Error = fixed (codes "error") refl

command_plain : (level : Level) → IsPlain (command level)
command_plain Note = fixed (codes "notice") refl
command_plain Warning = fixed (codes "warning") refl
command_plain Error = fixed (codes "error") refl

column_plain : (level : Level) → IsPlain (level_column level)
column_plain Note = fixed (codes "note   ") refl
column_plain Warning = fixed (codes "warning") refl
column_plain Error = fixed (codes "error  ") refl

-- the lines without their ends
abbrev gnu_body : List Rule → Finding → List ℕ
gnu_body rules f = printable (string_bytes f.file) ++ (place_text (codes ":") f.point [] ++ (codes ": "
    ++ (level_word f.level ++ (codes ": " ++ (printable (string_bytes f.message) ++ (codes " ["
    ++ (rule_name rules f.rule ++ codes "]")))))))

abbrev github_body : List Rule → Finding → List ℕ
github_body rules f = codes "::" ++ (command f.level ++ (codes " file="
    ++ (shown Property (string_bytes f.file) ++ (github_place f.point ++ (codes ",title="
    ++ (shown Property (rule_name rules f.rule) ++ (codes "::"
    ++ shown message_data (string_bytes f.message))))))))

abbrev row_body : List Rule → Finding → List ℕ
row_body rules f = codes "  " ++ (level_column f.level ++ (codes "  " ++ (place_text [] f.point (codes "  ")
    ++ (printable (string_bytes f.message) ++ (codes "  " ++ rule_name rules f.rule)))))

abbrev case_body : List Rule → Finding → List ℕ
case_body rules f = place_text [] f.point (codes ": ") ++ (level_word f.level ++ (codes ": "
    ++ (xml (string_bytes f.message) ++ (codes " [" ++ (xml (rule_name rules f.rule) ++ codes "]")))))

ended : (body text : List ℕ) → text ≡ body ++ codes "\n" → IsPlain body → IsLine text
ended body text e p = record { body = body; whole = e; one = p.none }

module _ (rules : List Rule) (f : Finding) (named : AreNamed rules) (place : IsPlace f.point) where
  named_plain : (n : ℕ) → IsPlain (rule_name rules n)
  named_plain n = fixed (rule_name rules n) (named n)

  gnu_plain : IsPlain (gnu_body rules f)
  gnu_plain = joined _ _ (printable_plain (string_bytes f.file)) (joined _ _
      (place_plain (codes ":") [] f.point place (fixed (codes ":") refl) (fixed [] refl))
      (after (codes ": ") _ refl (joined _ _ (level_plain f.level) (after (codes ": ") _ refl
      (joined _ _ (printable_plain (string_bytes f.message)) (after (codes " [") _ refl
      (joined _ (codes "]") (named_plain f.rule) (fixed (codes "]") refl))))))))

  github_plain : IsPlain (github_body rules f)
  github_plain = after (codes "::") _ refl (joined _ _ (command_plain f.level)
      (after (codes " file=") _ refl (joined _ _ (printable_plain (escaped Property (string_bytes f.file)))
      (joined _ _ (properties_plain f.point place) (after (codes ",title=") _ refl
      (joined _ _ (printable_plain (escaped Property (rule_name rules f.rule))) (after (codes "::") _ refl
      (printable_plain (escaped message_data (string_bytes f.message))))))))))

  row_plain : IsPlain (row_body rules f)
  row_plain = after (codes "  ") _ refl (joined _ _ (column_plain f.level) (after (codes "  ") _ refl
      (joined _ _ (place_plain [] (codes "  ") f.point place (fixed [] refl) (fixed (codes "  ") refl))
      (joined _ _ (printable_plain (string_bytes f.message)) (after (codes "  ") _ refl
      (named_plain f.rule))))))

  case_plain : IsPlain (case_body rules f)
  case_plain = joined _ _
      (place_plain [] (codes ": ") f.point place (fixed [] refl) (fixed (codes ": ") refl))
      (joined _ _ (level_plain f.level) (after (codes ": ") _ refl
      (joined _ _ (printable_plain (escaped Xml (string_bytes f.message))) (after (codes " [") _ refl
      (joined _ (codes "]") (printable_plain (escaped Xml (rule_name rules f.rule)))
      (fixed (codes "]") refl))))))

pub are_lines : FindingsAreLines
are_lines rules f named place = record {
  for_people = ended (row_body rules f) (row rules f) (simp append_assoc) (row_plain rules f named place);
  for_gnu = ended (gnu_body rules f) (gnu_line rules f) (simp append_assoc) (gnu_plain rules f named place);
  for_github = ended (github_body rules f) (github_line rules f) (simp append_assoc)
      (github_plain rules f named place);
  for_json = ended (json_text (json_tree rules f)) (json_line rules f) refl
      (printable_plain (compact_text (json_tree rules f)));
  in_junit = ended (case_body rules f) (case_line rules f) (simp append_assoc)
      (case_plain rules f named place);
}
