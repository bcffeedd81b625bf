-- Where the mappings of a line begin, by counting those on earlier lines.
use Rattle.std.proofs.Common.{◌≡◌, ◌∙◌, inl, inr, ℕ, ◌+◌, ◌<◌, ◌≤◌, ◌==◌, true, false, List, [], ◌∷◌, length}
use Rattle.std.proofs.Common.{map, nat_le, nat_lt, cond, arith, ap, sym, refl, slice_index, count_by}
use Rattle.std.proofs.lemmas.Bool.{cases_Bool, leb-false, leb-true, lt-ltb}
use Rattle.std.proofs.lemmas.Bool.Decides.{nat_tests}
use Rattle.std.proofs.lemmas.List.Sums.{sum_by-cons}
use Rattle.smap_mappings.specs.Position.{NeverFalls}
use Rattle.smap_record.specs.Fitting.{mapping_position}
use Rattle.smap_record.specs.Record.{Mapping}
use Rattle.smap_trace.specs.LineStarts.{line_start, line_starts}
use Rattle.smap_trace.proofs.HalvingLemmas.{rest_of}
use Rattle.smap_trace.proofs.LineStartLemmas.{table_at}

-- how many are on earlier lines
abbrev earlier : List Mapping → ℕ → ℕ
earlier ms line = count_by (λ m. nat_lt m.line line) ms

abbrev on_line : List Mapping → ℕ → ℕ
on_line ms line = count_by (λ m. m.line == line) ms

-- One mapping is on an earlier line than the next one, on the line, or on neither.
split_one : (m : Mapping) (line : ℕ)
    → cond (nat_lt m.line line) 1 0 + cond (m.line == line) 1 0 ≡ cond (nat_lt m.line (line + 1)) 1 0
split_one m line = grind (arith, nat_tests)

more_earlier : (m : Mapping) (ms : List Mapping) (line : ℕ)
    → earlier (m ∷ ms) line ≡ cond (nat_lt m.line line) 1 0 + earlier ms line
more_earlier m ms line = sum_by-cons (λ (x : Mapping). cond (nat_lt x.line line) 1 0) m ms

more_on_line : (m : Mapping) (ms : List Mapping) (line : ℕ)
    → on_line (m ∷ ms) line ≡ cond (m.line == line) 1 0 + on_line ms line
more_on_line m ms line = sum_by-cons (λ (x : Mapping). cond (x.line == line) 1 0) m ms

split : (ms : List Mapping) (line : ℕ) → earlier ms line + on_line ms line ≡ earlier ms (line + 1)
split [] line = refl
split (m ∷ ms) line =
    omega (
      arith,
      split_one m line,
      split ms line,
      more_earlier m ms line,
      more_on_line m ms line,
      more_earlier m ms (line + 1),
    )

-- Where mappings are in order, none after a mapping is on an earlier line.
none_earlier : (m : Mapping) (ms : List Mapping) (line : ℕ) → NeverFalls (map mapping_position (m ∷ ms))
    → line ≤ m.line → earlier (m ∷ ms) line ≡ 0
none_earlier m [] line sorted le =
    let no : nat_lt m.line line ≡ false = grind (arith, nat_tests) in
    more_earlier m [] line ∙ rw no refl
none_earlier m (n ∷ ms) line sorted le =
    let no : nat_lt m.line line ≡ false = grind (arith, nat_tests) in
    let more : line ≤ n.line = grind (arith, nat_tests) in
    let one : earlier (m ∷ n ∷ ms) line ≡ 0 + earlier (n ∷ ms) line =
    more_earlier m (n ∷ ms) line ∙ ap (λ b. cond b 1 0 + earlier (n ∷ ms) line) no in
    let rest : earlier (n ∷ ms) line ≡ 0 = none_earlier n ms line sorted.1 more in
    omega (arith, one, rest)

start_is : (ms : List Mapping) (line : ℕ) → NeverFalls (map mapping_position ms)
    → line_start ms line ≡ earlier ms line
start_is [] line sorted = refl
start_is (m ∷ ms) line sorted = elim (cases_Bool (nat_le line m.line)) [
  | inl e ↦ rw e (sym (none_earlier m ms line sorted (leb-true line m.line e)))
  | inr e ↦
      let rest = start_is ms line (rest_of (mapping_position m) (map mapping_position ms) sorted) in
      let lt : nat_lt m.line line ≡ true = lt-ltb m.line line (leb-false line m.line e) in
      rw (e, rest, more_earlier m ms line, lt) refl
]

pub are_counted : (ms : List Mapping) (line : ℕ) → NeverFalls (map mapping_position ms)
    → line + 1 < length (line_starts ms)
    → slice_index (line_starts ms) line + count_by (λ m. m.line == line) ms
    ≡ slice_index (line_starts ms) (line + 1)
are_counted ms line sorted within =
    let low : slice_index (line_starts ms) line ≡ earlier ms line =
    table_at ms line (omega (arith, within)) ∙ start_is ms line sorted in
    let high : slice_index (line_starts ms) (line + 1) ≡ earlier ms (line + 1) =
    table_at ms (line + 1) within ∙ start_is ms (line + 1) sorted in
    omega (arith, low, high, split ms line)
