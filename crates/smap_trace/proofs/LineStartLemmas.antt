-- Where the mappings of each line begin, and what the count of a search is at least and at most.
use Rattle.std.proofs.Common.{◌≡◌, ◌∙◌, ℕ, ◌+◌, ◌-◌, ◌/◌, ◌<◌, ◌≤◌, true, false, List, length, map, get_or}
use Rattle.std.proofs.Common.{nat_le, None, arith, ap, inl, inr, slice_get, slice_index, Some}
use Rattle.std.proofs.lemmas.Bool.{cases_Bool, cases_lt}
use Rattle.std.proofs.lemmas.Bool.Decides.{nat_tests}
use Rattle.std.proofs.lemmas.List.{length-map}
use Rattle.std.proofs.lemmas.Option.{get_or_from_slice_get, slice_get_within}
use Rattle.std.proofs.lemmas.List.FromFn.{get_or-map-range_with_len, length-map-range_with_len}
use Rattle.std.proofs.lemmas.List.Sums.{count_by-le-length, fails_before_first, passes_at_first}
use Rattle.std.proofs.lemmas.List.Sums.{prefix_len-le-length}
use Rattle.smap_mappings.specs.Position.{NeverFalls}
use Rattle.smap_record.specs.Fitting.{mapping_position}
use Rattle.smap_record.specs.Record.{Mapping}
use Rattle.smap_trace.specs.LineStarts.{line_start, line_starts, lines_of, mappings_up_to, range_in}
use Rattle.smap_trace.specs.Positions.{IsBetween, count_at_most, is_at_most, position_in}
use Rattle.smap_trace.proofs.HalvingLemmas.{counts_past, counts_up_to}
use Rattle.smap_trace.proofs.LookupLemmas.{here}

-- stands in for a mapping where there is none
abbrev pub no_mapping : Mapping
no_mapping = record { line = 0; column = 0; origin = None }

pub start_within : (ms : List Mapping) (line : ℕ) → line_start ms line ≤ length ms
start_within ms line = prefix_len-le-length _ ms

pub before_start : (ms : List Mapping) (line i : ℕ) (d : Mapping) → i < line_start ms line
    → (get_or ms i d).line < line
before_start ms line i d lt =
    let h : nat_le line (get_or ms i d).line ≡ false =
    fails_before_first (λ m. nat_le line m.line) ms i d lt in
    grind (arith, nat_tests)

pub at_start : (ms : List Mapping) (line : ℕ) (d : Mapping) → line_start ms line < length ms
    → line ≤ (get_or ms (line_start ms line) d).line
at_start ms line d lt =
    let h : nat_le line (get_or ms (line_start ms line) d).line ≡ true =
    passes_at_first (λ m. nat_le line m.line) ms d lt in
    grind (arith, nat_tests)

-- one mapping more that is on an earlier line
pub one_later : (ms : List Mapping) (line i : ℕ) (m : Mapping) → i ≤ line_start ms line
    → slice_get ms i ≡ Some m → m.line < line → i + 1 ≤ line_start ms line
one_later ms line i m le at earlier = elim (cases_lt i (line_start ms line)) [
  | inl less ↦ omega arith
  | inr ge ↦
      let same : line_start ms line ≡ i = omega arith in
      let lt = slice_get_within ms i m at in
      let there : line ≤ (get_or ms (line_start ms line) m).line = at_start ms line m (omega arith) in
      let is : get_or ms (line_start ms line) m ≡ m =
      ap (λ n. get_or ms n m) same ∙ get_or_from_slice_get ms i m m at in
      absurd (omega (arith, there, ap (λ (x : Mapping). x.line) is))
]

-- and one that isn't
pub no_later : (ms : List Mapping) (line i : ℕ) (m : Mapping) → i ≤ line_start ms line
    → slice_get ms i ≡ Some m → line ≤ m.line → i ≡ line_start ms line
no_later ms line i m le at later = elim (cases_lt i (line_start ms line)) [
  | inl less ↦
      let is : get_or ms i m ≡ m = get_or_from_slice_get ms i m m at in
      absurd (omega (arith, before_start ms line i m less, ap (λ (x : Mapping). x.line) is))
  | inr ge ↦ omega arith
]

-- A line begins where the line before it does, or later.
pub next_start : (ms : List Mapping) (line : ℕ) → line_start ms line ≤ line_start ms (line + 1)
next_start ms line = elim (cases_lt (line_start ms (line + 1)) (line_start ms line)) [
  | inr ge ↦ ge
  | inl less ↦ absurd (omega (
    arith,
    before_start ms line (line_start ms (line + 1)) no_mapping less,
    at_start ms (line + 1) no_mapping (omega (arith, start_within ms line, less)),
  ))
]

module _ (ms : List Mapping) (line column : ℕ) (sorted : NeverFalls (map mapping_position ms)) where
  abbrev counted : ℕ
  counted = count_at_most (map mapping_position ms) (position_in (line, column))

  earlier : (m : Mapping) → m.line < line
      → is_at_most (mapping_position m) (position_in (line, column)) ≡ true
  earlier m h = grind (arith, nat_tests)

  later : (m : Mapping) → line < m.line
      → is_at_most (mapping_position m) (position_in (line, column)) ≡ false
  later m h = grind (arith, nat_tests)

  at_least : line_start ms line ≤ counted
  at_least = elim (cases_lt 0 (line_start ms line)) [
    | inr none ↦ omega arith
    | inl some ↦
        let i = line_start ms line - 1 in
        let m = get_or ms i no_mapping in
        let lt : i < length ms = omega (arith, start_within ms line, some) in
        let past = counts_past (map mapping_position ms) (position_in (line, column)) (mapping_position m) i
        sorted (here ms line column sorted i no_mapping lt)
        (earlier m (before_start ms line i no_mapping (omega (arith, some)))) in
        omega (arith, past, some)
  ]

  at_most : counted ≤ line_start ms (line + 1)
  at_most = elim (cases_lt (line_start ms (line + 1)) (length ms)) [
    | inr all ↦ omega (
      arith,
      all,
      count_by-le-length (λ p. is_at_most p (position_in (line, column))) (map mapping_position ms),
      length-map ms mapping_position,
    )
    | inl some ↦
        let i = line_start ms (line + 1) in
        let m = get_or ms i no_mapping in
        counts_up_to (map mapping_position ms) (position_in (line, column)) (mapping_position m) i sorted
        (here ms line column sorted i no_mapping some)
        (later m (omega (arith, at_start ms (line + 1) no_mapping some)))
  ]

  -- What isn't after a position of the line ends among the mappings of the line.
  pub within_line : IsBetween (line_start ms line) (line_start ms (line + 1)) counted
  within_line = (at_least, at_most)

-- What the table has.
pub table_at : (ms : List Mapping) (line : ℕ) → line < length (line_starts ms)
    → slice_index (line_starts ms) line ≡ line_start ms line
table_at ms line h = elim (cases_Bool (nat_le (lines_of ms / 2) (length ms))) [
  | inl e ↦
      let lt = rw e at h in
      rw e (get_or-map-range_with_len (line_start ms) 0 (lines_of ms + 1) line line 0
      (omega (arith, lt, length-map-range_with_len (line_start ms) 0 (lines_of ms + 1))) (omega arith))
  | inr e ↦ absurd (omega (arith, rw e at h))
]

-- What a line's part of the table says.
range_is : (starts : List ℕ) (line from to : ℕ) → range_in starts line ≡ Some (from, to)
    → (line + 1 < length starts) × (from ≡ slice_index starts line) × (to ≡ slice_index starts (line + 1))
range_is starts line from to h = grind (arith, nat_tests)

-- The part of a line in the table of a map: where its mappings begin and end.
pub record IsLinePart (ms : List Mapping) (line column from to : ℕ) : Type 0 where
  pub known : IsBetween from to (mappings_up_to ms line column)
  pub within : to ≤ length ms

pub line_part : (ms : List Mapping) (starts : List ℕ) (line column from to : ℕ)
    → NeverFalls (map mapping_position ms) → starts ≡ line_starts ms
    → range_in starts line ≡ Some (from, to) → IsLinePart ms line column from to
line_part ms starts line column from to sorted same h =
    let is = range_is (line_starts ms) line from to (rw same at h) in
    let low : from ≡ line_start ms line = is.1 ∙ table_at ms line (omega (arith, is.0)) in
    let high : to ≡ line_start ms (line + 1) = is.2 ∙ table_at ms (line + 1) is.0 in
    let known = within_line ms line column sorted in
    record {
      known = rw (low, high) known;
      within = rw high (start_within ms (line + 1));
    }
