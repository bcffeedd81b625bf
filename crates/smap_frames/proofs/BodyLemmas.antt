-- A line without its carriage return, and whether it begins with spaces and `at `.
use Rattle.std.proofs.Common.{◌≡◌, ◌∙◌, inl, inr, ℕ, suc, ◌+◌, ◌-◌, ◌<◌, ◌≤◌, ◌==◌, Bool, true, false, not}
use Rattle.std.proofs.Common.{List, [], ◌∷◌, ◌++◌, length, take, drop, refl, ap, arith, append_assoc}
use Rattle.std.proofs.Common.{slice_index, nat_eq, length-drop, length-take, length-append, codes, get_or}
use Rattle.std.specs.List.{starts_with, prefix_len, position_or_len, list_all}
use Rattle.std.specs.Str.Lines.{strip_carriage_return}
use Rattle.std.proofs.lemmas.Bool.{and_parts, cases_lt, cond_both, not-true}
use Rattle.std.proofs.lemmas.List.{drop_more}
use Rattle.std.proofs.Math.Seq.{take-append-add, drop-append_seam, drop-length}
use Rattle.std.proofs.lemmas.Bool.Decides.{Decides-eqb}
use Rattle.smap_frames.specs.Frame.{AreSpaces, IsLineEnd, BeginsWithAt, lacks}
use Rattle.smap_frames.specs.Reading.{is_space}
use Rattle.smap_frames.proofs.CutLemmas.{begins_with, parts_at}

-- Behind the body is the carriage return at the line's end, if there is one.
pub body_cut : (line : List ℕ) → IsLineEnd (drop (length (strip_carriage_return line)) line)
body_cut line = cond_both (slice_index line (length line - 1) == 13) (take (length line - 1) line) line
    (λ (body : List ℕ). IsLineEnd (drop (length body) line)) (λ e. inr (last_of line e))
    (λ e. inl (drop-length line))
  where
    last_of : (xs : List ℕ) → (slice_index xs (length xs - 1) == 13) ≡ true
        → drop (length (take (length xs - 1) xs)) xs ≡ 13 ∷ []
    last_of [] e = cc
    last_of (x ∷ more) e =
        let xs = x ∷ more in
        let len : length (take (length xs - 1) xs) ≡ length xs - 1 =
        omega (arith, length-take (length xs - 1) xs) in
        let is : get_or xs (length xs - 1) 0 ≡ 13 = (Decides-eqb (get_or xs (length xs - 1) 0) 13).0 e in
        let next : length xs - 1 + 1 ≡ length xs = omega arith in
        rw len (drop_more xs (length xs - 1) 0 (omega arith) ∙ rw (is, next, drop-length xs) refl)

pub front_passes : (q : ℕ → Bool) (front : List ℕ) (x : ℕ) (rest : List ℕ) → list_all q front ≡ true
    → q x ≡ false → prefix_len q (front ++ x ∷ rest) ≡ length front
front_passes q [] x rest all stop = rw stop refl
front_passes q (y ∷ ys) x rest all stop =
    let parts = and_parts (q y) (list_all q ys) all in
    rw (parts.0, front_passes q ys x rest parts.1 stop) (omega arith)

pub front_all : (q : ℕ → Bool) (xs : List ℕ) → list_all q (take (prefix_len q xs) xs) ≡ true
front_all q [] = refl
front_all q (x ∷ xs) = cond_both (q x) (1 + prefix_len q xs) 0 (λ n. list_all q (take n (x ∷ xs)) ≡ true)
    (λ e. rw (one_more (prefix_len q xs)) (rw (e, front_all q xs) refl)) (λ e. refl)
  where
    one_more : (n : ℕ) → 1 + n ≡ suc n
    one_more n = omega arith

pub before_lacks : (c : ℕ) (xs : List ℕ) → lacks c (take (position_or_len (λ b. b == c) xs) xs) ≡ true
before_lacks c xs = none (take (position_or_len (λ b. b == c) xs) xs) (front_all (λ b. not (b == c)) xs)
  where
    none : (ys : List ℕ) → list_all (λ b. not (b == c)) ys ≡ true → lacks c ys ≡ true
    none [] h = refl
    none (y ∷ ys) h =
        let parts = and_parts (not (y == c)) (list_all (λ b. not (b == c)) ys) h in
        rw (not-true (y == c) parts.0) (none ys parts.1)

-- A text that begins with spaces and `at ` is recognized.
pub at_found : (spaces rest : List ℕ) → AreSpaces spaces
    → (prefix_len is_space (spaces ++ codes "at " ++ rest) ≡ length spaces)
    × (drop (length spaces) (spaces ++ codes "at " ++ rest) ≡ codes "at " ++ rest)
at_found spaces rest are =
    let whole : spaces ++ codes "at " ++ rest ≡ spaces ++ (codes "at " ++ rest) =
    append_assoc spaces (codes "at ") rest in (
      rw whole (front_passes is_space spaces 97 (codes "t " ++ rest) are refl),
      rw whole (drop-append_seam spaces (codes "at " ++ rest)),
    )

pub at_starts : (body spaces rest : List ℕ) → AreSpaces spaces → body ≡ spaces ++ codes "at " ++ rest
    → starts_with nat_eq (drop (prefix_len is_space body) body) (codes "at ") ≡ true
at_starts body spaces rest are is =
    let found = at_found spaces rest are in
    rw (is, found.0, found.1) (begins_with (codes "at ") rest)

-- Where the line begins with spaces and `at `, so does its body.
pub begins_at : (line : List ℕ) → BeginsWithAt line
    → (rest : List ℕ) × (spaces : List ℕ) × AreSpaces spaces
    × (take (length (strip_carriage_return line)) line ≡ spaces ++ codes "at " ++ rest)
begins_at line b =
    let end = length (strip_carriage_return line) in
    let front = b.spaces ++ codes "at " in
    elim (cases_lt end (length front)) [
      | inr ge ↦
          let more = end - length front in
          let count : end ≡ length front + more = omega (arith, ge) in
          let cut : take (length front + more) line ≡ front ++ take more b.rest =
          ap (take (length front + more)) b.whole ∙ take-append-add front b.rest more in
          (take more b.rest, b.spaces, b.are_spaces, ap (λ n. take n line) count ∙ cut)
      | inl lt ↦ absurd (no_return line b.spaces b.rest end b.whole lt (body_cut line))
    ]
  where
    short : (text : List ℕ) → IsLineEnd text → length text ≤ 1
    short text (inl e) = omega (arith, ap length e)
    short text (inr e) = omega (arith, ap length e)

    no_space : (rest : List ℕ) → IsLineEnd (32 ∷ rest) → ⊥
    no_space rest (inl e) = cc
    no_space rest (inr e) = cc

    -- The end of the line would begin with a space.
    no_return : (line spaces rest : List ℕ) (end : ℕ) → line ≡ spaces ++ codes "at " ++ rest
        → end < length (spaces ++ codes "at ") → IsLineEnd (drop end line) → ⊥
    no_return line spaces rest end whole lt line_end =
        let split : line ≡ (spaces ++ codes "at") ++ 32 ∷ rest = whole ∙ simp append_assoc in
        let place : end ≡ length (spaces ++ codes "at") = omega (
          arith,
          lt,
          short (drop end line) line_end,
          length-drop end line,
          ap length split,
          length-append (spaces ++ codes "at") (32 ∷ rest),
          length-append spaces (codes "at "),
          length-append spaces (codes "at"),
        ) in
        no_space rest (rw (parts_at line (spaces ++ codes "at") (32 ∷ rest) end split place).1 at line_end)
