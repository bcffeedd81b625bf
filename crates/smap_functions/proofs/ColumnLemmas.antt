-- columns of a line: the first place that passes
use Rattle.std.proofs.Common.{◌≡◌, ◌∙◌, ◌+◌, ◌-◌, ◌<◌, ◌≤◌, ◌++◌, ◌&&◌, ◌||◌, ◌==◌, ℕ, Bool, true, false}
use Rattle.std.proofs.Common.{List, []}
use Rattle.std.proofs.Common.{◌∷◌, Option, None, Some, zero, suc, refl, sym, ap, arith, length, take, drop}
use Rattle.std.proofs.Common.{nat_le, not, cond, get_or, sum_by, length-drop, ⊎_elim, suc-add, zero-add}
use Rattle.std.specs.Prelude.{◌^◌, find, IfSome, option_map}
use Rattle.std.specs.List.{range_with_len}
use Rattle.std.proofs.lemmas.Bool.{cases_lt}
use Rattle.std.proofs.lemmas.Bool.Decides.{nat_tests}
use Rattle.std.proofs.lemmas.Grind.{common_steps}
use Rattle.std.proofs.lemmas.Option.{none-some, same_Some}
use Rattle.std.proofs.lemmas.List.{get_or-drop}
use Rattle.std.proofs.lemmas.List.Sums.{prefix_len-le-length, prefix_len_passes, sum_by-append, sum_by_more}
use Rattle.smap_functions.specs.Lines.{at_most, column_place, continues, is_ascii, is_behind}
use Rattle.smap_functions.specs.Lines.{near_place, plain_len, units}

-- ---- the first of some numbers that passes

pub find_first : (p : ℕ → Bool) (n a k : ℕ) → a ≤ k → k < a + n → p k ≡ true
    → ((j : ℕ) → a ≤ j → j < k → p j ≡ false) → find p (range_with_len a n) ≡ Some k
find_first p zero a k le lt passes none_of = absurd (omega arith)
find_first p (suc n) a k le lt passes none_of = ⊎_elim
    (λ below. rw (none_of a (omega arith) below)
    (find_first p n (a + 1) k (omega arith) (omega arith) passes (λ j from to. none_of j (omega arith) to)))
    (λ reached. let e : a ≡ k = omega arith in rw (e, passes) refl)
    (cases_lt a k)

pub find_none : (p : ℕ → Bool) (n a : ℕ) → ((j : ℕ) → a ≤ j → j < a + n → p j ≡ false)
    → find p (range_with_len a n) ≡ None
find_none p zero a none_of = refl
find_none p (suc n) a none_of = rw (none_of a (omega arith) (omega arith))
    (find_none p n (a + 1) (λ j from to. none_of j (omega arith) (omega arith)))

pub find_far : (p : ℕ → Bool) (n a m : ℕ) → ((j : ℕ) → a ≤ j → j ≤ m → p j ≡ false)
    → at_most m (find p (range_with_len a n)) ≡ None
find_far p zero a m none_of = refl
find_far p (suc n) a m none_of = one (p a) a m (find p (range_with_len (a + 1) n)) (none_of a (omega arith))
    (find_far p n (a + 1) m (λ j from to. none_of j (omega arith) to))
  where
    one : (t : Bool) (a m : ℕ) (rest : Option ℕ) → (a ≤ m → t ≡ false) → at_most m rest ≡ None
        → at_most m (cond t (Some a) rest) ≡ None
    one t a m rest none_of far = grind (arith, nat_tests)

find_skip : (p : ℕ → Bool) (a m n : ℕ) → ((j : ℕ) → a ≤ j → j < a + m → p j ≡ false)
    → find p (range_with_len a (m + n)) ≡ find p (range_with_len (a + m) n)
find_skip p a zero n none_of =
    let e : a + 0 ≡ a = omega arith in let f : 0 + n ≡ n = omega arith in rw (e, f) refl
find_skip p a (suc m) n none_of =
    let e : suc m + n ≡ suc (m + n) = omega arith in
    let f : a + suc m ≡ (a + 1) + m = omega arith in
    rw (e, f, none_of a (omega arith) (omega arith))
    (find_skip p (a + 1) m n (λ j from to. none_of j (omega arith) (omega arith)))

find_shift : (p q : ℕ → Bool) (b n a : ℕ) → ((j : ℕ) → a ≤ j → j < a + n → p (b + j) ≡ q j)
    → find p (range_with_len (b + a) n) ≡ option_map (λ j. b + j) (find q (range_with_len a n))
find_shift p q b zero a same = refl
find_shift p q b (suc n) a same =
    let e : (b + a) + 1 ≡ b + (a + 1) = omega arith in
    let here = same a (omega arith) (omega arith) in
    let rest = find_shift p q b n (a + 1) (λ j from to. same j (omega arith) (omega arith)) in
    rw (e, here, rest) (one (q a) (b + a) a (find q (range_with_len (a + 1) n)) refl)
  where
    one : (t : Bool) (x a : ℕ) (rest : Option ℕ) → x ≡ b + a
        → cond t (Some x) (option_map (λ j. b + j) rest) ≡ option_map (λ j. b + j) (cond t (Some a) rest)
    one true x a rest is = rw is refl
    one false x a rest is = refl

find_within : (p : ℕ → Bool) (n a k : ℕ) → find p (range_with_len a n) ≡ Some k → k < a + n
find_within p zero a k is = absurd (none-some k is)
find_within p (suc n) a k is =
    one (p a) a n k (find p (range_with_len (a + 1) n)) (find_within p n (a + 1) k) is
  where
    one : (t : Bool) (a n k : ℕ) (rest : Option ℕ) → (rest ≡ Some k → k < (a + 1) + n)
        → cond t (Some a) rest ≡ Some k → k < a + suc n
    one true a n k rest within is = omega (arith, same_Some a k is)
    one false a n k rest within is = omega (arith, within is)

-- ---- columns

-- while places are passed over
pub left_is : (left column sum : ℕ) → left ≡ column - sum → (left == 0) ≡ nat_le column sum
left_is left column sum is = grind (arith, nat_tests)

pub is_behind-in : (row : List ℕ) (column left at : ℕ) → at < length row
    → left ≡ column - sum_by units (take at row)
    → is_behind row column at ≡ ((left == 0) && not (continues (get_or row at 0)))
is_behind-in row column left at lt is =
    grind (arith, nat_tests, left_is left column (sum_by units (take at row)) is)

pub is_behind-end : (row : List ℕ) (column left : ℕ) → left ≡ column - sum_by units (take (length row) row)
    → is_behind row column (length row) ≡ (left == 0)
is_behind-end row column left is =
    grind (arith, nat_tests, left_is left column (sum_by units (take (length row) row)) is)

at_most-some : (n k : ℕ) → k ≤ n → at_most n (Some k) ≡ Some k
at_most-some n k le = grind (arith, nat_tests)

-- what a search for a column's place answers
pub found_place : (row : List ℕ) (column left at : ℕ) → at < length row → at ≤ 1024
    → left ≡ column - sum_by units (take at row) → left ≡ 0 → continues (get_or row at 0) ≡ false
    → ((j : ℕ) → j < at → is_behind row column j ≡ false)
    → Some at ≡ at_most 1024 (column_place row column)
found_place row column left at lt le is zero_left begins before =
    let here : is_behind row column at ≡ true = is_behind-in row column left at lt is
    ∙ (let test : (left == 0) ≡ true = grind (arith, nat_tests) in rw (test, begins) refl) in
    let found = find_first (is_behind row column) (suc (length row)) 0 at (omega arith) (omega arith) here
    (λ j from to. before j to) in
    rw found (sym (at_most-some 1024 at le))

pub end_place : (row : List ℕ) (column left at : ℕ) → at ≡ length row → length row ≤ 1024
    → left ≡ column - sum_by units (take at row) → left ≡ 0
    → ((j : ℕ) → j < at → is_behind row column j ≡ false)
    → Some (length row) ≡ at_most 1024 (column_place row column)
end_place row column left at e le is zero_left before =
    let here : is_behind row column (length row) ≡ true = is_behind-end row column left (rw e at is)
    ∙ (let test : (left == 0) ≡ true = grind (arith, nat_tests) in test) in
    let found = find_first (is_behind row column) (suc (length row)) 0 (length row) (omega arith) (omega
    arith)
    here (λ j from to. before j (omega arith)) in
    rw found (sym (at_most-some 1024 (length row) le))

pub none_place : (row : List ℕ) (column left at : ℕ) → at ≡ length row
    → left ≡ column - sum_by units (take at row) → 0 < left
    → ((j : ℕ) → j < at → is_behind row column j ≡ false)
    → None ≡ at_most 1024 (column_place row column)
none_place row column left at e is more before =
    let here : is_behind row column (length row) ≡ false = is_behind-end row column left (rw e at is)
    ∙ (let test : (left == 0) ≡ false = grind (arith, nat_tests) in test) in
    let found = find_none (is_behind row column) (suc (length row)) 0 (λ j from to. ⊎_elim
    (λ lt. before j (omega arith)) (λ ge. let same : j ≡ length row = omega arith in rw same here)
    (cases_lt j (length row))) in
    rw found refl

pub past_place : (row : List ℕ) (column at : ℕ) → 1024 < at
    → ((j : ℕ) → j < at → is_behind row column j ≡ false)
    → None ≡ at_most 1024 (column_place row column)
past_place row column at lt before =
    sym (find_far (is_behind row column) (suc (length row)) 0 1024 (λ j from to. before j (omega arith)))

-- in ASCII a byte is a unit
ascii_units : (b : ℕ) → is_ascii b ≡ true → (continues b ≡ false) × (units b ≡ 1)
ascii_units b is = grind (arith, nat_tests)

ascii_sum : (row : List ℕ) (j : ℕ) → j ≤ plain_len row → sum_by units (take j row) ≡ j
ascii_sum row zero le = refl
ascii_sum row (suc j) le =
    let within = prefix_len-le-length is_ascii row in
    let one = ascii_units (get_or row j 0) (prefix_len_passes is_ascii row j 0 (omega arith)) in
    let more = sum_by_more units row j 0 (omega arith) in
    let before = ascii_sum row j (omega arith) in
    let e : suc j ≡ j + 1 = omega arith in
    rw (e, more, before, one.1) refl

before_column : (row : List ℕ) (column j : ℕ) → j ≤ plain_len row → j < column
    → is_behind row column j ≡ false
before_column row column j le lt = grind (arith, nat_tests, ascii_sum row j le)

at_column : (row : List ℕ) (column : ℕ) → column < plain_len row → is_behind row column column ≡ true
at_column row column lt = grind (
  arith,
  nat_tests,
  ascii_sum row column (omega arith),
  ascii_units (get_or row column 0) (prefix_len_passes is_ascii row column 0 lt),
)

pub plain_place : (row : List ℕ) (column : ℕ) → column < plain_len row → near_place row column ≡ Some column
plain_place row column lt =
    let within = prefix_len-le-length is_ascii row in
    let found = find_first (is_behind row column) (suc (length row)) 0 column (omega arith) (omega arith)
    (at_column row column lt) (λ j from to. before_column row column j (omega arith) to) in
    rw found (at_most-some (plain_len row + 1024) column (omega arith))

take_both : (n j : ℕ) (xs : List ℕ) → take (n + j) xs ≡ take n xs ++ take j (drop n xs)
take_both zero j xs = rw zero-add refl
take_both (suc n) j [] = grind (arith, common_steps)
take_both (suc n) j (x ∷ xs) = rw (suc-add n j, take_both n j xs) refl

behind_plain : (row : List ℕ) (column j : ℕ) → plain_len row ≤ column
    → is_behind row column (plain_len row + j) ≡ is_behind (drop (plain_len row) row) (column - plain_len
    row) j
behind_plain row column j le =
    let n = plain_len row in
    let within = prefix_len-le-length is_ascii row in
    let ends : (n + j == length row) ≡ (j == length (drop n row)) = same_ends n j (length row)
    (length (drop n row)) within (length-drop n row) in
    let byte = get_or-drop n row j 0 in
    let cut = take_both n j row in
    let sums = ap (sum_by units) cut ∙ sum_by-append units (take n row) (take j (drop n row)) in
    one (n + j == length row) (j == length (drop n row)) (get_or row (n + j) 0) (get_or (drop n row) j 0)
    (sum_by units (take (n + j) row)) (sum_by units (take j (drop n row))) n column ends (sym byte)
    (sums ∙ ap (λ m. m + sum_by units (take j (drop n row))) (ascii_sum row n (omega arith))) le
  where
    same_ends : (n j m k : ℕ) → n ≤ m → k ≡ m - n → (n + j == m) ≡ (j == k)
    same_ends n j m k le is = grind (arith, nat_tests)

    one : (s t : Bool) (x y a b n column : ℕ) → s ≡ t → x ≡ y → a ≡ n + b → n ≤ column
        → ((s || not (continues x)) && nat_le column a) ≡ ((t || not (continues y)) && nat_le (column - n) b)
    one s t x y a b n column same bytes is le = grind (arith, nat_tests)

at_most-shift : (b n : ℕ) (o : Option ℕ)
    → at_most (b + n) (option_map (λ j. b + j) o) ≡ option_map (λ j. b + j) (at_most n o)
at_most-shift b n o = grind (arith, nat_tests)

pub far_place : (row : List ℕ) (column : ℕ) → plain_len row ≤ column → near_place row column
    ≡ option_map (λ j. plain_len row + j)
    (at_most 1024 (column_place (drop (plain_len row) row) (column - plain_len row)))
far_place row column le =
    let n = plain_len row in
    let rest = drop n row in
    let within = prefix_len-le-length is_ascii row in
    let e : n + suc (length rest) ≡ suc (length row) = omega (arith, length-drop n row) in
    let skip = find_skip (is_behind row column) 0 n (suc (length rest))
    (λ j from to. before_column row column j (omega arith) (omega arith)) in
    let f : 0 + n ≡ n + 0 = omega arith in
    let shift = find_shift (is_behind row column) (is_behind rest (column - n)) n (suc (length rest)) 0
    (λ j from to. behind_plain row column j le) in
    let all = rw (e, f) at skip ∙ shift in
    rw all (at_most-shift n 1024 (column_place rest (column - n)))

pub near_within : (row : List ℕ) (column k : ℕ) → near_place row column ≡ Some k → k ≤ length row
near_within row column k is = one (column_place row column) (plain_len row + 1024)
    (λ k is. find_within (is_behind row column) (suc (length row)) 0 k is) k is
  where
    one : (o : Option ℕ) (n : ℕ) → ((k : ℕ) → o ≡ Some k → k < 0 + suc (length row))
        → (k : ℕ) → at_most n o ≡ Some k → k ≤ length row
    one o n within k is = grind (arith, nat_tests, within k)

-- and places so far are numbers of the machine
pub far_fits : (row : List ℕ) (column : ℕ) (r : Option ℕ) → length row < 2 ^ 64 → plain_len row ≤ column
    → r ≡ at_most 1024 (column_place (drop (plain_len row) row) (column - plain_len row))
    → IfSome r (λ at. plain_len row + at < 2 ^ 64)
far_fits row column None fits le is = tt
far_fits row column (Some at) fits le is =
    let far = far_place row column le ∙ ap (option_map (λ j. plain_len row + j)) (sym is) in
    let within = near_within row column (plain_len row + at) far in
    omega arith
