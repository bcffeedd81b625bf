-- lines of a text, found by searches for the first bytes of terminators
use Rattle.std.proofs.Common.{◌≡◌, ◌∙◌, ◌+◌, ◌-◌, ◌<◌, ◌≤◌, ◌++◌, ℕ, Bool, true, List, [], ◌∷◌}
use Rattle.std.proofs.Common.{Option, None, Some, zero, suc, refl, sym, ap, arith, length, take, drop, get_or}
use Rattle.std.proofs.Common.{nat_lt, cond, add-one, zero-add, suc-add, length-append, length-drop, ⊎_elim}
use Rattle.std.proofs.Math.Seq.{drop-length}
use Rattle.std.proofs.lemmas.List.{drop-drop, length-take, take_all}
use Rattle.std.proofs.lemmas.Bool.{cases_lt}
use Rattle.std.specs.Prelude.{◌^◌, IfSome, option_and_then, option_map, slice_get, slice_index}
use Rattle.std.proofs.lemmas.Bool.Decides.{nat_tests}
use Rattle.std.proofs.lemmas.Grind.{common_steps}
use Rattle.std.proofs.lemmas.Option.{cond_some, gets, none-some, option_and_then_some, same_Some}
use Rattle.std.proofs.lemmas.Option.{slice_get-get_or, slice_get_past}
use Rattle.memchr.specs.Find.{is_byte3, Passes, Nowhere}
use Rattle.smap_functions.specs.declared.lines.Line.{Line}
use Rattle.smap_functions.specs.Lines.{AreLines, behind_line, line_end, line_from, line_len, line_start}
use Rattle.smap_functions.specs.Lines.{at_most, column_place, line_text, near_place, place_of, plain_len}
use Rattle.smap_functions.specs.Lines.{terminator_len}
use Rattle.smap_functions.proofs.ColumnLemmas.{far_fits, far_place, near_within}

-- no terminator begins with any other byte
no_terminator : (text : List ℕ) → 0 < length text → (is_byte3 10 13 226 (slice_index text 0) ≡ true → ⊥)
    → terminator_len text ≡ 0
no_terminator text has other = grind (arith, nat_tests)

-- the first line goes on behind a byte with which no terminator begins
pub line_len-past : (text : List ℕ) → 0 < length text → terminator_len text ≡ 0
    → line_len text ≡ 1 + line_len (drop 1 text)
line_len-past [] has none = absurd (omega arith)
line_len-past (b ∷ bs) has none = one b bs (terminator_len (b ∷ bs)) none
  where
    one : (b : ℕ) (bs : List ℕ) (n : ℕ) → n ≡ 0
        → cond (nat_lt 0 n) 0 (suc (line_len bs)) ≡ 1 + line_len bs
    one b bs n none = grind (arith, nat_tests)

-- and ends at one
pub line_len-at : (text : List ℕ) → 0 < terminator_len text → line_len text ≡ 0
line_len-at [] has = refl
line_len-at (b ∷ bs) has = one (terminator_len (b ∷ bs)) (line_len bs) has
  where
    one : (n m : ℕ) → 0 < n → cond (nat_lt 0 n) 0 (suc m) ≡ 0
    one n m has = grind (arith, nat_tests)

pub line_len-skip : (k : ℕ) (text : List ℕ) → k ≤ length text
    → ((j : ℕ) → j < k → is_byte3 10 13 226 (slice_index text j) ≡ true → ⊥)
    → line_len text ≡ k + line_len (drop k text)
line_len-skip zero text le none = omega arith
line_len-skip (suc k) [] le none = absurd (omega arith)
line_len-skip (suc k) (b ∷ bs) le none =
    let here = line_len-past (b ∷ bs) (omega arith) (no_terminator (b ∷ bs) (omega arith) (none 0 (omega
    arith))) in
    let rest = line_len-skip k bs (omega arith) (λ j lt. none (suc j) (omega arith)) in
    omega arith

-- a slice from a place on
pub rest_is : (n : ℕ) (xs : List ℕ) → take (length xs - n) (drop n xs) ≡ drop n xs
rest_is n xs = take_all (length xs - n) (drop n xs) (omega (arith, length-drop n xs))

-- where the line ends that was read up to a place, by a search from there on
pub line_end-none : (source : List ℕ) (start at : ℕ) (rest : List ℕ) → rest ≡ drop at source
    → at ≤ length source → line_end source start ≡ at + line_len (drop at source)
    → Nowhere (Passes (is_byte3 10 13 226) rest) 0 (length rest)
    → line_end source start ≡ length source
line_end-none source start at rest same le is none =
    let skip = line_len-skip (length rest) rest (omega arith) (λ j lt. none j (omega arith) lt) in
    let nil = ap line_len (drop-length rest) in
    let whole : line_len rest ≡ length rest = omega arith in
    let n = length-drop at source in
    let moved = rw same at whole in
    omega arith

pub line_end-found : (source : List ℕ) (start at k : ℕ) (rest : List ℕ) → rest ≡ drop at source
    → line_end source start ≡ at + line_len (drop at source) → k < length rest
    → Nowhere (Passes (is_byte3 10 13 226) rest) 0 k
    → line_end source start ≡ (at + k) + line_len (drop (at + k) source)
line_end-found source start at k rest same is lt none =
    let skip = line_len-skip k rest (omega arith) (λ j lt. none j (omega arith) lt) in
    let moved = rw (same, drop-drop k at source) at skip in
    omega arith

pub line_end-past : (source : List ℕ) (start at : ℕ) → at < length source
    → line_end source start ≡ at + line_len (drop at source) → terminator_len (drop at source) ≡ 0
    → line_end source start ≡ (at + 1) + line_len (drop (at + 1) source)
line_end-past source start at lt is none =
    let past = line_len-past (drop at source) (omega (arith, length-drop at source)) none in
    let e = drop-drop 1 at source in
    let more = rw e at past in
    omega arith

-- ---- all lines

-- these are the first lines of a text, and the next one begins there
pub record AreSoFar (text : List ℕ) (lines : List Line) (start : ℕ) : Type 0 where
  pub next : line_start text (length lines) ≡ Some start
  pub are : (n : ℕ) → n < length lines → slice_get lines n ≡ option_map (line_from text) (line_start text n)

pub are-none : (text : List ℕ) → AreSoFar text [] 0
are-none text = record { next = refl; are = λ n lt. absurd (omega arith) }

are-push : (text : List ℕ) (lines : List Line) (start : ℕ) → AreSoFar text lines start
    → (n : ℕ) → n < length (lines ++ line_from text start ∷ [])
    → slice_get (lines ++ line_from text start ∷ []) n ≡ option_map (line_from text) (line_start text n)
are-push text lines start so_far n lt = grind (arith, common_steps, gets, so_far.next, so_far.are n)

pub are-more : (text : List ℕ) (lines : List Line) (start next : ℕ) → AreSoFar text lines start
    → behind_line text start ≡ Some next → AreSoFar text (lines ++ line_from text start ∷ []) next
are-more text lines start next so_far behind = record {
  next = rw (length-append lines (line_from text start ∷ []), add-one (length lines), so_far.next) behind;
  are = are-push text lines start so_far;
}

line_start-past : (text : List ℕ) (n k : ℕ) → line_start text n ≡ None → line_start text (k + n) ≡ None
line_start-past text n zero none = rw zero-add none
line_start-past text n (suc k) none = rw (suc-add k n, line_start-past text n k none) refl

past-all : (text : List ℕ) (lines : List Line) (l : Line) → line_start text (suc (length lines)) ≡ None
    → (n : ℕ) → length lines < n
    → slice_get (lines ++ l ∷ []) n ≡ option_map (line_from text) (line_start text n)
past-all text lines l none n lt =
    let none_listed = slice_get_past (lines ++ l ∷ []) n (omega (arith, length-append lines (l ∷ []))) in
    let e : (n - suc (length lines)) + suc (length lines) ≡ n = omega arith in
    let past = line_start-past text (suc (length lines)) (n - suc (length lines)) none in
    rw (none_listed, rw e at past) refl

pub are-all : (text : List ℕ) (lines : List Line) (start : ℕ) → AreSoFar text lines start
    → behind_line text start ≡ None → AreLines text (lines ++ line_from text start ∷ [])
are-all text lines start so_far behind n = ⊎_elim
    (λ lt. are-push text lines start so_far n (omega (
      arith,
      length-append lines (line_from text start ∷
          []),
    )))
    (λ le. past-all text lines (line_from text start) (rw so_far.next behind) n (omega arith))
    (cases_lt n (length lines + 1))

-- ---- lines are within their text

terminator_len-le : (text : List ℕ) → terminator_len text ≤ length text
terminator_len-le [] = omega arith
terminator_len-le (a ∷ []) = grind (arith, nat_tests)
terminator_len-le (a ∷ b ∷ []) = grind (arith, nat_tests)
terminator_len-le (a ∷ b ∷ c ∷ rest) = grind (arith, nat_tests)

pub line_len-le : (text : List ℕ) → line_len text ≤ length text
line_len-le [] = omega arith
line_len-le (b ∷ bs) = one (nat_lt 0 (terminator_len (b ∷ bs))) (line_len bs) (length bs) (line_len-le bs)
  where
    one : (t : Bool) (m n : ℕ) → m ≤ n → cond t 0 (suc m) ≤ suc n
    one t m n le = grind (arith, nat_tests)

pub line_end-le : (text : List ℕ) (start : ℕ) → start ≤ length text → line_end text start ≤ length text
line_end-le text start le = omega (arith, line_len-le (drop start text), length-drop start text)

behind-le : (text : List ℕ) (start next : ℕ) → start ≤ length text → behind_line text start ≡ Some next
    → next ≤ length text
behind-le text start next le is = one (line_end text start) (terminator_len (drop (line_end text start) text))
    (length text) next (line_end-le text start le)
    (terminator_len-le (drop (line_end text start) text)) (length-drop (line_end text start) text) is
  where
    one : (e n m next : ℕ) → e ≤ m → n ≤ length (drop e text) → length (drop e text) ≡ m - e
        → cond (nat_lt 0 n) (Some (e + n)) None ≡ Some next → next ≤ m
    one e n m next le within is e_is = let both = cond_some (nat_lt 0 n) (e + n) next e_is in omega (
      arith,
      both.1,
    )

pub line_start-le : (text : List ℕ) (n start : ℕ) → line_start text n ≡ Some start → start ≤ length text
line_start-le text zero start is = omega (arith, same_Some 0 start is)
line_start-le text (suc n) start is = option_and_then_some (behind_line text) (line_start text n) start is
    (λ s s_is next_is. behind-le text s start (line_start-le text n s s_is) next_is)

-- ---- the place of a line and a column, by the lines that were read

-- a column of a line, by what is kept of it
pub place_beyond : (row : List ℕ) (plain column : ℕ) (rest : List ℕ) (r s : Option ℕ) → plain ≡ plain_len row
    → rest ≡ drop plain row → plain ≤ column → length row < 2 ^ 64
    → r ≡ at_most 1024 (column_place rest (column - plain))
    → (IfSome r (λ at. plain + at < 2 ^ 64) → s ≡ option_map (λ at. plain + at) r)
    → s ≡ near_place row column
place_beyond row plain column rest r s e same le fits is shift =
    let is_far = is ∙ ap (λ (xs : List ℕ). at_most 1024 (column_place xs (column - plain))) same
    ∙ ap (λ (n : ℕ). at_most 1024 (column_place (drop n row) (column - n))) e in
    let bound = far_fits row column r fits (omega arith) is_far in
    let moved = rw e at shift in
    moved bound ∙ ap (option_map (λ at. plain_len row + at)) is_far ∙ sym (far_place row column (omega arith))

near_fits : (source : List ℕ) (start column : ℕ) (r : Option ℕ) → start ≤ length source
    → length source < 2 ^ 64 → r ≡ near_place (line_text source start) column
    → IfSome r (λ at. start + at < 2 ^ 64)
near_fits source start column None le fits is = tt
near_fits source start column (Some at) le fits is =
    let within = near_within (line_text source start) column at (sym is) in
    omega (
      arith,
      within,
      length-take (line_len (drop start source)) (drop start source),
      length-drop start source,
    )

pub row_of_line : (source : List ℕ) (line : Line) (start : ℕ) → line ≡ line_from source start
    → take (line.end - line.start) (drop line.start source) ≡ line_text source start
row_of_line source line start is =
    let e : line_end source start - start ≡ line_len (drop start source) = omega arith in
    rw is (rw e refl)

pub at_line : (source : List ℕ) (line : Line) (column start : ℕ) (row : List ℕ) (r s : Option ℕ)
    → line ≡ line_from source start → row ≡ line_text source start → start ≤ length source
    → length source < 2 ^ 64 → (line.plain ≡ plain_len row → r ≡ near_place row column)
    → (IfSome r (λ at. line.start + at < 2 ^ 64) → s ≡ option_map (λ at. line.start + at) r)
    → s ≡ option_map (λ at. start + at) (near_place (line_text source start) column)
at_line source line column start row r s is row_is le fits given shift =
    let plain_is = ap (λ (l : Line). l.plain) is ∙ ap plain_len (sym row_is) in
    let r_is = given plain_is ∙ ap (λ (xs : List ℕ). near_place xs column) row_is in
    go line.start (ap (λ (l : Line). l.start) is) shift (near_fits source start column r le fits r_is)
    ∙ ap (option_map (λ at. start + at)) r_is
  where
    go : (from : ℕ) → from ≡ start
        → (IfSome r (λ at. from + at < 2 ^ 64) → s ≡ option_map (λ at. from + at) r)
        → IfSome r (λ at. start + at < 2 ^ 64) → s ≡ option_map (λ at. start + at) r
    go from e shift bound = let moved = rw e at shift in moved bound

pub line_is : (source : List ℕ) (start end plain : ℕ) → end ≡ line_end source start
    → plain ≡ plain_len (take (end - start) (drop start source))
    → ◌≡◌ {A = Line} (record { start = start; plain = plain; end = end }) (line_from source start)
line_is source start end plain e p =
    let n : line_end source start - start ≡ line_len (drop start source) = omega arith in
    let q = rw (e, n) at p in
    rw (e, q) refl

behind : (e n next : ℕ) → next ≡ e + n → (e ≡ next → ⊥) → cond (nat_lt 0 n) (Some (e + n)) None ≡ Some next
behind e n next is other = grind (arith, nat_tests)

not_behind : (e n : ℕ) → e ≡ e + n → ◌≡◌ {A = Option ℕ} (cond (nat_lt 0 n) (Some (e + n)) None) None
not_behind e n is = grind (arith, nat_tests)

pub behind-next : (source : List ℕ) (start end next : ℕ) → end ≡ line_end source start
    → next ≡ end + terminator_len (drop end source) → (end ≡ next → ⊥) → behind_line source start ≡ Some next
behind-next source start end next e is other =
    let n = terminator_len (drop (line_end source start) source) in
    behind (line_end source start) n next (rw e at is) (rw e at other)

pub behind-none : (source : List ℕ) (start end next : ℕ) → end ≡ line_end source start
    → next ≡ end + terminator_len (drop end source) → end ≡ next → behind_line source start ≡ None
behind-none source start end next e is same =
    let n = terminator_len (drop (line_end source start) source) in
    let next_is = rw e at is in
    let same_end = rw e at same in
    not_behind (line_end source start) n (same_end ∙ next_is)

pub on_line : (source : List ℕ) (lines : List Line) (line column : ℕ) (d : Line) (r : Option ℕ)
    → AreLines source lines → line < length lines
    → ((start : ℕ) → start ≤ length source → get_or lines line d ≡ line_from source start
    → r ≡ option_map (λ at. start + at) (near_place (line_text source start) column))
    → r ≡ place_of source line column
on_line source lines line column d r are lt given =
    let here = slice_get-get_or lines line d lt in
    go (line_start source line) refl (sym (are line) ∙ here)
  where
    go : (o : Option ℕ) → line_start source line ≡ o
        → option_map (line_from source) o ≡ Some (get_or lines line d)
        → r ≡ option_and_then
        (λ start. option_map (λ at. start + at) (near_place (line_text source start) column)) o
    go None e is = absurd (none-some (get_or lines line d) is)
    go (Some start) e is = given start (line_start-le source line start e)
        (sym (same_Some (line_from source start) (get_or lines line d) is))

pub on_no_line : (source : List ℕ) (lines : List Line) (line column : ℕ) → AreLines source lines
    → length lines ≤ line → None ≡ place_of source line column
on_no_line source lines line column are le =
    go (line_start source line) (sym (are line) ∙ slice_get_past lines line le)
  where
    go : (o : Option ℕ) → option_map (line_from source) o ≡ None → None ≡ option_and_then
        (λ start. option_map (λ at. start + at) (near_place (line_text source start) column)) o
    go None is = refl
    go (Some start) is = absurd (none-some (line_from source start) (sym is))
