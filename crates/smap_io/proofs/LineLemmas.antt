-- The lines of a text, one piece after another.
use Rattle.std.proofs.Common.{◌≡◌, ◌≢◌, ◌∙◌, ℕ, zero, suc, ◌+◌, ◌-◌, ◌<◌, ◌≤◌, ◌==◌, true, false, cond}
use Rattle.std.proofs.Common.{List, [], ◌∷◌, ◌++◌, length, take, drop, get_or, Option, Result, Ok, Err, OnOk}
use Rattle.std.proofs.Common.{refl, sym, ap, subst, inl, inr, arith, append_assoc, append-nil, length-append}
use Rattle.std.specs.List.{list_any, onto_first}
use Rattle.std.specs.Result.{is_ok}
use Rattle.std.proofs.lemmas.List.{take-append-drop, take_more, take_rest}
use Rattle.std.proofs.lemmas.List.Folds.{list_any-append}
use Rattle.std.proofs.Math.Seq.{take-length}
use Rattle.std.proofs.lemmas.Bool.{cases_Bool, false_from_ne_true, false≢true, not-true}
use Rattle.smap_io.specs.declared.device.Device.{Device}
use Rattle.smap_io.specs.Reading.{Gave}
use Rattle.smap_io.specs.Lines.{HasNoFeed, IsWhole, TakesAll, TakesPiece, complete_of, lines_of}
use Rattle.smap_io.proofs.ReadingLemmas.{Gave-then}

-- ---- whole lines, and what follows them

-- a text that ends in a line feed has at least one line
some_lines : (front : List ℕ) → (line : List ℕ) × (lines : List (List ℕ))
    × (lines_of (front ++ 10 ∷ []) ≡ line ∷ lines)
some_lines [] = (10 ∷ [], [], refl)
some_lines (b ∷ bs) = let s = some_lines bs in elim (cases_Bool (b == 10)) [
  | inl e ↦ (10 ∷ [], lines_of (bs ++ 10 ∷ []), rw e refl)
  | inr e ↦ (b ∷ s.0, s.1, rw (e, s.2) refl)
]

front_lines : (front more : List ℕ) → lines_of (front ++ 10 ∷ more)
    ≡ lines_of (front ++ 10 ∷ []) ++ lines_of more
front_lines [] more = refl
front_lines (b ∷ bs) more = elim (cases_Bool (b == 10)) [
  | inl e ↦ rw (e, front_lines bs more) refl
  | inr e ↦ let s = some_lines bs in rw (e, front_lines bs more, s.2) refl
]

pub lines_of-append : (whole more : List ℕ) → IsWhole whole
    → lines_of (whole ++ more) ≡ lines_of whole ++ lines_of more
lines_of-append whole more (inl e) = rw e refl
lines_of-append whole more (inr p) = rw (p.1, append_assoc p.0 (10 ∷ []) more) (front_lines p.0 more)

pub both_whole : (a b : List ℕ) → IsWhole a → IsWhole b → IsWhole (a ++ b)
both_whole a b is (inl e) = rw (e, append-nil a) is
both_whole a b is (inr p) = inr (a ++ p.0, rw p.1 (sym (append_assoc a p.0 (10 ∷ []))))

complete_front : (front more : List ℕ) → complete_of (front ++ 10 ∷ more) ≡ front ++ 10 ∷ complete_of more
complete_front [] more = refl
complete_front (b ∷ bs) more =
    let feed : list_any (λ c. c == 10) (b ∷ bs ++ 10 ∷ more) ≡ true =
    grind (arith, list_any-append (λ c. c == 10) (b ∷ bs) (10 ∷ more)) in
    rw (feed, complete_front bs more) refl

-- whole lines stay complete, whatever follows
pub complete_of-append : (whole more : List ℕ) → IsWhole whole
    → complete_of (whole ++ more) ≡ whole ++ complete_of more
complete_of-append whole more (inl e) = rw e refl
complete_of-append whole more (inr p) = rw (
  p.1,
  append_assoc p.0 (10 ∷ []) more,
  append_assoc p.0 (10 ∷ []) (complete_of more),
) (complete_front p.0 more)

-- ---- a line without its line feed

-- no byte of it is a line feed
free_parts : (b : ℕ) (bs : List ℕ) → HasNoFeed (b ∷ bs) → ((b == 10) ≡ false) × HasNoFeed bs
free_parts b bs free = grind arith

HasNoFeed-append : (front back : List ℕ) → HasNoFeed front → HasNoFeed back → HasNoFeed (front ++ back)
HasNoFeed-append front back free clean = grind (arith, list_any-append (λ b. b == 10) front back)

-- with its line feed it is one line
pub lines_of-line : (line : List ℕ) → HasNoFeed line → lines_of (line ++ 10 ∷ []) ≡ (line ++ 10 ∷ []) ∷ []
lines_of-line [] h = refl
lines_of-line (b ∷ bs) h = let p = free_parts b bs h in rw (p.0, lines_of-line bs p.1) refl

-- after a byte, what has no line feed is the rest of its line
on_line : (b : ℕ) (bs : List ℕ) → HasNoFeed bs → onto_first b (lines_of bs) ≡ (b ∷ bs) ∷ []
on_line b [] free = refl
on_line b (c ∷ cs) free = let p = free_parts c cs free in rw (p.0, on_line c cs p.1) refl

pub lines_of-last : (b : ℕ) (bs : List ℕ) → HasNoFeed (b ∷ bs) → lines_of (b ∷ bs) ≡ (b ∷ bs) ∷ []
lines_of-last b bs h = let p = free_parts b bs h in rw p.0 (on_line b bs p.1)

-- it isn't complete
pub none_complete : (line : List ℕ) → HasNoFeed line → complete_of line ≡ []
none_complete [] free = refl
none_complete (b ∷ bs) free = rw (not-true (list_any (λ c. c == 10) (b ∷ bs)) free) refl

pub complete_lines : (whole line : List ℕ) → IsWhole whole → HasNoFeed line
    → complete_of (whole ++ line) ≡ whole
complete_lines whole line is free =
    complete_of-append whole line is ∙ rw (none_complete line free) (append-nil whole)

-- ---- the first line feed of a piece

-- what is before it has none
none_passed : (bytes : List ℕ) (k : ℕ) → ((i : ℕ) → i < k → (get_or bytes i 0 == 10) ≢ true)
    → HasNoFeed (take k bytes)
none_passed [] zero none = refl
none_passed [] (suc k) none = refl
none_passed (b ∷ bs) zero none = refl
none_passed (b ∷ bs) (suc k) none = rw (false_from_ne_true (b == 10) (none 0 (omega arith)))
    (none_passed bs k (λ i lt. none (suc i) (omega arith)))

-- a piece without one is waited with
pub rest_free : {A E : Type 0} (r : Result A E) (line left rest : List ℕ) → HasNoFeed line
    → ((i : ℕ) → i < length left → (get_or left i 0 == 10) ≢ true) → rest ≡ cond (is_ok r) (line ++ left) line
    → OnOk r (HasNoFeed rest)
rest_free (Ok x) line left rest free none is = rw is (HasNoFeed-append line left free
    (subst HasNoFeed (take-length left) (none_passed left (length left) none)))
rest_free (Err e) line left rest free none is = tt

-- ---- the lines that are taken

module _ {S : Type 0} (takes : S → List ℕ → S → Type 0) where
  -- a line was taken whose end the piece had, and then the lines of what is left of the piece
  pub line_then : (line left last rest : List ℕ) (feed : ℕ) (old mid new : S) → HasNoFeed line
      → ((i : ℕ) → i < feed → (get_or left i 0 == 10) ≢ true) → feed < length left
      → get_or left feed 0 ≡ 10 → takes old (line ++ take (feed + 1) left) mid → last ≡ []
      → TakesPiece takes last (take (length left - (feed + 1)) (drop (feed + 1) left)) rest mid new
      → TakesPiece takes line left rest old new
  line_then line left last rest feed old mid new free none lt is taken emptied t =
      let ended = line ++ take (feed + 1) left in
      let front = line ++ take feed left in
      let clean = HasNoFeed-append line (take feed left) free (none_passed left feed none) in
      let end : ended ≡ front ++ 10 ∷ [] =
      rw (take_more left feed 0 lt, is) (sym (append_assoc line (take feed left) (10 ∷ []))) in
      let one : lines_of ended ≡ ended ∷ [] = rw end (lines_of-line front clean) in
      let back = rw (emptied, take_rest left (feed + 1)) at t.bytes in
      record {
        whole = ended ++ t.whole;
        is_whole = both_whole ended t.whole (inr (front, end)) t.is_whole;
        bytes = ap (λ (xs : List ℕ). line ++ xs) (sym (take-append-drop (feed + 1) left))
            ∙ rw back (simp append_assoc);
        taken = rw (lines_of-append ended t.whole (inr (front, end)), one) (mid, taken, t.taken);
      }

  -- the last line
  pub last_taken : {A E : Type 0} (r : Result A E) (line : List ℕ) (old new : S) → HasNoFeed line
      → false ≡ (length line == 0) → OnOk r (takes old line new)
      → OnOk r (TakesAll takes old (lines_of line) new)
  last_taken (Err e) line old new free some taken = tt
  last_taken (Ok x) [] old new free some taken = absurd (false≢true some)
  last_taken (Ok x) (b ∷ bs) old new free some taken = rw (lines_of-last b bs free) (new, taken, refl)

-- ---- the lines of what was read

-- At least as many bytes as calls were read: whole lines, and then the beginning of one that waits.
pub record ReadsLines {R : Type 0} (remaining : R → Option (List ℕ)) (old new : Device R) (calls : ℕ)
    (line whole : List ℕ) : Type 0 where
  pub is_whole : IsWhole whole
  pub free : HasNoFeed line
  pub gave : Gave remaining old new (whole ++ line)
  pub many : calls ≤ length (whole ++ line)

-- One more call gave a piece, and its lines were taken.
pub ReadsLines-more : {R S : Type 0} (remaining : R → Option (List ℕ)) (takes : S → List ℕ → S → Type 0)
    (a b c : Device R) (calls : ℕ) (line whole piece rest : List ℕ) (old new : S)
    → ReadsLines remaining a b calls line whole → Gave remaining b c piece → 0 < length piece
    → HasNoFeed rest → (t : TakesPiece takes line piece rest old new)
    → ReadsLines remaining a c (calls + 1) rest (whole ++ t.whole)
ReadsLines-more remaining takes a b c calls line whole piece rest old new s read some free t =
    let bytes : (whole ++ t.whole) ++ rest ≡ (whole ++ line) ++ piece =
    rw (append_assoc whole t.whole rest, ← t.bytes) (sym (append_assoc whole line piece)) in
    record {
      is_whole = both_whole whole t.whole s.is_whole t.is_whole;
      free = free;
      gave = rw bytes (Gave-then remaining a b c (whole ++ line) piece s.gave read);
      many = rw bytes (omega (arith, length-append (whole ++ line) piece, s.many, some));
    }
