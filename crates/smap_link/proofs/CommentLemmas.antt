-- A byte within a comment.
use Rattle.std.proofs.Common.{◌≡◌, ◌∙◌, ℕ, ◌+◌, ◌-◌, ◌<◌, Bool, true, false, List, length, take, drop, get_or}
use Rattle.std.proofs.Common.{nat_lt, ap, sym, arith}
use Rattle.std.proofs.lemmas.Bool.{cond-true, cond-false}
use Rattle.std.proofs.lemmas.List.{drop_more}
use Rattle.smap_link.specs.Comment as spec
use Rattle.smap_link.specs.Comment.{Effect, closes, effect, with_link, url_in}

pub ends_comment : (two : Bool) (line : List ℕ) (i start k : ℕ) (e found : Effect) → i < length line
    → closes (drop start line) (i - start) (get_or line i 0) ≡ true → k ≡ i - start - 1
    → found ≡ with_link (url_in (take k (drop start line))) e
    → effect two (spec.Block (drop start line) (i - start)) e (drop i line)
    ≡ effect two (spec.Code 0) found (drop (i + 1) line)
ends_comment two line i start k e found lt closed len is =
    ap (λ rest. effect two (spec.Block (drop start line) (i - start)) e rest) (drop_more line i 0 lt)
    ∙ cond-true _ _ _ closed
    ∙ ap (λ n. effect two (spec.Code 0) (with_link (url_in (take n (drop start line))) e) (drop (i + 1) line))
    (sym len)
    ∙ ap (λ f. effect two (spec.Code 0) f (drop (i + 1) line)) (sym is)

pub goes_on : (two : Bool) (line : List ℕ) (i start n : ℕ) (e : Effect) → i < length line
    → closes (drop start line) (i - start) (get_or line i 0) ≡ false → n ≡ i - start + 1
    → effect two (spec.Block (drop start line) (i - start)) e (drop i line)
    ≡ effect two (spec.Block (drop start line) n) e (drop (i + 1) line)
goes_on two line i start n e lt not_closed len =
    ap (λ rest. effect two (spec.Block (drop start line) (i - start)) e rest) (drop_more line i 0 lt)
    ∙ cond-false _ _ _ not_closed
    ∙ ap (λ m. effect two (spec.Block (drop start line) m) e (drop (i + 1) line)) (sym len)

lt_true : (a b : ℕ) → a < b → nat_lt a b ≡ true
lt_true a b lt = grind arith

pub passes_white : (two : Bool) (line : List ℕ) (i left : ℕ) (e : Effect) → i < length line → 0 < left
    → effect two (spec.Code left) e (drop i line) ≡ effect two (spec.Code (left - 1)) e (drop (i + 1) line)
passes_white two line i left e lt some =
    ap (λ rest. effect two (spec.Code left) e rest) (drop_more line i 0 lt)
    ∙ cond-true _ _ _ (lt_true 0 left some)
