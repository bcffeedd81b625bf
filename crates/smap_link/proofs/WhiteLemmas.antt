-- A byte of white space, or in front of it.
use Rattle.std.proofs.Common.{◌≡◌, ◌∙◌, ℕ, ◌+◌, ◌-◌, ◌<◌, ◌≤◌, nat_lt, true, false, List, length, drop}
use Rattle.std.proofs.Common.{ap, sym, arith}
use Rattle.std.proofs.lemmas.Bool.{cond-true, cond-false}
use Rattle.std.proofs.lemmas.List.{drop_more}
use Rattle.smap_link.specs.White.{behind_white, white_size, word_size}

lt_true : (a b : ℕ) → a < b → nat_lt a b ≡ true
lt_true a b lt = grind arith

lt_false : (a b : ℕ) → b ≤ a → nat_lt a b ≡ false
lt_false a b le = grind arith

pub passes_one : (text : List ℕ) (i left : ℕ) → i < length text → 0 < left
    → behind_white left (drop i text) ≡ behind_white (left - 1) (drop (i + 1) text)
passes_one text i left lt some =
    ap (behind_white left) (drop_more text i 0 lt) ∙ cond-true _ _ _ (lt_true 0 left some)

pub passes_first : (text : List ℕ) (i left : ℕ) → i < length text → left ≡ 0 → 0 < white_size (drop i text)
    → behind_white left (drop i text) ≡ behind_white (white_size (drop i text) - 1) (drop (i + 1) text)
passes_first text i left lt none white =
    let cons = drop_more text i 0 lt in
    let size = ap white_size cons in
    ap (λ n. behind_white n (drop i text)) none
    ∙ ap (behind_white 0) cons
    ∙ cond-true _ _ _ (ap (nat_lt 0) (sym size) ∙ lt_true 0 (white_size (drop i text)) white)
    ∙ ap (λ n. behind_white (n - 1) (drop (i + 1) text)) (sym size)

pub word_goes_on : (text : List ℕ) (i : ℕ) → i < length text → white_size (drop i text) ≡ 0
    → word_size (drop i text) ≡ 1 + word_size (drop (i + 1) text)
word_goes_on text i lt none =
    let cons = drop_more text i 0 lt in
    ap word_size cons ∙ cond-false _ _ _ (ap (nat_lt 0) (sym (ap white_size cons) ∙ none))
