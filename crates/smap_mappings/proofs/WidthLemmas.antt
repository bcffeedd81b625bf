-- Widths of lines, byte by byte.
use Rattle.std.proofs.Common.{◌≡◌, ℕ, ◌+◌, ◌<◌, Bool, true, false, List, [], ◌∷◌, ◌++◌, drop, length, get_or}
use Rattle.std.proofs.Common.{refl, append_assoc, zero-add, add-zero, add_assoc, add-one, suc, take}
use Rattle.std.proofs.Common.{◌-◌, not, arith}
use Rattle.std.proofs.Math.Seq.{drop-cons}
use Rattle.std.proofs.lemmas.List.{take_rest}
use Rattle.smap_mappings.specs.Widths.{line_widths, wider, ends_line, units_before, with_last}
use Rattle.std.specs.Str.{is_utf8}
use Rattle.smap_mappings.specs.Widths.{has_separator, is_counted, starts_separator}

pub wider_wider : (m n : ℕ) (ws : List ℕ) → wider m (wider n ws) ≡ wider (m + n) ws
wider_wider m n [] = refl
wider_wider m n (w ∷ ws) = rw (add_assoc m n w) refl

wider_none : (ws : List ℕ) (n : ℕ) → wider 0 (wider n ws) ≡ wider n ws
wider_none ws n = rw (wider_wider 0 n ws, zero-add n) refl

-- a list of lines has at least one
pub wider_lines : (text : List ℕ) → wider 0 (line_widths text) ≡ line_widths text
wider_lines [] = refl
wider_lines (b ∷ rest) = by_test (ends_line b rest) refl
  where
    by_test : (t : Bool) → ends_line b rest ≡ t → wider 0 (line_widths (b ∷ rest)) ≡ line_widths (b ∷ rest)
    by_test true e = rw e refl
    by_test false e = rw e (wider_none (line_widths rest) (units_before b))

-- a byte that ends its line
pub at_end : (widths : List ℕ) (width b : ℕ) (rest : List ℕ) → ends_line b rest ≡ true
    → with_last (widths ++ width ∷ []) 0 (line_widths rest) ≡ with_last widths width (line_widths (b ∷ rest))
at_end widths width b rest e =
    rw (e, wider_lines rest, add-zero width, append_assoc widths (width ∷ []) (line_widths rest)) refl

-- a byte that ends none
pub before_end : (widths : List ℕ) (width b : ℕ) (rest : List ℕ) → ends_line b rest ≡ false
    → with_last widths (width + units_before b) (line_widths rest) ≡ with_last widths width (line_widths
    (b ∷ rest))
before_end widths width b rest e = rw (e, wider_wider width (units_before b) (line_widths rest)) refl

-- from one byte to the next
pub next_byte : (widths : List ℕ) (width : ℕ) (text : List ℕ) (i : ℕ) → i < length text
    → with_last widths width (line_widths (get_or text i 0 ∷ drop (i + 1) text))
    ≡ with_last widths width (line_widths (drop i text))
next_byte widths width text i h = rw (add-one i, drop-cons text i 0 h) refl

-- ---- separators

pub separator_cons : (b : ℕ) (rest : List ℕ) → starts_separator (b ∷ rest) ≡ false
    → has_separator (b ∷ rest) ≡ has_separator rest
separator_cons b rest e = rw e refl

separator_next : (text : List ℕ) (i : ℕ) → i < length text → starts_separator (drop i text) ≡ false
    → has_separator (drop i text) ≡ has_separator (drop (i + 1) text)
separator_next text i h e = let d = drop-cons text i 0 h in
    rw (add-one i, d) (separator_cons (get_or text i 0) (drop (suc i) text) (rw (← d) e))

pub separator_later : (text : List ℕ) (i : ℕ) → i < length text
    → starts_separator (take (length text - i) (drop i text)) ≡ false
    → has_separator (drop i text) ≡ has_separator (drop (i + 1) text)
separator_later text i h e = separator_next text i h (rw (take_rest text i) at e)

-- ---- texts whose positions can be counted

pub counted : (text : List ℕ) (b : Bool) → is_utf8 text ≡ true → b ≡ has_separator text
    → not b ≡ is_counted text
counted text b is e = rw (is, e) refl

pub uncounted : (text : List ℕ) → (is_utf8 text ≡ true → ⊥) → false ≡ is_counted text
uncounted text none = grind (arith, none)
