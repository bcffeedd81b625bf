-- The names that are made are safe.
use Rattle.std.proofs.Common.{◌≡◌, refl, ℕ, ◌+◌, ◌-◌, ◌<◌, ◌≤◌, Bool, true, false, not, cond}
use Rattle.std.proofs.Common.{List, [], ◌∷◌, ◌++◌, arith, codes, decimal, drop, get_or, length, map}
use Rattle.std.proofs.Common.{suc, take, length-append, length-drop, length-take}
use Rattle.std.specs.List.{All, list_all, prefix_len, slice_split}
use Rattle.std.proofs.lemmas.Bool.{cond_both}
use Rattle.std.proofs.lemmas.Bool.Decides.{nat_tests}
use Rattle.std.proofs.lemmas.List.{length-map}
use Rattle.std.proofs.lemmas.List.Elements.{All-cons, All-drop, All-map, All-nil, All-weaker, filter_passes}
use Rattle.std.proofs.lemmas.List.Folds.{list_all-append}
use Rattle.std.proofs.Math.Seq.{get_or-append_seam}
use Rattle.std.proofs.lemmas.Fmt.{length-decimal-le}
use Rattle.smap_extract.specs.Laws.{NumbersAreSafe, PathsAreSafe}
use Rattle.smap_extract.specs.Paths.{is_separator, last_steps, leads, naming_part, or_unnamed, steps}
use Rattle.smap_extract.specs.Segments.{base_size, cleaned, closed, cut, edge, ends_badly, guarded}
use Rattle.smap_extract.specs.Segments.{is_device, is_device_word, is_left_out, is_refused, is_safe}
use Rattle.smap_extract.specs.Segments.{plain, sealed}

abbrev pub is_clean : List ℕ → Bool
is_clean name = list_all (λ b. not (is_refused b)) name

kept : (b : ℕ) (t : Bool) → is_refused b ≡ t → not (is_refused (cond t 95 b)) ≡ true
kept b true is = refl
kept b false is = rw is refl

pub plain_clean : (s : List ℕ) → is_clean (plain s) ≡ true
plain_clean [] = refl
plain_clean (b ∷ s) = rw (kept b (is_refused b) refl, plain_clean s) refl

closed_clean : (s : List ℕ) → is_clean s ≡ true → is_clean (closed s) ≡ true
closed_clean s clean = cond_both (ends_badly s) (s ++ 95 ∷ []) s (λ x. is_clean x ≡ true)
    (λ _. rw (list_all-append (λ b. not (is_refused b)) s (95 ∷ []), clean) refl) (λ _. clean)

guarded_clean : (s : List ℕ) → is_clean s ≡ true → is_clean (guarded s) ≡ true
guarded_clean s clean = cond_both (is_device s) (95 ∷ s) s (λ x. is_clean x ≡ true) (λ _. clean) (λ _. clean)

-- the last byte
last_put : (s : List ℕ) → get_or (s ++ 95 ∷ []) (length (s ++ 95 ∷ []) - 1) 0 ≡ 95
last_put s =
    let size : length (s ++ 95 ∷ []) - 1 ≡ length s = omega (arith, length-append s (95 ∷ [])) in
    rw (size, get_or-append_seam s 95 [] 0) refl

closed_ends : (s : List ℕ) → ends_badly (closed s) ≡ false
closed_ends s = cond_both (ends_badly s) (s ++ 95 ∷ []) s (λ x. ends_badly x ≡ false)
    (λ _. rw (last_put s) refl) (λ e. e)

behind_first : (s : List ℕ) → 0 < length s
    → get_or (95 ∷ s) (length (95 ∷ s) - 1) 0 ≡ get_or s (length s - 1) 0
behind_first [] some = absurd (omega (arith, some))
behind_first (b ∷ s) some =
    let one : length (95 ∷ b ∷ s) - 1 ≡ suc (length s) = omega arith in
    let other : length (b ∷ s) - 1 ≡ length s = omega arith in
    rw (one, other) refl

guarded_ends : (s : List ℕ) → 0 < length s → ends_badly s ≡ false → ends_badly (guarded s) ≡ false
guarded_ends s some fine = cond_both (is_device s) (95 ∷ s) s (λ x. ends_badly x ≡ false)
    (λ _. rw (behind_first s some) fine) (λ _. fine)

first_kept : (n : ℕ) (s : List ℕ) → take (1 + n) (95 ∷ s) ≡ 95 ∷ take n s
first_kept n s =
    let one : 1 + n ≡ suc n = omega arith in
    rw one refl

low_word : (w : List ℕ) → is_device_word (95 ∷ w) ≡ false
low_word w = refl

low_line : (s : List ℕ) → is_device (95 ∷ s) ≡ false
low_line s = rw (first_kept (prefix_len (λ b. not (is_left_out b)) s) s)
    (low_word (take (prefix_len (λ b. not (is_left_out b)) s) s))

guarded_device : (s : List ℕ) → is_device (guarded s) ≡ false
guarded_device s = cond_both (is_device s) (95 ∷ s) s (λ x. is_device x ≡ false) (λ _. low_line s) (λ e. e)

-- the length
closed_size : (s : List ℕ) → (length s ≤ length (closed s)) × (length (closed s) ≤ length s + 1)
closed_size s = cond_both (ends_badly s) (s ++ 95 ∷ []) s
    (λ x. (length s ≤ length x) × (length x ≤ length s + 1))
    (λ _. (omega (arith, length-append s (95 ∷ [])), omega (arith, length-append s (95 ∷ []))))
    (λ _. (omega arith, omega arith))

guarded_size : (s : List ℕ) → (length s ≤ length (guarded s)) × (length (guarded s) ≤ length s + 1)
guarded_size s = cond_both (is_device s) (95 ∷ s) s
    (λ x. (length s ≤ length x) × (length x ≤ length s + 1))
    (λ _. (omega arith, omega arith)) (λ _. (omega arith, omega arith))

abbrev pub IsMadeSafe : List ℕ → List ℕ → Type 0
IsMadeSafe s made = (is_safe made ≡ true) × (length made ≤ length s + 2)

together : (x : List ℕ) → 0 < length x → length x ≤ 255 → is_clean x ≡ true → ends_badly x ≡ false
    → is_device x ≡ false → is_safe x ≡ true
together x some short clean fine none = grind (arith, nat_tests)

pub sealed_safe : (s : List ℕ) → 0 < length s → length s ≤ 253 → IsMadeSafe s (sealed s)
sealed_safe s some short =
    let p = plain s in
    let size : length p ≡ length s = length-map s (λ b. cond (is_refused b) 95 b) in
    let c = closed_size p in
    let g = guarded_size (closed p) in
    let some_closed : 0 < length (closed p) = omega (arith, size, c.0, some) in
    let some_sealed : 0 < length (sealed s) = omega (arith, g.0, some_closed) in
    let small : length (sealed s) ≤ length s + 2 = omega (arith, size, c.1, g.1) in
    let fits : length (sealed s) ≤ 255 = omega (arith, small, short) in (
      together (sealed s) some_sealed fits (guarded_clean (closed p) (closed_clean p (plain_clean s)))
          (guarded_ends (closed p) some_closed (closed_ends p)) (guarded_device (closed p)),
      small,
    )

-- ---- segments

edge_within : (s : List ℕ) → (237 ≤ edge s) × (edge s ≤ 240)
edge_within s = grind arith

cut_size : (s : List ℕ) → 0 < length s → (0 < length (cut s)) × (length (cut s) ≤ 240)
cut_size s some = grind (arith, nat_tests, edge_within s, length-take)

abbrev pub IsShortAndSafe : List ℕ → Type 0
IsShortAndSafe s = (is_safe s ≡ true) × (length s ≤ 242)

pub cleaned_safe : (s : List ℕ) → 0 < length s → IsShortAndSafe (cleaned s)
cleaned_safe s some =
    let size = cut_size s some in
    let made = sealed_safe (cut s) size.0 (omega (arith, size.1)) in
    (made.0, omega (arith, made.1, size.1))

some_leads : (s : List ℕ) → leads s ≡ true → 0 < length s
some_leads [] is = absurd cc
some_leads (b ∷ s) is = omega arith

or_unnamed_all : (ss : List (List ℕ)) → All IsShortAndSafe ss → All IsShortAndSafe (or_unnamed ss)
or_unnamed_all [] all =
    All-cons IsShortAndSafe (codes "unnamed") [] (refl, omega arith) (All-nil IsShortAndSafe)
or_unnamed_all (s ∷ ss) all = all

or_unnamed_some : (ss : List (List ℕ)) → 0 < length (or_unnamed ss)
or_unnamed_some [] = omega arith
or_unnamed_some (s ∷ ss) = omega arith

all_clean : (text : List ℕ) → All IsShortAndSafe (map cleaned (last_steps (steps text)))
all_clean text = All-map IsShortAndSafe cleaned (last_steps (steps text))
    (All-weaker (λ s. leads s ≡ true) (λ s. IsShortAndSafe (cleaned s))
    (λ s is. cleaned_safe s (some_leads s is))
    (last_steps (steps text))
    (All-drop (λ s. leads s ≡ true) (length (steps text) - 32) (steps text)
    (filter_passes leads (slice_split is_separator text))))

pub paths_are_safe : PathsAreSafe
paths_are_safe url = (
  or_unnamed_some (map cleaned (last_steps (steps (naming_part url)))),
  or_unnamed_all (map cleaned (last_steps (steps (naming_part url)))) (all_clean (naming_part url)),
)

-- ---- numbers

parts_size : (name mark : List ℕ) (at : ℕ) → length name ≤ 242 → 0 < length mark → length mark ≤ 11
    → (0 < length ((take at name ++ mark) ++ drop at name))
    × (length ((take at name ++ mark) ++ drop at name) ≤ 253)
parts_size name mark at short some most = grind (arith, length-append, length-take, length-drop)

pub numbers_are_safe : NumbersAreSafe
numbers_are_safe name n short small =
    let digits : length (decimal n) ≤ 10 =
    length-decimal-le 10 n (omega arith) (omega (arith, small)) (omega (arith, small)) in
    let size = parts_size name (codes "~" ++ decimal n) (base_size name) short
    (omega (arith, length-append (codes "~") (decimal n)))
    (omega (arith, digits, length-append (codes "~") (decimal n))) in
    (sealed_safe ((take (base_size name) name ++ (codes "~" ++ decimal n)) ++ drop (base_size name) name)
    size.0 size.1).0
