-- Entries by keys of bytes: what is found after one was put.
use Rattle.std.proofs.Common.{◌≡◌, ◌⊎◌, ◌∙◌, ℕ, Bool, true, false, List, [], ◌∷◌, Option, None, Some, refl}
use Rattle.std.proofs.Common.{sym, bytes_eq, cond, inl, inr}
use Rattle.std.specs.Prelude.{map, option_map}
use Rattle.std.specs.Global.{Vec}
use Rattle.std.specs.Map.{lookup, set_value}
use Rattle.std.proofs.lemmas.Option.{same_Some}
use Rattle.std.proofs.lemmas.Slice.Eq.{bytes_eq-Decides}
use Rattle.indexmap.specs.IndexMap.{insert_entry}

abbrev pub has_key : List ℕ → Vec ℕ → Bool
has_key key k = bytes_eq key k.items

same_key : (a b k : List ℕ) → bytes_eq a k ≡ true → bytes_eq b k ≡ true → a ≡ b
same_key a b k x y = (bytes_eq-Decides a k).0 x ∙ sym ((bytes_eq-Decides b k).0 y)

-- what is found in a list with one entry more in front, and what is found in it where the entry is another's
module _ {T : Type 0} (url script : List ℕ) (w t : T) where
  outer_step : (k : Vec ℕ) (v : T) (l r : Option T)
      → (r ≡ Some t → (l ≡ Some t) ⊎ ((url ≡ script) × (w ≡ t)))
      → (a : Bool) → bytes_eq script k.items ≡ a → (b : Bool) → bytes_eq url k.items ≡ b
      → cond a (cond b (Some w) l) (cond b (Some v) r) ≡ Some t
      → (cond b (Some v) l ≡ Some t) ⊎ ((url ≡ script) × (w ≡ t))
  outer_step k v l r rest true x true y h = inr (same_key url script k.items y x, same_Some w t h)
  outer_step k v l r rest true x false y h = inl h
  outer_step k v l r rest false x true y h = inl h
  outer_step k v l r rest false x false y h = rest h

  split_lookup : (a : Bool) (e : Vec ℕ × T) (es fs : List (Vec ℕ × T))
      → lookup (has_key url) (cond a ((e.0, w) ∷ es) (e ∷ fs))
      ≡ cond a (cond (has_key url e.0) (Some w) (lookup (has_key url) es))
      (cond (has_key url e.0) (Some e.1) (lookup (has_key url) fs))
  split_lookup true e es fs = refl
  split_lookup false e es fs = refl

  pub outer_set : (es : List (Vec ℕ × T)) → lookup (has_key url) (set_value (has_key script) es w) ≡
      Some t
      → (lookup (has_key url) es ≡ Some t) ⊎ ((url ≡ script) × (w ≡ t))
  outer_set [] h = inl h
  outer_set (e ∷ es) h = outer_step e.0 e.1 (lookup (has_key url) es)
      (lookup (has_key url) (set_value (has_key script) es w)) (outer_set es) (has_key script e.0) refl
      (has_key url e.0) refl
      (sym (split_lookup (has_key script e.0) e es (set_value (has_key script) es w)) ∙ h)

first_put : {T : Type 0} (url : List ℕ) (key : Vec ℕ) (w t : T) (b : Bool) → bytes_eq url key.items ≡ b
    → ◌≡◌ {A = Option T} (cond b (Some w) None) (Some t)
    → (◌≡◌ {A = Option T} None (Some t)) ⊎ ((url ≡ key.items) × (w ≡ t))
first_put url key w t true y h = inr ((bytes_eq-Decides url key.items).0 y, same_Some w t h)
first_put url key w t false y h = inl h

abbrev pub same_items : Vec ℕ → Vec ℕ → Bool
same_items a b = bytes_eq a.items b.items

pub outer_put : {T : Type 0} (url : List ℕ) (key : Vec ℕ) (w t : T) (es : List (Vec ℕ × T))
    → lookup (has_key url) (insert_entry same_items es key w) ≡ Some t
    → (lookup (has_key url) es ≡ Some t) ⊎ ((url ≡ key.items) × (w ≡ t))
outer_put url key w t [] h = first_put url key w t (has_key url key) refl h
outer_put url key w t (e ∷ es) h = outer_step url key.items w t e.0 e.1 (lookup (has_key url) es)
    (lookup (has_key url) (insert_entry same_items es key w)) (outer_put url key w t es)
    (bytes_eq key.items e.0.items) refl (has_key url e.0) refl
    (sym (split_lookup url key.items w t (bytes_eq key.items e.0.items) e es (insert_entry same_items es
    key w)) ∙ h)

-- the same in what a contract sees of the entries
pub viewed_lookup : {T U : Type 0} (f : T → U) (key : List ℕ) (es : List (Vec ℕ × T))
    → lookup (bytes_eq key) (map (λ e. (e.0.items, f e.1)) es) ≡ option_map f (lookup (has_key key) es)
viewed_lookup f key [] = refl
viewed_lookup {T} {U} f key (e ∷ es) = go (has_key key e.0) e.1
    (lookup (bytes_eq key) (map (λ e. (e.0.items, f e.1)) es))
    (lookup (has_key key) es) (viewed_lookup f key es)
  where
    go : (b : Bool) (v : T) (l : Option U) (m : Option T) → l ≡ option_map f m
        → cond b (Some (f v)) l ≡ option_map f (cond b (Some v) m)
    go true v l m is = refl
    go false v l m is = is
