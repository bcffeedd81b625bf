-- Handles of maps that are gone through, and what their maps are made into.
use Rattle.std.proofs.Common.{◌≡◌, ◌∙◌, ℕ, ◌+◌, ◌<◌, List, [], ◌∷◌, ◌++◌, length, map, take, get_or, ap, sym}
use Rattle.std.proofs.Common.{arith}
use Rattle.std.proofs.Math.Seq.{map-set_same}
use Rattle.std.proofs.Math.ListN.{get_or-map, set}
use Rattle.std.specs.List.{Contains}
use Rattle.std.proofs.lemmas.List.{get_or_default, length-map, take_more}
use Rattle.std.proofs.lemmas.Simd.{map-map}
use Rattle.std.proofs.Common.{Option, Some, None, false, true, inl, inr, refl, subst}
use Rattle.smap_record.specs.Record.{Allowed, ReadMap, Record, record_of}
use Rattle.smap_compose.specs.Composing.{composition}
use Rattle.smap_compose.specs.Numbered.{is_too_many, maps_of}
use Rattle.smap_c_answers.specs.Codes as codes
use Rattle.smap_c.specs.Composing.{Composes, ComposesInto, ComposesOpen, Makes}
use Rattle.smap_c.specs.Maps.{AreLimits, allowed}
use Rattle.smap_c.specs.declared.maps.Shared.{Shared}
use Rattle.smap_c.specs.declared.maps.SmapLimits.{SmapLimits}
use Rattle.smap_c.specs.declared.opened.Opened.{Opened}

module _ {A B C : Type 0} (f : A → B) (g : B → C) (xs before : List A) (i : ℕ) (d : A)
    (same : map f xs ≡ map f before) where
  -- one is put back that is as the one that was taken out
  pub put_back : (y : A) → f y ≡ f (get_or xs i d) → map f (set xs i y) ≡ map f before
  put_back y back = map-set_same f xs i y d back ∙ same

  same_by : map (λ x. g (f x)) xs ≡ map (λ x. g (f x)) before
  same_by = sym (map-map g f xs) ∙ ap (map g) same ∙ map-map g f before

  -- one more of those that are as they were
  pub one_more : i < length xs → take (i + 1) (map (λ x. g (f x)) before)
      ≡ take i (map (λ x. g (f x)) before) ++ g (f (get_or xs i d)) ∷ []
  one_more within = take_more (map (λ x. g (f x)) before) i (g (f d))
      (omega (arith, within, length-map xs (λ x. g (f x)), ap length same_by))
      ∙ ap (λ y. take i (map (λ x. g (f x)) before) ++ y ∷ [])
      (sym (ap (λ ys. get_or ys i (g (f d))) same_by) ∙ get_or-map (λ x. g (f x)) xs i d)

  -- what the one at a place gives is among those of all
  pub among : (c : C) → i < length xs → g (f (get_or xs i d)) ≡ c → Contains (map (λ x. g (f x)) before) c
  among c within is =
      let below : i < length (map (λ x. g (f x)) before) =
      omega (arith, within, length-map xs (λ x. g (f x)), ap length same_by) in (
        i,
        below,
        get_or_default (map (λ x. g (f x)) before) i c (g (f d)) below
            ∙ sym (ap (λ ys. get_or ys i (g (f d))) same_by) ∙ get_or-map (λ x. g (f x)) xs i d ∙ is,
      )

-- ---- what is made

-- the same of an equal record
pub made_as : (o : Opened) (r s : Record) (old new : Option Opened) (code : ℕ) → r ≡ s
    → Makes o r old new code → Makes o s old new code
made_as o r s old new code e made = subst (λ (x : Record). Makes o x old new code) e made

-- what was composed by these numbers
pub composes : (o : Opened) (ms : List ReadMap) (indices : List ℕ) (ls : List (Option ℕ)) (limits : Allowed)
    (m : ReadMap) (old new : Option Opened) (code : ℕ) → ls ≡ map Some indices
    → is_too_many limits (record_of o.map) (maps_of o.map ms ls) ≡ false
    → record_of m ≡ composition (record_of o.map) (maps_of o.map ms ls)
    → Makes o (record_of m) old new code → Composes o ms indices limits old new code
composes o ms indices ls limits m old new code same few is made = inl (
  subst (λ (l : List (Option ℕ)). is_too_many limits (record_of o.map) (maps_of o.map ms l) ≡ false) same few,
  made_as o (record_of m) _ old new code (is
      ∙ ap (λ (l : List (Option ℕ)). composition (record_of o.map) (maps_of o.map ms l)) same) made,
)

-- what would be too large
pub too_large : (o : Opened) (ms : List ReadMap) (indices : List ℕ) (ls : List (Option ℕ)) (limits : Allowed)
    (old : Option Opened) → ls ≡ map Some indices
    → is_too_many limits (record_of o.map) (maps_of o.map ms ls) ≡ true
    → Composes o ms indices limits old old codes.TOO_MANY
too_large o ms indices ls limits old same many = inr (inl (
  subst (λ (l : List (Option ℕ)). is_too_many limits (record_of o.map) (maps_of o.map ms l) ≡ true) same many,
  (refl, refl),
))

-- the same by the shares in the inner maps
pub composes_into : (outer : Option Opened) (inner : List (Option Opened)) (shares : List Shared)
    (indices : List ℕ) (asked : SmapLimits) (limits : Allowed) (old new : Option Opened) (code : ℕ)
    → AreLimits asked → limits ≡ allowed asked → inner ≡ map (λ s. Some s.arc.value) shares
    → ComposesOpen outer (map (λ s. s.arc.value.map) shares) indices limits old new code
    → ComposesInto outer inner indices asked old new code
composes_into None inner shares indices asked limits old new code are allows same is =
    inr (inl (inr refl, is))
composes_into (Some o) inner shares indices asked limits old new code are allows same is =
    let opened : Shared → Opened = λ s. s.arc.value in
    let map_in : Opened → ReadMap = λ x. x.map in
    let maps : map map_in (map opened shares) ≡ map (λ (s : Shared). s.arc.value.map) shares =
    map-map map_in opened shares in
    inr (inr (inr (
      o,
      map opened shares,
      are,
      refl,
      same ∙ sym (map-map Some opened shares),
      subst (λ (l : Allowed). Composes o (map map_in (map opened shares)) indices l old new code) allows
          (rw maps is),
    )))
