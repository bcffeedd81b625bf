-- what is known of sources, where one is put
use Rattle.std.proofs.Common.{◌≡◌, ◌⊎◌, ◌∙◌, ℕ, Bool, true, false, List, [], ◌∷◌, Option, None, Some, refl}
use Rattle.std.proofs.Common.{sym}
use Rattle.std.proofs.Common.{ap, arith, bytes_eq, cond, inl, inr, nat_eq}
use Rattle.std.specs.Prelude.{Result, Ok, Err, IfSome, OnOk, option_and_then, option_map}
use Rattle.std.specs.Global.{Vec}
use Rattle.std.specs.Map.{lookup, set_value}
use Rattle.std.specs.Option.{option_flatten}
use Rattle.std.proofs.lemmas.Bool.Decides.{nat_tests}
use Rattle.std.proofs.lemmas.Option.{none-some, option_and_then_some, same_Some}
use Rattle.std.proofs.lemmas.Slice.Eq.{bytes_eq-Decides}
use Rattle.indexmap.specs.IndexMap.{insert_entry}
use Rattle.smap_functions.specs.Sources.{Source}
use Rattle.smap_trace.specs.Known.{Known, KnowsLess, KnowsMore, KnowsOf, known_in, of_source}
use Rattle.smap_trace.specs.Names.{IsOfOrigin}
use Rattle.smap_record.specs.Record.{Origin}
use Rattle.smap_trace.specs.declared.known.ScriptSources.{ScriptSources}
use Rattle.smap_trace.proofs.ByKeyLemmas.{has_key, outer_put, outer_set, same_items, viewed_lookup}

-- ---- by number

inner_last : (n m : ℕ) (o x : Option Source) → cond (nat_eq n m) (Some o) None ≡ Some x
    → (◌≡◌ {A = Option (Option Source)} None (Some x)) ⊎ ((n ≡ m) × (o ≡ x))
inner_last n m o x h = grind (arith, nat_tests)

inner_here : (n m k : ℕ) (o v x : Option Source) (l : Option (Option Source)) → nat_eq m k ≡ true
    → cond (nat_eq n k) (Some o) l ≡ Some x → (cond (nat_eq n k) (Some v) l ≡ Some x) ⊎ ((n ≡ m) × (o ≡ x))
inner_here n m k o v x l t h = grind (arith, nat_tests)

inner_later : (n m k : ℕ) (o v x : Option Source) (l r : Option (Option Source))
    → (r ≡ Some x → (l ≡ Some x) ⊎ ((n ≡ m) × (o ≡ x))) → cond (nat_eq n k) (Some v) r ≡ Some x
    → (cond (nat_eq n k) (Some v) l ≡ Some x) ⊎ ((n ≡ m) × (o ≡ x))
inner_later n m k o v x l r f h = grind (arith, nat_tests)

inner_step : (e : ℕ × Option Source) (es : List (ℕ × Option Source)) (m n : ℕ) (o x : Option Source)
    → (lookup (nat_eq n) (insert_entry nat_eq es m o) ≡ Some x
    → (lookup (nat_eq n) es ≡ Some x) ⊎ ((n ≡ m) × (o ≡ x)))
    → (b : Bool) → nat_eq m e.0 ≡ b
    → lookup (nat_eq n) (cond b ((e.0, o) ∷ es) (e ∷ insert_entry nat_eq es m o)) ≡ Some x
    → (lookup (nat_eq n) (e ∷ es) ≡ Some x) ⊎ ((n ≡ m) × (o ≡ x))
inner_step e es m n o x rest true t h = inner_here n m e.0 o e.1 x (lookup (nat_eq n) es) t h
inner_step e es m n o x rest false t h = inner_later n m e.0 o e.1 x (lookup (nat_eq n) es)
    (lookup (nat_eq n) (insert_entry nat_eq es m o)) rest h

inner_put : (es : List (ℕ × Option Source)) (m n : ℕ) (o x : Option Source)
    → lookup (nat_eq n) (insert_entry nat_eq es m o) ≡ Some x
    → (lookup (nat_eq n) es ≡ Some x) ⊎ ((n ≡ m) × (o ≡ x))
inner_put [] m n o x h = inner_last n m o x h
inner_put (e ∷ es) m n o x h = inner_step e es m n o x (inner_put es m n o x) (nat_eq m e.0) refl h

-- ---- both

some_flat : (o : Option (Option Source)) (s : Source) → option_flatten o ≡ Some s → o ≡ Some (Some s)
some_flat None s h = absurd (none-some s h)
some_flat (Some None) s h = absurd (none-some s h)
some_flat (Some (Some x)) s h = ap (λ (y : Option Source). Some y) h

abbrev pub held_in : List (Vec ℕ × ScriptSources) → List ℕ → ℕ → Option Source
held_in es url number = option_and_then (λ t. option_flatten (lookup (nat_eq number) t.sources.entries))
    (lookup (has_key url) es)

pub held_is : (es : List (Vec ℕ × ScriptSources)) (url : List ℕ) (number : ℕ)
    → of_source (known_in es) url number ≡ held_in es url number
held_is es url number =
    ap (option_and_then (λ (t : List (ℕ × Option Source)). option_flatten (lookup (nat_eq number) t)))
    (viewed_lookup (λ (t : ScriptSources). t.sources.entries) url es) ∙ same (lookup (has_key url) es)
  where
    same : (m : Option ScriptSources)
        → option_and_then (λ (t : List (ℕ × Option Source)). option_flatten (lookup (nat_eq number) t))
        (option_map (λ (t : ScriptSources). t.sources.entries) m)
        ≡ option_and_then (λ t. option_flatten (lookup (nat_eq number) t.sources.entries)) m
    same None = refl
    same (Some t) = refl

-- a source is put into a script's
pub put_into : (es fs : List (Vec ℕ × ScriptSources)) (script : List ℕ) (n : ℕ) (o : Option Source)
    (t w : ScriptSources) → lookup (has_key script) es ≡ Some t → fs ≡ set_value (has_key script) es w
    → w.sources.entries ≡ insert_entry nat_eq t.sources.entries n o
    → KnowsMore (known_in es) (known_in fs) script n o
put_into es fs script n o t w old new put url number s known =
    let h = sym (held_is fs url number) ∙ known in
    option_and_then_some (λ (x : ScriptSources). option_flatten (lookup (nat_eq number) x.sources.entries))
    (lookup (has_key url) fs) s h
    (λ x at flat. elim (outer_set url script w x es (rw new at at)) [
      | inl was ↦ inl (held_is es url number ∙ rw was flat)
      | inr same ↦
          let there : lookup (nat_eq number) w.sources.entries ≡ Some (Some s) =
          some_flat (lookup (nat_eq number) w.sources.entries) s (rw (← same.1) at flat) in
          elim (inner_put t.sources.entries n number o (Some s) (rw put at there)) [
            | inl before ↦ inl (held_is es url number ∙ rw (same.0, old, before) refl)
            | inr this ↦ inr (same.0, this.0, this.1)
          ]
    ])

-- the first of a script
pub put_first : (es gs fs : List (Vec ℕ × ScriptSources)) (script : List ℕ) (key : Vec ℕ) (n : ℕ)
    (o : Option Source) (w : ScriptSources) → gs ≡ es → key.items ≡ script
    → fs ≡ insert_entry same_items gs key w → w.sources.entries ≡ (n, o) ∷ []
    → KnowsMore (known_in es) (known_in fs) script n o
put_first es gs fs script key n o w stays named new put url number s known =
    let h = sym (held_is fs url number) ∙ known in
    let here = rw stays at new in
    option_and_then_some (λ (x : ScriptSources). option_flatten (lookup (nat_eq number) x.sources.entries))
    (lookup (has_key url) fs) s h
    (λ x at flat. elim (outer_put url key w x es (rw here at at)) [
      | inl was ↦ inl (held_is es url number ∙ rw was flat)
      | inr same ↦
          let there : lookup (nat_eq number) w.sources.entries ≡ Some (Some s) =
          some_flat (lookup (nat_eq number) w.sources.entries) s (rw (← same.1) at flat) in
          elim (inner_put [] n number o (Some s) (rw put at there)) [
            | inl before ↦ absurd (none-some (Some s) before)
            | inr this ↦ inr (same.0 ∙ named, this.0, this.1)
          ]
    ])

-- ---- what is known of one

pub of_held : (es : List (Vec ℕ × ScriptSources)) (url : List ℕ) (n : ℕ) (t : ScriptSources)
    (o x : Option Source) → Some t ≡ lookup (has_key url) es → Some o ≡ lookup (nat_eq n) t.sources.entries
    → x ≡ o → x ≡ held_in es url n
of_held es url n t o x a b is = rw (← a, ← b) is

pub of_none_held : (es : List (Vec ℕ × ScriptSources)) (url : List ℕ) (n : ℕ) (t : ScriptSources)
    → Some t ≡ lookup (has_key url) es → None ≡ lookup (nat_eq n) t.sources.entries → None ≡ held_in es url n
of_none_held es url n t a b = rw (← a, ← b) refl

pub of_no_script : (es : List (Vec ℕ × ScriptSources)) (url : List ℕ) (n : ℕ)
    → None ≡ lookup (has_key url) es → None ≡ held_in es url n
of_no_script es url n a = rw (← a) refl

pub reads : {A E : Type 0} (r : Result A E) (old mid new : Known) (script : List ℕ) (n : ℕ) (o : Option
    Source)
    (origin : Origin) → KnowsLess old mid → IfSome o (IsOfOrigin origin)
    → OnOk r (KnowsMore mid new script n o) → OnOk r (KnowsOf old new script n origin)
reads (Err e) old mid new script n o origin less is h = h
reads (Ok a) old mid new script n o origin less is h = λ url number s known. elim (h url number s known) [
  | inl was ↦ inl (less url number s was)
  | inr this ↦ inr (this.0, this.1, rw this.2 at is)
]
