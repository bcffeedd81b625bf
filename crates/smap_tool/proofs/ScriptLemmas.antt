-- Scripts by their URLs.
use Rattle.std.proofs.lemmas.Bool.{or_parts, cases_Bool}
use Rattle.smap_trace.proofs.TableLemmas.{bytes_flip}
use Rattle.std.proofs.Common.{◌≡◌, ◌∙◌, ℕ, List, [], ◌∷◌, ◌++◌, Option, Some, None, ap, bytes_eq, inl, inr}
use Rattle.std.proofs.Common.{refl}
use Rattle.std.specs.Prelude.{is_some, option_map}
use Rattle.smap_record.specs.Record.{Record}
use Rattle.smap_record.specs.Scripts.{Script}
use Rattle.smap_trace.specs.Scripts.{map_of, with_script}
use Rattle.smap_tool.specs.Bundle.{has_script}
use Rattle.smap_tool.specs.Entries.{IsNew}

-- a URL is there where its script has a map
pub found_in : (q : List ℕ) (ss : List Script) → is_some (map_of ss q) ≡ has_script ss q
found_in q [] = refl
found_in q (s ∷ ss) = elim (cases_Bool (bytes_eq q s.0)) [
  | inl is ↦ rw (bytes_flip s.0 q, is) refl
  | inr is ↦ rw (bytes_flip s.0 q, is) (found_in q ss)
]

mapped : {A B : Type 0} (f : A → B) (o : Option A) → is_some o ≡ is_some (option_map f o)
mapped f (Some a) = refl
mapped f None = refl

-- what is found by the bytes of a URL
pub has_map : {A : Type 0} (f : A → Record) (o : Option A) (q url : List ℕ) (ss : List Script) → q ≡ url
    → option_map f o ≡ map_of ss q → is_some o ≡ has_script ss url
has_map f o q url ss same is = mapped f o ∙ ap is_some is ∙ found_in q ss ∙ ap (has_script ss) same

-- a script whose URL is new goes last
pub put_last : (url : List ℕ) (r : Record) (ss : List Script) → IsNew ss url
    → with_script url r ss ≡ ss ++ (url, r) ∷ []
put_last url r [] new = refl
put_last url r (s ∷ ss) new =
    let parts = or_parts (bytes_eq url s.0) (has_script ss url) new in
    rw (parts.0, put_last url r ss parts.1) refl
