-- What a search keeps, and what it adds.
use Rattle.std.proofs.Common.{◌≡◌, ◌⊎◌, ℕ, zero, suc, List, [], ◌∷◌, ◌++◌, Option, Some, None, length, refl}
use Rattle.std.proofs.Common.{ap, inl, inr, arith, ◌+◌, ◌<◌}
use Rattle.std.proofs.lemmas.List.{length_push}
use Rattle.std.specs.Prelude.{Result, Ok, Err, IfOk, IfSome, OnOk}
use Rattle.std.specs.List.{slice_get}
use Rattle.std.specs.Global.{Vec}
use Rattle.smap_record.specs.Record.{Entry, ReadMap, record_of}
use Rattle.smap_system.specs.Held.{Held}
use Rattle.smap_chains.specs.Chains.{AreLeads, AreNumbers, HasMap, IsAt, IsNumber}
use Rattle.smap_chains.specs.Search.{AreFiles, IfMap, IsFitting, IsFound, Keeps}
use Rattle.smap_chains.specs.declared.chains.ChainAsked.{ChainAsked}
use Rattle.smap_chains.specs.declared.search.Search.{Search}
use Rattle.smap_chains.specs.declared.ways.Found.{Found}
use Rattle.smap_chains.specs.declared.ways.Opened.{Opened}
use Rattle.smap_chains.specs.declared.ways.Opened.TheVariants.{Map}

-- ---- lists that grow

pub get_before : {X : Type 0} (xs ys : List X) (k : ℕ) (x : X) → slice_get xs k ≡ Some x
    → slice_get (xs ++ ys) k ≡ Some x
get_before [] ys k x e = cc
get_before (z ∷ xs) ys zero x e = e
get_before (z ∷ xs) ys (suc k) x e = get_before xs ys k x e

pub get_last : {X : Type 0} (xs : List X) (y : X) → slice_get (xs ++ y ∷ []) (length xs) ≡ Some y
get_last [] y = refl
get_last (x ∷ xs) y = get_last xs y

pub get_pushed : {X : Type 0} (xs : List X) (y : X) (k : ℕ) (x : X) → slice_get (xs ++ y ∷ []) k ≡ Some x
    → (slice_get xs k ≡ Some x) ⊎ ((k ≡ length xs) × (x ≡ y))
get_pushed [] y zero x e = inr (refl, cc)
get_pushed [] y (suc k) x e = inl e
get_pushed (z ∷ xs) y zero x e = inl e
get_pushed (z ∷ xs) y (suc k) x e =
    elim (get_pushed xs y k x e) [ inl h ↦ inl h | inr h ↦ inr (ap suc h.0, h.1) ]

-- ---- what is kept

pub at_kept : (old new : List ReadMap) → Keeps old new → (k : ℕ) (P : ReadMap → Type 0) → IsAt old k P
    → IsAt new k P
at_kept old new keeps k P at =
    record { map = at.map; is_there = keeps k at.map at.is_there; holds = at.holds }

pub files_kept : (held : Held) (a : ChainAsked) (old new : Search) → Keeps old.maps.items new.maps.items
    → new.files ≡ old.files → AreFiles held a old → AreFiles held a new
files_kept held a old new keeps same are = λ name k e.
    at_kept old.maps.items new.maps.items keeps k _ (are name k (rw same at e))

module _ (held : Held) (a : ChainAsked) (old new : List ReadMap) (keeps : Keeps old new) where
  number_kept : (script : List ℕ) (source : Option Entry) (number : Option ℕ)
      → IsNumber held a old script source number → IsNumber held a new script source number
  number_kept script source None is = is
  number_kept script source (Some k) is =
      (is.0, (is.1.0, at_kept old new keeps k (HasMap held a script is.0) is.1.1))

  pub numbers_kept : (script : List ℕ) (m : ReadMap) (numbers : List (Option ℕ))
      → AreNumbers held a old script m numbers → AreNumbers held a new script m numbers
  numbers_kept script m numbers are = λ i number e.
      number_kept script (slice_get (record_of m).sources i) number (are i number e)

  pub leads_kept : (leads : List (Vec (Option ℕ))) → AreLeads held a old leads → AreLeads held a new leads
  leads_kept leads are = λ j numbers e.
      let is = are j numbers e in (
        is.0,
        record {
          map = is.1.map;
          is_there = keeps j is.1.map is.1.is_there;
          holds = numbers_kept is.0 is.1.map numbers.items is.1.holds;
        },
      )

-- ---- what is added

module _ (held : Held) (a : ChainAsked) (maps : List ReadMap) where
  pub numbers_pushed : (script : List ℕ) (m : ReadMap) (numbers : List (Option ℕ)) (number : Option ℕ)
      → AreNumbers held a maps script m numbers
      → IsNumber held a maps script (slice_get (record_of m).sources (length numbers)) number
      → AreNumbers held a maps script m (numbers ++ number ∷ [])
  numbers_pushed script m numbers number are is = λ i o e.
      elim (get_pushed numbers number i o e) [ inl h ↦ are i o h | inr h ↦ rw (h.0, h.1) is ]

  pub leads_pushed : (leads : List (Vec (Option ℕ))) (numbers : Vec (Option ℕ)) → AreLeads held a maps leads
      → (script : List ℕ) → IsAt maps (length leads) (λ m. AreNumbers held a maps script m numbers.items)
      → AreLeads held a maps (leads ++ numbers ∷ [])
  leads_pushed leads numbers are script at = λ j ns e.
      elim (get_pushed leads numbers j ns e) [ inl h ↦ are j ns h | inr h ↦ rw (h.0, h.1) (script, at) ]

-- ---- what is found

pub opened_at : (maps : List ReadMap) (k : ℕ) (P : ReadMap → Type 0) (opened : Opened) → IfMap opened P
    → IsAt maps k (λ m. opened ≡ Map m) → IsAt maps k P
opened_at maps k P opened is at = record {
  map = at.map;
  is_there = at.is_there;
  holds = rw at.holds at is;
}

pub has_map : (held : Held) (a : ChainAsked) (script : List ℕ) (e : Entry) (f : Found) (m : ReadMap)
    → IsFound held a script e f → IsFitting held a f m → HasMap held a script e m
has_map held a script e f m found fitting = record {
  text = found.text;
  is_text = found.is_text;
  way = f.way;
  is_way = found.is_way;
  is_map = rw found.is_url at fitting.is_map;
  fits = rw found.are_widths at fitting.fits;
}

-- The number of a source, where its map was found to fit.
pub number_found : (held : Held) (a : ChainAsked) (maps : List ReadMap) (script : List ℕ) (e : Entry)
    (f : Found)
    (k : ℕ) → IsFound held a script e f → IsAt maps k (IsFitting held a f)
    → IsNumber held a maps script (Some e) (Some k)
number_found held a maps script e f k found at = (
  e,
  (
    refl,
    record {
      map = at.map;
      is_there = at.is_there;
      holds = has_map held a script e f at.map found at.holds;
    },
  ),
)

pub number_step : {E : Type 0} (held : Held) (a : ChainAsked) (maps : List ReadMap) (script : List ℕ)
    (e : Entry)
    (f : Found) (r : Result (Option ℕ) E) → IsFound held a script e f
    → IfOk r (λ o. IfSome o (λ k. IsAt maps k (IsFitting held a f)))
    → IfOk r (IsNumber held a maps script (Some e))
number_step held a maps script e f (Err x) found h = tt
number_step held a maps script e f (Ok None) found h = tt
number_step held a maps script e f (Ok (Some k)) found h = number_found held a maps script e f k found h

-- ---- the steps of the loops

pub files_on : {X E : Type 0} (held : Held) (a : ChainAsked) (old new : Search) (r : Result X E)
    → Keeps old.maps.items new.maps.items → new.files ≡ old.files → AreFiles held a old
    → OnOk r (AreFiles held a new)
files_on held a old new (Ok x) keeps same are = files_kept held a old new keeps same are
files_on held a old new (Err x) keeps same are = tt

pub length_more : {X : Type 0} (xs more : List X) (x : X) (i : ℕ) → more ≡ xs ++ x ∷ [] → length xs ≡ i
    → length more ≡ i + 1
length_more xs more x i e h = rw (e, length_push xs x, h) refl

pub some_at : {X : Type 0} (xs : List X) (k : ℕ) → k < length xs → (x : X) × (slice_get xs k ≡ Some x)
some_at [] k lt = absurd (omega arith)
some_at (x ∷ xs) zero lt = (x, refl)
some_at (x ∷ xs) (suc k) lt = some_at xs k (omega arith)

module _ (held : Held) (a : ChainAsked) (old new : List ReadMap) (keeps : Keeps old new) where
  pub numbers_more : (script : List ℕ) (m : ReadMap) (numbers more : List (Option ℕ)) (number : Option ℕ)
      (i : ℕ)
      → length numbers ≡ i → more ≡ numbers ++ number ∷ [] → AreNumbers held a old script m numbers
      → IsNumber held a new script (slice_get (record_of m).sources i) number
      → AreNumbers held a new script m more
  numbers_more script m numbers more number i count e are h = rw e
      (numbers_pushed held a new script m numbers number
      (numbers_kept held a old new keeps script m numbers are) (rw count h))

  pub leads_more : (leads more : List (Vec (Option ℕ))) (numbers : Vec (Option ℕ)) (m : ReadMap) (k : ℕ)
      → length leads ≡ k → more ≡ leads ++ numbers ∷ [] → AreLeads held a old leads → slice_get old k ≡ Some m
      → (script : List ℕ) × AreNumbers held a new script m numbers.items → AreLeads held a new more
  leads_more leads more numbers m k count e are there h = rw e (leads_pushed held a new leads numbers
      (leads_kept held a old new keeps leads are) h.0
      (record { map = m; is_there = rw count (keeps k m there); holds = h.1 }))
