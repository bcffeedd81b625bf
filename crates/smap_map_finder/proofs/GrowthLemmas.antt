-- What was chosen stays while more is.
use Rattle.std.proofs.Common.{◌≡◌, ◌⊎◌, ◌≤◌, ap, arith, true, is_some, inl, inr, refl, subst, ℕ, Bool, List}
use Rattle.std.proofs.Common.{Bor, get_or}
use Rattle.std.proofs.Common.{Option, None, Some, Result, Ok, Err, IfNone, IfOk, IfSome, MatchResult, OnOk}
use Rattle.std.proofs.Common.{option_map, sym}
use Rattle.std.specs.List.{All, Contains}
use Rattle.std.proofs.lemmas.List.Elements.{All-contains}
use Rattle.smap_map_files.specs.declared.loading.Reading.{Reading}
use Rattle.smap_map_files.specs.declared.wanted.Wanted.{Wanted}
use Rattle.smap_system.specs.Held.{Held}
use Rattle.smap_map_choice.specs.declared.picks.Found.{Found}
use Rattle.smap_map_choice.specs.declared.picks.Found.TheVariants.{Given, ByEnd, Unclear, Missing}
use Rattle.smap_map_choice.specs.declared.picks.Pick.{Pick}
use Rattle.smap_record.specs.Record.{ReadMap, Record}
use Rattle.smap_trace.specs.Scripts.{Script, map_of}
use Rattle.smap_trace.proofs.TableLemmas.{found_there, names_of}
use Rattle.smap_map_finder.proofs.ChoiceLemmas.{one_of}
use Rattle.smap_map_finder.specs.Choice.{IsOpenedAs, IsUnopened, has_base, opening_name, root_of}
use Rattle.smap_map_files.specs.Given.{Folder}
use Rattle.smap_map_files.specs.Opened.{GivesNone}
use Rattle.smap_map_choice.specs.Places.{MapPlace}
use Rattle.smap_map_finder.specs.ChosenView.{AreChosen, Choices, IsCrowded, IsWithoutMap, Grows, map_in}
use Rattle.smap_map_finder.specs.ChosenView.{HasNone}
use Rattle.smap_map_finder.specs.ChosenView.{IsFor, IsLeft, IsNotOpened}
use Rattle.smap_map_finder.specs.ChosenView.{IsFind, IsServedBy, IsSettledIn, IsTried, Serves}
use Rattle.smap_map_finder.specs.declared.chosen.End.{End}
use Rattle.smap_map_finder.specs.declared.chosen.Opening.{Opening}

refused_worse : (how : Reading) (held : Held) (root : Option Folder) (has_base : Bool) (place : MapPlace)
    (worst worse : ℕ) → worst ≤ worse → GivesNone how held root has_base place worst
    → GivesNone how held root has_base place worse
refused_worse how held root has_base place worst worse le (inl out) = inl out
refused_worse how held root has_base place worst worse le (inr refused) =
    let bad = refused.is_bad in
    inr (record { is_bad = omega (arith, le, bad); why = refused.why; reached = refused.reached })

pub unopened_worse : (held : Held) (w : Wanted) (name : List ℕ) (found : Found) (worst worse : ℕ)
    → worst ≤ worse → IsUnopened held w name found worst → IsUnopened held w name found worse
unopened_worse held w name found worst worse le (inl none) = inl none
unopened_worse held w name found worst worse le (inr (place, is, gives)) =
    let none =
    refused_worse w.reading held (root_of w found) (has_base w found) place worst worse le gives in
    inr (place, is, none)

-- what became of opening the map of what a name has
pub tried_as : {E : Type 0} (held : Held) (w : Wanted) (worst : ℕ) (name under : List ℕ) (found : Found)
    (r : Result (Option ReadMap) E) → under ≡ opening_name w name found
    → IfOk r (λ o. IfSome o (IsOpenedAs held w under found))
    → IfOk r (λ o. IfNone o (IsUnopened held w under found worst))
    → IfOk r (IsTried held w worst name found)
tried_as held w worst name under found (Ok (Some m)) same opened none =
    subst (λ (n : List ℕ). IsOpenedAs held w n found m) same opened
tried_as held w worst name under found (Ok None) same opened none =
    subst (λ (n : List ℕ). IsUnopened held w n found worst) same none
tried_as held w worst name under found (Err e) same opened none = tt

pub tried_worse : (held : Held) (w : Wanted) (worst worse : ℕ) (name : List ℕ) (found : Found)
    (map : Option ReadMap)
    → worst ≤ worse → IsTried held w worst name found map → IsTried held w worse name found map
tried_worse held w worst worse name found (Some m) le is = is
tried_worse held w worst worse name found None le is =
    unopened_worse held w (opening_name w name found) found worst worse le is

gives_worse : (held : Held) (w : Wanted) (worst worse : ℕ) (name : List ℕ) (found : Found) → worst ≤ worse
    → IsWithoutMap held w worst name found → IsWithoutMap held w worse name found
gives_worse held w worst worse name found le g = record {
  opened = g.opened;
  opened_for = g.opened_for;
  served = g.served;
  without =
      unopened_worse held w (opening_name w g.opened g.opened_for) g.opened_for worst worse le g.without;
}

-- what is crowded stays so
abbrev pub StayCrowded : List End → List End → Type 0
StayCrowded old new = (file : ℕ) → IsCrowded old file → IsCrowded new file

none_worse : (held : Held) (w : Wanted) (c d : Choices) (name : List ℕ) (found : Found)
    → StayCrowded c.ends d.ends
    → c.worst ≤ d.worst → HasNone held w c name found → HasNone held w d name found
none_worse held w c d name (Given i) a le h = gives_worse held w c.worst d.worst name (Given i) le h
none_worse held w c d name (ByEnd i) a le (inl crowded) = inl (a i crowded)
none_worse held w c d name (ByEnd i) a le (inr gives) =
    inr (gives_worse held w c.worst d.worst name (ByEnd i) le gives)
none_worse held w c d name (Unclear i j) a le h = h
none_worse held w c d name Missing a le h = h

pub left_worse : (held : Held) (w : Wanted) (in_frames : Bool) (c d : Choices) (name : List ℕ)
    → StayCrowded c.ends d.ends → c.worst ≤ d.worst → IsLeft held w in_frames c name
    → IsLeft held w in_frames d name
left_worse held w in_frames c d name a le (inl no_text) = inl no_text
left_worse held w in_frames c d name a le (inr (found, picked, none)) =
    inr (found, picked, none_worse held w c d name found a le none)

-- the same choices, once files were opened for more names and worse maps refused
abbrev pub further : Choices → List End → ℕ → Choices
further c ends worst = record {
  scripts = c.scripts;
  openings = c.openings;
  left = c.left;
  ends = ends;
  worst = worst;
}

pub chosen_further : (held : Held) (w : Wanted) (c : Choices) (ends : List End) (worst : ℕ)
    → StayCrowded c.ends ends
    → c.worst ≤ worst → AreChosen held w c → AreChosen held w (further c ends worst)
chosen_further held w c ends worst a le chosen = record {
  scripts = chosen.scripts;
  openings = λ k d lt. let o : Opening = get_or c.openings k d in
      tried_worse held w c.worst worst o.name.items o.found (map_in o) le (chosen.openings k d lt);
  left = λ k d lt. left_worse held w (get_or c.left k d).1 c (further c ends worst)
      (get_or c.left k d).0.items a le (chosen.left k d lt);
}

pub chosen_worse : (held : Held) (w : Wanted) (c : Choices) (worst : ℕ) → c.worst ≤ worst → AreChosen held w c
    → AreChosen held w (further c c.ends worst)
chosen_worse held w c worst le chosen = chosen_further held w c c.ends worst (λ i is. is) le chosen

pub grows_further : (c : Choices) (ends : List End) (worst : ℕ) → StayCrowded c.ends ends → c.worst ≤ worst
    → Grows c (further c ends worst)
grows_further c ends worst a le = record {
  names = λ name has. has;
  openings = λ i o is. is;
  crowded = a;
  worst = le;
}

pub serves_self : (name : List ℕ) (found : Found) → IsFind found → Serves name found name found
serves_self name (Given i) f = refl
serves_self name (ByEnd i) f = (refl, refl)
serves_self name (Unclear i j) f = f
serves_self name Missing f = f

pub grows_self : (c : Choices) → Grows c c
grows_self c = record {
  names = λ name has. has;
  openings = λ i o is. is;
  crowded = λ i is. is;
  worst = omega arith;
}

pub grows_on : (a b c : Choices) → Grows a b → Grows b c → Grows a c
grows_on a b c p q = record {
  names = λ name has. q.names name (p.names name has);
  openings = λ i o is. q.openings i o (p.openings i o is);
  crowded = λ i is. q.crowded i (p.crowded i is);
  worst = omega (arith, p.worst, q.worst);
}

pub settled_grown : (held : Held) (w : Wanted) (in_frames : Bool) (c d : Choices) (name : List ℕ) → Grows c d
    → IsSettledIn held w in_frames c name → IsSettledIn held w in_frames d name
settled_grown held w in_frames c d name g (inl has) = inl (g.names name has)
settled_grown held w in_frames c d name g (inr left) =
    inr (left_worse held w in_frames c d name g.crowded g.worst left)

-- names that were settled before, and those that are now
pub all_settled : (held : Held) (w : Wanted) (in_frames : Bool) (c d : Choices) (names : List (Bor (List ℕ)))
    (fresh : List (List ℕ)) → Grows c d
    → All (λ (n : Bor (List ℕ)). IsSettledIn held w in_frames c n.now ⊎ Contains fresh n.now) names
    → All (IsSettledIn held w in_frames d) fresh
    → All (λ (n : Bor (List ℕ)). IsSettledIn held w in_frames d n.now) names
all_settled held w in_frames c d names fresh g all new = λ k n lt. elim (all k n lt) [
  | inl known ↦ settled_grown held w in_frames c d _ g known
  | inr among ↦ All-contains (IsSettledIn held w in_frames d) fresh _ new among
]

pub on_ok : {A E : Type 0} {P Q : Type 0} (r : Result A E) → (P → Q) → OnOk r P → OnOk r Q
on_ok (Ok a) f p = f p
on_ok (Err e) f p = tt

pub always_ok : {A E : Type 0} {Q : Type 0} (r : Result A E) → Q → OnOk r Q
always_ok (Ok a) q = q
always_ok (Err e) q = tt

-- what was found is not opened
pub none_out : (held : Held) (w : Wanted) (c : Choices) (name : List ℕ) (found : Found) → IsNotOpened c found
    → HasNone held w c name found
none_out held w c name (Given i) out = elim out [ ]
none_out held w c name (ByEnd i) out = inl out
none_out held w c name (Unclear i j) out = tt
none_out held w c name Missing out = tt

none_given : (held : Held) (w : Wanted) (c : Choices) (name : List ℕ) (found : Found)
    → IsWithoutMap held w c.worst name found → HasNone held w c name found
none_given held w c name (Given i) gives = gives
none_given held w c name (ByEnd i) gives = inr gives
none_given held w c name (Unclear i j) gives = tt
none_given held w c name Missing gives = tt

-- what was looked for gave no map
pub none_opened : (held : Held) (w : Wanted) (c : Choices) (name : List ℕ) (found : Found) (number : ℕ)
    (o : Opening)
    → AreChosen held w c → IsServedBy c number name found o → map_in o ≡ None → HasNone held w c name found
none_opened held w c name found number o chosen served none =
    let tried = one_of (IsFor held w c.worst) c.openings o number chosen.openings served.0 in
    none_given held w c name found (record {
      opened = o.name.items;
      opened_for = o.found;
      served = served.1;
      without = subst (IsTried held w c.worst o.name.items o.found) none tried;
    })

-- names that were settled still are
pub all_grown : (held : Held) (w : Wanted) (in_frames : Bool) (c d : Choices) (picks : List Pick) → Grows c d
    → All (λ (p : Pick). IsSettledIn held w in_frames c p.name.now) picks
    → All (λ (p : Pick). IsSettledIn held w in_frames d p.name.now) picks
all_grown held w in_frames c d picks g all = λ k p lt. settled_grown held w in_frames c d _ g (all k p lt)

-- what isn't text
pub no_text : {A E : Type 0} (P : A → Type 0) (Q : E → Type 0) (IsText : Type 0) (r : Result A E)
    → MatchResult r P (λ e. (IsText → ⊥) × Q e) → ((a : A) → r ≡ Ok a → ⊥) → IsText → ⊥
no_text P Q IsText (Ok a) m never = absurd (never a refl)
no_text P Q IsText (Err e) m never = m.0

pub none_in : {A : Type 0} (r : Option (Bor A)) (o : Option A) (value : A → ReadMap)
    → option_map (λ (b : Bor A). b.now) r ≡ o → ((b : Bor A) → r ≡ Some b → ⊥) → option_map value o ≡ None
none_in None o value e never = ap (option_map value) (sym e)
none_in (Some b) o value e never = absurd (never b refl)

pub some_in : {A : Type 0} (r : Option (Bor A)) (o : Option A) (value : A → ReadMap) (b : Bor A) (m : ReadMap)
    → option_map (λ (x : Bor A). x.now) r ≡ o → r ≡ Some b → m ≡ value b.now → option_map value o ≡ Some m
some_in r o value b m e is same = rw (← e, is, same) refl

pub known_there : {A : Type 0} (f : A → Record) (r : Option A) (ss : List Script) (name : List ℕ)
    → option_map f r ≡ map_of ss name → is_some r ≡ true → Contains (names_of ss) name
known_there f None ss name e some = absurd cc
known_there f (Some a) ss name e some = found_there ss name (f a) (sym e)
