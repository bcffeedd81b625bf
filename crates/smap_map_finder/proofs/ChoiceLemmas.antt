-- Names of a log, and what they have.
use Rattle.std.proofs.Common.{arith, ◌≡◌, ◌∙◌, ◌<◌, ◌≤◌, ◌+◌, ◌++◌, ◌∷◌, ap, refl, sym, inl, inr, ℕ}
use Rattle.std.proofs.Common.{Bor, List, [], length, take}
use Rattle.std.proofs.Common.{Some, None, get_or, map, subst, option_map, true}
use Rattle.std.proofs.lemmas.List.{get_or-map, length-map, map_push, take_all, take_more}
use Rattle.std.proofs.lemmas.List.Elements.{All-push}
use Rattle.std.specs.Global.{Vec}
use Rattle.std.specs.List.{All, slice_get}
use Rattle.std.proofs.lemmas.Option.{get_or_from_slice_get, slice_get-get_or, slice_get-map, slice_get_within}
use Rattle.smap_system.specs.Held.{Held, IsHeld}
use Rattle.smap_map_finder.specs.Choice.{AreBest, ArePicksIn, ArePicksOf, IsFoundIn, NamesMap, files_of}
use Rattle.smap_map_finder.specs.Choice.{FindsNone, HasNone, IsBest, IsHalfUnclear, IsTied, NamesNone}
use Rattle.smap_map_finder.specs.Choice.{is_plain, map_names_of, names_of, texts}
use Rattle.smap_map_finder.specs.Choice.{places_of}
use Rattle.smap_map_files.specs.Given.{Folder, IsFollowed}
use Rattle.smap_map_files.specs.declared.following.Followed.TheVariants as followed
use Rattle.smap_map_files.specs.declared.wanted.Wanted.{Wanted}
use Rattle.smap_map_choice.specs.Picks.{IsPick}
use Rattle.smap_map_choice.specs.Places.{MapPlace, scripts_of}
use Rattle.smap_map_choice.specs.declared.picks.Found.{Found}
use Rattle.smap_map_choice.specs.declared.picks.Pick.{Pick}
use Rattle.smap_map_choice.specs.declared.places.Place.{Place}

pub one_of : {X : Type 0} (P : X → Type 0) (xs : List X) (x : X) (i : ℕ) → All P xs → slice_get xs i ≡ Some x
    → P x
one_of P xs x i all is = subst P (get_or_from_slice_get xs i x x is) (all i x (slice_get_within xs i x is))

pub file_at : (w : Wanted) (i : ℕ) (v : Vec ℕ) → slice_get w.files.items i ≡ Some v
    → slice_get (files_of w) i ≡ Some v.items
file_at w i v is = slice_get-map (λ (f : Vec ℕ). f.items) w.files.items i
    ∙ ap (option_map (λ (f : Vec ℕ). f.items)) is

pub slice_at : (files : List (Bor (List ℕ))) (i : ℕ) (file : Bor (List ℕ)) → slice_get files i ≡ Some file
    → slice_get (texts files) i ≡ Some file.now
slice_at files i file is = slice_get-map (λ (f : Bor (List ℕ)). f.now) files i
    ∙ ap (option_map (λ (f : Bor (List ℕ)). f.now)) is

-- a script whose text was followed to this file names it
pub names_map : (held : Held) (folder : Folder) (script : MapPlace) (text : List ℕ) (place : Place)
    → IsHeld held script.file text → IsFollowed folder script text (followed.File place)
    → NamesMap held folder script.file place.file.items
names_map None folder script text place is followed = tt
names_map (Some held) folder script text place is followed =
    record { text = text; held_is = is; names = followed.0 }

abbrev names_in : List (Bor (List ℕ)) → List (List ℕ)
names_in names = map (λ (n : Bor (List ℕ)). n.now) names

name_at : (names : List (Bor (List ℕ))) (picks : List Pick) (i : ℕ) (pick : Pick) (d : Bor (List ℕ))
    → map (λ (p : Pick). p.name.now) picks ≡ names_in names → slice_get picks i ≡ Some pick → i < length names
    → pick.name.now ≡ (get_or names i d).now
name_at names picks i pick d named is lt =
    sym (get_or_from_slice_get (names_in names) i pick.name.now []
    (subst (λ (l : List (List ℕ)). slice_get l i ≡ Some pick.name.now) named
    (slice_get-map (λ (p : Pick). p.name.now) picks i ∙ ap (option_map (λ (p : Pick). p.name.now)) is)))
    ∙ get_or_from_slice_get (names_in names) i (get_or names i d).now []
    (slice_get-map (λ (n : Bor (List ℕ)). n.now) names i
    ∙ ap (option_map (λ (n : Bor (List ℕ)). n.now)) (slice_get-get_or names i d lt))

-- what the name with this number has
pub pick_at : (w : Wanted) (files : List (List ℕ)) (names : List (Bor (List ℕ))) (picks : List Pick) (i : ℕ)
    (pick : Pick) (d : Bor (List ℕ)) → ArePicksIn w files (map (λ (n : Bor (List ℕ)). n.now) names) picks
    → slice_get picks i ≡ Some pick → i < length names → IsFoundIn w files (get_or names i d).now pick.found
pick_at w files names picks i pick d are is lt =
    subst (λ (n : List ℕ). IsFoundIn w files n pick.found) (name_at names picks i pick d are.named is lt)
    (one_of (IsPick true (scripts_of (places_of w)) files) picks pick i are.each is)

pub same_length : (names : List (Bor (List ℕ))) (picks : List Pick)
    → map (λ (p : Pick). p.name.now) picks ≡ names_in names → length picks ≡ length names
same_length names picks e = sym (length-map picks (λ (p : Pick). p.name.now)) ∙ ap length e
    ∙ length-map names (λ (n : Bor (List ℕ)). n.now)

-- the same of the pick at a place
pub found_at : (w : Wanted) (files : List (List ℕ)) (names : List (Bor (List ℕ))) (picks : List Pick) (i : ℕ)
    (p : Pick) (d : Bor (List ℕ)) → ArePicksIn w files (map (λ (n : Bor (List ℕ)). n.now) names) picks
    → i < length names → IsFoundIn w files (get_or names i d).now (get_or picks i p).found
found_at w files names picks i p d are lt = pick_at w files names picks i (get_or picks i p) d are
    (slice_get-get_or picks i p (omega (arith, same_length names picks are.named, lt))) lt

-- one pick more
pub one_more : {X : Type 0} (Is : Pick → Type 0) (f : X → List ℕ) (xs : List X) (i : ℕ) (picks : List Pick)
    (p : Pick)
    (d : X) → ArePicksOf Is (take i (map f xs)) picks → i < length xs → p.name.now ≡ f (get_or xs i d) → Is p
    → ArePicksOf Is (take (i + 1) (map f xs)) (picks ++ p ∷ [])
one_more Is f xs i picks p d are lt same is =
    let long = length-map xs f in
    record {
      named = rw (
        map_push (λ (q : Pick). q.name.now) picks p,
        are.named,
        same,
        take_more (map f xs) i (f d) (omega arith),
        get_or-map f xs i d (f d) lt,
      ) refl;
      each = All-push Is picks p are.each is;
    }

pub all_of : {X : Type 0} (Is : Pick → Type 0) (f : X → List ℕ) (xs : List X) (i : ℕ) (picks : List Pick)
    → ArePicksOf Is (take i (map f xs)) picks → length xs ≤ i → ArePicksOf Is (map f xs) picks
all_of Is f xs i picks are le = let long = length-map xs f in rw (take_all i (map f xs) (omega arith)) at are

-- finds that no map is asked for
pub clear_choice : (held : Held) (w : Wanted) (names : List (List ℕ)) (picks : List Pick)
    → ArePicksIn w (names_of w) names picks → All (λ (p : Pick). is_plain w p.found ≡ true) picks
    → AreBest held w names picks
clear_choice held w names picks are clear = record {
  named = are.named;
  each = λ k d lt. inl (record { is_found = are.each k d lt; is_clear = inl (clear k d lt) });
}

pub tied_choice : (w : Wanted) (name : List ℕ) (found map : Found) → IsFoundIn w (names_of w) name found
    → IsFoundIn w (map_names_of w) name map → IsTied w name found map → IsHalfUnclear w name
tied_choice w name found map all maps tied = record {
  found = found;
  is_found = all;
  map = map;
  is_map = maps;
  is_tied = tied;
}

pub untied_choice : (held : Held) (w : Wanted) (name : List ℕ) (found map : Found)
    → IsFoundIn w (names_of w) name found → IsFoundIn w (map_names_of w) name map
    → ¬ IsTied w name found map → IsBest held w name found
untied_choice held w name found map all maps untied = inl (record {
  is_found = all;
  is_clear = inr (record { map = map; is_map = maps; is_untied = untied });
})

pub passed_choice : (held : Held) (w : Wanted) (name : List ℕ) (found map : Found)
    → IsFoundIn w (names_of w) name found → IsFoundIn w (map_names_of w) name map → FindsNone held w found
    → IsBest held w name map
passed_choice held w name found map all maps none =
    inr (inr (record { script = found; by_all = all; without = none; by_map = maps }))

-- a script whose text was followed to nothing has no map
pub has_none : (held : Held) (folder : Folder) (script : MapPlace) (text : List ℕ)
    → IsHeld held script.file text → NamesNone folder script.file text → HasNone held folder script.file
has_none None folder script text is none = tt
has_none (Some held) folder script text is none = (text, is, none)
