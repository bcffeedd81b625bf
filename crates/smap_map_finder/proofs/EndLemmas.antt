-- Names that end as files, noted one by one.
use Rattle.std.proofs.Common.{◌≡◌, ◌==◌, ◌<◌, ◌≤◌, ◌++◌, ◌∷◌, [], arith, subst, sym, ℕ, Bool, List}
use Rattle.std.proofs.Common.{Bor, cond, count_by, get_or, length, map}
use Rattle.std.specs.List.{All, Contains, IsDistinct, list_any}
use Rattle.std.proofs.lemmas.Bool.{cond_both}
use Rattle.std.proofs.lemmas.List.Elements.{All-contains, All-map, All-nil, All-push}
use Rattle.std.proofs.lemmas.List.Sums.{sum_by-append}
use Rattle.indexmap.specs.IndexSet.{insert_key}
use Rattle.smap_map_files.specs.declared.wanted.Wanted.{Wanted}
use Rattle.smap_system.specs.Held.{Held}
use Rattle.smap_link.specs.Paths.{bare}
use Rattle.smap_map_choice.specs.declared.picks.Found.{Found}
use Rattle.smap_map_choice.specs.declared.picks.Found.TheVariants.{ByEnd}
use Rattle.smap_map_choice.specs.declared.picks.Pick.{Pick}
use Rattle.smap_map_finder.specs.Choice.{IsPicked, IsPickedBy}
use Rattle.smap_map_finder.specs.ChosenView.{AreEnds, IsEndOf, same_end}
use Rattle.smap_map_finder.specs.declared.chosen.End.{End}
use Rattle.smap_map_finder.proofs.ChosenLemmas.{mapped_among}
use Rattle.smap_map_finder.proofs.GrowthLemmas.{StayCrowded}

abbrev is_of : ℕ → End → Bool
is_of file e = e.file == file

abbrev weight : ℕ → End → ℕ
weight file e = cond (is_of file e) 1 0

-- one more doesn't make them fewer
still_many : (n file : ℕ) (ends : List End) (e : End) → n ≤ count_by (is_of file) ends
    → n ≤ count_by (is_of file) (insert_key same_end ends e)
still_many n file ends e le = cond_both (list_any (same_end e) ends) ends (ends ++ e ∷ [])
    (λ (l : List End). n ≤ count_by (is_of file) l) (λ _. le)
    (λ _. rw (sum_by-append (weight file) ends (e ∷ [])) (omega (arith, le)))

pub crowded_on : (ends after : List End) (e : End) → after ≡ insert_key same_end ends e
    → StayCrowded ends after
crowded_on ends after e is file crowded = subst (λ (l : List End). 100 ≤ count_by (is_of file) l) (sym is)
    (still_many 100 file ends e crowded)

pub ended_on : (IsOf : ℕ → List ℕ → Type 0) (ends after : List End) (e : End)
    → after ≡ insert_key same_end ends e → IsDistinct same_end after → IsOf e.file e.name.items
    → AreEnds IsOf ends → AreEnds IsOf after
ended_on IsOf ends after e is apart one all = record {
  each = subst (All (λ (f : End). IsOf f.file f.name.items)) (sym is)
      (cond_both (list_any (same_end e) ends) ends (ends ++ e ∷ [])
      (All (λ (f : End). IsOf f.file f.name.items)) (λ _. all.each)
      (λ _. All-push (λ (f : End). IsOf f.file f.name.items) ends e all.each one));
  apart = apart;
}

none_apart : IsDistinct same_end []
unfolding IsDistinct
none_apart = tt

-- no names
pub none_ended : (IsOf : ℕ → List ℕ → Type 0) → AreEnds IsOf []
none_ended IsOf = record { each = All-nil (λ (f : End). IsOf f.file f.name.items); apart = none_apart }

-- a name that has this file
pub end_of : (held : Held) (w : Wanted) (asked : List (List ℕ)) (in_frames : Bool) (name short : List ℕ)
    (found : Found) (file : ℕ) → short ≡ bare name → found ≡ ByEnd file
    → IsPicked held w in_frames name found → Contains asked name
    → IsEndOf held w (Contains asked) file short
end_of held w asked in_frames name short found file is has picked among = record {
  whole = name;
  asked = among;
  name_is = sym is;
  in_frames = in_frames;
  picked = subst (IsPicked held w in_frames name) has picked;
}

-- ---- while names are looked for

abbrev pub KeepsOne : Held → Wanted → List ℕ → Found → List End → List End → Type 0
KeepsOne held w name found old new = (asked : List (List ℕ)) (in_frames : Bool)
    → IsPicked held w in_frames name found → Contains asked name
    → AreEnds (IsEndOf held w (Contains asked)) old → AreEnds (IsEndOf held w (Contains asked)) new

abbrev pub KeepsAll : Held → Wanted → List (List ℕ) → List End → List End → Type 0
KeepsAll held w names old new = (asked : List (List ℕ)) → All (Contains asked) names
    → AreEnds (IsEndOf held w (Contains asked)) old → AreEnds (IsEndOf held w (Contains asked)) new

pub keeps_then : (held : Held) (w : Wanted) (name : List ℕ) (found : Found) (a b c : List End)
    → KeepsOne held w name found a b → c ≡ b → KeepsOne held w name found a c
keeps_then held w name found a b c keeps is asked in_frames picked among all =
    subst (AreEnds (IsEndOf held w (Contains asked))) (sym is) (keeps asked in_frames picked among all)

pub then_keeps : (held : Held) (w : Wanted) (name : List ℕ) (found : Found) (a b c : List End)
    → b ≡ a → KeepsOne held w name found b c → KeepsOne held w name found a c
then_keeps held w name found a b c is keeps asked in_frames picked among all =
    keeps asked in_frames picked among (subst (AreEnds (IsEndOf held w (Contains asked))) (sym is) all)

abbrev name_of : Pick → List ℕ
name_of p = p.name.now

-- one more name
pub one_kept : (held : Held) (w : Wanted) (in_frames : Bool) (picks : List Pick) (i : ℕ) (d : Pick)
    (b c e : List End) → i < length picks → All (IsPickedBy held w in_frames) picks
    → KeepsAll held w (map name_of picks) b c
    → KeepsOne held w (get_or picks i d).name.now (get_or picks i d).found c e
    → KeepsAll held w (map name_of picks) b e
one_kept held w in_frames picks i d b c e lt picked kept keeps asked all before =
    keeps asked in_frames (picked i d lt)
    (All-contains (Contains asked) (map name_of picks) _ all (mapped_among name_of picks i d lt))
    (kept asked all before)

abbrev text_of : Bor (List ℕ) → List ℕ
text_of t = t.now

-- those of the names that were not known
pub fresh_kept : (held : Held) (w : Wanted) (names fresh looked : List (Bor (List ℕ))) (c d : List End)
    → looked ≡ fresh → All (λ (f : Bor (List ℕ)). Contains (map text_of names) f.now) fresh
    → KeepsAll held w (map text_of looked) c d → KeepsAll held w (map text_of names) c d
fresh_kept held w names fresh looked c d is among kept asked all before =
    kept asked (subst (λ (l : List (Bor (List ℕ))). All (Contains asked) (map text_of l)) (sym is)
    (All-map (Contains asked) text_of fresh
    (λ k e lt. All-contains (Contains asked) (map text_of names) _ all (among k e lt)))) before
