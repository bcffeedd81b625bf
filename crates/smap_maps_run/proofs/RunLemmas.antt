-- Maps that are looked at, one after another.
use Rattle.std.proofs.Common.{refl, sym, ap, ◌≡◌, ◌∙◌, ℕ, ◌+◌, ◌<◌, List, [], ◌∷◌, ◌++◌, length, map}
use Rattle.std.proofs.Common.{Bor, Option, append-nil, codes, flat_map, get_or, subst, string_bytes, take}
use Rattle.std.proofs.Common.{Err, Global, IfOk, Ok, Result, String}
use Rattle.std.proofs.KnownBytes.{Appends-nil, Appends-trans}
use Rattle.std.proofs.lemmas.List.{map-append, take_more}
use Rattle.std.proofs.lemmas.List.Elements.{All-append, All-cons, All-nil}
use Rattle.std.proofs.lemmas.List.Concat.{flat_map-append}
use Rattle.std.specs.Io.KnownBytes.{Appends}
use Rattle.smap_command_line.specs.Maps.{IsAsked}
use Rattle.smap_command_line.specs.declared.maps.words.Asked.{Asked}
use Rattle.smap_system.specs.Held.{Held}
use Rattle.smap_system.specs.Tree.{Told}
use Rattle.smap_maps_run.specs.Outcomes.{none, status, with_map}
use Rattle.smap_maps_run.specs.Runs.{AreLookedAt, IsAnswered, IsLook, Look, changes_text, line, look_text}
use Rattle.smap_maps_run.specs.Runs.{tally_after}
use Rattle.smap_maps_run.specs.Targets.{NamesAll, NamesPath}
use Rattle.smap_maps_run.specs.declared.deciding.Work.{Work}
use Rattle.smap_maps_run.specs.declared.outcome.Outcome.{Outcome}
use Rattle.smap_maps_run.specs.declared.outcome.Tally.{Tally}
use Rattle.smap_maps_run.specs.declared.targets.Target.{Target}

counted_more : (t : Tally) (ls : List Look) (l : Look)
    → tally_after t (ls ++ l ∷ []) ≡ with_map (tally_after t ls) (status l.1.verdict)
counted_more t [] l = refl
counted_more t (k ∷ ls) l = counted_more (with_map t (status k.1.verdict)) ls l

-- one map more
pub one_more : (held : Held) (most : ℕ) (to_do : Work) (targets : List Target) (i : ℕ) (d : Target)
    (tally : Tally) (before middle after : Option (List ℕ)) (o : Outcome)
    → i < length targets → AreLookedAt held most to_do (take i targets) tally before middle
    → IsLook held most to_do (get_or targets i d, o)
    → Appends middle after (look_text to_do (get_or targets i d, o))
    → AreLookedAt held most to_do (take (i + 1) targets) (with_map tally (status o.verdict)) before after
one_more held most to_do targets i d tally before middle after o within so look written =
    let l : Look = (get_or targets i d, o) in
    let grown : flat_map (look_text to_do) (so.looks ++ l ∷ [])
    ≡ flat_map (look_text to_do) so.looks ++ look_text to_do l =
    flat_map-append (look_text to_do) so.looks (l ∷ [])
    ∙ ap (λ (t : List ℕ). flat_map (look_text to_do) so.looks ++ t) (append-nil (look_text to_do l)) in
    record {
      looks = so.looks ++ l ∷ [];
      of_targets = map-append (λ (k : Look). k.0) so.looks (l ∷ [])
          ∙ ap (λ (ts : List Target). ts ++ l.0 ∷ []) so.of_targets ∙ sym (take_more targets i d within);
      each = All-append (IsLook held most to_do) so.looks (l ∷ []) so.each
          (All-cons (IsLook held most to_do) l [] look (All-nil (IsLook held most to_do)));
      counted = ap (λ (t : Tally). with_map t (status o.verdict)) so.counted
          ∙ sym (counted_more none so.looks l);
      written = rw grown (Appends-trans before middle after (flat_map (look_text to_do) so.looks)
          (look_text to_do l) so.written written);
    }

names_more : (told : Told) (paths : List (List ℕ)) (path : List ℕ) (before middle after : List Target)
    → NamesAll told paths before middle → NamesPath told path middle after
    → NamesAll told (paths ++ path ∷ []) before after
names_more told [] path before middle after is more =
    (after, subst (λ (ts : List Target). NamesPath told path ts after) is more, refl)
names_more told (p ∷ paths) path before middle after is more =
    (is.0, is.1, names_more told paths path is.0 middle after is.2 more)

-- one path more
pub one_more_path : (told : Told) (paths : List (Bor (List ℕ))) (i : ℕ) (d : Bor (List ℕ))
    (before middle after : List Target) → i < length paths
    → NamesAll told (map (λ p. p.now) (take i paths)) before middle
    → NamesPath told (get_or paths i d).now middle after
    → NamesAll told (map (λ p. p.now) (take (i + 1) paths)) before after
one_more_path told paths i d before middle after within is more =
    let named = map-append (λ (p : Bor (List ℕ)). p.now) (take i paths) (get_or paths i d ∷ []) in
    rw (take_more paths i d within, named)
    (names_more told (map (λ p. p.now) (take i paths)) (get_or paths i d).now before middle after is more)

-- one change more
pub one_more_change : (changes : List (String Global)) (i : ℕ) (d : String Global)
    (before middle after : Option (List ℕ)) → i < length changes
    → Appends before middle (changes_text (take i changes))
    → Appends middle after (line (codes "  " ++ string_bytes (get_or changes i d)))
    → Appends before after (changes_text (take (i + 1) changes))
one_more_change changes i d before middle after within so more =
    let f : String Global → List ℕ = λ c. line (codes "  " ++ string_bytes c) in
    let x = get_or changes i d in
    let grown : changes_text (take (i + 1) changes) ≡ changes_text (take i changes) ++ f x =
    ap (λ (cs : List (String Global)). flat_map f cs) (take_more changes i d within)
    ∙ flat_map-append f (take i changes) (x ∷ [])
    ∙ ap (λ (t : List ℕ). flat_map f (take i changes) ++ t) (append-nil (f x)) in
    rw grown (Appends-trans before middle after (changes_text (take i changes)) (f x) so more)

-- no map yet
pub none_yet : (held : Held) (most : ℕ) (to_do : Work) (tally : Tally) (before : Option (List ℕ))
    → tally ≡ none → AreLookedAt held most to_do [] tally before before
none_yet held most to_do tally before is = record {
  looks = [];
  of_targets = refl;
  each = All-nil (IsLook held most to_do);
  counted = is;
  written = Appends-nil before;
}

-- what the words ask for
pub asked_done : {E : Type 0} (told : Told) (held : Held) (help version : List ℕ) (words : List (List ℕ))
    (a : Asked) (before after : Option (List ℕ)) (result : Result ℕ E) → IsAsked words a
    → IfOk result (IsAnswered told held help version a before after)
    → IfOk result (λ status. (x : Asked) × IsAsked words x
    × IsAnswered told held help version x before after status)
asked_done told held help version words a before after (Ok status) of done = (a, of, done)
asked_done told held help version words a before after (Err e) of done = tt
