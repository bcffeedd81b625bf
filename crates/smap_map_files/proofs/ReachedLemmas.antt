-- What was reached by what a file holds and what that names.
use Rattle.std.proofs.Common.{◌≡◌, ◌⊎◌, ◌<◌, inl, inr, cond, List, ℕ, Bool, true, false, Option, Some, None}
use Rattle.std.specs.Prelude.{is_some}
use Rattle.std.proofs.Common.{Result, Ok, Err, IfOk, IfSome, IsSome, MatchOption, ap, refl}
use Rattle.std.specs.Global.{Vec}
use Rattle.smap_system.specs.Held.{Held, IsHeld}
use Rattle.smap_map_choice.specs.Places.{MapPlace}
use Rattle.smap_link.specs.Kinds.{file_kind}
use Rattle.smap_mappings.specs.Widths.{script_widths}
use Rattle.smap_record.specs.Record.{ReadMap}
use Rattle.smap_map_files.specs.declared.loading.Content.TheVariants as content
use Rattle.smap_map_files.specs.declared.loading.Loaded.{Loaded}
use Rattle.smap_map_files.specs.declared.loading.Loaded.TheVariants as loaded
use Rattle.smap_map_files.specs.declared.loading.MapFault.{MapFault}
use Rattle.smap_map_files.specs.declared.loading.Reading.{Reading}
use Rattle.smap_map_files.specs.Given.{Folder, Holds, IsContent, IsLoaded, IsLoadedTo, IsMadeOf, IsRead}
use Rattle.smap_map_files.specs.Given.{IsReadTo, IsUnread, Names, NamesNothing, NamesUnfound}
use Rattle.smap_map_files.specs.Given.{ended_loaded, ends_of, folder_for, has_lines, linked_base}
use Rattle.smap_map_files.specs.Opened.{AreEnds, GivesNone, IsFollowedUp, IsLeftOut, IsLink, IsOpened}
use Rattle.smap_map_files.specs.Opened.{IsReached}
use Rattle.smap_map_files.specs.Opened.{may_lie_beside, script_beside, with_base, within_base}

-- ---- what became of a file

pub made_read : (how : Reading) (held : Held) (place : MapPlace) (bytes : List ℕ) (it : Loaded)
    → IsHeld held place.file bytes → IsRead how place.base bytes it → IsMadeOf (IsLoaded how) held place it
made_read how None place bytes it is read = tt
made_read how (Some held) place bytes it is read = inr (bytes, is, read)

pub held_bytes : (held : Held) (place : MapPlace) (bytes : Vec ℕ)
    → IsMadeOf IsContent held place (content.Bytes bytes) → IsHeld held place.file bytes.items
held_bytes None place bytes made = tt
held_bytes (Some held) place bytes made = made

pub held_text : (held : Held) (place : MapPlace) (text : Vec ℕ)
    → IsMadeOf IsContent held place (content.Script text) → IsHeld held place.file text.items
held_text None place text made = tt
held_text (Some held) place text made = made

-- ---- where a map ends

pub no_ends : (root : Option Folder) (script text : List ℕ) → has_lines (file_kind script) ≡ false
    → None ≡ ends_of root script text
no_ends None script text e = refl
no_ends (Some folder) script text e = rw e refl

pub script_ends : (root : Option Folder) (script text : List ℕ) → is_some root ≡ true
    → has_lines (file_kind script) ≡ true → ends_of root script text ≡ script_widths text
script_ends None script text some e = cc
script_ends (Some folder) script text some e = rw e refl

read_whole : (how : Reading) (url bytes : List ℕ) (it : Loaded) → IsRead how url bytes it
    → IsReadTo how url bytes None it
read_whole how url bytes (loaded.Map m) read = (m, (read, refl))
read_whole how url bytes (loaded.Mended m why) read = (m, (read, refl))
read_whole how url bytes (loaded.Broken e) read = read

pub read_to : (how : Reading) (url bytes : List ℕ) (ends : Option (List ℕ)) (it new : Loaded)
    → IsRead how url bytes it → new ≡ ended_loaded ends it → IsReadTo how url bytes ends new
read_to how url bytes ends (loaded.Map m) new read e = rw e (m, (read, refl))
read_to how url bytes ends (loaded.Mended m why) new read e = rw e (m, (read, refl))
read_to how url bytes ends (loaded.Broken fault) new read e = rw e read

still_unread : (ends : Option (List ℕ)) (it new : Loaded) → IsUnread it → new ≡ ended_loaded ends it
    → IsUnread new
still_unread ends (loaded.Map m) new unread e = elim unread [ ]
still_unread ends (loaded.Mended m why) new unread e = elim unread [ ]
still_unread ends (loaded.Broken fault) new unread e = rw e unread

pub loaded_to : (how : Reading) (ends : Option (List ℕ)) (held : Held) (place : MapPlace) (it new : Loaded)
    → IsMadeOf (IsLoaded how) held place it → new ≡ ended_loaded ends it
    → IsMadeOf (IsLoadedTo how ends) held place new
loaded_to how ends None place it new made e = tt
loaded_to how ends (Some held) place it new (inl unread) e = inl (still_unread ends it new unread e)
loaded_to how ends (Some held) place it new (inr made) e =
    inr (made.0, made.1, read_to how place.base made.0 ends it new made.2 e)

-- ---- what was reached

pub reached_unread : (how : Reading) (held : Held) (root : Option Folder) (has_base : Bool) (place : MapPlace)
    (why : MapFault) → IsMadeOf IsContent held place (content.Unread why)
    → IsFollowedUp how held root has_base place (loaded.Broken why)
reached_unread how None root has_base place why made = tt
reached_unread how (Some held) root has_base place why made = inl made

pub reached_itself : (how : Reading) (held : Held) (root : Option Folder) (has_base : Bool) (place : MapPlace)
    (text : List ℕ) (it : Loaded) → IsHeld held place.file text → IsRead how place.base text it
    → IsFollowedUp how held root has_base place it
reached_itself how None root has_base place text it is read = tt
reached_itself how (Some held) root has_base place text it is read = inr (inr (record {
  base = place.base;
  bytes = text;
  ends = None;
  gives = inl ((is, refl), refl);
  read = read_whole how place.base text it read;
}))

pub reached_within : (how : Reading) (held : Held) (root : Option Folder) (has_base : Bool) (place : MapPlace)
    (text bytes : List ℕ) (ends : Option (List ℕ)) (it : Loaded) → IsHeld held place.file text
    → Holds place.file text bytes → ends ≡ ends_of root place.file text
    → IsReadTo how (within_base has_base place) bytes ends it → IsFollowedUp how held root has_base place it
reached_within how None root has_base place text bytes ends it is holds w read = tt
reached_within how (Some held) root has_base place text bytes ends it is holds w read = inr (inr (record {
  base = within_base has_base place;
  bytes = bytes;
  ends = ends;
  gives = inr (inl (record { text = text; held_is = is; holds = holds; base_is = refl; ends_are = w }));
  read = read;
}))

pub reached_beside : (how : Reading) (held : Held) (root : Option Folder) (has_base : Bool)
    (place found : MapPlace) (text : List ℕ) (ends : Option (List ℕ)) (it : Loaded)
    → IsHeld held place.file text → (names : Names (folder_for root place) place.file text found.file)
    → found.base ≡ linked_base place names.url → ends ≡ ends_of root place.file text
    → IsMadeOf (IsLoadedTo how ends) held (with_base has_base place.base found) it
    → IsFollowedUp how held root has_base place it
reached_beside how None root has_base place found text ends it is names own w made = tt
reached_beside how (Some held) root has_base place found text ends it is names own w (inl u) = inl u
reached_beside how (Some held) root has_base place found text ends it is names own w (inr made) =
    inr (inr (record {
      base = cond has_base place.base found.base;
      bytes = made.0;
      ends = ends;
      gives = inr (inr (record {
        text = text;
        held_is = is;
        file = found.file;
        names = names;
        bytes_are = made.1;
        base_is = ap (cond has_base place.base) own;
        ends_are = w;
      }));
      read = made.2;
    }))

pub reached_ended : (how : Reading) (held : Held) (root : Option Folder) (has_base : Bool) (place : MapPlace)
    (text : List ℕ) (ends : Option (List ℕ)) (it : Loaded) → IsHeld held place.file text
    → AreEnds held root place ends → IsReadTo how place.base text ends it
    → IsReached how held root has_base place it
reached_ended how None root has_base place text ends it is are read = tt
reached_ended how (Some held) root has_base place text ends it is (inl none) read = inr (inr (record {
  base = place.base;
  bytes = text;
  ends = ends;
  gives = inl (inl ((is, refl), none));
  read = read;
}))
reached_ended how (Some held) root has_base place text ends it is (inr are) read = inr (inr (record {
  base = place.base;
  bytes = text;
  ends = ends;
  gives = inr (inl ((is, refl), are));
  read = read;
}))

pub reached_link : (how : Reading) (held : Held) (root : Option Folder) (has_base : Bool) (place : MapPlace)
    (text : List ℕ) (it : Loaded) → IsHeld held place.file text
    → NamesUnfound (folder_for root place) place.file text → (root ≡ None) × IsLink it
    → IsFollowedUp how held root has_base place it
reached_link how None root has_base place text it is names link = tt
reached_link how (Some held) root has_base place text it is names link = inr (inl (record {
  is_link = link.1;
  no_root = link.0;
  text = text;
  held_is = is;
  names = names;
}))

-- what the file of a place gives by itself, and, of a map, what the script next to it does
pub reached_itself_by : (how : Reading) (held : Held) (root : Option Folder) (has_base : Bool)
    (place : MapPlace) (it : Loaded) → IsFollowedUp how held root has_base place it
    → IsReached how held root has_base place it
reached_itself_by how None root has_base place it up = tt
reached_itself_by how (Some held) root has_base place it (inl unread) = inl unread
reached_itself_by how (Some held) root has_base place it (inr (inl unlinked)) = inr (inl unlinked)
reached_itself_by how (Some held) root has_base place it (inr (inr given)) = inr (inr (record {
  base = given.base;
  bytes = given.bytes;
  ends = given.ends;
  gives = inl given.gives;
  read = given.read;
}))

no_folder : (root : Option Folder) (place : MapPlace) → may_lie_beside root place ≡ true → root ≡ None → ⊥
no_folder None place lies is = cc
no_folder (Some root) place lies is = cc

pub reached_by_script : (how : Reading) (held : Held) (root : Option Folder) (has_base : Bool)
    (place : MapPlace) (it : Loaded) → may_lie_beside root place ≡ true
    → IsFollowedUp how held root has_base (script_beside place) it
    → IsReached how held root has_base place it
reached_by_script how None root has_base place it lies up = tt
reached_by_script how (Some held) root has_base place it lies (inl unread) = inl unread
reached_by_script how (Some held) root has_base place it lies (inr (inl unlinked)) =
    absurd (no_folder root place lies unlinked.no_root)
reached_by_script how (Some held) root has_base place it lies (inr (inr given)) = inr (inr (record {
  base = given.base;
  bytes = given.bytes;
  ends = given.ends;
  gives = inr (inr (lies, given.gives));
  read = given.read;
}))

-- the same, of a script that is the one next to the map by equations
pub script_gives : (how given : Reading) (held : Held) (root home : Option Folder) (has_base with : Bool)
    (place script : MapPlace) (it : Loaded) → may_lie_beside root place ≡ true → script ≡ script_beside place
    → home ≡ root → with ≡ has_base → given ≡ how
    → IsFollowedUp given held home with script it → IsReached how held root has_base place it
script_gives how given held root home has_base with place script it lies s r b m up =
    reached_by_script how held root has_base place it lies (rw (m, r, b, s) at up)

pub left_out : (held : Held) (root : Option Folder) (place : MapPlace) (text : List ℕ)
    → IsHeld held place.file text
    → NamesNothing place.file text ⊎ NamesUnfound (folder_for root place) place.file text → IsSome root
    → IsLeftOut held root place
left_out held None place text is names some = absurd cc
left_out held (Some folder) place text is names some = record {
  folder = folder;
  root_is = refl;
  text = text;
  text_is = is;
  names = names;
}

-- ---- a map, or none

-- it is that of its text, or of its mended one
abbrev pub Is : Loaded → ReadMap → Type 0
Is it m = (it ≡ loaded.Map m) ⊎ ((why : MapFault) × (it ≡ loaded.Mended m why))

opened_map : (how : Reading) (held : Held) (root : Option Folder) (has_base : Bool) (place : MapPlace)
    (it : Loaded) (m : ReadMap) → IsReached how held root has_base place it → Is it m
    → IsOpened how held root has_base place m
opened_map how None root has_base place it m reached is = tt
opened_map how (Some held) root has_base place it m (inl unread) (inl e) = elim (rw e at unread) [ ]
opened_map how (Some held) root has_base place it m (inl unread) (inr e) = elim (rw e.1 at unread) [ ]
opened_map how (Some held) root has_base place it m (inr (inl unlinked)) (inl e) =
    elim (rw e at unlinked.is_link) [ ]
opened_map how (Some held) root has_base place it m (inr (inl unlinked)) (inr e) =
    elim (rw e.1 at unlinked.is_link) [ ]
opened_map how (Some held) root has_base place it m (inr (inr given)) (inl e) = inl (rw e at given)
opened_map how (Some held) root has_base place it m (inr (inr given)) (inr e) = inr (e.0, rw e.1 at given)

-- what is said of what was loaded
abbrev pub IsTold : Loaded → ℕ → Option ReadMap → Type 0
IsTold it worst found =
    MatchOption found ((why : MapFault) × ((it ≡ loaded.Broken why) × (0 < worst))) (Is it)

told : (how : Reading) (held : Held) (root : Option Folder) (has_base : Bool) (place : MapPlace) (it : Loaded)
    (worst : ℕ) (found : Option ReadMap) → IsReached how held root has_base place it → IsTold it worst found
    → MatchOption found (GivesNone how held root has_base place worst)
    (IsOpened how held root has_base place)
told how held root has_base place it worst None reached is =
    inr (record { is_bad = is.1.1; why = is.0; reached = rw is.1.0 at reached })
told how held root has_base place it worst (Some m) reached is =
    opened_map how held root has_base place it m reached is

pub settled : {E : Type 0} (how : Reading) (held : Held) (root : Option Folder) (has_base : Bool)
    (place : MapPlace) (it : Loaded) (worst : ℕ) (result : Result (Option ReadMap) E)
    → IsReached how held root has_base place it → IfOk result (IsTold it worst)
    → IfOk result
    (λ found.
    MatchOption found (GivesNone how held root has_base place worst)
    (IsOpened how held root has_base place))
settled how held root has_base place it worst (Ok found) reached is =
    told how held root has_base place it worst found reached is
settled how held root has_base place it worst (Err e) reached is = tt

pub if_both : {A E P Q : Type 0} {R S : A → Type 0} (result : Result (Option A) E) → (P → Q)
    → ((a : A) → R a → S a)
    → IfOk result (λ found. MatchOption found P R) → IfOk result (λ found. MatchOption found Q S)
if_both (Ok (Some a)) f g p = g a p
if_both (Ok None) f g p = f p
if_both (Err e) f g p = tt

-- what is said of an answer, and of what it may hold
pub of_ok : {A E : Type 0} {R S : A → Type 0} (result : Result A E) → ((a : A) → R a → S a)
    → IfOk result R → IfOk result S
of_ok (Ok a) f p = f a p
of_ok (Err e) f p = tt

pub if_some : {A : Type 0} {R S : A → Type 0} (found : Option A) → ((a : A) → R a → S a)
    → IfSome found R → IfSome found S
if_some (Some a) f p = f a p
if_some None f p = tt

-- the lines of a script next to a map
pub ends_beside : (held : Held) (root home : Option Folder) (place script : MapPlace) (text : List ℕ)
    (ends : Option (List ℕ)) → may_lie_beside root place ≡ true → script ≡ script_beside place → home ≡ root
    → IsHeld held script.file text → ends ≡ ends_of home script.file text → AreEnds held root place ends
ends_beside None root home place script text ends lies s r is e = tt
ends_beside (Some held) root home place script text ends lies s r is e = inr (record {
  lies = lies;
  text = text;
  held_is = rw s at is;
  ends_are = rw (r, s) at e;
})
