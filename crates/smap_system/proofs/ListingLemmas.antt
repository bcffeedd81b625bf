-- What is gathered from the entries of folders, one after another.
use Rattle.std.proofs.Common.{ℕ, Bool, ◌≡◌, ◌∙◌, ◌+◌, ◌≤◌, ◌<◌, List, [], ◌++◌, ◌∷◌, None, Some, String, ap}
use Rattle.std.proofs.Common.{append-nil, append_assoc, arith, filter, flat_map, length, map, option_map}
use Rattle.std.proofs.Common.{refl, slice_get, string_bytes, subst, sym, take, true}
use Rattle.std.proofs.lemmas.Grind.{flat_map-append}
use Rattle.std.proofs.lemmas.List.{length-append, length-map, map-append, take-append-le, take_all, take_more}
use Rattle.std.proofs.lemmas.List.Elements.{All-push, filter-append}
use Rattle.std.proofs.lemmas.Option.{get_or_from_slice_get, slice_get-map, slice_get_within}
use Rattle.std.specs.List.{All}
use Rattle.std.specs.List.Sorted.{IsPermutation}
use Rattle.std.specs.Option.{is_some}
use Rattle.smap_system.specs.Paths.{joined}
use Rattle.smap_system.specs.Tree.{IsListed, NamedEntry, Told, Tree, entries_in, entry_in}
use Rattle.smap_system.specs.Walking.{AreBelow, AreFilesBelow, entries_at, files_in, folders_in, is_folder}
use Rattle.smap_system.specs.Walking.{is_wanted, known, texts}
use Rattle.smap_system.specs.declared.disk.Entry.{Entry}
use Rattle.smap_system.specs.declared.disk.Listing.{Listing}

pub take_at : {X : Type 0} (xs : List X) (i : ℕ) (x : X) → slice_get xs i ≡ Some x
    → take (i + 1) xs ≡ take i xs ++ x ∷ []
take_at xs i x at = take_more xs i x (slice_get_within xs i x at)
    ∙ ap (λ y. take i xs ++ y ∷ []) (get_or_from_slice_get xs i x x at)

-- one more of a list that is gone through
pub mapped_more : {X Y Z : Type 0} (f : X → Z) (g : Y → Z) (made new : List X) (ys : List Y) (i : ℕ) (x : X)
    (y : Y)
    → slice_get ys i ≡ Some y → new ≡ made ++ x ∷ [] → f x ≡ g y → map f made ≡ map g (take i ys)
    → map f new ≡ map g (take (i + 1) ys)
mapped_more f g made new ys i x y at is same done =
    rw (is, take_at ys i y at, map-append f made (x ∷ []), map-append g (take i ys) (y ∷ []), done, same) refl

-- The same of what is gathered.
pub gathered : {E X : Type 0} (of : List E → List X) → ((xs ys : List E) → of (xs ++ ys) ≡ of xs ++ of ys)
    → (es : List E) (i : ℕ) (e : E) (old now new : List X) → slice_get es i ≡ Some e → now ≡ old ++ of
    (take i es)
    → new ≡ now ++ of (e ∷ []) → new ≡ old ++ of (take (i + 1) es)
gathered of parts es i e old now new at done more =
    more ∙ ap (λ xs. xs ++ of (e ∷ [])) done ∙ append_assoc old (of (take i es)) (of (e ∷ []))
    ∙ ap (λ xs. old ++ xs) (sym (parts (take i es) (e ∷ [])) ∙ ap of (sym (take_at es i e at)))

pub folders_in-append : (folder : List ℕ) (xs ys : List NamedEntry)
    → folders_in folder (xs ++ ys) ≡ folders_in folder xs ++ folders_in folder ys
folders_in-append folder xs ys =
    ap (map (λ e. joined folder e.0)) (filter-append (λ e. is_folder e.1) xs ys)
    ∙ map-append (λ e. joined folder e.0) (filter (λ e. is_folder e.1) xs) (filter (λ e. is_folder e.1) ys)

module _ (t : Tree) (root : List ℕ) (ends : List ℕ → Bool) where
  pub files_in-append : (folder : List ℕ) (xs ys : List NamedEntry) → files_in t root ends folder (xs ++ ys)
      ≡ files_in t root ends folder xs ++ files_in t root ends folder ys
  files_in-append folder xs ys =
      ap (map (λ e. joined folder e.0)) (filter-append (is_wanted t root ends folder) xs ys)
      ∙ map-append (λ e. joined folder e.0) (filter (is_wanted t root ends folder) xs)
      (filter (is_wanted t root ends folder) ys)

  abbrev pub below : List ℕ → List (List ℕ)
  below f = folders_in f (entries_at t root f)

  abbrev pub own : List ℕ → List (List ℕ)
  own f = files_in t root ends f (entries_at t root f)

  abbrev pub IsReadable : List ℕ → Type 0
  IsReadable f = is_some (t.entries (joined root f)) ≡ true

  -- The first folders were read.
  pub record Walked (n : ℕ) (folders names : List (List ℕ)) : Type 0 where
    pub within : n ≤ length folders
    pub all : folders ≡ [] ∷ flat_map below (take n folders)
    pub names_are : names ≡ flat_map own (take n folders)
    pub can_be_read : All IsReadable (take n folders)

  pub walked_none : (folders names : List (List ℕ)) → folders ≡ [] ∷ [] → names ≡ [] → Walked 0 folders names
  walked_none folders names f n = record {
    within = omega arith;
    all = f;
    names_are = n;
    can_be_read = λ i d lt. absurd (omega (arith, lt));
  }

  pub walked_more : (n : ℕ) (folders names more_folders more_names : List (List ℕ)) (f : List ℕ)
      (es : List NamedEntry) → slice_get folders n ≡ Some f → t.entries (joined root f) ≡ Some es
      → more_folders ≡ folders ++ folders_in f es → more_names ≡ names ++ files_in t root ends f es
      → Walked n folders names → Walked (n + 1) more_folders more_names
  walked_more n folders names more_folders more_names f es at listed grown named w =
      let lt : n < length folders = slice_get_within folders n f at in
      let entries : entries_at t root f ≡ es = ap known listed in
      let front : take (n + 1) more_folders ≡ take n folders ++ f ∷ [] =
      ap (take (n + 1)) grown ∙ take-append-le (n + 1) folders (folders_in f es) (omega (arith, lt))
      ∙ take_at folders n f at in
      let last : (of : List ℕ → List (List ℕ)) → flat_map of (take (n + 1) more_folders)
      ≡ flat_map of (take n folders) ++ of f = λ of. ap (flat_map of) front
      ∙ flat_map-append of (take n folders) (f ∷ []) ∙ ap (λ xs. flat_map of (take n folders) ++ xs)
      (append-nil (of f)) in
      record {
        within = omega (arith, lt, ap length grown, length-append folders (folders_in f es));
        all = grown ∙ ap (λ fs. fs ++ folders_in f es) w.all
            ∙ ap (λ fs. [] ∷ fs) (ap (λ xs. flat_map below (take n folders) ++ folders_in f xs)
            (sym entries) ∙ sym (last below));
        names_are = named ∙ ap (λ ns. ns ++ files_in t root ends f es) w.names_are
            ∙ ap (λ xs. flat_map own (take n folders) ++ files_in t root ends f xs) (sym entries) ∙ sym
            (last own);
        can_be_read = subst (All IsReadable) (sym front)
            (All-push IsReadable (take n folders) f w.can_be_read (ap is_some listed));
      }

  pub walked_all : (n : ℕ) (folders names : List (List ℕ)) → length folders ≤ n → Walked n folders names
      → AreBelow t root ends names
  walked_all n folders names past w =
      let whole : take n folders ≡ folders = take_all n folders past in
      record {
        folders = folders;
        all = w.all ∙ ap (λ fs. [] ∷ flat_map below fs) whole;
        names_are = w.names_are ∙ ap (flat_map own) whole;
        can_be_read = subst (All IsReadable) whole w.can_be_read;
      }

pub are_files_below : {Z : Type 0} (told : Told) (root : List ℕ) (ends : List ℕ → Bool)
    (found names : List (String Z)) → ((t : Tree) → told ≡ Some t → AreBelow t root ends (texts found))
    → IsPermutation found names → AreFilesBelow told root ends names
are_files_below None root ends found names below same = tt
are_files_below (Some t) root ends found names below same = (found, same, below t refl)

pub entries_listed : (told : Told) (t : Tree) (path : List ℕ) (listing : Listing) → told ≡ Some t
    → IsListed told path listing → t.entries path ≡ Some (entries_in listing)
entries_listed told t path listing is listed = subst (λ o. IsListed o path listing) is listed

-- ---- the entries of a listing, one after another

pub entry_at : (listing : Listing) (i : ℕ) (e : Entry) → slice_get listing.entries.items i ≡ Some e
    → slice_get (entries_in listing) i ≡ Some (entry_in e)
entry_at listing i e at = slice_get-map entry_in listing.entries.items i ∙ ap (option_map entry_in) at

-- all of them were gone through
pub all_gathered : {X : Type 0} (of : List NamedEntry → List X) (listing : Listing) (i : ℕ) (old now : List X)
    → length listing.entries.items ≤ i → now ≡ old ++ of (take i (entries_in listing))
    → now ≡ old ++ of (entries_in listing)
all_gathered of listing i old now past done = done ∙ ap (λ es. old ++ of es)
    (take_all i (entries_in listing) (omega (arith, past, length-map listing.entries.items entry_in)))

pub past_texts : {Z : Type 0} (names : List (String Z)) (n : ℕ) → length names ≤ n → length (texts names) ≤ n
past_texts names n past = omega (arith, past, length-map names string_bytes)
