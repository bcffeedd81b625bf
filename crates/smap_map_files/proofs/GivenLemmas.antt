-- What is added of a folder, one name at a time.
use Rattle.std.proofs.Common.{◌≡◌, ◌∙◌, ℕ, ◌+◌, ◌≤◌, Bool, true, false, not, ◌&&◌, ◌||◌, List, [], ◌∷◌}
use Rattle.std.proofs.Common.{◌++◌, ap, sym, refl, arith, cond, filter, length}
use Rattle.std.proofs.Common.{Bor, Some, append-nil, append_assoc, drop, map, slice_get}
use Rattle.std.proofs.Math.Bool.{or-false}
use Rattle.std.proofs.Common.{◌≢◌, ◌<◌, ◌-◌, length-take-le, slice_index, take, Global, String, option_map}
use Rattle.std.proofs.Common.{string_bytes}
use Rattle.std.proofs.lemmas.List.{drop_all, get_or-take, length-map, map-append, take_all}
use Rattle.std.proofs.lemmas.Option.{slice_get-map}
use Rattle.std.specs.Str.{bytes_eq}
use Rattle.smap_link.specs.Ends.{stem}
use Rattle.smap_link.specs.Kinds.{is_map}
use Rattle.smap_map_choice.specs.Places.{MapPlace, below}
use Rattle.smap_map_files.specs.Chosen.{beside_flag, holds}
use Rattle.smap_map_files.specs.Lists.{Lists, folder_named, has_own_map, wanted_names}
use Rattle.smap_map_files.specs.Lists.{with_files, with_places, Folder, folder_in, own_folder, texts}
use Rattle.smap_map_files.specs.Lists.{with_folder, with_folder_alone, with_root}
use Rattle.smap_map_files.specs.Naming.{IsPath}
use Rattle.smap_map_files.specs.declared.wanted.Root.{Root}
use Rattle.smap_map_files.specs.declared.wanted.Origin.{Origin}
use Rattle.smap_map_files.specs.declared.wanted.Origin.TheVariants.{Below}
use Rattle.smap_map_files.proofs.ListLemmas.{beside_flag-map, drop_at}

-- ---- the maps that stand beside their scripts

abbrev pub AreMappedUpTo : List (List ℕ) → ℕ → List (Bor (List ℕ)) → Type 0
AreMappedUpTo names i keys = (name : List ℕ) → (holds keys name || has_own_map (drop i names) name)
    ≡ has_own_map names name

pub mapped_passed : (names : List (List ℕ)) (i : ℕ) (keys : List (Bor (List ℕ))) (m : List ℕ)
    → slice_get names i ≡ Some m → is_map m ≡ false → AreMappedUpTo names i keys → AreMappedUpTo names
    (i + 1) keys
mapped_passed names i keys m at other h = λ name.
    let e : has_own_map (drop i names) name ≡ has_own_map (drop (i + 1) names) name =
    ap (λ ms. has_own_map ms name) (drop_at names i m at)
    ∙ ap (λ b. (b && bytes_eq name (stem m)) || has_own_map (drop (i + 1) names) name) other in
    ap (λ b. holds keys name || b) (sym e) ∙ h name

or_moved : (a b c : Bool) → ((a || b) || c) ≡ (a || (b || c))
or_moved true b c = refl
or_moved false b c = refl

pub mapped_added : (names : List (List ℕ)) (i : ℕ) (keys new : List (Bor (List ℕ))) (m : List ℕ)
    → slice_get names i ≡ Some m → is_map m ≡ true
    → ((other : List ℕ) → holds new other ≡ (holds keys other || bytes_eq other (stem m)))
    → AreMappedUpTo names i keys → AreMappedUpTo names (i + 1) new
mapped_added names i keys new m at is more h = λ name.
    let rest = has_own_map (drop (i + 1) names) name in
    let e : has_own_map (drop i names) name ≡ (bytes_eq name (stem m) || rest) =
    ap (λ ms. has_own_map ms name) (drop_at names i m at) ∙ ap (λ b. (b && bytes_eq name
    (stem m)) || rest) is in
    ap (λ b. b || rest) (more name) ∙ or_moved (holds keys name) (bytes_eq name (stem m)) rest
    ∙ ap (λ b. holds keys name || b) (sym e) ∙ h name

pub mapped_all : (names : List (List ℕ)) (i : ℕ) (keys : List (Bor (List ℕ))) → length names ≤ i
    → AreMappedUpTo names i keys → (name : List ℕ) → holds keys name ≡ has_own_map names name
mapped_all names i keys past h name =
    sym (or-false (holds keys name)) ∙ ap (λ ms. holds keys name || has_own_map ms name) (sym
    (drop_all i names past))
    ∙ h name

-- those beside the flags that a test sets are those that pass it
pub beside_test : {A : Type 0} (p : A → Bool) (xs : List A) → beside_flag true (map p xs) xs ≡ filter p xs
beside_test p [] = refl
beside_test p (x ∷ xs) = ap (λ ys. cond (p x) (x ∷ ys) ys) (beside_test p xs)

-- ---- places in a folder

pub same_lists : (a b : Lists) → a.places ≡ b.places → a.origins ≡ b.origins → a.files ≡ b.files
    → a.file_roots ≡ b.file_roots → a.folders ≡ b.folders → a.logs ≡ b.logs
    → a.scripts ≡ b.scripts → a.positions ≡ b.positions → a ≡ b
same_lists a b p o f r d l s w = λ j. record {
  places = p j;
  origins = o j;
  files = f j;
  file_roots = r j;
  folders = d j;
  logs = l j;
  scripts = s j;
  positions = w j;
}

pub no_places : (number : ℕ) (b : Lists) → with_places number [] b ≡ b
no_places number b = same_lists (with_places number [] b) b (append-nil b.places)
    (append-nil b.origins) refl refl refl refl refl refl

pub places_more : (number : ℕ) (ps qs : List MapPlace) (b : Lists)
    → with_places number (ps ++ qs) b ≡ with_places number qs (with_places number ps b)
places_more number ps qs b = same_lists _ _ (sym (append_assoc b.places ps qs))
    (ap (λ (os : List Origin). b.origins ++ os) (map-append (λ (p : MapPlace). Below number) ps qs)
    ∙ sym (append_assoc b.origins (map (λ p. Below number) ps) (map
    (λ p. Below number) qs))) refl refl refl refl refl refl

named_more : (url path name : List ℕ) (names : List (List ℕ))
    → folder_named url path (name ∷ names) ≡ folder_named url path (name ∷ []) ++ folder_named url path names
named_more url path name names = refl

-- those that were gone through, and those to come
pub below_more : (url path : List ℕ) (number i : ℕ) (names : List (List ℕ)) (name : List ℕ)
    (now new whole : Lists)
    → slice_get names i ≡ Some name → new ≡ with_places number (folder_named url path (name ∷ [])) now
    → with_places number (folder_named url path (drop i names)) now ≡ whole
    → with_places number (folder_named url path (drop (i + 1) names)) new ≡ whole
below_more url path number i names name now new whole at added h =
    let rest = folder_named url path (drop (i + 1) names) in
    ap (with_places number rest) added ∙ sym (places_more number (folder_named url path (name ∷ [])) rest now)
    ∙ ap (λ ps. with_places number ps now) (sym (named_more url path name (drop (i + 1) names))
    ∙ ap (folder_named url path) (sym (drop_at names i name at))) ∙ h

pub below_all : (url path : List ℕ) (number i : ℕ) (names : List (List ℕ)) (now whole : Lists)
    → length names ≤ i
    → with_places number (folder_named url path (drop i names)) now ≡ whole → now ≡ whole
below_all url path number i names now whole past h =
    sym (no_places number now) ∙ ap (λ ns. with_places number (folder_named url path ns) now) (sym
    (drop_all i names past))
    ∙ h

-- ---- files in a folder

no_files : (number : ℕ) (b : Lists) → with_files number [] b ≡ b
no_files number b = same_lists (with_files number [] b) b refl refl (append-nil b.files)
    (append-nil b.file_roots) refl refl refl refl

pub files_more : (path : List ℕ) (number i : ℕ) (names : List (List ℕ)) (name : List ℕ)
    (now new whole : Lists)
    → slice_get names i ≡ Some name → new ≡ with_files number (below path name ∷ []) now
    → with_files number (map (below path) (drop i names)) now ≡ whole
    → with_files number (map (below path) (drop (i + 1) names)) new ≡ whole
files_more path number i names name now new whole at added h =
    let rest = map (below path) (drop (i + 1) names) in
    ap (with_files number rest) added
    ∙ same_lists (with_files number rest (with_files number (below path name ∷ []) now))
    (with_files number (below path name ∷ rest) now) refl refl
    (append_assoc now.files (below path name ∷ []) rest)
    (append_assoc now.file_roots (number ∷ []) (map (λ file. number) rest)) refl refl refl refl
    ∙ ap (λ ns. with_files number (map (below path) ns) now) (sym (drop_at names i name at)) ∙ h

pub files_all : (path : List ℕ) (number i : ℕ) (names : List (List ℕ)) (now whole : Lists) → length names ≤ i
    → with_files number (map (below path) (drop i names)) now ≡ whole → now ≡ whole
files_all path number i names now whole past h =
    sym (no_files number now) ∙ ap (λ ns. with_files number (map (below path) ns) now) (sym
    (drop_all i names past)) ∙ h

-- ---- names

pub text_at : (names : List (String Global)) (i : ℕ) (name : String Global) → slice_get names i ≡ Some name
    → slice_get (texts names) i ≡ Some (string_bytes name)
text_at names i name at = slice_get-map string_bytes names i ∙ ap (option_map string_bytes) at

pub past_texts : (names : List (String Global)) (i : ℕ) → length names ≤ i → length (texts names) ≤ i
past_texts names i past = omega (arith, length-map names string_bytes, past)

pub unmapped_chosen : (names wanted : List (String Global)) (flags : List Bool)
    → flags ≡ map (λ name. not (has_own_map (texts names) name)) (texts names)
    → wanted ≡ beside_flag true flags names → texts wanted ≡ wanted_names (texts names)
unmapped_chosen names wanted flags f w =
    ap (λ (ns : List (String Global)). texts ns) w ∙ beside_flag-map true string_bytes flags names
    ∙ ap (λ fs. beside_flag true fs (texts names)) f
    ∙ beside_test (λ name. not (has_own_map (texts names) name)) (texts names)

-- ---- whole folders

pub folder_added : (url path : List ℕ) (names : List (List ℕ)) (b between a : Lists) (root : Root)
    (number : ℕ)
    → folder_in root ≡ (url, path) → number ≡ length b.folders
    → between ≡ with_places number (folder_named root.url.items (string_bytes root.path) names) b
    → a ≡ with_root (folder_in root) between → a ≡ with_folder url path names b
folder_added url path names b between a root number is n mid e =
    e ∙ ap (λ f. with_root f between) is ∙ ap (with_root (url, path)) (mid
    ∙ ap (λ (f : Folder). with_places number (folder_named f.0 f.1 names) b) is
    ∙ ap (λ k. with_places k (folder_named url path names) b) n)

pub alone_added : (path : List ℕ) (names : List (List ℕ)) (b between a : Lists) (root : Root) (number : ℕ)
    → folder_in root ≡ (own_folder, path) → number ≡ length b.folders
    → between ≡ with_files number (map (below path) names) b
    → a ≡ with_root (folder_in root) between → a ≡ with_folder_alone path names b
alone_added path names b between a root number is n mid e =
    e ∙ ap (λ f. with_root f between) is ∙ ap (with_root (own_folder, path)) (mid
    ∙ ap (λ k. with_files k (map (below path) names) b) n)

-- ---- the name of a folder

pub is_path : (given path : List ℕ) (at : ℕ) → at ≤ length given → path ≡ take at given
    → ((k : ℕ) → at ≤ k → k < length given → slice_index given k ≡ 47)
    → (1 < at → slice_index given (at - 1) ≢ 47) → (0 < length given → 0 < at) → IsPath given path
is_path given path at inside is slashes other some =
    let long : length path ≡ at = ap length is ∙ omega (arith, length-take-le at given inside) in
    record {
      front = is ∙ ap (λ n. take n given) (sym long);
      slashes = λ k from lt. slashes k (omega (arith, long, from)) lt;
      own = λ more slash. other (omega (arith, long, more))
          (sym (ap (λ n. slice_index path (n - 1)) long ∙ ap (λ p. slice_index p (at - 1)) is
          ∙ get_or-take at given (at - 1) 0 (omega (arith, long, more))) ∙ slash);
      some = λ any. omega (arith, long, some any);
    }

pub whole_path : (given : List ℕ) (at : ℕ) → at ≤ length given → length given ≤ at
    → ((k : ℕ) → at ≤ k → k < length given → slice_index given k ≡ 47)
    → (1 < at → slice_index given (at - 1) ≢ 47) → (0 < length given → 0 < at) → IsPath given given
whole_path given at inside all slashes other some =
    is_path given given at inside (sym (take_all at given all)) slashes other some
