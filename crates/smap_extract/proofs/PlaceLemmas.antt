-- Paths that are taken one after another.
use Rattle.std.proofs.Common.{◌≡◌, ◌∙◌, sym, subst, refl, ℕ, ◌<◌, Bool, true, false, arith}
use Rattle.std.proofs.Common.{◌+◌, take, List, [], ◌∷◌, ◌++◌, bytes_eq, get_or, length, map}
use Rattle.std.specs.Global.{Vec}
use Rattle.std.specs.List.{All, AllZip, IsDistinct, list_any}
use Rattle.std.proofs.lemmas.Bool.{cond_both, or_right}
use Rattle.std.proofs.lemmas.List.{map-append}
use Rattle.std.proofs.lemmas.List.Elements.{All-cons, All-head, All-nil, All-push, All-tail}
use Rattle.std.proofs.lemmas.List.Elements.{all_zip_more}
use Rattle.std.proofs.lemmas.Cmp.{nat_list_eq_equiv}
use Rattle.std.proofs.lemmas.Map.Keys.{IsDistinct-push}
use Rattle.std.proofs.lemmas.List.Folds.{list_any-append}
use Rattle.std.proofs.lemmas.Slice.Eq.{bytes_eq-Decides}
use Rattle.indexmap.specs.IndexSet.{insert_key}
use Rattle.smap_extract.specs.Places.{AreApart, Has, HasFolders, IsFree, IsOneOf, IsPlaced, Keeps}
use Rattle.smap_extract.specs.Places.{folder_key}
use Rattle.smap_extract.specs.Places.{items_of, key}
use Rattle.smap_extract.specs.declared.path.SourcePath.{SourcePath}

abbrev pub same_key : Vec ℕ → Vec ℕ → Bool
same_key a b = bytes_eq a.items b.items

-- names of keys
pub among : (q : List ℕ) (ks : List (Vec ℕ))
    → list_any (bytes_eq q) (items_of ks) ≡ list_any (λ k. bytes_eq q k.items) ks
among q [] = refl
among q (k ∷ ks) = rw (among q ks) refl

pub own : (q : List ℕ) → bytes_eq q q ≡ true
own q = (bytes_eq-Decides q q).1 refl

pub added : (ks : List (Vec ℕ)) (k : Vec ℕ) → Has (items_of ks) (items_of (ks ++ k ∷ [])) k.items
added ks k =
    let split : items_of (ks ++ k ∷ []) ≡ items_of ks ++ k.items ∷ [] =
    map-append (λ (x : Vec ℕ). x.items) ks (k ∷ []) in (
      rw (split, list_any-append (bytes_eq k.items) (items_of ks) (k.items ∷ []), own k.items)
          (or_right (list_any (bytes_eq k.items) (items_of ks)) true refl),
      λ q there. rw (split, list_any-append (bytes_eq q) (items_of ks) (k.items ∷ []), there) refl,
    )

pub inserted : (ks : List (Vec ℕ)) (k : Vec ℕ)
    → Has (items_of ks) (items_of (insert_key same_key ks k)) k.items
inserted ks k = cond_both (list_any (same_key k) ks) ks (ks ++ k ∷ [])
    (λ after. Has (items_of ks) (items_of after) k.items)
    (λ there. (among k.items ks ∙ there, λ q was. was)) (λ _. added ks k)

-- what the names of a folder's text have stays
pub still : (before after : List (List ℕ)) (folder : List ℕ) → Keeps before after → HasFolders before folder
    → HasFolders after folder
still before after folder keeps has i lt at = keeps (folder_key folder i) (has i lt at)

pub all_still : (before after : List (List ℕ)) (ps : List SourcePath) → Keeps before after
    → All (λ p. HasFolders before p.folder.items) ps → All (λ p. HasFolders after p.folder.items) ps
all_still before after ps keeps has k d lt =
    still before after (get_or ps k d).folder.items keeps (has k d lt)

-- a path with a number is in the same folders
pub same_folders : (known : List (List ℕ)) (wanted placed : List SourcePath) → AllZip IsOneOf wanted placed
    → All (λ p. HasFolders known p.folder.items) wanted → All (λ p. HasFolders known p.folder.items) placed
same_folders known [] [] each has = has
same_folders known [] (p ∷ ps) each has = absurd each
same_folders known (w ∷ ws) [] each has = absurd each
same_folders known (w ∷ ws) (p ∷ ps) each has =
    All-cons (λ p. HasFolders known p.folder.items) p ps
    (subst (HasFolders known) (sym each.0.0) (All-head (λ p. HasFolders known p.folder.items) w ws has))
    (same_folders known ws ps each.1 (All-tail (λ p. HasFolders known p.folder.items) w ws has))

no_tie : (a b : List ℕ) (known : List (List ℕ)) → list_any (bytes_eq a) known ≡ true
    → list_any (bytes_eq b) known ≡ false → bytes_eq a b ≡ false
no_tie a b known there missing = grind (arith, bytes_eq-Decides a b)

pub apart : (known : List (List ℕ)) (ps : List SourcePath) → All (λ p. HasFolders known p.folder.items) ps
    → All (λ p. list_any (bytes_eq (key p)) known ≡ false) ps → AreApart ps
apart known ps has free j k i d lj lk li at =
    no_tie (folder_key (get_or ps j d).folder.items i) (key (get_or ps k d)) known
    (has j d lj i li at) (free k d lk)

-- a path that is free is taken
pub freed : (folders before : List (Vec ℕ)) (k : Vec ℕ) (p : SourcePath) → k.items ≡ key p
    → list_any (λ x. bytes_eq k.items x.items) folders ≡ false
    → list_any (λ x. bytes_eq k.items x.items) before ≡ false
    → IsFree (items_of folders) (items_of before) (items_of (insert_key same_key before k)) p
freed folders before k p is no_folder not_taken =
    let split : items_of (before ++ k ∷ []) ≡ items_of before ++ k.items ∷ [] =
    map-append (λ (x : Vec ℕ). x.items) before (k ∷ []) in
    record {
      no_folder = rw (← is, among k.items folders) no_folder;
      not_taken = rw (← is, among k.items before) not_taken;
      taken = rw (not_taken, split, is) refl;
    }

-- ---- one after another

pub record StandsAt (known taken : List (List ℕ)) (wanted placed : List SourcePath) : Type 0 where
  pub each : AllZip IsOneOf wanted placed
  pub keys : taken ≡ map key placed
  pub distinct : IsDistinct bytes_eq (map key placed)
  pub free : All (λ p. list_any (bytes_eq (key p)) known ≡ false) placed

none-distinct : IsDistinct bytes_eq []
unfolding IsDistinct
none-distinct = tt

pub none_yet : (known taken : List (List ℕ)) (placed : List SourcePath) → taken ≡ [] → placed ≡ []
    → StandsAt known taken [] placed
none_yet known taken placed empty none = rw (empty, none) (record {
  each = tt;
  keys = refl;
  distinct = none-distinct;
  free = All-nil (λ p. list_any (bytes_eq (key p)) known ≡ false);
})

pub one_more : (known before after : List (List ℕ)) (wanted placed more : List SourcePath) (i : ℕ)
    (w p : SourcePath) → i < length wanted → w ≡ get_or wanted i w → more ≡ placed ++ p ∷ []
    → IsPlaced known before after w p → StandsAt known before (take i wanted) placed
    → StandsAt known after (take (i + 1) wanted) more
one_more known before after wanted placed more i w p lt item put now was =
    let split : map key (placed ++ p ∷ []) ≡ map key placed ++ key p ∷ [] = map-append key placed (p ∷ []) in
    let absent : list_any (bytes_eq (key p)) (map key placed) ≡ false = rw (← was.keys) now.free.not_taken in
    rw put (record {
      each = all_zip_more IsOneOf wanted placed i w p lt item was.each now.one;
      keys = rw (split, ← was.keys) now.free.taken;
      distinct = subst (IsDistinct bytes_eq) (sym split)
          (IsDistinct-push nat_list_eq_equiv (map key placed) (key p) was.distinct absent);
      free = All-push (λ p. list_any (bytes_eq (key p)) known ≡ false) placed p was.free now.free.no_folder;
    })
