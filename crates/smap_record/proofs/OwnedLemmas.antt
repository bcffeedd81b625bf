-- Contents that are handed over one by one.
use Rattle.std.proofs.Common.{◌≡◌, ℕ, zero, suc, ◌+◌, ◌-◌, ◌<◌, List, [], ◌∷◌, ◌++◌, length, take, drop}
use Rattle.std.proofs.Common.{replicate, Option, Some, None, slice_get, ap, refl, sym, ◌∙◌, arith}
use Rattle.std.proofs.Math.Seq.{drop-nil}
use Rattle.std.proofs.lemmas.Option.{slice_get-get_or}
use Rattle.std.proofs.lemmas.List.{drop-drop, get_or-replicate, length-replicate, take_at}
use Rattle.url.specs.Parts.{Parts}
use Rattle.smap_mappings.specs.declared.position.Position.{Position}
use Rattle.smap_shape.specs.Members.{Flat, fitted}
use Rattle.smap_shape.specs.Contents.{with_contents}
use Rattle.smap_record.specs.Record.{Listing, Allowed}
use Rattle.smap_record.specs.Flat.{entries_from, listed_flat}
use Rattle.smap_record.specs.Owned.{first_of}
use Rattle.smap_record.proofs.FlatLemmas.{same_entries}

-- ---- one for each source

taken_at : {A : Type 0} (xs : List A) (n i : ℕ) → i < n → slice_get (take n xs) i ≡ slice_get xs i
taken_at xs zero i h = absurd (omega (arith, h))
taken_at [] (suc n) i h = refl
taken_at (x ∷ xs) (suc n) zero h = refl
taken_at (x ∷ xs) (suc n) (suc i) h = taken_at xs n i (omega (arith, h))

padded_at : {A : Type 0} (xs : List (Option A)) (k i : ℕ)
    → i < length xs + k → slice_get (xs ++ replicate k None) i ≡ Some (first_of (drop i xs))
padded_at {A} [] k i h =
    let none : Option A = None in
    let long = length-replicate k none in
    slice_get-get_or (replicate k none) i none (omega (arith, h, long))
    ∙ ap Some (get_or-replicate k i none none (omega (arith, h))
    ∙ ap first_of (sym (drop-nil {A = Option A} i)))
padded_at (x ∷ xs) k zero h = refl
padded_at (x ∷ xs) k (suc i) h = padded_at xs k i (omega (arith, h))

-- the content of a source is the first of those that are left
pub fitted_at : {A : Type 0} (xs : List (Option A)) (n i : ℕ)
    → i < n → slice_get (fitted n xs) i ≡ Some (first_of (drop i xs))
fitted_at xs n i h =
    taken_at (xs ++ replicate (n - length xs) None) n i h ∙ padded_at xs (n - length xs) i (omega (arith, h))

-- one less is left
pub one_less : {A : Type 0} (xs ys : List A) (i : ℕ) → ys ≡ drop i xs → drop 1 ys ≡ drop (i + 1) xs
one_less xs ys i same = ap (drop 1) same ∙ drop-drop 1 i xs

-- ---- contents that are copied

-- as many as there are sources are read
enough : (base : Parts) (root : Option (List ℕ)) (ignored : List ℕ) (i : ℕ) (ss cs : List (Option (List ℕ)))
    → entries_from base root ignored i ss (take (length ss) cs) ≡ entries_from base root ignored i ss cs
unfolding entries_from
enough base root ignored i [] [] = refl
enough base root ignored i [] (c ∷ cs) = refl
enough base root ignored i (s ∷ ss) [] = refl
enough base root ignored i (s ∷ ss) (c ∷ cs) = rw (enough base root ignored (i + 1) ss cs) refl

fitted_whole : {A : Type 0} (n : ℕ) (xs : List (Option A)) → length xs ≡ n → fitted n xs ≡ xs
fitted_whole n xs long = take_at xs (replicate (n - length xs) None) n long

-- A map with as many of its own contents as it has sources lists what the map lists.
pub listed_copied : (base : Parts) (limits : Allowed) (offset : Position) (before : Listing)
    (m : Flat) (copied : List (Option (List ℕ))) → copied ≡ take (length m.sources) m.contents
    → length copied ≡ length m.sources
    → listed_flat base limits offset before (with_contents copied m) ≡ listed_flat base limits offset before m
listed_copied base limits offset before m copied same count =
    same_entries base limits offset before m (fitted (length m.sources) copied)
    (ap (entries_from base m.root m.ignored 0 m.sources) (fitted_whole (length m.sources) copied count ∙ same)
    ∙ enough base m.root m.ignored 0 m.sources m.contents)
