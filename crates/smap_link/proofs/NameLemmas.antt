-- Names below folders, and paths beside their URLs.
use Rattle.std.proofs.Common.{◌≡◌, ◌∙◌, ℕ, ◌<◌, ◌==◌, Bool, true, false, List, [], ◌∷◌, ◌++◌, length, take}
use Rattle.std.proofs.Common.{cond, bytes_eq, Option, Some, nat_eq, ap, refl, sym, subst, ◌&&◌}
use Rattle.std.proofs.Common.{codes, arith, is_some, true≢false}
use Rattle.std.specs.Prelude.{unwrap_or}
use Rattle.std.proofs.Math.Seq.{drop-append_seam, take-append_seam}
use Rattle.std.specs.List.{All, starts_with}
use Rattle.std.proofs.lemmas.Bool.{cond-true, cond-false, eqb-true}
use Rattle.std.proofs.lemmas.Slice.Eq.{bytes_eq-Decides}
use Rattle.percent_encoding.proofs.PercentLemmas.{round_trip}
use Rattle.smap_link.specs.declared.encoding.TheConstants.{IN_PATH}
use Rattle.smap_link.specs.Alike.{IsAlike, form_of, own_url}
use Rattle.smap_link.specs.Names.{is_below, kept, name_behind, script_name}
use Rattle.smap_link.specs.Urls.{backslashed, encoded, has_backslashes, is_drive, is_path, is_rooted}
use Rattle.smap_link.specs.Urls.{script_url, slashed, url_of}

turned : (b : ℕ) → cond (cond (b == 47) 92 b == 92) 47 (cond (b == 47) 92 b) ≡ cond (b == 92) 47 b
turned b = by (b == 47) refl
  where
    by : (t : Bool) → (b == 47) ≡ t
        → cond (cond (b == 47) 92 b == 92) 47 (cond (b == 47) 92 b) ≡ cond (b == 92) 47 b
    by true is = rw (eqb-true b 47 is) refl
    by false is = ap (λ c. cond (c == 92) 47 c) (cond-false (b == 47) 92 b is)

-- slashes made backslashes and back
slashed_back : (name : List ℕ) → slashed (backslashed name) ≡ slashed name
slashed_back [] = refl
slashed_back (b ∷ name) =
    ap (λ c. c ∷ slashed (backslashed name)) (turned b)
    ∙ ap (λ l. cond (b == 92) 47 b ∷ l) (slashed_back name)

-- what stands behind the folder's URL gives the name
behind : (folder name : List ℕ) → All (λ b. b < 256) name
    → (has_backslashes folder ≡ true → slashed name ≡ name)
    → name_behind folder (cond (has_backslashes folder) (backslashed name)
    (cond (is_path folder) name (encoded name)))
    ≡ name
behind folder name bytes clean = by (has_backslashes folder) refl (is_path folder) refl
  where
    by : (h : Bool) → has_backslashes folder ≡ h → (p : Bool) → is_path folder ≡ p
        → name_behind folder (cond (has_backslashes folder) (backslashed name)
        (cond (is_path folder) name (encoded name))) ≡ name
    by true is p q = ap (name_behind folder) (cond-true _ _ _ is) ∙ cond-true _ _ _ is ∙ slashed_back name
        ∙ clean is
    by false is true q = ap (name_behind folder) (cond-false _ _ _ is ∙ cond-true _ _ _ q)
        ∙ cond-false _ _ _ is ∙ cond-true _ _ _ q
    by false is false q = ap (name_behind folder) (cond-false _ _ _ is ∙ cond-false _ _ _ q)
        ∙ cond-false _ _ _ is
        ∙ cond-false _ _ _ q ∙ round_trip IN_PATH name refl bytes

starts_with_own : (folder rest : List ℕ) → starts_with nat_eq (folder ++ rest) folder ≡ true
starts_with_own folder rest =
    (bytes_eq-Decides folder (take (length folder) (folder ++ rest))).1 (sym (take-append_seam folder rest))

and_true : (a b : Bool) → a ≡ true → b ≡ true → (a && b) ≡ true
and_true a b e f = grind arith

pub name_returns : (folder name : List ℕ) → All (λ b. b < 256) name → is_below name ≡ true
    → (has_backslashes folder ≡ true → slashed name ≡ name)
    → script_name folder (script_url folder name) ≡ Some name
name_returns folder name bytes below clean =
    let rest = cond (has_backslashes folder) (backslashed name) (cond (is_path folder) name (encoded name)) in
    let url = folder ++ rest in
    cond-true (starts_with nat_eq url folder) _ _ (starts_with_own folder rest)
    ∙ ap (λ l. kept folder url (name_behind folder l)) (drop-append_seam folder rest)
    ∙ ap (kept folder url) (behind folder name bytes clean)
    ∙ cond-true _ _ _ (and_true (is_below name) (bytes_eq url url) below ((bytes_eq-Decides url url).1 refl))

-- a file: URL is no path
posix_is_own : (url rest : List ℕ) → url ≡ codes "file://" ++ rest → own_url url ≡ url
posix_is_own url rest is = subst (λ (u : List ℕ). own_url u ≡ u) (sym is) refl

drive_is_own : (url rest : List ℕ) → url ≡ codes "file:///" ++ rest → own_url url ≡ url
drive_is_own url rest is = subst (λ (u : List ℕ). own_url u ≡ u) (sym is) refl

some_is : (a b : List ℕ) → Some a ≡ Some b → a ≡ b
some_is a b e = ap (λ (o : Option (List ℕ)). unwrap_or o []) e

own_is_own : (path url : List ℕ) → url_of path ≡ Some url → own_url url ≡ url
own_is_own path url is = by (is_rooted path) refl (is_drive path) refl
  where
    by : (r : Bool) → is_rooted path ≡ r → (d : Bool) → is_drive path ≡ d → own_url url ≡ url
    by true r d q = posix_is_own url (encoded path) (some_is _ _ (sym is ∙ cond-true _ _ _ r))
    by false r true q = drive_is_own url (encoded (slashed path))
        (some_is _ _ (sym is ∙ cond-false _ _ _ r ∙ cond-true _ _ _ q))
    by false r false q = absurd (true≢false (ap is_some (sym is ∙ cond-false _ _ _ r ∙ cond-false _ _ _ q)))

pub path_is_alike : (path url : List ℕ) → url_of path ≡ Some url → IsAlike path url
path_is_alike path url is =
    ap form_of (ap (λ (o : Option (List ℕ)). unwrap_or o path) is ∙ sym (own_is_own path url is))
