-- What is said of files as strings and as their bytes.
use Rattle.std.proofs.Common.{◌≡◌, ◌∙◌, ℕ, Bool, false, List, [], ◌∷◌, ◌++◌, arith, filter, length, map, refl}
use Rattle.std.proofs.Common.{sym, String, string_bytes}
use Rattle.std.specs.List.{flat_map}
use Rattle.std.proofs.lemmas.List.{length-map, map-append}
use Rattle.std.proofs.lemmas.List.Folds.{flat_map-map}
use Rattle.smap_report.specs.declared.findings.Finding.{Finding}
use Rattle.smap_report.specs.declared.findings.Rule.{Rule}
use Rattle.smap_report.specs.Escapes.{xml}
use Rattle.smap_report.specs.Junit.{case, count_failures, failures, fails, has_file, holds, suite}
use Rattle.smap_report.specs.Junit.{suite_words, with_file}

pub holds_is : {Z : Type 0} (files : List (String Z)) (file : List ℕ)
    → has_file files file ≡ holds (map string_bytes files) file
holds_is [] file = refl
holds_is (f ∷ fs) file = rw (holds_is fs file) refl

-- a string that is added where there is none with its bytes
pub added_is : {Z : Type 0} (files made : List (String Z)) (s : String Z) (file : List ℕ)
    → made ≡ files ++ s ∷ [] → string_bytes s ≡ file → has_file files file ≡ false
    → map string_bytes made ≡ with_file (map string_bytes files) file
added_is files made s file e f h =
    let none : holds (map string_bytes files) file ≡ false = sym (holds_is files file) ∙ h in
    rw (none, e, map-append, f) refl

-- as many names pass a test as strings do
passing : {Z : Type 0} (test : List ℕ → Bool) (files : List (String Z))
    → length (filter (λ file. test (string_bytes file)) files) ≡ length (filter test (map string_bytes files))
passing test [] = refl
passing test (f ∷ fs) = one f fs (passing test fs)
  where
    one : {Z : Type 0} (f : String Z) (fs : List (String Z))
        → length (filter (λ file. test (string_bytes file)) fs) ≡ length (filter test (map string_bytes fs))
        → length (filter (λ file. test (string_bytes file)) (f ∷ fs))
        ≡ length (filter test (map string_bytes (f ∷ fs)))
    one f fs e = grind (arith, e)

pub failures_are : {Z : Type 0} (findings : List Finding) (files : List (String Z))
    → failures findings files ≡ count_failures findings (map string_bytes files)
failures_are findings files = passing (fails findings) files

pub cases_are : {Z : Type 0} (tool : List ℕ) (rules : List Rule) (findings : List Finding)
    (files : List (String Z))
    → flat_map (λ file. case tool rules findings (string_bytes file)) files
    ≡ flat_map (case tool rules findings) (map string_bytes files)
cases_are tool rules findings files = sym (flat_map-map (case tool rules findings) string_bytes files)

-- the suite of parts that are said of strings
pub suite_is : {Z : Type 0} (tool : List ℕ) (rules : List Rule) (findings : List Finding)
    (files : List (String Z)) (name : List ℕ) (failed : ℕ) (cases : List ℕ)
    → name ≡ xml tool → failed ≡ failures findings files
    → cases ≡ flat_map (λ file. case tool rules findings (string_bytes file)) files
    → suite_words name (length files) failed cases ≡ suite tool rules (map string_bytes files) findings
unfolding suite
suite_is tool rules findings files name failed cases n f k =
    rw (
      n,
      f ∙ failures_are findings files,
      k ∙ cases_are tool rules findings files,
      length-map files string_bytes,
    ) refl
