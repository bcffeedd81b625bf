-- A report as JUnit's XML, which CI servers read: a test case for each file.
use Rattle.std.specs.Prelude.{ℕ, ◌==◌, ◌&&◌, Bool, bytes_eq, cond, decimal, filter, List, [], ◌∷◌, ◌++◌}
use Rattle.std.specs.Prelude.{codes, length, not, String, string_bytes}
use Rattle.std.specs.List.{flat_map, list_any}
use Rattle.smap_report.specs.declared.findings.Finding.{Finding}
use Rattle.smap_report.specs.declared.findings.Level.{Level}
use Rattle.smap_report.specs.declared.findings.Level.TheVariants.{Note, Warning, Error}
use Rattle.smap_report.specs.declared.findings.Rule.{Rule}
use Rattle.smap_report.specs.declared.junit.Listed.{Listed}
use Rattle.smap_report.specs.declared.junit.Listed.TheVariants.{Failures, Notes}
use Rattle.smap_report.specs.Escapes.{xml}
use Rattle.smap_report.specs.Findings.{level_word, rule_name}
use Rattle.smap_report.specs.Phrases.{counts, is_level, place_text}

abbrev pub is_in : Finding → List ℕ → Bool
is_in f file = bytes_eq (string_bytes f.file) file

-- notes don't make a test case fail, all else does
abbrev pub is_of : Listed → Level → Bool
is_of Failures level = not (is_level level Note)
is_of Notes level = is_level level Note

abbrev pub is_listed : Finding → List ℕ → Listed → Bool
is_listed f file listed = is_in f file && is_of listed f.level

-- the line of a finding
abbrev pub case_line : List Rule → Finding → List ℕ
case_line rules f = place_text [] f.point (codes ": ") ++ (level_word f.level ++ (codes ": "
    ++ (xml (string_bytes f.message) ++ (codes " [" ++ (xml (rule_name rules f.rule) ++ codes "]\n")))))

abbrev pub case_lines : List Rule → List Finding → List ℕ → Listed → List ℕ
case_lines rules findings file listed =
    flat_map (λ f. cond (is_listed f file listed) (case_line rules f) []) findings

abbrev pub count_in : List Finding → List ℕ → Level → ℕ
count_in findings file level = length (filter (λ f. is_in f file && is_level f.level level) findings)

-- what says that a test case fails, unless there are no lines
abbrev pub failure_text : List ℕ → ℕ → ℕ → List ℕ
failure_text lines errors warnings = cond (length lines == 0) [] (codes "<failure message=\""
    ++ (counts errors warnings 0 ++ (codes "\" type=\"lint\">" ++ (lines ++ codes "</failure>\n"))))

-- what makes the test case of a file fail
unfoldable pub failure : List Rule → List Finding → List ℕ → List ℕ
failure rules findings file = failure_text (case_lines rules findings file Failures)
    (count_in findings file Error) (count_in findings file Warning)

-- what says notes in a test case, unless there are no lines
abbrev pub note_text : List ℕ → List ℕ
note_text lines = cond (length lines == 0) [] (codes "<system-out>" ++ (lines ++ codes "</system-out>\n"))

-- the notes on a file
unfoldable pub notes : List Rule → List Finding → List ℕ → List ℕ
notes rules findings file = note_text (case_lines rules findings file Notes)

abbrev pub case_text : List ℕ → List ℕ → List ℕ → List ℕ → List ℕ
case_text name class failure notes = codes "<testcase name=\"" ++ (name ++ (codes "\" classname=\"" ++ (class
    ++ (codes "\">\n" ++ (failure ++ (notes ++ codes "</testcase>\n"))))))

-- the test case of a file
unfoldable pub case : List ℕ → List Rule → List Finding → List ℕ → List ℕ
case tool rules findings file =
    case_text (xml file) (xml tool) (failure rules findings file) (notes rules findings file)

abbrev pub holds : List (List ℕ) → List ℕ → Bool
holds files file = list_any (λ one. bytes_eq one file) files

-- the same of names as the code has them
abbrev pub has_file : {Z : Type 0} → List (String Z) → List ℕ → Bool
has_file files file = list_any (λ one. bytes_eq (string_bytes one) file) files

-- the files, and this one
abbrev pub with_file : List (List ℕ) → List ℕ → List (List ℕ)
with_file files file = cond (holds files file) files (files ++ file ∷ [])

-- the files that have test cases: those looked at, and behind them the others that have findings
abbrev pub case_files : List (List ℕ) → List Finding → List (List ℕ)
case_files files [] = files
case_files files (f ∷ fs) = case_files (with_file files (string_bytes f.file)) fs

abbrev pub fails : List Finding → List ℕ → Bool
fails findings file = list_any (λ f. is_listed f file Failures) findings

-- how many test cases fail
abbrev pub count_failures : List Finding → List (List ℕ) → ℕ
count_failures findings files = length (filter (λ file. fails findings file) files)

-- the same of names as the code has them
abbrev pub failures : {Z : Type 0} → List Finding → List (String Z) → ℕ
failures findings files = length (filter (λ file. fails findings (string_bytes file)) files)

abbrev pub suite_words : List ℕ → ℕ → ℕ → List ℕ → List ℕ
suite_words name tests failed cases =
    codes "<?xml version=\"1.0\" encoding=\"UTF-8\"?>\n<testsuites>\n<testsuite name=\"" ++ (name
    ++ (codes "\" tests=\"" ++ (decimal tests ++ (codes "\" failures=\"" ++ (decimal failed
    ++ (codes "\" errors=\"0\" skipped=\"0\">\n" ++ (cases ++ codes "</testsuite>\n</testsuites>\n")))))))

-- the suite with the test cases of these files
unfoldable pub suite : List ℕ → List Rule → List (List ℕ) → List Finding → List ℕ
suite tool rules files findings = suite_words (xml tool) (length files) (count_failures findings files)
    (flat_map (case tool rules findings) files)
