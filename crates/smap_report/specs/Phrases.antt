-- Places and numbers as reports write them.
use Rattle.std.specs.Prelude.{ℕ, ◌==◌, Bool, true, false, cond, filter, List, [], ◌++◌, codes, length}
use Rattle.std.specs.Prelude.{decimal, Option}
use Rattle.std.specs.Option.{option_map_or}
use Rattle.smap_report.specs.declared.findings.Finding.{Finding}
use Rattle.smap_report.specs.declared.findings.Level.{Level}
use Rattle.smap_report.specs.declared.findings.Level.TheVariants.{Note, Warning, Error}
use Rattle.smap_report.specs.declared.findings.Point.{Point}

-- `LINE:COLUMN` between these, or nothing where there is no place
abbrev pub place_text : List ℕ → Option Point → List ℕ → List ℕ
place_text before point behind =
    option_map_or (λ p. before ++ (decimal p.line ++ (codes ":" ++ (decimal p.column ++ behind)))) point []

-- `1 error`, `2 errors`
abbrev pub count_text : ℕ → List ℕ → List ℕ
count_text count word = cond (count == 1) (decimal count ++ (codes " " ++ word))
    (decimal count ++ (codes " " ++ (word ++ codes "s")))

-- a text and a count behind it, unless that is 0
abbrev pub with_count : List ℕ → ℕ → List ℕ → List ℕ
with_count text count word = cond (count == 0) text
    (cond (length text == 0) (count_text count word) (text ++ (codes ", " ++ count_text count word)))

abbrev pub is_level : Level → Level → Bool
is_level Note Note = true
is_level Note Warning = false
is_level Note Error = false
is_level Warning Note = false
is_level Warning Warning = true
is_level Warning Error = false
is_level Error Note = false
is_level Error Warning = false
is_level Error Error = true

-- how many findings have this level
abbrev pub count_of : List Finding → Level → ℕ
count_of findings level = length (filter (λ finding. is_level finding.level level) findings)

-- `2 errors, 1 warning, 3 notes`, each only where there are some
unfoldable pub counts : ℕ → ℕ → ℕ → List ℕ
counts errors warnings notes = with_count (with_count (with_count [] errors (codes "error"))
    warnings (codes "warning")) notes (codes "note")

abbrev pub all_counts : List Finding → List ℕ
all_counts findings = counts (count_of findings Error) (count_of findings Warning) (count_of findings Note)

-- the last line for people
abbrev pub summary : List Finding → ℕ → List ℕ
summary findings files = cond (length findings == 0)
    (codes "nothing found in " ++ (count_text files (codes "file") ++ codes "\n"))
    (all_counts findings ++ (codes " in " ++ (count_text files (codes "file") ++ codes "\n")))
