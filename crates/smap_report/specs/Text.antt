-- The report for people.
use Rattle.std.specs.Prelude.{ℕ, zero, suc, Bool, false, bytes_eq, cond, List, [], ◌++◌, codes, string_bytes}
use Rattle.std.specs.List.{slice_get}
use Rattle.std.specs.Option.{option_map_or}
use Rattle.smap_system.specs.Printing.{printable}
use Rattle.smap_report.specs.declared.findings.Finding.{Finding}
use Rattle.smap_report.specs.declared.findings.Level.{Level}
use Rattle.smap_report.specs.declared.findings.Level.TheVariants.{Note, Warning, Error}
use Rattle.smap_report.specs.declared.findings.Rule.{Rule}
use Rattle.smap_report.specs.Findings.{rule_name}
use Rattle.smap_report.specs.Phrases.{place_text}

-- a level in a column of seven characters
abbrev pub level_column : Level → List ℕ
level_column Note = codes "note   "
level_column Warning = codes "warning"
level_column Error = codes "error  "

-- the line of a finding
abbrev pub row : List Rule → Finding → List ℕ
row rules f = codes "  " ++ (level_column f.level ++ (codes "  " ++ (place_text [] f.point (codes "  ")
    ++ (printable (string_bytes f.message) ++ (codes "  " ++ (rule_name rules f.rule ++ codes "\n"))))))

-- whether the finding before the one with this number is in this file
abbrev pub is_after : List Finding → ℕ → List ℕ → Bool
is_after findings zero file = false
is_after findings (suc n) file =
    option_map_or (λ f. bytes_eq (string_bytes f.file) file) (slice_get findings n) false

-- the name of the file, unless it stands above already
abbrev pub heading : List Finding → ℕ → List ℕ → List ℕ
heading findings n file = cond (is_after findings n file) [] (printable file ++ codes "\n")

-- what is written for the finding with this number
abbrev pub row_at : List Rule → List Finding → ℕ → List ℕ
row_at rules findings n = option_map_or (λ f. heading findings n (string_bytes f.file) ++ row rules f)
    (slice_get findings n) []

-- what is written for so many findings
abbrev pub rows : List Rule → List Finding → ℕ → List ℕ
rows rules findings zero = []
rows rules findings (suc n) = rows rules findings n ++ row_at rules findings n
