-- What findings say, in words.
use Rattle.std.specs.Prelude.{ℕ, Bool, true, false, List, bytes_eq, codes, Option, Some, None, if◌then◌else◌}
use Rattle.std.specs.List.{list_any, slice_get}
use Rattle.std.specs.Option.{option_map_or}
use Rattle.smap_report.specs.declared.findings.Finding.{Finding}
use Rattle.smap_report.specs.declared.findings.Level.{Level}
use Rattle.smap_report.specs.declared.findings.Level.TheVariants.{Note, Warning, Error}
use Rattle.smap_report.specs.declared.findings.Rule.{Rule}

abbrev pub level_word : Level → List ℕ
level_word Note = codes "note"
level_word Warning = codes "warning"
level_word Error = codes "error"

-- the level that a word names
abbrev pub level_named : List ℕ → Option Level
level_named word =
    if bytes_eq word (level_word Note) then Some Note else
    (if bytes_eq word (level_word Warning) then Some Warning else
    (if bytes_eq word (level_word Error) then Some Error else None))

abbrev pub is_error : Level → Bool
is_error Note = false
is_error Warning = false
is_error Error = true

-- the name of the rule with this number
abbrev pub rule_name : List Rule → ℕ → List ℕ
rule_name rules number = option_map_or (λ rule. rule.name.now) (slice_get rules number) (codes "unknown")

abbrev pub has_error : List Finding → Bool
has_error findings = list_any (λ finding. is_error finding.level) findings
