-- What is said of a map on standard error.
use Rattle.std.specs.Prelude.{ℕ, ◌==◌, Bool, true, false, List, ◌++◌, codes, cond, decimal, length}
use Rattle.std.specs.Prelude.{Option, Some, None, slice_get, String, string_bytes}
use Rattle.std.specs.List.{join_by}
use Rattle.std.specs.declared.alloc.Global.{Global}
use Rattle.smap_differences.specs.Naming.{shown_name}
use Rattle.smap_record.specs.Messages.{fault_message}
use Rattle.smap_maps_run.specs.JsonLines.{failure_text, long_urls}
use Rattle.smap_maps_run.specs.declared.outcome.Outcome.{Outcome}
use Rattle.smap_maps_run.specs.declared.outcome.Refusal.{Refusal}
use Rattle.smap_maps_run.specs.declared.outcome.TextPlace.{TextPlace}
use Rattle.smap_maps_run.specs.declared.outcome.Verdict.{Verdict}
use Rattle.smap_maps_run.specs.declared.outcome.Verdict.TheVariants as verdict

-- `FILE:LINE:COLUMN`, as compilers and editors have it (GNU Coding Standards, "Formatting Error Messages")
abbrev pub placed_name : List ℕ → TextPlace → List ℕ
placed_name file place =
    file ++ (codes ":" ++ (decimal place.point.line ++ (codes ":" ++ decimal place.point.column)))

abbrev pub name_with : List ℕ → Option TextPlace → List ℕ
name_with file None = file
name_with file (Some place) = placed_name file place

-- the name under which something is said of a map: with the place, where it is refused and has one
abbrev pub said_name : List ℕ → Verdict → List ℕ
said_name file (verdict.Refused why) = name_with file why.place
said_name file v = file

-- the names of members as JSON writes them, with a comma between each two
abbrev pub names_text : List (String Global) → List ℕ
names_text = join_by (λ name. shown_name (string_bytes name)) (codes ", ")

-- what is said of a refused map, with the fault that repairs would leave, if that is told
abbrev pub refusal_text : Refusal → Option (String Global) → List ℕ
refusal_text why None = fault_message why.fault ++ string_bytes why.detail
refusal_text why (Some left) = fault_message why.fault
    ++ (string_bytes why.detail ++ (codes "; once that is repaired: " ++ string_bytes left))

-- what is said of a map that loses members by a rewrite
abbrev pub drops_text : List (String Global) → Option (List ℕ)
drops_text drops = cond (length drops == 0) None (Some (codes "drops " ++ names_text drops))

-- what is said of a map of which that became, with the members that a rewrite drops and what it changes
abbrev pub said_of : Verdict → List (String Global) → List (String Global) → Option (List ℕ)
said_of (verdict.Refused why) drops changes = Some (refusal_text why (slice_get changes 0))
said_of verdict.NotUrl drops changes = Some (codes "base is no URL")
said_of (verdict.LongUrls most) drops changes = Some (long_urls most ++ codes " (--url-bytes allows more)")
said_of (verdict.Failed why) drops changes = Some (failure_text why)
said_of verdict.Kept drops changes =
    Some (codes "not rewritten, since that drops " ++ (names_text drops ++ codes " (--drop allows it)"))
said_of verdict.Changed drops changes = drops_text drops
said_of verdict.Rewritten drops changes = drops_text drops
said_of v drops changes = None

abbrev pub remark : Outcome → Option (List ℕ)
remark outcome = said_of outcome.verdict outcome.drops.items outcome.changes.items

-- whether a map is named on the output
abbrev pub is_named : Verdict → Bool
is_named verdict.Changed = true
is_named verdict.Rewritten = true
is_named v = false
