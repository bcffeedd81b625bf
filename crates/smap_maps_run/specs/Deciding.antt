-- What is done with a map.
use Rattle.std.specs.Prelude.{◌&&◌, Bool, false, true, not, if◌then◌else◌}
use Rattle.smap_command_line.specs.declared.maps.words.Rewrite.{Rewrite}
use Rattle.smap_command_line.specs.declared.maps.words.Rewrite.TheVariants as rewrite
use Rattle.smap_maps_run.specs.declared.deciding.Deed.{Deed}
use Rattle.smap_maps_run.specs.declared.deciding.Work.{Work}
use Rattle.smap_maps_run.specs.declared.deciding.Work.TheVariants as work
use Rattle.smap_maps_run.specs.declared.deciding.Deed.TheVariants as deeds

-- A map that would lose a member is rewritten with `--drop` alone.
abbrev pub decided : Rewrite → Bool → Deed
decided (rewrite.Tell json) loses = deeds.Tell
decided rewrite.Diff loses = deeds.Show
decided (rewrite.Write drop json) loses = if loses && not drop then deeds.Keep else deeds.Write

-- whether a line of JSON is written for each map
abbrev pub json_asked : Rewrite → Bool
json_asked (rewrite.Tell json) = json
json_asked rewrite.Diff = false
json_asked (rewrite.Write drop json) = json

abbrev pub wants_json : Work → Bool
wants_json (work.Check json) = json
wants_json (work.Compare form rewrite) = json_asked rewrite
wants_json (work.Repair write) = false

-- whether a command can rewrite maps
abbrev pub rewrites : Work → Bool
rewrites (work.Check json) = false
rewrites (work.Compare form rewrite) = true
rewrites (work.Repair write) = true
