use Rattle.std.proofs.Common.{◌≡◌, take}
use Rattle.smap_trace.specs.Views.{scripts_in}
use Rattle.smap_trace.proofs.table.by_url.Given as goal

abbrev pub invariant-loop-script : goal.invariant-loop-script
invariant-loop-script l = l.table ≡ scripts_in (take l.script-index l.scripts)
