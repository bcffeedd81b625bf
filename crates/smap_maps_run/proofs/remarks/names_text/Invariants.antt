use Rattle.std.proofs.Common.{◌≡◌, string_bytes, take}
use Rattle.smap_maps_run.specs.Remarks.{names_text}
use Rattle.smap_maps_run.proofs.remarks.names_text.Given as goal

abbrev pub invariant-loop-i : goal.invariant-loop-i
invariant-loop-i l = string_bytes l.text ≡ names_text (take l.i l.names)
