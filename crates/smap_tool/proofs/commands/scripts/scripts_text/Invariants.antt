use Rattle.std.proofs.Common.{◌≡◌, flat_map, take}
use Rattle.smap_tool.specs.Scripts.{script_line}
use Rattle.smap_tool.proofs.commands.scripts.scripts_text.Given as goal

abbrev pub invariant-loop-i : goal.invariant-loop-i
invariant-loop-i l = l.text.items ≡ flat_map script_line (take l.i l.named)
