use Rattle.std.proofs.Common.{◌≡◌, ◌++◌}
use Rattle.smap_compose.proofs.tables.all_names.Given as goal

-- those that were taken, and those that are left
abbrev pub invariant-loop-name : goal.invariant-loop-name
invariant-loop-name l = l.all.items ++ l.name-iterator ≡ l.fn.names.keys
