use Rattle.std.proofs.Common.{◌≡◌, ◌++◌}
use Rattle.smap_compose.specs.Built.{entries_of}
use Rattle.smap_compose.proofs.tables.all_sources.Given as goal

-- those that were taken, and those that are left
abbrev pub invariant-loop-url : goal.invariant-loop-url
invariant-loop-url l = l.all ++ entries_of l.url-iterator ≡ entries_of l.fn.sources.entries
