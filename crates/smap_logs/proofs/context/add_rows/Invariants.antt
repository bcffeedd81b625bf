use Rattle.std.specs.Io.{StartsWith}
use Rattle.smap_logs.proofs.context.add_rows.Given as goal

abbrev pub invariant-loop-line : goal.invariant-loop-line
invariant-loop-line l = StartsWith l.out.items l.initial.out.items
