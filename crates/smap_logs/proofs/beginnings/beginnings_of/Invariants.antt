use Rattle.std.proofs.Common.{◌≡◌, ◌-◌}
use Rattle.smap_logs.specs.Beginnings.{AreBefore, beginnings, starts_below}
use Rattle.smap_logs.proofs.BeginningLemmas.{extended}
use Rattle.smap_logs.proofs.beginnings.beginnings_of.Given as goal

abbrev pub invariant-loop-start : goal.invariant-loop-start
invariant-loop-start l = record {
  before : AreBefore l.end l.found;
  all : extended l.line l.end l.found (starts_below l.line (l.end - 1024) l.start) ≡ beginnings l.line l.end;
}
