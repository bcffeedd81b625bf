use Rattle.std.proofs.Common.{◌≡◌, false}
use Rattle.std.specs.Io.KnownBytes.{Keeps}
use Rattle.smap_logs.specs.Logs.{pending, waiting}
use Rattle.smap_logs.proofs.logs.Log.advance.Given as goal

abbrev pub invariant-loop : goal.invariant-loop
invariant-loop g l = record {
  going : l.self.ended ≡ false;
  kept : Keeps (pending g.R.Read.remaining l.fn.self) (waiting g.R.Read.remaining l.self);
}
