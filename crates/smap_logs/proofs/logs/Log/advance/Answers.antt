use Rattle.std.proofs.Common.{◌≡◌, ◌∙◌, false}
use Rattle.std.specs.Io.KnownBytes.{Keeps}
use Rattle.std.proofs.KnownBytes.{Keeps-trans}
use Rattle.smap_logs.specs.Logs.{pending, waiting}
use Rattle.smap_logs.proofs.LogLemmas.{next_lines}
use Rattle.smap_logs.proofs.logs.Log.advance.Goals as goal

pub returns-in-Lines-clause-lines : goal.returns-in-Lines-clause-lines
returns-in-Lines-clause-lines g c =
    let before = pending g.R.Read.remaining c.args.self.now in
    let log = c.step.new.self in
    let going : log.ended ≡ false =
    (rw c.in-Lines.is at c.in_ok-step.ensures.step) ∙ c.loop.invariant.going in
    let kept : Keeps before (waiting g.R.Read.remaining log) = Keeps-trans before
    (waiting g.R.Read.remaining c.loop.self) (waiting g.R.Read.remaining log) c.loop.invariant.kept
    c.in_ok-step.ensures.kept in
    next_lines before (g.R.Read.remaining log.reader) log.block log.ended going kept
