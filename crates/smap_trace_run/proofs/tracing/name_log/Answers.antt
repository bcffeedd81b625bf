use Rattle.std.proofs.Common.{◌∙◌, ◌++◌, ap, subst, sym, List, ℕ}
use Rattle.std.specs.Io.KnownBytes.{IsAtEnd}
use Rattle.smap_trace.specs.Naming.{urls_of}
use Rattle.smap_logs.specs.Logs.{handed, pending}
use Rattle.smap_logs.specs.Naming.{AreSame, frames_of}
use Rattle.smap_trace_run.specs.Alone.{as_read}
use Rattle.smap_trace_run.specs.Written.{AreAmong, IsOfLogs, asked_by, asked_for}
use Rattle.smap_trace_run.proofs.AskedLemmas.{lines_added, next_asked}
use Rattle.smap_logs.proofs.LogLemmas.{handed_lines, new_log}
use Rattle.smap_trace_run.proofs.NamedLemmas.{all_named, more_named, none_named}
use Rattle.smap_trace_run.proofs.tracing.name_log.Goals as goal

pub loop-init : goal.loop-init
loop-init g c = let log = c.new-log.result in record {
  asked = subst (IsOfLogs (g.D.Disk.held c.args.host.now.disk.now) c.args.job.now)
      (sym (new_log (g.R.Read.remaining log.reader) log.block log.ended c.new-log.ensures.block
      c.new-log.ensures.ended
      ∙ ap g.R.Read.remaining c.new-log.ensures.reader)) c.requires.asked;
  among = c.requires.names;
  named = none_named c.args.job.now.wanted log.ended (g.R.Read.remaining c.args.reader)
      (pending g.R.Read.remaining log)
      (frames_of c.args.names.now)
      (new_log (g.R.Read.remaining log.reader) log.block log.ended c.new-log.ensures.block
      c.new-log.ensures.ended
      ∙ ap g.R.Read.remaining c.new-log.ensures.reader);
}

pub returns-then-not-more-clause-names : goal.returns-then-not-more-clause-names
returns-then-not-more-clause-names g c =
    let end : IsAtEnd (pending g.R.Read.remaining c.loop.log) =
    rw c.if-not-more.true at c.in_ok-more.ensures.lines in
    all_named c.args.job.now.wanted c.loop.log.ended (g.R.Read.remaining c.args.reader)
    (pending g.R.Read.remaining c.loop.log)
    c.args.names.now c.loop.names c.loop.invariant.named end

pub loop-preserved : goal.loop-preserved
loop-preserved g c = record {
  asked = (next_asked (g.D.Disk.held c.args.host.now.disk.now) c.args.job.now
      (pending g.R.Read.remaining c.loop.log)
      (g.R.Read.remaining c.advance.new.self.reader) c.advance.new.self.block c.advance.new.self.ended
      (rw c.if-not-more.false at c.in_ok-more.ensures.lines) c.loop.invariant.asked).0;
  among = let held = g.D.Disk.held c.args.host.now.disk.now in
      let job = c.args.job.now in
      let log = c.advance.new.self in
      let asked = asked_by held job in
      lines_added job.anywhere asked c.loop.names c.add_names.new.names
      (as_read job.wanted c.lines.result.now) c.in_ok-add_names.ensures.frames.0
      c.in_ok-add_names.ensures.others.0 c.loop.invariant.among
      (subst (λ (part : List ℕ). AreAmong asked (asked_for job part)) (sym c.lines.ensures)
      (next_asked held job (pending g.R.Read.remaining c.loop.log) (g.R.Read.remaining log.reader) log.block
      log.ended (rw c.if-not-more.false at c.in_ok-more.ensures.lines) c.loop.invariant.asked).1);
  named = let log = c.advance.new.self in
      let before = frames_of c.args.names.now in
      let middle = frames_of c.loop.names in
      let after = frames_of c.add_names.new.names in
      more_named c.args.job.now.wanted c.loop.log.ended log.ended (g.R.Read.remaining c.args.reader)
      (pending g.R.Read.remaining c.loop.log)
      (pending g.R.Read.remaining log) before middle after (handed log)
      c.loop.invariant.named (c.in_ok-more.ensures.going c.if-not-more.false)
      (handed_lines log.block log.ended) (rw c.if-not-more.false at c.in_ok-more.ensures.lines)
      (subst (λ (part : List ℕ). AreSame after (middle ++ urls_of (as_read c.args.job.now.wanted part)))
      c.lines.ensures c.in_ok-add_names.ensures.frames);
}
