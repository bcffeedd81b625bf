use Rattle.std.proofs.Common.{◌∙◌, ap, arith, refl, subst, sym, List, ℕ, Some}
use Rattle.std.specs.Prelude.{⊤}
use Rattle.std.specs.Io.KnownBytes.{IsAtEnd}
use Rattle.smap_logs.specs.Logs.{handed, pending}
use Rattle.smap_trace_run.specs.OutputView.{contents_of}
use Rattle.smap_trace_run.specs.Written.{AreAmong, IsOfLogs, IsTraced, IsTracedIn, asked_by, asked_for}
use Rattle.smap_trace_run.proofs.AskedLemmas.{next_asked}
use Rattle.smap_logs.proofs.LogLemmas.{handed_lines, new_log}
use Rattle.smap_trace_run.proofs.PartsLemmas.{all_parts, none_so_far, one_more_part, so_far_worse}
use Rattle.smap_trace_run.proofs.RunningLemmas.{at_start, ended, later, one_run}
use Rattle.smap_trace_run.proofs.TracedLemmas.{traced_lines}
use Rattle.smap_trace_run.proofs.tracing.Run.follow_log.Goals as goal

pub loop-init : goal.loop-init
loop-init g c = record {
  same = record { disk = refl; job = refl; worst = omega arith };
  asked = let log = c.new-log.result in
      subst (IsOfLogs (g.D.Disk.held c.args.self.now.disk) c.args.self.now.job)
      (sym (new_log (g.R.Read.remaining log.reader) log.block log.ended c.new-log.ensures.block
      c.new-log.ensures.ended
      ∙ ap g.R.Read.remaining c.new-log.ensures.reader)) c.requires;
  traced = λ plain. let log = c.new-log.result in
      none_so_far (g.D.Disk.held c.args.self.now.disk) c.args.self.now.job _ (λ name. ⊤) log.ended
      (g.R.Read.remaining c.args.reader) (pending g.R.Read.remaining log)
      (contents_of g.W.Write.contents c.args.output.now)
      (new_log (g.R.Read.remaining log.reader) log.block log.ended c.new-log.ensures.block
      c.new-log.ensures.ended
      ∙ ap g.R.Read.remaining c.new-log.ensures.reader);
}

pub returns-then-not-more-clause-traced : goal.returns-then-not-more-clause-traced
returns-then-not-more-clause-traced g c plain =
    let end : IsAtEnd (pending g.R.Read.remaining c.loop.log) =
    rw c.if-not-more.true at c.in_ok-more.ensures.lines in
    all_parts (g.D.Disk.held c.args.self.now.disk) c.args.self.now.job _ (λ name. ⊤) c.loop.log.ended
    (g.R.Read.remaining c.args.reader) (pending g.R.Read.remaining c.loop.log)
    (contents_of g.W.Write.contents c.args.output.now) (contents_of g.W.Write.contents c.loop.output)
    (c.loop.invariant.traced plain) end

pub open_lines-requires : goal.open_lines-requires
open_lines-requires g c =
    let held = g.D.Disk.held c.args.self.now.disk in
    let job = c.args.self.now.job in
    let log = c.advance.new.self in
    later (λ d j. AreAmong (asked_by (g.D.Disk.held d) j) (asked_for j c.lines-lines.result.now))
    c.args.self.now _ c.loop.invariant.same
    (subst (λ (part : List ℕ). AreAmong (asked_by held job) (asked_for job part))
    (sym c.lines-lines.ensures)
    (next_asked held job (pending g.R.Read.remaining c.loop.log) (g.R.Read.remaining log.reader) log.block
    log.ended (rw c.if-not-more.false at c.in_ok-more.ensures.lines) c.loop.invariant.asked).1)

pub loop-preserved : goal.loop-preserved
loop-preserved g c = record {
  same = one_run _ _ _ c.loop.invariant.same
      (ended _ _ _ c.in_ok-open_lines.ensures.same
      (c.count_lines.ensures ∙ c.translate_log.ensures.kept));
  asked = let log = c.advance.new.self in
      (next_asked (g.D.Disk.held c.args.self.now.disk) c.args.self.now.job
      (pending g.R.Read.remaining c.loop.log)
      (g.R.Read.remaining log.reader) log.block log.ended
      (rw c.if-not-more.false at c.in_ok-more.ensures.lines)
      c.loop.invariant.asked).0;
  traced = λ plain. let held = g.D.Disk.held c.args.self.now.disk in
      let job = c.args.self.now.job in
      let log = c.advance.new.self in
      let before = contents_of g.W.Write.contents c.args.output.now in
      let middle = contents_of g.W.Write.contents c.loop.output in
      let after = contents_of g.W.Write.contents c.translate_log.new.output in
      let run = c.open_lines.new.self in
      let more = c.in_ok-open_lines.ensures.same in
      let same = one_run _ _ _ c.loop.invariant.same more in
      rw (c.count_lines.ensures ∙ c.translate_log.ensures.kept) (one_more_part held job run.chosen.worst
      (λ name. ⊤) c.loop.log.ended log.ended (g.R.Read.remaining c.args.reader)
      (pending g.R.Read.remaining c.loop.log) (pending g.R.Read.remaining log) before middle after
      (handed log) (so_far_worse _ _ _ _ _ _ _ _ _ _ more.worst (c.loop.invariant.traced plain))
      (c.in_ok-more.ensures.going c.if-not-more.false)
      (handed_lines log.block log.ended) (rw c.if-not-more.false at c.in_ok-more.ensures.lines)
      (subst (λ (part : List ℕ). IsTraced held job run.chosen.worst (λ name. ⊤) (Some part) middle after)
      c.lines-lines.ensures
      (at_start (λ d j. IsTracedIn (g.D.Disk.held d) j run.chosen.worst (λ name. ⊤) (Some
      c.lines-lines.result.now) middle
      after)
      c.args.self.now run same
      (traced_lines (g.D.Disk.held run.disk) run.job run.chosen c.lines-lines.result.now middle after
      c.translate_log.ensures.named c.in_ok-open_lines.ensures.settled
      c.in_ok-translate_log.ensures.traced) plain)));
}
