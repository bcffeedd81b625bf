use Rattle.std.proofs.Common.{OnOk, ap, option_map, subst, sym, take}
use Rattle.smap_system.specs.Held.{HasSize}
use Rattle.smap_trace_run.specs.OutputView.{contents_of}
use Rattle.smap_trace_run.specs.Written.{IsTracedFront}
use Rattle.smap_trace_run.proofs.PartsLemmas.{first_size}
use Rattle.smap_trace_run.proofs.RunningLemmas.{at_start, ended}
use Rattle.smap_trace_run.proofs.SettledLemmas.{first_settled}
use Rattle.smap_trace_run.proofs.TracedLemmas.{traced_front}
use Rattle.smap_trace_run.proofs.tracing.Run.trace_input.Goals as goal

pub returns-clause-traced : goal.returns-clause-traced
returns-clause-traced g c =
    let r = c.args.self.now in
    let s = c.open_files.new.self in
    let same = c.in_ok-sizes.ensures.same in
    let held = g.D.Disk.held s.disk in
    let size = first_size (g.D.Disk.held r.disk) c.as_slice.result.now c.args.path c.in_ok-sizes.sizes.items
    c.index-size.result.now c.as_slice.ensures c.in_ok-sizes.ensures.sizes c.index-size.ensures in
    rw c.translate_log.ensures.kept
    (at_start (λ d j. OnOk c.translate_log.result (IsTracedFront (g.D.Disk.held d) j s.chosen.worst
    c.args.path.now
    (g.I.Read.remaining c.args.input) (contents_of g.W.Write.contents c.args.output.now)
    (contents_of g.W.Write.contents c.translate_log.new.output))) r s same
    (traced_front held s.job s.chosen c.args.path.now
    c.take.result.limit (g.I.Read.remaining c.args.input) _ _ _ c.translate_log.result
    c.translate_log.ensures.named
    (first_settled held s.job s.chosen c.as_slice.result.now c.args.path c.as_slice.ensures
    c.in_ok-sizes.ensures.settled)
    (rw same.disk (subst (HasSize (g.D.Disk.held r.disk) c.args.path.now) (sym c.take.ensures.limit) size))
    (ap (λ r. option_map (take c.take.result.limit) (g.I.Read.remaining r)) c.take.ensures.inner)
    c.translate_log.ensures.traced))

pub returns-clause-same : goal.returns-clause-same
returns-clause-same g c = ended _ _ _ c.in_ok-sizes.ensures.same c.translate_log.ensures.kept
