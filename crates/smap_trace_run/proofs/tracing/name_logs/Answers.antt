use Rattle.std.proofs.Common.{◌∙◌, ◌+◌, [], ◌∷◌, ap, arith, length, length-append, subst, sym}
use Rattle.std.specs.Io.Take.{take_remaining}
use Rattle.smap_trace_run.proofs.NamedLemmas.{HaveSizesTo, one_more_log, one_more_size}
use Rattle.smap_trace_run.proofs.AskedLemmas.{reads_log}
use Rattle.smap_trace_run.proofs.tracing.name_logs.Goals as goal

pub loop-path-preserved : goal.loop-path-preserved
loop-path-preserved g c =
    let held = g.D.Disk.held c.args.host.now.disk.now in
    let paths = c.args.paths.now in
    let i = c.loop-path.path-index in
    let sizes = c.loop-path.sizes.items in
    record {
      names = one_more_log held c.args.job.now.wanted paths i _ (omega (arith, c.loop-path-test.true))
          (take_remaining g.D.Reader.Read.remaining c.in_ok-log.log) c.loop-path.names
          c.name_log.new.names c.in_ok-name_log.ensures.names c.in_ok-log.ensures
          c.loop-path.invariant.names;
      among = c.in_ok-name_log.ensures.asked;
      count = ap length c.in_ok-push.ensures.items ∙ length-append sizes (c.in-Ok.size ∷ [])
          ∙ ap (λ n. n + 1) c.loop-path.invariant.count;
      each = subst (HaveSizesTo held paths (i + 1)) (sym c.in_ok-push.ensures.items)
          (one_more_size held paths i _ (omega (arith, c.loop-path-test.true)) sizes c.in-Ok.size
          c.loop-path.invariant.count c.in-Ok.ensures c.loop-path.invariant.each);
    }

pub name_log-requires-clause-asked : goal.name_log-requires-clause-asked
name_log-requires-clause-asked g c =
    let held = g.D.Disk.held c.args.host.now.disk.now in
    let paths = c.args.paths.now in
    let i = c.loop-path.path-index in
    reads_log held c.args.job.now _ (take_remaining g.D.Reader.Read.remaining c.in_ok-log.log)
    c.in_ok-log.ensures (c.requires.logs i _ (omega (arith, c.loop-path-test.true)))
