use Rattle.std.proofs.Common.{◌∙◌, Bor, List, ap, filter, map, ℕ}
use Rattle.smap_logs.specs.Naming.{frames_of, is_sought, others_of}
use Rattle.smap_trace_run.proofs.AskedLemmas.{both_kept, fewer_kept, first_names_kept, names_kept}
use Rattle.smap_trace_run.proofs.RunningLemmas.{kept_search, one_search}
use Rattle.smap_trace_run.proofs.SettledLemmas.{names_settled}
use Rattle.smap_trace_run.proofs.tracing.open_names.Goals as goal

pub returns-clause-settled : goal.returns-clause-settled
returns-clause-settled g c =
    let f = c.args.finder.now in
    names_settled (g.D.Disk.held f.disk) f.wanted c.open_for.new.self.chosen
    c.open_for-2.new.self.chosen
    c.as_slice.result.now (frames_of c.args.names.now) c.open_for-2.result
    (ap (map (λ (n : Bor (List ℕ)). n.now)) c.as_slice.ensures.value ∙ c.in_ok-frames.ensures)
    c.in_ok-open_for.ensures.settled c.open_for-2.ensures.grows

pub returns-clause-same : goal.returns-clause-same
returns-clause-same g c = one_search _ _ _ c.open_for.ensures.same c.open_for-2.ensures.same

pub returns-clause-ends : goal.returns-clause-ends
returns-clause-ends g c =
    let f = c.args.finder.now in
    let held = g.D.Disk.held f.disk in
    let frames = frames_of c.args.names.now in
    let others = others_of c.args.names.now in
    let middle = c.open_for.new.self in
    let new = c.open_for-2.new.self.chosen in
    let sought = is_sought c.args.with_controls.now in
    both_kept held f.wanted frames others f.chosen middle.chosen new
    (names_kept held f.wanted frames f.chosen middle.chosen _ _ c.as_slice.ensures.value
    c.in_ok-frames.ensures c.open_for.ensures.ends)
    (fewer_kept held f.wanted sought others middle.chosen new
    (names_kept held f.wanted (filter sought others) middle.chosen new _ _ c.as_slice-2.ensures.value
    c.in_ok-others.ensures
    (kept_search g.D.Disk.held f middle _ middle.chosen new c.open_for.ensures.same
    c.open_for-2.ensures.ends)))

pub returns-in_err-open_for-clause-ends : goal.returns-in_err-open_for-clause-ends
returns-in_err-open_for-clause-ends g c =
    let f = c.args.finder.now in
    first_names_kept (g.D.Disk.held f.disk) f.wanted (frames_of c.args.names.now) (others_of c.args.names.now)
    f.chosen c.open_for.new.self.chosen _ _ c.as_slice.ensures.value c.in_ok-frames.ensures
    c.open_for.ensures.ends

pub returns-in_err-others-clause-ends : goal.returns-in_err-others-clause-ends
returns-in_err-others-clause-ends g c =
    let f = c.args.finder.now in
    first_names_kept (g.D.Disk.held f.disk) f.wanted (frames_of c.args.names.now) (others_of c.args.names.now)
    f.chosen c.open_for.new.self.chosen _ _ c.as_slice.ensures.value c.in_ok-frames.ensures
    c.open_for.ensures.ends
