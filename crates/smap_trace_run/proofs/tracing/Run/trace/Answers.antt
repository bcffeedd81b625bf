use Rattle.std.proofs.Common.{◌∙◌, ap, sym}
use Rattle.std.proofs.lemmas.Result.{on_ok_weaker}
use Rattle.smap_map_files.specs.Positions.{has_positions}
use Rattle.smap_trace_run.proofs.AskedLemmas.{own_logs}
use Rattle.smap_trace_run.proofs.RunLemmas.{ended_run, lines_traced, logs_traced, no_items, no_words}
use Rattle.smap_trace_run.proofs.RunLemmas.{some_words, to_its_end, to_its_size}
use Rattle.smap_trace_run.proofs.tracing.Run.trace.Goals as goal

pub trace_files-answer-requires : goal.trace_files-answer-requires
trace_files-answer-requires g c =
    let s = c.check_maps.new.self in
    own_logs (g.D.Disk.held s.disk) s.job c.as_slice-logs.result.now
    (c.as_slice-logs.ensures.value ∙ ap (λ r. r.job.wanted.logs.items) c.self.view_is)

pub follow_paths-answer-requires : goal.follow_paths-answer-requires
follow_paths-answer-requires g c =
    let s = c.check_maps.new.self in
    own_logs (g.D.Disk.held s.disk) s.job c.as_slice-logs.result.now
    (c.as_slice-logs.ensures.value ∙ ap (λ r. r.job.wanted.logs.items) c.self.view_is)

pub follow_positions-answer-requires : goal.follow_positions-answer-requires
follow_positions-answer-requires g c =
    let s = c.check_maps.new.self in
    (no_items s.job c.as_slice-logs.result.now
    (c.as_slice-logs.ensures.value ∙ ap (λ r. r.job.wanted.logs.items) c.self.view_is)
    (sym c.is_empty.ensures ∙ c.if-not-is_empty.false))

pub trace_input-answer-requires : goal.trace_input-answer-requires
trace_input-answer-requires g c =
    let s = c.check_maps.new.self in
    (no_items s.job c.as_slice-logs.result.now
    (c.as_slice-logs.ensures.value ∙ ap (λ r. r.job.wanted.logs.items) c.self.view_is)
    (sym c.is_empty.ensures ∙ c.if-not-is_empty.false))

pub returns-then-are_files : goal.returns-then-are_files
returns-then-are_files g c =
    let s = c.check_maps.new.self in
    ended_run g.D.Disk.held c.args.self.now s c.trace_files-answer.new.self c.args.input.kind _ _ _
    c.trace_files-answer.result c.end.result c.check_maps.ensures c.trace_files-answer.ensures.same
    (on_ok_weaker c.trace_files-answer.result (logs_traced (g.D.Disk.held s.disk) s.job _
    c.as_slice-logs.result.now c.args.input.kind _ _ _
    (c.as_slice-logs.ensures.value ∙ ap (λ r. r.job.wanted.logs.items) c.self.view_is)
    (sym c.is_empty.ensures ∙ c.if-not-is_empty.true))
    c.trace_files-answer.ensures.traced) c.end.ensures

pub returns-then-not-is_empty : goal.returns-then-not-is_empty
returns-then-not-is_empty g c =
    let s = c.check_maps.new.self in
    ended_run g.D.Disk.held c.args.self.now s c.follow_paths-answer.new.self c.args.input.kind _ _ _
    c.follow_paths-answer.result c.end-then-not-is_empty.result
    c.check_maps.ensures c.follow_paths-answer.ensures.same
    (on_ok_weaker c.follow_paths-answer.result (logs_traced (g.D.Disk.held s.disk) s.job _
    c.as_slice-logs.result.now c.args.input.kind _ _ _
    (c.as_slice-logs.ensures.value ∙ ap (λ r. r.job.wanted.logs.items) c.self.view_is)
    (sym c.is_empty.ensures ∙ c.if-not-is_empty.true))
    c.follow_paths-answer.ensures.traced) c.end-then-not-is_empty.ensures

pub returns-then-has_positions : goal.returns-then-has_positions
returns-then-has_positions g c =
    let s = c.check_maps.new.self in
    ended_run g.D.Disk.held c.args.self.now s c.follow_positions-answer.new.self c.args.input.kind _ _ _
    c.follow_positions-answer.result c.end-then-has_positions.result
    c.check_maps.ensures c.follow_positions-answer.ensures.same
    (on_ok_weaker c.follow_positions-answer.result (λ traced. lines_traced (g.D.Disk.held s.disk) s.job _
    c.args.input.kind _ _ _
    (no_items s.job c.as_slice-logs.result.now
    (c.as_slice-logs.ensures.value ∙ ap (λ r. r.job.wanted.logs.items) c.self.view_is)
    (sym c.is_empty.ensures ∙ c.if-not-is_empty.false))
    (some_words (g.D.Disk.held s.disk) s.job _ c.args.input.kind _ _ _
    (ap (λ r. has_positions r.job.wanted) (sym c.self.view_is) ∙ sym c.has_positions.ensures
    ∙ c.if-has_positions.true) traced))
    c.follow_positions-answer.ensures.traced) c.end-then-has_positions.ensures

pub returns-then-has_name : goal.returns-then-has_name
returns-then-has_name g c =
    let s = c.check_maps.new.self in
    ended_run g.D.Disk.held c.args.self.now s c.trace_input-answer.new.self c.args.input.kind _ _ _
    c.trace_input-answer.result c.end-then-has_name.result
    c.check_maps.ensures c.trace_input-answer.ensures.same
    (on_ok_weaker c.trace_input-answer.result (λ traced. lines_traced (g.D.Disk.held s.disk) s.job _
    c.args.input.kind _ _ _
    (no_items s.job c.as_slice-logs.result.now
    (c.as_slice-logs.ensures.value ∙ ap (λ r. r.job.wanted.logs.items) c.self.view_is)
    (sym c.is_empty.ensures ∙ c.if-not-is_empty.false))
    (no_words (g.D.Disk.held s.disk) s.job _ c.args.input.kind _ _ _
    (ap (λ r. has_positions r.job.wanted) (sym c.self.view_is) ∙ sym c.has_positions.ensures
    ∙ c.if-has_positions.false)
    (to_its_size (g.D.Disk.held s.disk) s.job _ c.args.input.kind _ _ _
    (c.has_name.ensures c.if-has_name.true) traced)))
    c.trace_input-answer.ensures.traced) c.end-then-has_name.ensures

pub returns : goal.returns
returns g c =
    let s = c.check_maps.new.self in
    ended_run g.D.Disk.held c.args.self.now s c.follow_log-answer.new.self c.args.input.kind _ _ _
    c.follow_log-answer.result c.end-2.result c.check_maps.ensures c.follow_log-answer.ensures.same
    (on_ok_weaker c.follow_log-answer.result (λ traced. lines_traced (g.D.Disk.held s.disk) s.job _
    c.args.input.kind _ _ _
    (no_items s.job c.as_slice-logs.result.now
    (c.as_slice-logs.ensures.value ∙ ap (λ r. r.job.wanted.logs.items) c.self.view_is)
    (sym c.is_empty.ensures ∙ c.if-not-is_empty.false))
    (no_words (g.D.Disk.held s.disk) s.job _ c.args.input.kind _ _ _
    (ap (λ r. has_positions r.job.wanted) (sym c.self.view_is) ∙ sym c.has_positions.ensures
    ∙ c.if-has_positions.false)
    (to_its_end (g.D.Disk.held s.disk) s.job _ c.args.input.kind _ _ _ traced)))
    c.follow_log-answer.ensures.traced) c.end-2.ensures
