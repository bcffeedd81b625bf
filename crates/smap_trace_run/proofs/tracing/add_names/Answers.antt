use Rattle.std.proofs.Common.{◌∙◌}
use Rattle.smap_trace_run.proofs.tracing.add_names.Goals as goal

pub returns-clause-frames : goal.returns-clause-frames
returns-clause-frames g c = rw (c.text-lines.ensures ∙ c.in_ok-read.ensures) at c.add_lines.ensures.frames

pub returns-clause-others : goal.returns-clause-others
returns-clause-others g c = rw (c.text-lines.ensures ∙ c.in_ok-read.ensures) at c.add_lines.ensures.others
