use Rattle.smap_maps_run.proofs.program.run.Goals as goal

pub returns : goal.returns
returns g c = λ none. rw (c.exit_status.ensures none) at c.answer-answer.ensures
