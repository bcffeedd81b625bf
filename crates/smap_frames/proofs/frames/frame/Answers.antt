use Rattle.std.proofs.Common.{map, option_map, rules}
use Rattle.smap_frames.specs.FormView.{form_in}
use Rattle.smap_frames.specs.FrameView.{parts_in}
use Rattle.smap_frames.specs.Reading.{frame_of}
use Rattle.smap_frames.proofs.FrameLemmas.{frame_read}
use Rattle.smap_frames.proofs.LawLemmas.{is_reading}
use Rattle.smap_frames.proofs.frames.frame.Goals as goal

pub returns-then-contains-clause-value : goal.returns-then-contains-clause-value
unfolding frame_of
returns-then-contains-clause-value c = search rules

pub returns-else-contains-clause-is : goal.returns-else-contains-clause-is
returns-else-contains-clause-is c = is_reading c.args.line.now c.body_frame.result
    (frame_read c.args.line.now c.body_len.result (map form_in c.forms.result)
    (option_map parts_in c.body_frame.result) c.forms.ensures (search rules) c.body_len.ensures.value
    c.body_frame.ensures)

pub returns-else-contains-clause-value : goal.returns-else-contains-clause-value
returns-else-contains-clause-value c = frame_read c.args.line.now c.body_len.result
    (map form_in c.forms.result) (option_map parts_in c.body_frame.result) c.forms.ensures (search rules)
    c.body_len.ensures.value c.body_frame.ensures
