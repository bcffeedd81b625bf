use Rattle.std.proofs.Common.{◌≡◌, drop, map, nat_lt, Option}
use Rattle.smap_frames.specs.FormView.{form_in}
use Rattle.smap_frames.specs.Forms.{Form}
use Rattle.smap_frames.specs.Frame.{FrameParts}
use Rattle.smap_frames.specs.Reading.{between, first_of, read}
use Rattle.smap_frames.proofs.frames.body_frame.Given as goal

abbrev pub invariant-loop-i : goal.invariant-loop-i
invariant-loop-i l =
    let get : Form → Option FrameParts =
    λ form. between (read form (nat_lt 0 l.start)) l.line l.start l.end in
    first_of get (map form_in (drop l.i l.rows)) ≡ first_of get (map form_in l.rows)
