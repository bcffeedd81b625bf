use Rattle.std.proofs.Common.{◌++◌, subst, sym}
use Rattle.smap_trace.specs.Naming.{urls_of}
use Rattle.smap_logs.specs.Naming.{AreSame, frames_of, others_of}
use Rattle.smap_logs.proofs.NamingLemmas.{with_others}
use Rattle.smap_logs.proofs.naming.Names.add_lines.Goals as goal

pub returns-in_ok-add_others-clause-frames : goal.returns-in_ok-add_others-clause-frames
returns-in_ok-add_others-clause-frames c =
    subst (λ fs. AreSame fs (frames_of c.args.self.now ++ urls_of c.args.lines.now))
    (sym c.in_ok-add_others.ensures.frames) c.in_ok-add_frames.ensures.frames

pub returns-in_ok-add_others-clause-others : goal.returns-in_ok-add_others-clause-others
returns-in_ok-add_others-clause-others c =
    with_others c.args.anywhere c.args.lines.now (frames_of c.add_frames.new.self)
    (frames_of c.add_others.new.self)
    (others_of c.args.self.now) (others_of c.add_frames.new.self) (others_of c.add_others.new.self)
    c.if-anywhere.true c.in_ok-add_others.ensures.frames c.in_ok-add_frames.ensures.others
    c.in_ok-add_others.ensures.others
