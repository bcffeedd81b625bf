use Rattle.std.proofs.Common.{◌++◌, subst}
use Rattle.smap_trace.specs.Naming.{urls_of}
use Rattle.smap_logs.specs.Naming.{AreSame, frames_of, others_if, others_of}
use Rattle.smap_logs.proofs.naming.names_in.Goals as goal

pub returns : goal.returns
returns c =
    let names = c.add_lines.new.self in
    record {
      frames = subst (λ fs. AreSame (frames_of names) (fs ++ urls_of c.args.lines.now))
          c.new-names.ensures.frames c.in_ok-add_lines.ensures.frames;
      others = subst (λ os.
          AreSame (others_of names) (os ++ others_if c.args.anywhere (frames_of names) c.args.lines.now))
          c.new-names.ensures.others c.in_ok-add_lines.ensures.others;
    }
