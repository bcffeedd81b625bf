use Rattle.std.proofs.Common.{◌∙◌, ◌++◌, flat_map, subst, rules, tests}
use Rattle.std.proofs.lemmas.Iterator.Consumers.{YieldsList-end}
use Rattle.std.proofs.lemmas.Iterator.Splits.{YieldsList-from_slice_split}
use Rattle.smap_logs.specs.Lines.{is_feed}
use Rattle.smap_logs.specs.Naming.{AreSame, frames_of, others_in_line, others_of, without}
use Rattle.smap_logs.proofs.NamingLemmas.{more_of_lines}
use Rattle.smap_logs.proofs.naming.Names.add_others.Goals as goal

pub loop-line-preserved : goal.loop-line-preserved
loop-line-preserved c = record {
  frames = c.in_ok-add_others_of.ensures.frames ∙ c.loop-line.invariant.frames;
  others = more_of_lines (frames_of c.args.self.now) (frames_of c.loop-line.self) (others_of c.args.self.now)
      (others_of c.loop-line.self) (others_of c.add_others_of.new.self) c.loop-line.yielded c.in-Some.line
      c.loop-line.invariant.frames c.loop-line.invariant.others c.in_ok-add_others_of.ensures.others;
}

pub returns-clause-others : goal.returns-clause-others
returns-clause-others c =
    let end = YieldsList-end (YieldsList-from_slice_split _ is_feed c.args.lines.now (cc) (cc) (cc)
    (λ x b q called. search (rules, tests))) c.loop-line.yielded _ c.loop-line.yielded_by _ _ c.in-None.is
    c.next.ensures.steps in
    subst (λ ls. AreSame (others_of c.loop-line.self) (others_of c.args.self.now
    ++ without (frames_of c.args.self.now) (flat_map others_in_line ls))) end.0 c.loop-line.invariant.others
