use Rattle.std.proofs.Common.{◌≡◌, ◌∙◌, ◌++◌, ap, arith, length, subst, take}
use Rattle.std.specs.Map.{keys_of}
use Rattle.std.proofs.Math.Seq.{take-length}
use Rattle.smap_logs.specs.Naming.{AreSame, frames_of}
use Rattle.smap_logs.proofs.NamingLemmas.{more_counted, none_there}
use Rattle.smap_logs.proofs.naming.Names.add_named.Goals as goal

pub loop-i-preserved-in_default : goal.loop-i-preserved-in_default
loop-i-preserved-in_default c = absurd (none_there c.args.named.now c.loop-i.i
    (omega (arith, c.loop-i-test.true, c.len-i-end.ensures)) c.in_default.ensures)

pub loop-i-preserved : goal.loop-i-preserved
loop-i-preserved c = record {
  others = c.in_ok-count.ensures.others ∙ c.loop-i.invariant.others;
  frames = more_counted c.args.named.now c.loop-i.i (frames_of c.args.self.now) (frames_of c.loop-i.self)
      (frames_of c.count.new.self) c.in-Some.name.now c.in-Some.count
      (omega (arith, c.loop-i-test.true, c.len-i-end.ensures)) c.in-Some.ensures c.loop-i.invariant.frames
      c.in_ok-count.ensures.frames;
}

pub returns-clause-frames : goal.returns-clause-frames
returns-clause-frames c =
    let named = c.args.named.now in
    let whole : c.loop-i.i ≡ length named =
    omega (arith, c.loop-i-test.false, c.len-i-end.ensures, c.loop-i.auto.i-end) in
    subst (λ ns. AreSame (frames_of c.loop-i.self) (frames_of c.args.self.now ++ keys_of ns))
    (ap (λ k. take k named) whole ∙ take-length named) c.loop-i.invariant.frames
