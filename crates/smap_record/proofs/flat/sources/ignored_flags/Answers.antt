use Rattle.std.proofs.Common.{◌∙◌}
use Rattle.std.specs.Prelude.{true}
use Rattle.std.proofs.Math.ListN.{length-set}
use Rattle.smap_record.proofs.FlagLemmas.{flags_more}
use Rattle.smap_record.proofs.flat.sources.ignored_flags.Goals as goal

pub loop-k-preserved : goal.loop-k-preserved
loop-k-preserved c =
    let m = c.args.shape.now in
    record {
      count = length-set c.loop-k.flags.items c.ignored_number.result true ∙ c.loop-k.invariant.count;
      flags = flags_more _ m.ignored c.loop-k.k c.ignored_number.result c.loop-k.flags.items
          c.loop-k.invariant.count c.ignored_number.ensures.number c.ignored_number.ensures.below
          c.loop-k.invariant.flags;
    }
