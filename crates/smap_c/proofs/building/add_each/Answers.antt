use Rattle.std.proofs.Common.{◌∙◌, arith, sym}
use Rattle.smap_c.proofs.BuildingLemmas.{one_more}
use Rattle.smap_c.proofs.building.add_each.Goals as goal

pub loop-i-preserved : goal.loop-i-preserved
loop-i-preserved c =
    one_more c.args.builder.now c.loop-i.builder c.add.new.self c.args.mappings.now c.loop-i.i _
    c.token_of.result c.add.result (omega arith) c.loop-i.invariant c.token_of.ensures
    (sym c.is_err.ensures.value ∙ c.if-is_err.false) c.add.ensures
