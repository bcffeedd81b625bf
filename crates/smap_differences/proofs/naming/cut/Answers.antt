use Rattle.std.proofs.Common.{◌∙◌, ap, take}
use Rattle.smap_differences.proofs.CutLemmas.{last}
use Rattle.smap_differences.proofs.naming.cut.Goals as goal

pub returns : goal.returns
returns c =
    c.split_at.ensures.front
    ∙ ap (λ n. take n c.args.text.now) (last c.args.text.now c.args.most c.floor_char_boundary.result
    c.floor_char_boundary.ensures.bound c.floor_char_boundary.ensures.boundary
    c.floor_char_boundary.ensures.nearest)
