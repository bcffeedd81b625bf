use Rattle.std.proofs.Common.{rules}
use Rattle.smap_mappings.proofs.EndLemmas.{ended_encodable, all_ended}
use Rattle.smap_mappings.proofs.ends.ended.Goals as goal

pub returns-clause-encodable : goal.returns-clause-encodable
returns-clause-encodable c is =
    let widths = c.args.widths.now in
    rw (all_ended widths c.loop-i.all.items c.args.tokens.now _ c.loop-i.i (search rules) c.loop-i.invariant)
    (ended_encodable widths c.args.tokens.now is)
