use Rattle.std.proofs.Common.{rules, ◌∙◌}
use Rattle.smap_lint_rules.specs.Positions.{is_past_end}
use Rattle.smap_lint_rules.proofs.WalkLemmas.{find_here, find_later}
use Rattle.smap_lint_rules.proofs.positions.first_past_end.Goals as goal

pub returns-then-is_past_end : goal.returns-then-is_past_end
returns-then-is_past_end c = search (rules, find_here, c.loop-i.invariant)

pub loop-i-preserved : goal.loop-i-preserved
loop-i-preserved c =
    c.loop-i.invariant ∙ find_later (is_past_end c.args.widths.now) c.args.map.now.listing.tokens
    c.loop-i.i c.listed_token-token.result c.listed_token-token.ensures (search rules)
