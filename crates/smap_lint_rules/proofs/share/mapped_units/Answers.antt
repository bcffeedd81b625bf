use Rattle.std.proofs.Common.{◌≡◌, rules, arith, ◌+◌, ◌-◌, ◌^◌, drop}
use Rattle.smap_lint_rules.specs.Share.{mapped_units}
use Rattle.smap_lint_rules.proofs.ShareLemmas.{mapped_next, saturated, at_last}
use Rattle.smap_lint_rules.proofs.share.mapped_units.Goals as goal

pub loop-i-preserved : goal.loop-i-preserved
loop-i-preserved c = let widths = c.args.widths.now in let ts = c.args.map.now.listing.tokens in
    let rest = mapped_units widths (drop (c.loop-i.i + 1) ts) in
    let next : mapped_units widths (drop c.loop-i.i ts) ≡ c.covered.result + rest
    = rw (c.covered.ensures, c.token_at-next.ensures)
    (mapped_next widths ts c.loop-i.i c.listed_token.result c.listed_token.ensures) in (
      saturated c.loop-i.count c.covered.result rest (mapped_units widths ts) (2 ^ 64 - 1)
          c.saturating_add-count.result c.saturating_add-count.ensures (rw next at c.loop-i.invariant.0),
      rw c.saturating_add-count.ensures (omega arith),
    )

pub returns : goal.returns
returns c = at_last c.args.widths.now c.args.map.now.listing.tokens c.loop-i.i c.loop-i.count (2 ^ 64 - 1)
    (search rules) c.loop-i.invariant.1 c.loop-i.invariant.0
