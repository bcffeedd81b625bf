use Rattle.std.proofs.Common.{◌∙◌, refl, rules}
use Rattle.smap_record.specs.Record.{record_of}
use Rattle.smap_lint_rules.specs.Contents.{leads_past}
use Rattle.smap_lint_rules.proofs.WalkLemmas.{find_here_by, find_later_by, find_none}
use Rattle.smap_lint_rules.proofs.contents.first_lost_original.Goals as goal

pub returns-then-leads_past : goal.returns-then-leads_past
returns-then-leads_past c = let xs = (record_of c.args.map.now).mappings in rw (
  c.loop-i.invariant,
  find_here_by leads_past xs c.loop-i.i c.leads_past.result c.leads_past.ensures c.if-leads_past.true,
  c.token.ensures.mapping,
) refl

pub loop-i-preserved : goal.loop-i-preserved
loop-i-preserved c = c.loop-i.invariant ∙ find_later_by leads_past (record_of c.args.map.now).mappings
    c.loop-i.i c.leads_past.result c.leads_past.ensures c.if-leads_past.false

pub returns : goal.returns
returns c = rw (
  c.loop-i.invariant,
  find_none leads_past (record_of c.args.map.now).mappings c.loop-i.i (search rules),
) refl
