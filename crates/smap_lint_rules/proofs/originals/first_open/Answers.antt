use Rattle.std.proofs.Common.{◌∙◌, rules}
use Rattle.smap_record.specs.Record.{record_of}
use Rattle.smap_record.specs.Views.{entry_of_view}
use Rattle.smap_lint_rules.specs.Findings.{names_map}
use Rattle.smap_lint_rules.proofs.WalkLemmas.{find_here, find_later}
use Rattle.smap_lint_rules.proofs.originals.first_open.Goals as goal

pub returns-then-names_map : goal.returns-then-names_map
returns-then-names_map c = search (rules, find_here, c.loop-number.invariant)

pub loop-number-preserved : goal.loop-number-preserved
loop-number-preserved c =
    c.loop-number.invariant ∙ find_later names_map (record_of c.args.map.now).sources c.loop-number.number
    (entry_of_view c.source-source.result) c.source-source.ensures (search rules)
