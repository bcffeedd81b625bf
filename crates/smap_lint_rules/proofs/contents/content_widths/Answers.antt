use Rattle.std.proofs.Common.{rules}
use Rattle.smap_record.specs.Record.{record_of}
use Rattle.smap_record.specs.Views.{entry_of_view}
use Rattle.smap_lint_rules.proofs.ContentLemmas.{next_widths}
use Rattle.smap_lint_rules.proofs.contents.content_widths.Goals as goal

pub loop-i-preserved : goal.loop-i-preserved
loop-i-preserved c = next_widths c.loop-i.all.items c.add_widths.new.all.items c.in_ok-widths.widths
    (record_of c.args.map.now).sources c.loop-i.i (entry_of_view c.source.result)
    (search rules) c.source.ensures c.in_ok-widths.ensures c.loop-i.invariant
