use Rattle.std.proofs.Common.{◌≡◌, take, map}
use Rattle.smap_record.specs.Record.{record_of}
use Rattle.smap_lint_rules.specs.Contents.{lines_in, entry_widths}
use Rattle.smap_lint_rules.proofs.contents.content_widths.Given as goal

abbrev pub invariant-loop-i : goal.invariant-loop-i
invariant-loop-i l = map lines_in l.all.items ≡ map entry_widths (take l.i (record_of l.map).sources)
