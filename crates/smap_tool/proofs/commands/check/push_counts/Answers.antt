use Rattle.std.proofs.Common.{◌++◌, codes, decimal}
use Rattle.smap_tool.specs.Commands.{counts_line}
use Rattle.smap_tool.proofs.CheckLemmas.{joined}
use Rattle.smap_tool.proofs.commands.check.push_counts.Goals as goal

pub returns : goal.returns
unfolding counts_line
returns c =
    rw (
      c.in_ok-extend_from_slice.ensures.items,
      c.in_ok-push_number-4.ensures,
      c.in_ok-push_number-3.ensures,
      c.in_ok-push_number-2.ensures,
      c.in_ok-push_number.ensures,
      c.source_count.ensures,
      c.name_count.ensures,
      c.token_count.ensures.count,
      c.line_count.ensures,
    )
    (joined _ (codes "accepted: " ++ decimal _) (codes " sources, " ++ decimal _)
    (codes " names, " ++ decimal _) (codes " mappings, " ++ decimal _) (codes " lines"))
