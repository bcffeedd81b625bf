use Rattle.std.proofs.Common.{◌≡◌, drop, filter, length}
use Rattle.std.specs.List.{range_with_len}
use Rattle.smap_mappings.specs.Text.{last_or}
use Rattle.smap_view_page.specs.Comments.{opens}
use Rattle.smap_view_page.proofs.comments.code_length.Given as goal

abbrev pub invariant-loop-at : goal.invariant-loop-at
invariant-loop-at l =
    l.last ≡ last_or (length l.text) (filter (λ at. opens (drop at l.text)) (range_with_len 0 l.at))
