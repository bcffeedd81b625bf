use Rattle.std.proofs.Common.{◌≡◌, ◌∙◌, IfOk, List, ap, subst}
use Rattle.std.specs.List.{flat_map}
use Rattle.smap_view_page.specs.Amounts.{Line, lines, read_out}
use Rattle.smap_view_page.specs.Folders.{folder_lines}
use Rattle.smap_view_page.proofs.AmountLemmas.{summed_is}
use Rattle.smap_view_page.proofs.nesting.folder_sums.Goals as goal

pub returns : goal.returns
returns c = subst (λ (x : List Line). IfOk c.rows_in.result (λ r. lines r.items ≡ x))
    (ap read_out c.in_ok-table.ensures ∙ summed_is (flat_map folder_lines (lines c.args.rows.now)))
    c.rows_in.ensures
