use Rattle.std.proofs.Common.{◌≡◌, ◌==◌, ℕ, IfOk, List, length, string_bytes, subst}
use Rattle.smap_differences.specs.Counts.{rows_of}
use Rattle.smap_differences.proofs.CountLemmas.{told_by}
use Rattle.smap_differences.proofs.entries.lists_told.Goals as goal

pub returns : goal.returns
returns c =
    subst (λ (x : List ℕ). IfOk c.texts_told.result (λ t. string_bytes t ≡ x))
    (told_by (length c.args.before.now == length c.args.now.now) c.in_ok-are_reordered.are_reordered
    c.args.before.now c.args.now.now (rows_of c.in_ok-olds.olds.entries) (rows_of c.in_ok-news.news.entries)
    c.in_ok-olds.ensures c.in_ok-news.ensures c.in_ok-are_reordered.ensures)
    c.texts_told.ensures
