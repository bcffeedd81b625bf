use Rattle.std.proofs.Common.{subst, sym, Option}
use Rattle.std.specs.Prelude.{option_map}
use Rattle.std.proofs.lemmas.Result.{err_from_is_err_and}
use Rattle.serde_json.specs.View.{view}
use Rattle.smap_record.specs.Record.{ReadMap}
use Rattle.smap_record.specs.Faults.{Checked}
use Rattle.smap_record.specs.Results.{Returns}
use Rattle.smap_record.proofs.UrlBytesLemmas.{read_within, not_read}
use Rattle.smap_record.proofs.map.SourceMap.from_slice_within.Goals as goal

pub returns-in_err-tree-clause-reads : goal.returns-in_err-tree-clause-reads
returns-in_err-tree-clause-reads c =
    let p = err_from_is_err_and c.from_residual.result c.from_residual.ensures.1 in
    rw (p.1, p.2) (not_read c.args.base.now c.args.limits c.args.url_bytes c.args.bytes.now _
    c.in_err-tree.ensures)

pub returns-clause-reads : goal.returns-clause-reads
returns-clause-reads c =
    subst (λ (expected : Checked (Option ReadMap)).
    Returns (option_map (λ r. r.0)) c.tree_map_within.result expected)
    (sym (read_within c.args.base.now c.args.limits c.args.url_bytes c.args.bytes.now (view c.in_ok-tree.tree)
    c.in_ok-tree.ensures))
    c.tree_map_within.ensures.reads
