use Rattle.std.proofs.Common.{subst, List, ℕ}
use Rattle.smap_record.specs.Record.{record_of}
use Rattle.smap_canon.specs.Layout.{form_asked, layout, ReadsBack}
use Rattle.smap_canon.specs.Canonical.{canonical_map}
use Rattle.smap_canon.proofs.LawLemmas.{read_again_in}
use Rattle.smap_canon.proofs.writing.canonical_in.Goals as goal

pub returns-clause-read_again : goal.returns-clause-read_again
returns-clause-read_again c =
    read_again_in (form_asked c.args.relative) c.args.map.now c.args.base.now c.in_ok-bytes.ensures.listing
    (subst (λ (spell : List ℕ → List ℕ). ReadsBack (layout spell (canonical_map (record_of c.args.map.now))))
    c.asked.ensures c.in_ok-bytes.ensures.back)
