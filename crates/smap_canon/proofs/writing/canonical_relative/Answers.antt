use Rattle.smap_canon.specs.Layout.{relative_form}
use Rattle.smap_canon.proofs.LawLemmas.{read_again_in}
use Rattle.smap_canon.proofs.writing.canonical_relative.Goals as goal

pub returns-clause-read_again : goal.returns-clause-read_again
returns-clause-read_again c =
    read_again_in relative_form c.args.map.now c.args.base.now c.in_ok-bytes.ensures.listing
    c.in_ok-bytes.ensures.back
