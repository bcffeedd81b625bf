use Rattle.smap_record.specs.Views.{origin_of_view}
use Rattle.smap_compose.proofs.SpareLemmas.{not_same}
use Rattle.smap_compose.proofs.thinning.is_same.Goals as goal

pub returns-else-a-b : goal.returns-else-a-b
returns-else-a-b c = λ sources once at there.
    not_same sources c.args.a.source_number c.args.b.source_number (origin_of_view c.args.a)
    (origin_of_view c.args.b) once at there c.if-a-b.false
