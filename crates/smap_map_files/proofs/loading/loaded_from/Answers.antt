use Rattle.smap_link.proofs.WordLemmas.{not_utf8}
use Rattle.smap_map_files.proofs.loading.loaded_from.Goals as goal

pub returns-in_default : goal.returns-in_default
returns-in_default c = not_utf8 c.args.base.now c.in_default.ensures.cases.0
