use Rattle.smap_tool.proofs.ComputedLemmas.{is_computed, one_beginning, one_header}
use Rattle.smap_tool.proofs.BundleLawLemmas.{first_rows}
use Rattle.smap_tool.proofs.bundle_laws.bundle_headers.Goals as goal

pub returns-clause-computed : goal.returns-clause-computed
returns-clause-computed c = is_computed

pub returns-clause-one : goal.returns-clause-one
returns-clause-one c = one_header

pub returns-clause-beginning : goal.returns-clause-beginning
returns-clause-beginning c = one_beginning

pub returns-clause-rows : goal.returns-clause-rows
returns-clause-rows c = first_rows
