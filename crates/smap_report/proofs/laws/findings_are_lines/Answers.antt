use Rattle.smap_report.proofs.LineLemmas.{are_lines}
use Rattle.smap_report.proofs.laws.findings_are_lines.Goals as goal

pub returns : goal.returns
returns c = are_lines
