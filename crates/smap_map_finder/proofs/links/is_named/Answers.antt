use Rattle.std.proofs.Common.{rules}
use Rattle.smap_map_finder.proofs.links.is_named.Goals as goal

pub returns-then-eq : goal.returns-then-eq
returns-then-eq c = λ same. (c.in-File.name, c.in-File.is, search rules)
