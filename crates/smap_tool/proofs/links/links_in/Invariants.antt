use Rattle.std.proofs.Common.{length}
use Rattle.smap_compose.specs.Chain.{links_of}
use Rattle.smap_tool.specs.Links.{LinksSoFar}
use Rattle.smap_tool.proofs.links.links_in.Given as goal

-- the links so far, and what is left
abbrev pub invariant-loop-rest : goal.invariant-loop-rest
invariant-loop-rest l = LinksSoFar l.text (links_of l.links.items) l.rest

-- each entry takes some of it
abbrev pub decreases-loop-rest : goal.decreases-loop-rest
decreases-loop-rest l = length l.rest
