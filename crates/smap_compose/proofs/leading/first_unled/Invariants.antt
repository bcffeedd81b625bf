use Rattle.smap_record.specs.Record.{record_of}
use Rattle.smap_compose.specs.Chain.{links_of}
use Rattle.smap_compose.specs.Closed.{LeadsSoFar}
use Rattle.smap_compose.proofs.leading.first_unled.Given as goal

-- a source leads to each link that was gone through
abbrev pub invariant-loop-i : goal.invariant-loop-i
invariant-loop-i l = LeadsSoFar (record_of l.outer) (links_of l.links) l.i l.urls.entries
