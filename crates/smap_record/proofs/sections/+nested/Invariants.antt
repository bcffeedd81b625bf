use Rattle.std.proofs.Common.{◌≡◌, ◌+◌, ◌-◌, ◌*◌, None, map, drop}
use Rattle.serde_json.specs.View.{view}
use Rattle.smap_record.specs.Sections.{section_map, listed_sections}
use Rattle.smap_record.specs.Fitting.{ListingFits}
use Rattle.smap_record.specs.MapView.{listing_of}
use Rattle.smap_record.proofs.sections.+nested.Given as goal

-- an index map of each further level is read once more
abbrev pub decreases-with_map : goal.decreases-with_map
decreases-with_map l = 3 * (8 - l.level)

abbrev pub decreases-with_section : goal.decreases-with_section
decreases-with_section l = 3 * (8 - l.level) + 1

abbrev pub decreases-with_sections : goal.decreases-with_sections
decreases-with_sections l = 3 * (8 - l.level) + 2

-- the sections that are left, after what is listed, are read as all of them are
abbrev pub invariant-with_sections-loop-k : goal.invariant-with_sections-loop-k
invariant-with_sections-loop-k l = record {
  reads : listed_sections l.level (section_map l.base l.limits (8 - l.level)) l.outer 0 None
      (listing_of l.fn.before) (map view l.shape.sections)
      ≡ listed_sections l.level (section_map l.base l.limits (8 - l.level)) l.outer l.k l.last
      (listing_of l.listed) (drop l.k (map view l.shape.sections));
  fits : ListingFits l.base l.limits (listing_of l.listed);
}
