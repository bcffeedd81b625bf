use Rattle.std.proofs.Common.{◌∙◌, ◌-◌, refl, arith}
use Rattle.std.proofs.lemmas.Result.{err_from_is_err_and}
use Rattle.serde_json.specs.View.{view}
use Rattle.smap_shape.specs.Views.{index_members}
use Rattle.smap_record.specs.Sections.{section_map, listed_section}
use Rattle.smap_record.specs.MapView.{listing_of}
use Rattle.smap_record.proofs.StepLemmas.{first_fails}
use Rattle.smap_record.proofs.SectionLemmas.{section_in_steps, sections_next, sections_end, fails_within}
use Rattle.smap_record.proofs.DepthLemmas.{section_depth, map_depth, has_room, map_of_flat, map_of_index}
use Rattle.smap_record.proofs.DepthLemmas.{map_of_deepest}
use Rattle.smap_record.proofs.sections.+nested.Goals as goal

-- ---- the map of a section

pub with_map-returns-in-Ok-Flat-clause-reads : goal.with_map-returns-in-Ok-Flat-clause-reads
with_map-returns-in-Ok-Flat-clause-reads t c =
    let read = rw c.in-Ok-Flat.field-0-is at c.in-Ok-Flat.ensures in
    rw (
      ← read,
      map_of_flat c.args.base.now c.args.limits (8 - c.args.level) c.args.offset (listing_of c.args.before)
          c.in-Ok-Flat.members,
    )
    c.with_flat.ensures.reads

pub with_map-returns-then-level-eq-MAX_LEVEL-clause-reads :
    goal.with_map-returns-then-level-eq-MAX_LEVEL-clause-reads
with_map-returns-then-level-eq-MAX_LEVEL-clause-reads t c =
    let read = rw c.in-Ok-Index.field-0-is at c.in-Ok-Index.ensures in
    rw (c.refused.ensures, ← read)
    (map_of_deepest c.args.base.now c.args.limits c.args.level c.args.offset (listing_of c.args.before)
    (index_members c.in-Ok-Index.members) c.if-level-eq-MAX_LEVEL.true)

pub with_map-returns-else-level-eq-MAX_LEVEL-clause-reads :
    goal.with_map-returns-else-level-eq-MAX_LEVEL-clause-reads
with_map-returns-else-level-eq-MAX_LEVEL-clause-reads t c =
    let read = rw c.in-Ok-Index.field-0-is at c.in-Ok-Index.ensures in
    rw (
      ← read,
      map_of_index c.args.base.now c.args.limits c.args.level c.args.offset (listing_of c.args.before)
          (index_members c.in-Ok-Index.members)
          (omega (arith, c.requires.last, c.if-level-eq-MAX_LEVEL.false)),
    )
    c.with_sections.ensures.reads

-- ---- one section

pub with_section-returns-in_err-offset-clause-reads : goal.with_section-returns-in_err-offset-clause-reads
with_section-returns-in_err-offset-clause-reads t c =
    let p = err_from_is_err_and c.from_residual-in_err-offset.result
    c.from_residual-in_err-offset.ensures.1 in
    rw (
      p.1,
      p.2,
      section_in_steps c.args.level (section_map c.args.base.now c.args.limits (8 - c.args.level))
          c.args.outer c.args.last (listing_of c.args.before) (view c.args.tree.now),
      c.in_ok-section.ensures,
    )
    (first_fails _ _ _ (rw c.own_offset-own.ensures at c.in_err-offset.ensures.starts))

-- ---- all sections

pub with_sections-in_section-requires : goal.with_sections-in_section-requires
with_sections-in_section-requires t c =
    let n = 8 - c.args.level in
    let inner = section_map c.args.base.now c.args.limits n in
    has_room n c.in-Err.error (listed_section c.args.level inner c.args.outer c.loop-k.last
    (listing_of c.loop-k.listed) (view c.section_value-tree.result.now)) (omega (arith, c.requires.first))
    (section_depth c.args.level inner n (map_depth c.args.base.now c.args.limits n) c.args.outer c.loop-k.last
    (listing_of c.loop-k.listed) (view c.section_value-tree.result.now))
    c.in-Err.ensures.reads

pub with_sections-returns-in-Err-clause-reads : goal.with_sections-returns-in-Err-clause-reads
with_sections-returns-in-Err-clause-reads t c =
    rw (
      c.in_section.ensures,
      c.loop-k.invariant.reads,
      sections_next c.args.level (section_map c.args.base.now c.args.limits (8 - c.args.level)) c.args.outer
          c.loop-k.k c.loop-k.last (listing_of c.loop-k.listed) c.args.shape.now.sections _
          c.section_value-tree.ensures,
    )
    (first_fails _ _ _ (fails_within c.loop-k.k c.in-Err.error _ c.in-Err.ensures.reads))

pub with_sections-loop-k-preserved : goal.with_sections-loop-k-preserved
with_sections-loop-k-preserved t c = record {
  reads = rw (
    c.loop-k.invariant.reads,
    sections_next c.args.level (section_map c.args.base.now c.args.limits (8 - c.args.level)) c.args.outer
        c.loop-k.k c.loop-k.last (listing_of c.loop-k.listed) c.args.shape.now.sections _
        c.section_value-tree.ensures,
    c.in-Ok.ensures.reads,
  ) refl;
  fits = c.in-Ok.ensures.fits;
}

pub with_sections-returns-clause-reads : goal.with_sections-returns-clause-reads
with_sections-returns-clause-reads t c = c.loop-k.invariant.reads
    ∙ sections_end c.args.level (section_map c.args.base.now c.args.limits (8 - c.args.level)) c.args.outer
    c.loop-k.k c.loop-k.last (listing_of c.loop-k.listed) c.args.shape.now.sections (omega arith)
