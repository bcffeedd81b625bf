use Rattle.std.proofs.Common.{◌≡◌, ◌∙◌, Some, slice_get, cond, ◌==◌, refl}
use Rattle.std.proofs.lemmas.Option.{slice_get-map}
use Rattle.smap_record.specs.Record.{record_of, mapping_of}
use Rattle.smap_view_page.specs.Owners.{owner}
use Rattle.smap_view_page.proofs.ReachLemmas.{passes, owner_is, in_line, off_line}
use Rattle.smap_view_page.proofs.measuring.passed.Goals as goal
use Rattle.smap_view_page.proofs.measuring.passed.Goals.{then-token-cursor, else-token-cursor}

pub returns-clause-reached : goal.returns-clause-reached
returns-clause-reached c =
    let m = c.args.map.now in
    let r = record_of m in
    let i = c.args.cursor.next in
    let t = mapping_of m.listing c.args.token in
    let old = c.args.cursor in
    let new = c.if-token-cursor.owner in
    let at : slice_get r.mappings i ≡ Some t =
    rw (slice_get-map (mapping_of m.listing) m.listing.tokens i, c.requires.token) refl in
    let is : new ≡ cond (t.line == old.line) (owner r.sources t.origin) old.owner =
    elim c.if-token-cursor.branch [
      | then-token-cursor w ↦ in_line t.line old.line (owner r.sources t.origin) old.owner new
          w.if-token-cursor.true
          (w.owner-is ∙ owner_is r i w.owner_of-owner.result t at w.owner_of-owner.ensures.owner)
      | else-token-cursor w ↦ off_line t.line old.line (owner r.sources t.origin) old.owner new
          w.if-token-cursor.false w.owner-is
    ] in
    passes r old new t at c.requires.there is c.requires.reached
