use Rattle.std.proofs.Common.{◌≡◌, ◌++◌, ℕ, List, ap, false, flat_map, rules}
use Rattle.smap_trace.specs.Anywhere.{pieces_of}
use Rattle.smap_trace.specs.Translation.{anywhere_fate, frame_fate, is_dropped, without_line_feed, written}
use Rattle.smap_trace.specs.Translation.{written_for}
use Rattle.smap_trace.proofs.PieceLemmas.{anywhere_written, shown_all, shown_one, written_as}
use Rattle.smap_trace.proofs.lines.translate_anywhere.Goals as goal

pub returns-clause-ok : goal.returns-clause-ok
returns-clause-ok g c =
    let ignore = c.args.ignore_query in
    let scripts = g.M.Maps.scripts c.args.maps.now in
    let line = c.args.line.now in
    let shown : is_dropped (frame_fate ignore scripts c.args.hide (without_line_feed line)) ≡ false =
    elim c.else-hide.branch [
      | goal.else-hide-via-then-hide+else-is_hidden w ↦ shown_one ignore scripts c.args.hide
          (without_line_feed line)
          w.if-hide.true (search rules)
      | goal.else-hide-via-else-hide w ↦ shown_all ignore scripts c.args.hide (without_line_feed line)
          w.if-hide.false
    ] in
    let out = c.args.out.now.items in
    written_as c.translate_pieces.result c.translate_pieces.new.out.items
    (out ++ (flat_map written_for (pieces_of ignore scripts c.cut_feed.result.0.now)
    ++ c.cut_feed.result.1.now))
    (out ++ written (anywhere_fate ignore scripts c.args.hide (without_line_feed line)) line)
    (rw (c.cut_feed.ensures.text, c.cut_feed.ensures.feed) (ap (λ (xs : List ℕ). out ++ xs)
    (anywhere_written ignore scripts c.args.hide line shown)))
    c.translate_pieces.ensures.ok
