use Rattle.std.proofs.Common.{◌+◌, ◌++◌, drop, flat_map, slice_range}
use Rattle.std.specs.Io.{StartsWith}
use Rattle.std.specs.List.{list_any}
use Rattle.smap_trace.specs.Anywhere.{Piece, found, pieces_of}
use Rattle.smap_trace.specs.Cutting.{pieces_from}
use Rattle.smap_trace.specs.OccurrenceView.{occurrence_in}
use Rattle.smap_trace.specs.Translation.{is_replaced, written_for}
use Rattle.smap_trace.proofs.CuttingLemmas.{replaced_all, replaced_on, written_all, written_on}
use Rattle.std.proofs.lemmas.List.{take_rest}
use Rattle.smap_trace.proofs.StartsLemmas.{on_err, starts_append, starts_trans}
use Rattle.smap_trace.proofs.anywhere.push_pieces.Goals as goal

pub returns-in_err-replaced-clause-err : goal.returns-in_err-replaced-clause-err
returns-in_err-replaced-clause-err g c =
    on_err c.from_residual-in_err-replaced.result
    (StartsWith c.push_found.new.out.items c.args.out.now.items)
    (starts_trans c.args.out.now.items c.positions.out.items c.push_found.new.out.items
    c.positions.invariant.starts (starts_trans c.positions.out.items c.extend_from_slice.new.self.items
    c.push_found.new.out.items (starts_append c.positions.out.items c.extend_from_slice.new.self.items
    (slice_range c.args.text.now c.positions.at c.in-Some.start) c.in_ok-extend_from_slice.ensures.items)
    c.in_err-replaced.ensures.err))

pub positions-preserved : goal.positions-preserved
positions-preserved g c =
    let text = c.args.text.now in
    let ignore = c.args.ignore_query in
    let scripts = g.M.Maps.scripts c.args.maps.now in
    let next = c.in-Some.start + c.in-Some.found.width in
    let piece : Piece = found (occurrence_in c.in-Some.found) (slice_range text c.in-Some.start next) in
    let split = c.in-Some.ensures.3 in
    record {
      within = c.in-Some.ensures.1;
      starts = starts_trans c.args.out.now.items c.positions.out.items c.push_found.new.out.items
          c.positions.invariant.starts (starts_trans c.positions.out.items
          c.extend_from_slice.new.self.items c.push_found.new.out.items
          (starts_append c.positions.out.items c.extend_from_slice.new.self.items
          (slice_range text c.positions.at c.in-Some.start) c.in_ok-extend_from_slice.ensures.items)
          (starts_append c.extend_from_slice.new.self.items c.push_found.new.out.items (written_for piece)
          c.in_ok-replaced.ensures.ok));
      written = written_on (pieces_from ignore scripts text c.positions.at)
          (pieces_from ignore scripts text next) (slice_range text c.positions.at c.in-Some.start) piece split
          c.positions.out.items c.extend_from_slice.new.self.items c.push_found.new.out.items
          (c.args.out.now.items ++ flat_map written_for (pieces_of ignore scripts text))
          c.in_ok-extend_from_slice.ensures.items c.in_ok-replaced.ensures.ok
          c.positions.invariant.written;
      replaced = rw c.in_ok-replaced.ensures.replaced (replaced_on
          (pieces_from ignore scripts text c.positions.at) (pieces_from ignore scripts text next)
          (slice_range text c.positions.at c.in-Some.start) piece split c.positions.replaced
          (list_any is_replaced (pieces_of ignore scripts text)) c.positions.invariant.replaced);
    }

pub returns-clause-ok : goal.returns-clause-ok
returns-clause-ok g c =
    let text = c.args.text.now in
    let pieces = pieces_from c.args.ignore_query (g.M.Maps.scripts c.args.maps.now) text c.positions.at in
    written_all pieces (drop c.positions.at text) c.positions.out.items c.extend_from_slice-2.new.self.items
    (c.args.out.now.items ++ flat_map written_for (pieces_of c.args.ignore_query (g.M.Maps.scripts
    c.args.maps.now) text)) c.in_default.ensures
    (rw (take_rest text c.positions.at) at c.in_ok-extend_from_slice-2.ensures.items)
    c.positions.invariant.written

pub returns-clause-replaced : goal.returns-clause-replaced
returns-clause-replaced g c =
    let text = c.args.text.now in
    replaced_all (pieces_from c.args.ignore_query (g.M.Maps.scripts c.args.maps.now) text c.positions.at)
    (drop c.positions.at text) c.positions.replaced (list_any is_replaced (pieces_of c.args.ignore_query
    (g.M.Maps.scripts c.args.maps.now) text)) c.in_default.ensures c.positions.invariant.replaced
