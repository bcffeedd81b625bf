use Rattle.std.proofs.Common.{◌≡◌, ◌+◌, ◌≤◌, ◌⊎◌, ◌∙◌, arith, inl, inr, length, sym, ⊎_elim}
use Rattle.std.proofs.lemmas.Bool.{cases_lt}
use Rattle.smap_record.specs.Record.{record_of}
use Rattle.smap_record.specs.Views.{entry_of_view, origin_of_view}
use Rattle.smap_trace.specs.Names.{has_name_there, named_in}
use Rattle.smap_trace.proofs.NameLemmas.{fits_is, near_is, none_found, none_named, one_found}
use Rattle.smap_trace.proofs.NameLemmas.{one_named}
use Rattle.smap_trace.proofs.names.fits.Goals as goal
use Rattle.smap_trace.proofs.names.fits.Goals.{in-Some+then-has_name_there, in-Some+else-has_name_there}
use Rattle.smap_trace.proofs.names.fits.Goals.{in_default}

pub loop-i-preserved : goal.loop-i-preserved
loop-i-preserved c =
    let ms = (record_of c.args.mapped.now.map.now).mappings in
    let f = named_in (entry_of_view c.args.mapped.now.original.source) in
    let p = has_name_there c.args.text.now in
    let from = c.saturating_sub-from.result in
    let i = c.loop-i.i in
    elim c.match-named_in.branch [
      | in-Some+then-has_name_there w ↦ record {
        few = omega arith;
        fewer = omega arith;
        named_are = w.named-is ∙ one_named f p ms from i (omega arith) c.loop-i.named
            (origin_of_view w.in-Some.original) w.in-Some.ensures c.loop-i.invariant.named_are;
        found_are = λ lines. w.found-is ∙ one_found f p ms from i (omega arith) c.loop-i.found
            (origin_of_view w.in-Some.original) _ w.in-Some.ensures
            (sym w.if-has_name_there.true ∙ w.has_name_there.ensures lines)
            (c.loop-i.invariant.found_are lines);
      }
      | in-Some+else-has_name_there w ↦ record {
        few = omega arith;
        fewer = omega arith;
        named_are = w.named-is ∙ one_named f p ms from i (omega arith) c.loop-i.named
            (origin_of_view w.in-Some.original) w.in-Some.ensures c.loop-i.invariant.named_are;
        found_are = λ lines.
            let all = one_found f p ms from i (omega arith) c.loop-i.found
            (origin_of_view w.in-Some.original) _ w.in-Some.ensures
            (sym w.if-has_name_there.false ∙ w.has_name_there.ensures lines)
            (c.loop-i.invariant.found_are lines) in
            w.found-is ∙ omega arith;
      }
      | in_default w ↦ record {
        few = omega arith;
        fewer = omega arith;
        named_are = w.named-is ∙ none_named f p ms from i (omega arith) c.loop-i.named w.in_default.ensures
            c.loop-i.invariant.named_are;
        found_are = λ lines. w.found-is ∙ none_found f p ms from i (omega arith) c.loop-i.found
            w.in_default.ensures (c.loop-i.invariant.found_are lines);
      }
    ]

pub returns : goal.returns
returns c = λ lines.
    let ms = (record_of c.args.mapped.now.map.now).mappings in
    let index = c.args.mapped.now.index in
    let from = c.saturating_sub-from.result in
    let to = c.min-to.result in
    let ends : (to ≡ index + 64) ⊎ ((to ≡ length ms) × (length ms ≤ index + 64)) = ⊎_elim
    (λ lt. inr (omega arith, omega arith)) (λ le. inl (omega arith)) (cases_lt (length ms) (index + 64)) in
    let all = near_is ms index from to (omega arith) c.requires.within ends in
    fits_is c.args.text.now (entry_of_view c.args.mapped.now.original.source) ms index from to c.loop-i.i
    c.loop-i.named c.loop-i.found (omega arith) all c.loop-i.invariant.named_are
    (c.loop-i.invariant.found_are lines)
