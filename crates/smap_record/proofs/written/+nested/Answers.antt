use Rattle.std.proofs.Common.{◌≡◌, ◌∙◌, ◌-◌, ◌<◌, ◌≤◌, ◌++◌, ap, sym, arith}
use Rattle.std.proofs.Common.{List, Ok, Some, map, length}
use Rattle.std.proofs.Common.{slice_get, append-nil}
use Rattle.std.specs.Prelude.{Result, option_map, flat_map}
use Rattle.std.proofs.Math.ListN.{drop_of_length-le}
use Rattle.std.proofs.lemmas.List.{length-map}
use Rattle.std.proofs.lemmas.Option.{slice_get-map}
use Rattle.serde_json.specs.Data.{Data}
use Rattle.serde_json.specs.View.{view}
use Rattle.smap_shape.specs.declared.fault.ShapeFault.{ShapeFault}
use Rattle.smap_shape.specs.declared.kinds.Shape.{Shape}
use Rattle.smap_shape.specs.Members.{MapMembers, flat}
use Rattle.smap_shape.specs.Reading.{shape_of}
use Rattle.smap_shape.specs.Views.{index_members, shape_members}
use Rattle.smap_record.specs.Written.{of_section, of_members}
use Rattle.smap_record.proofs.WrittenLemmas.{flat_members, no_level, one_level_more, section_added}
use Rattle.smap_record.proofs.written.+nested.Goals as goal

abbrev has : MapMembers Data → Result (MapMembers Data) ShapeFault
has members = Ok members

pub with_map-returns-in-Ok-Flat : goal.with_map-returns-in-Ok-Flat
with_map-returns-in-Ok-Flat t c =
    let m = c.in-Ok-Flat.members in
    let members : shape_of (view c.args.tree.now) ≡ Ok (flat m) = sym c.in-Ok-Flat.ensures
    ∙ ap (λ (x : Shape). has (shape_members x)) c.in-Ok-Flat.field-0-is in
    rw (members, flat_members c.args.levels m) c.with_flat.ensures

pub with_sections-returns-then-levels-eq0 : goal.with_sections-returns-then-levels-eq0
with_sections-returns-then-levels-eq0 t c =
    rw (no_level c.args.levels (index_members c.args.shape.now) c.if-levels-eq0.true)
    (sym (append-nil c.args.before))

pub with_sections-loop-k-preserved : goal.with_sections-loop-k-preserved
with_sections-loop-k-preserved t c =
    let own = of_section (8 - (c.args.levels - 1)) (of_members (c.args.levels - 1)) in
    let all = map view c.args.shape.now.sections in
    let tree = view c.section_value.result.now in
    let at : slice_get all c.loop-k.k ≡ Some tree = slice_get-map view c.args.shape.now.sections c.loop-k.k
    ∙ ap (option_map view) c.section_value.ensures in
    rw c.in_ok-written.ensures
    (section_added own c.loop-k.written all c.loop-k.k tree at ∙ c.loop-k.invariant)

pub with_sections-returns : goal.with_sections-returns
with_sections-returns t c =
    let own = of_section (8 - (c.args.levels - 1)) (of_members (c.args.levels - 1)) in
    let all = map view c.args.shape.now.sections in
    let end : length all ≤ c.loop-k.k = omega (arith, length-map c.args.shape.now.sections view) in
    let other = c.if-levels-eq0.false in
    let some : 0 < c.args.levels = omega (arith, other) in
    rw (one_level_more c.args.levels (index_members c.args.shape.now) some)
    (sym (append-nil c.loop-k.written)
    ∙ ap (λ (l : List Data). c.loop-k.written ++ flat_map own l) (sym (drop_of_length-le all end))
    ∙ c.loop-k.invariant)
