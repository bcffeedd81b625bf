use Rattle.std.proofs.Common.{◌+◌, ◌∙◌, ◌++◌, ◌∷◌, [], ap, sym, subst, List, map}
use Rattle.std.proofs.lemmas.List.{map-append}
use Rattle.smap_trace.specs.LineParts.{Part, part_in}
use Rattle.smap_trace.specs.OccurrenceView.{occurrence_in}
use Rattle.smap_trace.proofs.LinePartLemmas.{HasParts, all_parts, one_more}
use Rattle.smap_trace.proofs.line_parts.positions_anywhere.Goals as goal

pub positions-preserved : goal.positions-preserved
positions-preserved g c =
    let ignore = c.args.ignore_query in
    let scripts = g.M.Maps.scripts c.args.maps.now in
    let text = c.args.text.now in
    let before = c.positions.positions.items in
    let HasThese =
    λ (parts : List Part). HasParts ignore scripts text parts (c.in-Some.start + c.in-Some.found.width) in
    record {
      within = c.in-Some.ensures.1;
      parts = subst HasThese (sym (ap (map part_in) c.in_ok-push.ensures.items
          ∙ map-append part_in before (c.position_at.result ∷ [])))
          (subst (λ (p : Part). HasThese (map part_in before ++ p ∷ [])) (sym c.position_at.ensures)
          (one_more ignore scripts text (map part_in before) c.positions.at c.in-Some.start
          (occurrence_in c.in-Some.found) c.in-Some.ensures.3 c.positions.invariant.parts));
    }

pub returns : goal.returns
returns g c =
    all_parts c.args.ignore_query (g.M.Maps.scripts c.args.maps.now) c.args.text.now
    (map part_in c.positions.positions.items) c.positions.at c.in_default.ensures c.positions.invariant.parts
