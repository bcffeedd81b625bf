use Rattle.std.proofs.Common.{◌≤◌, length, map, take}
use Rattle.smap_record.specs.Record.{record_of}
use Rattle.smap_compose.specs.Composing.{composition}
use Rattle.smap_compose.specs.Following.{AreOf, texts_of}
use Rattle.smap_compose.specs.Numbered.{maps_of}
use Rattle.smap_compose.proofs.joining.join_by.Given as goal

-- the mappings that were gone through are joined
abbrev pub invariant-loop-i : goal.invariant-loop-i
invariant-loop-i g l =
    let maps = maps_of l.outer (map g.H.HasMap.held_map l.inner) l.leads in
    let ms = (composition (record_of l.outer) maps).mappings in
    record {
      are : AreOf l.standing.sources (take l.i ms) (texts_of l.joined.names.keys) l.joined.tokens.items;
      few : length (texts_of l.joined.names.keys) ≤ l.items;
    }
