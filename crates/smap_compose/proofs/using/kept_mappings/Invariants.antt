use Rattle.std.proofs.Common.{◌<◌, length, take}
use Rattle.smap_mappings.specs.Position.{POSITIONS}
use Rattle.smap_record.specs.Record.{record_of}
use Rattle.smap_compose.specs.Following.{AreOf, texts_of}
use Rattle.smap_compose.proofs.using.kept_mappings.Given as goal

-- the mappings that were gone through are joined
abbrev pub invariant-loop-i : goal.invariant-loop-i
invariant-loop-i l = record {
  are : AreOf l.kept.sources (take l.i (record_of l.map).mappings) (texts_of l.joined.names.keys)
      l.joined.tokens.items;
  few : length (texts_of l.joined.names.keys) < POSITIONS;
}
