use Rattle.std.proofs.Common.{◌≡◌, ◌<◌, ◌++◌, List, None, drop, length}
use Rattle.std.specs.Prelude.{IfSome, option_and_then, slice_get}
use Rattle.smap_mappings.specs.Position.{POSITIONS}
use Rattle.smap_record.specs.Record.{Mapping, record_of}
use Rattle.smap_compose.specs.Following.{AreOf, texts_of}
use Rattle.smap_compose.specs.Thinning.{thin_after}
use Rattle.smap_compose.proofs.thinning.thin_mappings.Given as goal

-- those that stayed, and those that stay of the rest, are all that stay
abbrev pub invariant-loop-i : goal.invariant-loop-i
invariant-loop-i l =
    let ms = (record_of l.map).mappings in
    record {
      done : List Mapping;
      are : AreOf (record_of l.map).sources done (texts_of l.joined.names.keys) l.joined.tokens.items;
      left : done ++ thin_after (option_and_then (slice_get ms) l.last) (drop l.i ms) ≡ thin_after None ms;
      last : IfSome l.last (λ k. k < length ms);
      few : length (texts_of l.joined.names.keys) < POSITIONS;
    }
