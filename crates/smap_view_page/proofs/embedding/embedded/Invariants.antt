use Rattle.std.proofs.Common.{◌≡◌, take}
use Rattle.std.specs.List.{flat_map}
use Rattle.smap_view_page.specs.Embedding.{embedded_byte}
use Rattle.smap_view_page.proofs.embedding.embedded.Given as goal

abbrev pub invariant-loop-byte : goal.invariant-loop-byte
invariant-loop-byte l = l.made.items ≡ flat_map embedded_byte (take l.byte-index l.bytes)
