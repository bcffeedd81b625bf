use Rattle.std.proofs.Common.{◌≡◌, map, take}
use Rattle.smap_link.specs.Paths.{bare}
use Rattle.smap_link.specs.Table.{rows_of, texts_in}
use Rattle.smap_link.proofs.table.bare_texts.Given as goal

abbrev pub invariant-loop-i : goal.invariant-loop-i
invariant-loop-i l = map (λ t. t.now) l.all.items ≡ take l.i (map bare (texts_in (rows_of l.table.entries)))
