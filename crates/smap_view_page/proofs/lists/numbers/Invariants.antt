use Rattle.std.proofs.Common.{◌≡◌, map, take}
use Rattle.serde_json.specs.View.{view}
use Rattle.smap_view_page.specs.Trees.{whole_number}
use Rattle.smap_view_page.proofs.lists.numbers.Given as goal

abbrev pub invariant-loop-number : goal.invariant-loop-number
invariant-loop-number l = map view l.values.items ≡ map whole_number (take l.number-index l.numbers)
