use Rattle.std.proofs.Common.{rules, ◌+◌, arith}
use Rattle.std.proofs.lemmas.Bool.{false≢true}
use Rattle.smap_fault_places.proofs.PassLemmas.{items-start, items-more, items-over}
use Rattle.smap_fault_places.proofs.passing.pass_items.Goals as goal

pub items-init : goal.items-init
items-init c = (0, items-start c.args.depth c.args.reader.now, λ e. absurd (false≢true e))

pub items-preserved : goal.items-preserved
items-preserved c =
    let n = c.items.invariant.0 in (
      n + 1,
      items-more c.args.depth n c.args.reader.now c.take_end_array.new.self c.skip_value.new.self (search
          rules) (search rules),
      λ e. omega arith,
    )

pub returns : goal.returns
returns c = items-over c.args.depth c.items.invariant.0 c.args.reader.now c.items.reader
    c.take_end_array.new.self
    c.items.invariant.1 (search rules) c.items.some c.items.invariant.2
