use Rattle.std.proofs.Common.{◌≡◌, ◌∙◌, arith, inl, inr, sym, true}
use Rattle.smap_system.specs.Held.{IsHeld}
use Rattle.smap_map_finder.proofs.CopyLemmas.{same_of}
use Rattle.smap_map_finder.proofs.opening.Search.hold_same.Goals as goal

pub returns-then-are_maps : goal.returns-then-are_maps
returns-then-are_maps g c = λ is.
    let held = g.D.Disk.held c.args.self.now.host.now.disk.now in
    let bytes = c.in-Some.bytes.items in
    let one : IsHeld held c.args.first.now bytes = rw c.in-Some.is at c.in_ok-bytes.ensures in
    let other : IsHeld held c.args.second.now c.in-Some-2.others.items =
    rw c.in-Some-2.is at c.in_ok-others.ensures in
    let are : c.are_same.result ≡ true = grind (arith, c.if-not-are_same.false) in
    let same : bytes ≡ c.in-Some-2.others.items =
    sym c.deref.ensures.value ∙ c.are_same.ensures are ∙ c.deref-2.ensures.value in
    same_of held c.args.are_maps c.args.first.now c.args.second.now bytes one (rw (sym same) at other)
    (inl c.if-are_maps.true)

pub returns : goal.returns
returns g c = λ is.
    let held = g.D.Disk.held c.args.self.now.host.now.disk.now in
    let bytes = c.in-Some.bytes.items in
    let one : IsHeld held c.args.first.now bytes = rw c.in-Some.is at c.in_ok-bytes.ensures in
    let other : IsHeld held c.args.second.now c.in-Some-2.others.items =
    rw c.in-Some-2.is at c.in_ok-others.ensures in
    let are : c.are_same.result ≡ true = grind (arith, c.if-not-are_same.false) in
    let same : bytes ≡ c.in-Some-2.others.items =
    sym c.deref.ensures.value ∙ c.are_same.ensures are ∙ c.deref-2.ensures.value in
    same_of held c.args.are_maps c.args.first.now c.args.second.now bytes one (rw (sym same) at other)
    (inr (rw c.deref-3.ensures.value at (c.holds_map.ensures is)))
