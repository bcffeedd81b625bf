use Rattle.std.proofs.Common.{◌∙◌, ap, map}
use Rattle.std.proofs.lemmas.List.{take_all}
use Rattle.std.proofs.lemmas.Option.{slice_get-get_or}
use Rattle.smap_system.specs.Fixed as spec
use Rattle.smap_system.specs.Tree.{entry_in}
use Rattle.smap_system.proofs.ListingLemmas.{mapped_more}
use Rattle.smap_system.proofs.fixed.listing_of.Goals as goal

pub loop-i-preserved : goal.loop-i-preserved
loop-i-preserved c =
    mapped_more entry_in spec.entry_of c.loop-i.listed.items c.push.new.self.items c.args.entries.now
    c.loop-i.i
    c.in_ok-entry_of.field-0 _ (slice_get-get_or c.args.entries.now c.loop-i.i _ c.loop-i-test.true)
    c.in_ok-push.ensures.items c.in_ok-entry_of.ensures c.loop-i.invariant

pub returns : goal.returns
returns c = c.loop-i.invariant ∙ ap (λ es. map spec.entry_of es)
    (take_all c.loop-i.i c.args.entries.now c.loop-i-test.false)
