use Rattle.std.proofs.Common.{subst, sym}
use Rattle.smap_extract.specs.Places.{Has, items_of}
use Rattle.smap_extract.proofs.PlaceLemmas.{inserted}
use Rattle.smap_extract.proofs.placing.add_folder.Goals as goal

pub returns : goal.returns
returns c =
    let key = c.in_ok-lowercase.field-0 in
    subst (Has (items_of c.args.folders.now.keys) (items_of c.insert.new.self.keys))
    c.in_ok-lowercase.ensures
    (subst (λ keys. Has (items_of c.args.folders.now.keys) (items_of keys) key.items)
    (sym c.in_ok-insert.ensures.keys) (inserted c.args.folders.now.keys key))
