use Rattle.std.proofs.Common.{◌≡◌, false, bytes_eq, rules, subst, sym}
use Rattle.std.specs.List.{list_any}
use Rattle.smap_extract.specs.Places.{IsFree, items_of}
use Rattle.smap_extract.proofs.PlaceLemmas.{freed}
use Rattle.smap_extract.proofs.placing.take.Goals as goal

pub returns : goal.returns
returns c =
    let key = c.in_ok-key.key in
    let slice = c.as_slice.result.now in
    let other = c.as_slice-else-contains.result.now in
    let folder : list_any (λ x. bytes_eq slice x.items) c.args.folders.now.keys ≡ false = search rules in
    let before : list_any (λ x. bytes_eq other x.items) c.args.taken.now.keys ≡ false = search rules in
    subst (λ keys. IsFree (items_of c.args.folders.now.keys) (items_of c.args.taken.now.keys) (items_of keys)
    c.args.path.now) (sym c.in_ok-insert.ensures.keys)
    (freed c.args.folders.now.keys c.args.taken.now.keys key c.args.path.now c.in_ok-key.ensures
    (rw c.as_slice.ensures.value at folder) (rw c.as_slice-else-contains.ensures.value at before))
