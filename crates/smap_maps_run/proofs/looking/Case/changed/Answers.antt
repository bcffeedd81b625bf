use Rattle.std.proofs.Common.{◌≡◌, ◌∙◌, ap, sym, not}
use Rattle.smap_maps_run.specs.Deciding.{decided}
use Rattle.smap_maps_run.specs.Looking.{loses}
use Rattle.smap_maps_run.proofs.LookingLemmas.{compared_so, told_loss}
use Rattle.smap_maps_run.proofs.looking.Case.changed.Goals as goal

pub done-requires : goal.done-requires
done-requires g c =
    let old = c.args.file.now.bytes.items in
    let told = rw c.deref.ensures.value at c.in-Ok.ensures in
    let loss : not c.is_empty.result ≡ loses old =
    told_loss c.in-Ok.drops c.is_empty.result old c.is_empty.ensures told in
    let due : c.decided-deed.result ≡ decided c.args.rewrite (loses old) =
    c.decided-deed.ensures ∙ ap (decided c.args.rewrite) loss in
    λ is. record {
      file = c.args.file.now;
      is_file = c.requires.file;
      due = rw c.requires.form.work_is (c.requires.form.gives, sym due ∙ is);
    }

pub returns : goal.returns
returns g c =
    let old = c.args.file.now.bytes.items in
    let told = rw c.deref.ensures.value at c.in-Ok.ensures in
    let loss : not c.is_empty.result ≡ loses old =
    told_loss c.in-Ok.drops c.is_empty.result old c.is_empty.ensures told in
    rw c.requires.form.work_is (compared_so _ c.args.rewrite c.args.file.now.base c.args.self.now.url_bytes
    old c.args.text.now _ c.done.result c.requires.form.gives c.requires.form.other told
    (rw (c.decided-deed.ensures, loss) at c.done.ensures))
