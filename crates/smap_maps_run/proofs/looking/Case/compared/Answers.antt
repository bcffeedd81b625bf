use Rattle.smap_maps_run.proofs.LookingLemmas.{unread_so}
use Rattle.smap_maps_run.proofs.looking.Case.compared.Goals as goal

pub returns-in-Err : goal.returns-in-Err
returns-in-Err g c = unread_so _ c.args.rewrite c.args.file.now.base c.args.self.now.url_bytes
    c.args.file.now.bytes.items _ c.in-Err.error c.unread.result
    (rw c.as_slice-bytes.ensures.value at c.in-Err.ensures.gives)
    (rw c.as_slice-bytes.ensures.value at c.unread.ensures)
