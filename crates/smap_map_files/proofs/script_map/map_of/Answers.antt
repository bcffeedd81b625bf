use Rattle.std.proofs.Common.{sym}
use Rattle.smap_map_files.proofs.script_map.map_of.Goals as goal

pub returns-in-Inline : goal.returns-in-Inline
returns-in-Inline g c =
    let named = rw c.as_bytes.ensures.value at c.in-Some.ensures in
    (c.in-Some.url.now, sym named, rw c.in-Inline.is at c.in_ok-target.ensures)
