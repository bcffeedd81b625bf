use Rattle.smap_map_files.specs.declared.loading.Loaded.TheVariants as loaded
use Rattle.smap_map_files.proofs.ReachedLemmas.{held_bytes, if_both, reached_ended, reached_itself_by}
use Rattle.smap_map_files.proofs.ReachedLemmas.{reached_unread}
use Rattle.smap_map_files.proofs.opening.content_loaded.Goals as goal

pub returns-in-Script : goal.returns-in-Script
returns-in-Script g c =
    if_both c.script_loaded.result (λ left. left) (λ f up. reached_itself_by _ _ _ _ _ f.1 up)
    c.script_loaded.ensures

pub returns-in_ok-loaded-in-Bytes : goal.returns-in_ok-loaded-in-Bytes
returns-in_ok-loaded-in-Bytes g c =
    let is = held_bytes _ _ c.in-Bytes.bytes (rw c.in-Bytes.is at c.requires.held) in
    let read = rw c.deref.ensures.value at c.in_ok-loaded-in-Bytes.ensures in
    reached_ended _ _ _ _ _ _ _ c.in_ok-loaded-in-Bytes.loaded is c.requires.ends read

pub returns-in_ok-place-in-Unread : goal.returns-in_ok-place-in-Unread
returns-in_ok-place-in-Unread g c = reached_itself_by _ _ _ _ _ (loaded.Broken c.in-Unread.why)
    (reached_unread _ _ _ _ _ c.in-Unread.why (rw c.in-Unread.is at c.requires.held))
