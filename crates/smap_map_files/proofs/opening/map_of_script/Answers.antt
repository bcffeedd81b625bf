use Rattle.std.proofs.Common.{inl, inr}
use Rattle.smap_map_choice.specs.PlaceView.{place_in}
use Rattle.smap_map_files.proofs.ReachedLemmas.{if_both, left_out, reached_beside}
use Rattle.smap_map_files.proofs.ReachedLemmas.{reached_itself, reached_link}
use Rattle.smap_map_files.proofs.ReachedLemmas.{reached_within}
use Rattle.smap_map_files.proofs.opening.map_of_script.Goals as goal

pub returns-in-Nothing : goal.returns-in-Nothing
returns-in-Nothing g c =
    let followed = rw c.deref.ensures.value at (rw c.in-Nothing.is at c.in_ok-bytes.ensures) in
    let text = c.args.text.items in
    if_both c.itself_loaded.result (λ some. left_out _ _ _ text c.requires.held (inl followed) some)
    (λ f read. reached_itself _ _ _ _ _ text f.1 c.requires.held read) c.itself_loaded.ensures

pub returns-in-Wrong : goal.returns-in-Wrong
returns-in-Wrong g c =
    let followed = rw c.deref.ensures.value at (rw c.in-Wrong.is at c.in_ok-bytes.ensures) in
    let text = c.args.text.items in
    if_both c.wrong_loaded.result (λ some. left_out _ _ _ text c.requires.held (inr followed) some)
    (λ f link. reached_link _ _ _ _ _ text f.1 c.requires.held followed link) c.wrong_loaded.ensures

pub returns-in_ok-inline_loaded-in-Inline : goal.returns-in_ok-inline_loaded-in-Inline
returns-in_ok-inline_loaded-in-Inline g c =
    let followed = rw c.deref.ensures.value at (rw c.in-Inline.is at c.in_ok-bytes.ensures) in
    reached_within _ _ _ _ _ c.args.text.items _ _ c.in_ok-inline_loaded-in-Inline.field-0.1 c.requires.held
    followed c.requires.ends c.in_ok-inline_loaded-in-Inline.ensures

pub returns-in_ok-beside_loaded-in-File : goal.returns-in_ok-beside_loaded-in-File
returns-in_ok-beside_loaded-in-File g c =
    let followed = rw c.deref.ensures.value at (rw c.in-File.is at c.in_ok-bytes.ensures) in
    reached_beside _ _ _ _ _ (place_in c.in-File.found) c.args.text.items _
    c.in_ok-beside_loaded-in-File.field-0.1
    c.requires.held followed.0 followed.1 c.requires.ends c.in_ok-beside_loaded-in-File.ensures
