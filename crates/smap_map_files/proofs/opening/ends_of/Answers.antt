use Rattle.std.proofs.Common.{◌∙◌, ap, sym}
use Rattle.std.specs.Prelude.{is_some}
use Rattle.smap_map_files.specs.RootView.{folder_of}
use Rattle.smap_map_files.proofs.ReachedLemmas.{no_ends, script_ends}
use Rattle.smap_map_files.proofs.opening.ends_of.Goals as goal

pub returns-then-is_script : goal.returns-then-is_script
returns-then-is_script c =
    let subject = c.args.subject.now in
    let is_found = ap (λ r. is_some (folder_of r)) c.in-Some.is in
    let is_script = rw c.deref.ensures.value at (sym c.is_script.ensures ∙ c.if-is_script.true) in
    rw (script_ends (folder_of subject.root) subject.place.file.items c.args.text.now is_found is_script)
    c.script_widths.ensures

pub returns : goal.returns
returns c = no_ends (folder_of c.args.subject.now.root) c.args.subject.now.place.file.items c.args.text.now
    (rw c.deref.ensures.value at (sym c.is_script.ensures ∙ c.if-is_script.false))
