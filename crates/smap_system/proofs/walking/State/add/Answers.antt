use Rattle.std.proofs.Common.{◌∙◌, ap, string_bytes}
use Rattle.smap_system.proofs.WalkLemmas.{after_file, after_folder, are_kept}
use Rattle.smap_system.specs.Paths.{joined}
use Rattle.smap_system.proofs.walking.State.add.Goals as goal

pub returns-then-is_folder-clause-wanted : goal.returns-then-is_folder-clause-wanted
returns-then-is_folder-clause-wanted g c h =
    after_folder c.args.search.now.endings.now c.add_folder.result c.args.self.now.names.items _
    (ap (λ v. v.items) (c.add_folder.ensures.names ∙ c.note.ensures.names)) h

pub returns-then-branch-clause-wanted : goal.returns-then-branch-clause-wanted
returns-then-branch-clause-wanted g c h =
    after_file c.args.search.now.endings.now c.add_name.result c.note.new.self.names.items _
    c.in_ok-name.name c.add_name.ensures.names (
      c.args.folder.now,
      string_bytes c.args.entry.now.name,
      c.in_ok-name.ensures ∙ ap (joined c.args.folder.now) c.deref.ensures,
      c.in_ok-is_wanted.ensures.ending c.if-branch.true,
    )
    (are_kept c.args.search.now.endings.now c.args.self.now.names.items _
    (ap (λ v. v.items) c.note.ensures.names) h)

pub returns-clause-wanted : goal.returns-clause-wanted
returns-clause-wanted g c h = are_kept c.args.search.now.endings.now c.args.self.now.names.items _
    (ap (λ v. v.items) c.note.ensures.names) h
