use Rattle.std.proofs.Common.{◌≡◌, ◌∙◌, Some, ap, append-nil, arith, rules, slice_get, sym}
use Rattle.std.proofs.lemmas.Option.{slice_get_read}
use Rattle.smap_system.specs.Tree.{entries_in, entry_in}
use Rattle.smap_system.specs.Walking.{files_in, folders_in, has_ending, texts}
use Rattle.smap_system.proofs.ListingLemmas.{all_gathered, entry_at, files_in-append, folders_in-append}
use Rattle.smap_system.proofs.ListingLemmas.{gathered}
use Rattle.smap_system.proofs.WalkLemmas.{are_kept}
use Rattle.smap_system.proofs.walking.State.add_all.Goals as goal

pub loop-i-init : goal.loop-i-init
loop-i-init g c = (
  λ h. are_kept c.args.search.now.endings.now c.args.self.now.names.items _
      (ap (λ v. v.items) c.note_unnamed.ensures.names) h,
  ap (λ v. texts v.items) c.note_unnamed.ensures.folders ∙ sym
      (append-nil (texts c.args.self.now.folders.items)),
  λ t is. ap (λ v. texts v.items) c.note_unnamed.ensures.names ∙ sym
      (append-nil (texts c.args.self.now.names.items)),
)

pub loop-i-preserved : goal.loop-i-preserved
loop-i-preserved g c =
    let listing = c.args.listing.now in
    let folder = c.args.folder.now in
    let root = c.args.search.now.root.now in
    let ends = has_ending c.args.search.now.endings.now in
    let before : slice_get listing.entries.items c.loop-i.i ≡ Some c.index.result.now = search
    (rules, slice_get_read) in
    let at = entry_at listing c.loop-i.i c.index.result.now before in (
      λ h. c.in_ok-add.ensures.wanted (c.loop-i.invariant.0 h),
      gathered (folders_in folder) (folders_in-append folder) (entries_in listing) c.loop-i.i
          (entry_in c.index.result.now) (texts c.args.self.now.folders.items) _ _ at c.loop-i.invariant.1
          c.in_ok-add.ensures.folders,
      λ t is. gathered (files_in t root ends folder) (files_in-append t root ends folder)
          (entries_in listing) c.loop-i.i (entry_in c.index.result.now)
          (texts c.args.self.now.names.items) _ _ at (c.loop-i.invariant.2 t is)
          (c.in_ok-add.ensures.files t is),
    )

pub returns-clause-folders : goal.returns-clause-folders
returns-clause-folders g c =
    all_gathered (folders_in c.args.folder.now) c.args.listing.now c.loop-i.i
    (texts c.args.self.now.folders.items) _
    (omega (arith, c.loop-i-test.false, c.len-i-end.ensures)) c.loop-i.invariant.1

pub returns-clause-files : goal.returns-clause-files
returns-clause-files g c = λ t is.
    all_gathered (files_in t c.args.search.now.root.now
    (has_ending c.args.search.now.endings.now) c.args.folder.now) c.args.listing.now c.loop-i.i
    (texts c.args.self.now.names.items) _ (omega (arith, c.loop-i-test.false, c.len-i-end.ensures))
    (c.loop-i.invariant.2 t is)
