use Rattle.std.proofs.Common.{◌≡◌, ◌∙◌, ◌++◌, ◌≤◌, Some, ap, arith, length, rules, slice_get}
use Rattle.smap_system.specs.Tree.{entries_in}
use Rattle.smap_system.specs.Walking.{files_in, folders_in, has_ending, texts}
use Rattle.smap_system.proofs.ListingLemmas.{are_files_below, entries_listed, past_texts, walked_all}
use Rattle.smap_system.proofs.ListingLemmas.{walked_more, walked_none}
use Rattle.smap_system.proofs.walking.walk.Goals as goal

pub loop-number-init : goal.loop-number-init
loop-number-init g c = (
  λ k d lt. absurd (omega (arith, lt, ap length c.in_ok-state.ensures.names)),
  λ t is. walked_none t c.args.folder.now (has_ending c.args.endings.now) _ _ c.in_ok-state.ensures.folders
      (ap texts c.in_ok-state.ensures.names),
)

pub returns-in_default-clause-wanted : goal.returns-in_default-clause-wanted
returns-in_default-clause-wanted g c =
    c.in_ok-finish.ensures.wanted c.args.endings.now c.loop-number.invariant.0

pub returns-in_default-clause-below : goal.returns-in_default-clause-below
returns-in_default-clause-below g c =
    let past : length c.loop-number.state.folders.items ≤ c.loop-number.number = search rules in
    are_files_below (g.D.Disk.tree c.args.disk.now) c.args.folder.now (has_ending c.args.endings.now)
    c.loop-number.state.names.items _ (λ t is. walked_all t c.args.folder.now (has_ending c.args.endings.now)
    c.loop-number.number (texts c.loop-number.state.folders.items) _
    (past_texts c.loop-number.state.folders.items c.loop-number.number past) (c.loop-number.invariant.1 t is))
    c.in_ok-finish.ensures.same

pub loop-number-preserved : goal.loop-number-preserved
loop-number-preserved g c =
    let state = c.loop-number.state in
    let f = c.deref.result.now in
    let es = entries_in c.in_ok-listing.listing in
    let at : slice_get (texts state.folders.items) c.loop-number.number ≡ Some f = search rules in
    let same : c.deref-in-loop-number.result.now ≡ f = search rules in (
      c.in_ok-add_all.ensures.wanted c.loop-number.invariant.0,
      λ t is. walked_more t c.args.folder.now (has_ending c.args.endings.now) c.loop-number.number
          (texts state.folders.items)
          (texts state.names.items) _ _ f es at
          (entries_listed (g.D.Disk.tree c.args.disk.now) t _ c.in_ok-listing.listing is
          c.in_ok-listing.ensures)
          (c.in_ok-add_all.ensures.folders ∙ ap (λ d. texts state.folders.items ++ folders_in d es) same)
          (c.in_ok-add_all.ensures.files t is ∙ ap (λ d. texts state.names.items
          ++ files_in t c.args.folder.now (has_ending c.args.endings.now) d es) same)
          (c.loop-number.invariant.1 t is),
    )
