use Rattle.std.proofs.Common.{◌∙◌, ◌++◌, ap, map, List}
use Rattle.smap_record.specs.Written.{Spelling, of_flat}
use Rattle.smap_record.specs.WrittenView.{numbered_of, with_root}
use Rattle.smap_record.proofs.WrittenLemmas.{flat_kept, flat_has_roots}
use Rattle.smap_record.proofs.written.WrittenSources.with_flat.Goals as goal

pub invariant_of-result : goal.invariant_of-result
invariant_of-result c =
    let s = c.self.inside in
    let m = c.args.shape.now in
    flat_has_roots s.roots.items c.push.new.self.items s.sources.items c.in_ok-sources.sources.items
    c.in_ok-copied.field-0 m c.in_ok-push.ensures.items (c.in_ok-copied.ensures ∙ c.root.ensures)
    (c.in_ok-sources.ensures
    ∙ ap (λ n. map numbered_of s.sources.items ++ with_root n m.sources) (c.len.ensures ∙ s.roots.ok.0))
    c.self.invariant

pub returns : goal.returns
returns c =
    let s = c.self.inside in
    let m = c.args.shape.now in
    flat_kept s.roots.items c.push.new.self.items s.sources.items c.in_ok-sources.sources.items
    c.in_ok-copied.field-0 m c.in_ok-push.ensures.items (c.in_ok-copied.ensures ∙ c.root.ensures)
    (c.in_ok-sources.ensures
    ∙ ap (λ n. map numbered_of s.sources.items ++ with_root n m.sources) (c.len.ensures ∙ s.roots.ok.0))
    c.self.invariant
    ∙ ap (λ (ws : List Spelling). ws ++ of_flat m) c.self.view_is
