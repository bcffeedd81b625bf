use Rattle.std.proofs.Common.{◌∙◌, Some, ap, sym, arith}
use Rattle.smap_record.specs.WrittenView.{root_of}
use Rattle.smap_record.proofs.WrittenLemmas.{root_told, has_root}
use Rattle.smap_record.proofs.written.WrittenSources.root.Goals as goal

pub index-requires-2 : goal.index-requires-2
index-requires-2 c =
    let s = c.self.inside in
    let has = has_root s.roots.items s.sources.items _ c.args.i c.index.result.now c.self.view_is c.requires
    c.index.ensures c.self.invariant in
    let long = s.roots.ok.0 in
    omega (arith, has, long)

pub returns-in-Some : goal.returns-in-Some
returns-in-Some c =
    let s = c.self.inside in
    root_told s.roots.items s.sources.items _ c.args.i c.index.result.now c.self.view_is c.requires
    c.index.ensures c.self.invariant c.index-2.result.now c.index-2.ensures
    ∙ ap (λ t. Some (root_of t)) c.in-Some.is
    ∙ ap (λ t. Some (Some t)) (sym c.as_str.ensures.value)

pub returns-in-None : goal.returns-in-None
returns-in-None c =
    let s = c.self.inside in
    root_told s.roots.items s.sources.items _ c.args.i c.index.result.now c.self.view_is c.requires
    c.index.ensures c.self.invariant c.index-2.result.now c.index-2.ensures
    ∙ ap (λ t. Some (root_of t)) c.in-None.is
