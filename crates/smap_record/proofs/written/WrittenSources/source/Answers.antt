use Rattle.std.proofs.Common.{◌∙◌, Some, ap, sym, string_bytes}
use Rattle.std.specs.Prelude.{option_map}
use Rattle.smap_record.proofs.WrittenLemmas.{source_told}
use Rattle.smap_record.proofs.written.WrittenSources.source.Goals as goal

pub returns-in-Some : goal.returns-in-Some
returns-in-Some c =
    let s = c.self.inside in
    source_told s.roots.items s.sources.items _ c.args.i c.index.result.now c.self.view_is c.requires
    c.index.ensures
    ∙ ap (λ t. Some (option_map string_bytes t)) c.in-Some.is
    ∙ ap (λ t. Some (Some t)) (sym c.as_str.ensures.value)

pub returns-in-None : goal.returns-in-None
returns-in-None c =
    let s = c.self.inside in
    source_told s.roots.items s.sources.items _ c.args.i c.index.result.now c.self.view_is c.requires
    c.index.ensures
    ∙ ap (λ t. Some (option_map string_bytes t)) c.in-None.is
