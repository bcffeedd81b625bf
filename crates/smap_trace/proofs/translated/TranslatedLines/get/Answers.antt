use Rattle.std.proofs.Common.{◌∙◌, ℕ, List, Some, ap, sym}
use Rattle.std.specs.Prelude.{option_copied, option_map}
use Rattle.smap_trace.specs.Translated.{Lines, line_of, translation_in}
use Rattle.smap_trace.proofs.ByKeyLemmas.{viewed_lookup}
use Rattle.smap_trace.proofs.translated.TranslatedLines.get.Goals as goal

pub returns-in-Some : goal.returns-in-Some
returns-in-Some c =
    let line = c.args.line.now in
    ap (λ (t : List ℕ). Some (t, c.in-Some.kept.now.outcome)) c.as_slice.ensures.value
    ∙ ap (option_map line_of) (ap option_copied (sym c.in-Some.is) ∙ c.get.ensures.value)
    ∙ sym (viewed_lookup line_of line c.self.inside.lines.entries)
    ∙ ap (λ (l : Lines). translation_in l line) c.self.view_is

pub returns-in-None : goal.returns-in-None
returns-in-None c =
    let line = c.args.line.now in
    ap (option_map line_of) (ap option_copied (sym c.in-None.is) ∙ c.get.ensures.value)
    ∙ sym (viewed_lookup line_of line c.self.inside.lines.entries)
    ∙ ap (λ (l : Lines). translation_in l line) c.self.view_is
