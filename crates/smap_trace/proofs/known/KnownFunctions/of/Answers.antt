use Rattle.std.proofs.Common.{◌∙◌, ap, sym}
use Rattle.std.specs.Prelude.{option_copied}
use Rattle.smap_trace.specs.Known.{Known, of_source}
use Rattle.smap_trace.proofs.KnownSourceLemmas.{held_is, of_held, of_no_script, of_none_held}
use Rattle.smap_trace.proofs.known.KnownFunctions.of.Goals as goal

pub returns-in-Some-get : goal.returns-in-Some-get
returns-in-Some-get c =
    let es = c.self.inside.scripts.entries in
    of_held es c.args.script.now c.args.number c.in-Some.known.now c.in-Some-get.source.now _
    (ap option_copied (sym c.in-Some.is) ∙ c.get.ensures.value)
    (ap option_copied (sym c.in-Some-get.is) ∙ c.get-in-Some.ensures.value) c.as_ref.ensures.value
    ∙ sym (held_is es c.args.script.now c.args.number)
    ∙ ap (λ (known : Known). of_source known c.args.script.now c.args.number) c.self.view_is

pub returns-in-None-get : goal.returns-in-None-get
returns-in-None-get c =
    let es = c.self.inside.scripts.entries in
    of_none_held es c.args.script.now c.args.number c.in-Some.known.now
    (ap option_copied (sym c.in-Some.is) ∙ c.get.ensures.value)
    (ap option_copied (sym c.in-None-get.is) ∙ c.get-in-Some.ensures.value)
    ∙ sym (held_is es c.args.script.now c.args.number)
    ∙ ap (λ (known : Known). of_source known c.args.script.now c.args.number) c.self.view_is

pub returns-in-None : goal.returns-in-None
returns-in-None c =
    let es = c.self.inside.scripts.entries in
    of_no_script es c.args.script.now c.args.number (ap option_copied (sym c.in-None.is) ∙
    c.get.ensures.value)
    ∙ sym (held_is es c.args.script.now c.args.number)
    ∙ ap (λ (known : Known). of_source known c.args.script.now c.args.number) c.self.view_is
