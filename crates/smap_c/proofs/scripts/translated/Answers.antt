use Rattle.std.proofs.Common.{◌∙◌, ℕ, Bool, List, Some, Bor, refl, sym, ap}
use Rattle.std.specs.Global.{Vec}
use Rattle.smap_trace.specs.Translation.{fate_by}
use Rattle.smap_trace.specs.declared.match_mode.MatchMode.{MatchMode}
use Rattle.smap_c.specs.Scripts.{reported_trace}
use Rattle.smap_c.specs.Traces.{mode_in}
use Rattle.smap_c.proofs.ScriptLemmas.{whole}
use Rattle.smap_c.proofs.scripts.translated.Goals as goal

pub returns-in-Ok : goal.returns-in-Ok
returns-in-Ok c =
    let scripts = c.args.scripts.now in
    whole (fate_by c.mode_in.result scripts c.hides.result) _ c.args.trace.now
    c.translate_in.new.reader.inner.now
    c.into_inner.result.items c.in-Ok.counts c.in-Ok.ensures.translates
    (ap (λ (b : Bor (List ℕ)). Some b.now) c.new-reader.ensures.inner) refl
    (ap (λ (v : Vec ℕ). Some v.items) c.new-writer.ensures.inner
    ∙ ap (λ (xs : List ℕ). Some xs) c.new.ensures.items)
    (sym (ap (λ (v : Vec ℕ). Some v.items) c.into_inner.ensures))
    ∙ ap (λ (f : MatchMode). reported_trace (fate_by f scripts c.hides.result) c.args.trace.now)
    c.mode_in.ensures
    ∙ ap (λ (h : Bool). reported_trace (fate_by (mode_in c.args.how) scripts h) c.args.trace.now)
    c.hides.ensures
