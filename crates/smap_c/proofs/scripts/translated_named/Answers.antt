use Rattle.std.proofs.Common.{◌∙◌, ℕ, Bool, List, Some, Bor, refl, subst, sym, ap}
use Rattle.std.specs.Global.{Vec}
use Rattle.smap_trace.specs.Giving.{Give, no_counts}
use Rattle.smap_trace.specs.NamedFates.{MayBecome}
use Rattle.smap_trace.specs.Translation.{lines_of}
use Rattle.smap_trace.specs.declared.match_mode.MatchMode.{MatchMode}
use Rattle.smap_c.specs.Traces.{mode_in}
use Rattle.smap_c.proofs.ScriptLemmas.{whole_given}
use Rattle.smap_c.proofs.scripts.translated_named.Goals as goal

pub returns-in-Ok : goal.returns-in-Ok
returns-in-Ok c =
    let scripts = c.args.scripts.now in
    let out = c.into_inner.result.items in
    let given = whole_given (MayBecome c.mode_in.result scripts c.hides.result) _ c.args.trace.now
    c.translate_named_in.new.reader.inner.now out c.in-Ok.counts c.in-Ok.ensures.gives
    (ap (λ (b : Bor (List ℕ)). Some b.now) c.new-reader.ensures.inner) refl
    (ap (λ (v : Vec ℕ). Some v.items) c.new-writer.ensures.inner
    ∙ ap (λ (xs : List ℕ). Some xs) c.new.ensures.items)
    (sym (ap (λ (v : Vec ℕ). Some v.items) c.into_inner.ensures)) in
    subst (λ (h : Bool). Give (MayBecome (mode_in c.args.how) scripts h) (lines_of c.args.trace.now) out
    no_counts c.in-Ok.counts) c.hides.ensures
    (subst (λ (m : MatchMode). Give (MayBecome m scripts c.hides.result) (lines_of c.args.trace.now) out
    no_counts c.in-Ok.counts) c.mode_in.ensures given)
