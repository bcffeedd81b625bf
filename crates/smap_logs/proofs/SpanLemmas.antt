-- Spans that are added one behind the other.
use Rattle.std.proofs.Common.{◌≡◌, ℕ, suc, ◌+◌, ◌<◌, ◌≤◌, Bool, true, false, cond, List, [], ◌∷◌, ◌++◌}
use Rattle.std.proofs.Common.{Option, None, Some, append_assoc, length, nat_le, refl, ap, sym, ◌∙◌, arith}
use Rattle.std.specs.Option.{option_map_or, option_or}
use Rattle.std.proofs.lemmas.Bool.Decides.{nat_tests}
use Rattle.std.proofs.lemmas.List.Elements.{All-append}
use Rattle.smap_logs.specs.Beginnings.{last}
use Rattle.smap_logs.specs.Spans.{AddsSpans, IsSpanIn, number_end, place, places_behind, run_at, run_end}
use Rattle.smap_logs.specs.Spans.{run_of, spans_from, spans_of, with_first}
use Rattle.smap_logs.specs.declared.runs.Place.{Place}
use Rattle.smap_logs.specs.declared.runs.Run.{Run}
use Rattle.smap_logs.specs.declared.spans.Span.{Span}
use Rattle.smap_logs.proofs.BeginningLemmas.{last_more, or_none}

pub adds_trans : {len : ℕ} {xs ys zs : List Span} → AddsSpans len xs ys → AddsSpans len ys zs
    → AddsSpans len xs zs
adds_trans {len} {xs} {ys} {zs} f g = record {
  added = f.added ++ g.added;
  is = rw (g.is, f.is) (append_assoc xs f.added g.added);
  within = All-append (IsSpanIn len) f.added g.added f.within g.within;
}

-- a run, and behind it these positions
abbrev pub extended : Option Place → Option Place → List Place → ℕ → Run
extended None old places end = run_of places end
extended (Some first) old places end =
    record { first = Some first; last = option_or (last places) old; end = end }

extended_one : (first old : Option Place) (new : Place) (places : List Place) (end : ℕ)
    → extended (with_first first new).first (with_first first new).last places end
    ≡ extended first old (new ∷ places) end
extended_one None old new places end =
    ap (λ (o : Option Place). record { first = Some new; last = o; end = end }) (or_none (last places))
extended_one (Some first) old new places end =
    ap (λ (o : Option Place). record { first = Some first; last = o; end = end })
    (sym (last_more new places old))

pub extended_none : (first old : Option Place) (end : ℕ) → (first ≡ None → old ≡ None)
    → extended first old [] end ≡ record { first = first; last = old; end = end }
extended_none None old end h =
    ap (λ (o : Option Place). record { first = None; last = o; end = end }) (sym (h refl))
extended_none (Some first) old end h = refl

pub with_alone : (first : Option Place) (new : Place) → (with_first first new).first ≡ None
    → (with_first first new).last ≡ None
with_alone None new h = refl
with_alone (Some first) new h = cc

with_end : (first : Option Place) (new : Place) → (with_first first new).end ≡ new.end
with_end None new = refl
with_end (Some first) new = refl

pub none_left : {X : Type 0} (o : Option X) → ((x : X) → o ≡ Some x → ⊥) → o ≡ None
none_left None h = refl
none_left (Some x) h = absurd (h x refl)

pub five_more : (old n1 n2 n3 n4 n5 a b c d e : List Span) → n1 ≡ old ++ a → n2 ≡ n1 ++ b → n3 ≡ n2 ++ c
    → n4 ≡ n3 ++ d → n5 ≡ n4 ++ e
    → n5 ≡ old ++ (a ++ (b ++ (c ++ (d ++ e))))
five_more old n1 n2 n3 n4 n5 a b c d e p q r t u = rw (u, t, r, q, p) (simp append_assoc)

module _ (line : List ℕ) (n m before at : ℕ) (more : n ≡ suc m) where
  places_more : (end : ℕ) → number_end line at ≡ Some end
      → places_behind n line before at ≡ place before end ∷ places_behind m line at end
  places_more end f = ap (λ (i : ℕ). places_behind i line before at) more
      ∙ ap (λ (o : Option ℕ). option_map_or (λ e. place before e ∷ places_behind m line at e) o []) f

  places_none : number_end line at ≡ None → places_behind n line before at ≡ []
  places_none f = ap (λ (i : ℕ). places_behind i line before at) more
      ∙ ap (λ (o : Option ℕ). option_map_or (λ e. place before e ∷ places_behind m line at e) o []) f

  end_more : (end : ℕ) → number_end line at ≡ Some end → run_end n line at ≡ run_end m line end
  end_more end f = ap (λ (i : ℕ). run_end i line at) more
      ∙ ap (λ (o : Option ℕ). option_map_or (λ e. run_end m line e) o at) f

  end_none : number_end line at ≡ None → run_end n line at ≡ at
  end_none f = ap (λ (i : ℕ). run_end i line at) more
      ∙ ap (λ (o : Option ℕ). option_map_or (λ e. run_end m line e) o at) f

  pub run_more : (first old : Option Place) (end : ℕ) → number_end line at ≡ Some end
      → extended (with_first first (place before end)).first (with_first first (place before end)).last
      (places_behind m line at end) (run_end m line end)
      ≡ extended first old (places_behind n line before at) (run_end n line at)
  run_more first old end f =
      extended_one first old (place before end) (places_behind m line at end) (run_end m line end)
      ∙ ap (λ (ps : List Place). extended first old ps (run_end m line end)) (sym (places_more end f))
      ∙ ap (λ (e : ℕ). extended first old (places_behind n line before at) e) (sym (end_more end f))

  pub run_with : (first old : Option Place) (end : ℕ) (run : Run) → number_end line at ≡ Some end
      → run ≡ with_first first (place before end)
      → extended run.first run.last (places_behind m line at run.end) (run_end m line run.end)
      ≡ extended first old (places_behind n line before at) (run_end n line at)
  run_with first old end run f e =
      ap (λ (r : Run). extended r.first r.last (places_behind m line at r.end) (run_end m line r.end)) e
      ∙ ap (λ (i : ℕ).
      extended (with_first first (place before end)).first (with_first first (place before end)).last
      (places_behind m line at i) (run_end m line i)) (with_end first (place before end))
      ∙ run_more first old end f

  pub run_none : (first old : Option Place) → number_end line at ≡ None → (first ≡ None → old ≡ None)
      → extended first old (places_behind n line before at) (run_end n line at)
      ≡ record { first = first; last = old; end = at }
  run_none first old f h =
      ap (λ (ps : List Place). extended first old ps (run_end n line at)) (places_none f)
      ∙ ap (λ (e : ℕ). extended first old [] e) (end_none f) ∙ extended_none first old at h

before_end : (len at : ℕ) → at < len → nat_le len at ≡ false
before_end len at h = grind (arith, nat_tests)

behind_end : (len at : ℕ) → len ≤ at → nat_le len at ≡ true
behind_end len at h = grind (arith, nat_tests)

module _ (line : List ℕ) (n m at : ℕ) (more : n ≡ suc m) where
  pub spans_end : length line ≤ at → spans_from n line at ≡ []
  spans_end low = ap (λ (i : ℕ). spans_from i line at) more
      ∙ ap (λ (b : Bool). cond b [] (option_map_or (λ run. spans_of line run ++ spans_from m line run.end)
      (run_at line at) (spans_from m line (at + 1)))) (behind_end (length line) at low)

  spans_inside : at < length line → spans_from n line at
      ≡ option_map_or (λ run. spans_of line run ++ spans_from m line run.end) (run_at line at)
      (spans_from m line (at + 1))
  spans_inside low = ap (λ (i : ℕ). spans_from i line at) more
      ∙ ap (λ (b : Bool). cond b [] (option_map_or (λ run. spans_of line run ++ spans_from m line run.end)
      (run_at line at) (spans_from m line (at + 1)))) (before_end (length line) at low)

  pub spans_run : at < length line → (run : Run) → run_at line at ≡ Some run
      → spans_from n line at ≡ spans_of line run ++ spans_from m line run.end
  spans_run low run f = spans_inside low
      ∙ ap (λ (o : Option Run). option_map_or (λ run. spans_of line run ++ spans_from m line run.end) o
      (spans_from m line (at + 1))) f

  pub spans_byte : at < length line → run_at line at ≡ None
      → spans_from n line at ≡ spans_from m line (at + 1)
  spans_byte low f = spans_inside low
      ∙ ap (λ (o : Option Run). option_map_or (λ run. spans_of line run ++ spans_from m line run.end) o
      (spans_from m line (at + 1))) f
