-- What ends within an entry has no trace.
use Rattle.std.proofs.lemmas.List.{nil_from_length}
use Rattle.std.proofs.Common.{◌≡◌, ◌∙◌, inl, inr, ℕ, suc, ◌<◌, List, [], ◌∷◌, ◌++◌, length}
use Rattle.std.proofs.Common.{codes, Option, Some, None, Ok, Err, refl, sym, ap, subst, arith}
use Rattle.std.proofs.Common.{append-nil, length-append}
use Rattle.std.specs.Option.{option_map_or}
use Rattle.std.proofs.lemmas.Bool.{cases_lt}
use Rattle.smap_record.specs.Faults.{◌>>=◌}
use Rattle.smap_io.specs.Reading.{IsWithinLine}
use Rattle.smap_record.specs.Scripts.{Script}
use Rattle.smap_tool.specs.declared.fault.BundleFault.{BundleFault}
use Rattle.smap_tool.specs.Header.{BeginsWithHeader, IsHeader, after, longest_header, trace_line}
use Rattle.smap_tool.specs.Bundle.{Checked, bundle_from, entry_in}
use Rattle.smap_tool.specs.Reach.{IsWithinEntry}
use Rattle.smap_tool.specs.BundleLaws.{TraceIsUnread}
use Rattle.smap_tool.proofs.BundleLemmas.{nothing_left, of_entries}
use Rattle.smap_tool.proofs.ComputedLemmas.{after_is, one_beginning}
use Rattle.smap_tool.proofs.EntryLemmas.{Taken, taken}
use Rattle.smap_tool.proofs.HeaderLemmas.{inside, line_is, no_header_of_trace}
use Rattle.smap_tool.proofs.TextLemmas.{no_end_within}

header_begins : (line more script base : List ℕ) (n : ℕ) → IsHeader line script base n
    → BeginsWithHeader (line ++ more) script base n more
header_begins line more script base n h = record { line = line; whole = refl; header = h }

module _ (line : List ℕ) (is_line : IsWithinLine longest_header line) where
  -- A line ends no earlier than at its last byte.
  no_end : (more front rest : List ℕ) → more ≡ [] → length (front ++ 10 ∷ []) < length line
      → line ++ more ≡ (front ++ 10 ∷ []) ++ rest → ⊥
  no_end more front rest none short same =
      let len = ap length is_line.whole ∙ length-append is_line.front is_line.last in
      no_end_within is_line.front is_line.last front rest is_line.one_line
      (omega (arith, len, short, is_line.one))
      (sym is_line.whole ∙ sym (append-nil line) ∙ ap (λ (xs : List ℕ). line ++ xs) (sym none) ∙ same)

  -- with the line `trace`
  at_trace : (more trace : List ℕ) (fault : BundleFault) → IsWithinEntry line more fault
      → line ++ more ≡ trace_line ++ trace → trace ≡ []
  at_trace more trace fault (inr h) same =
      absurd (no_header_of_trace h.0 h.1 more trace h.2
      (subst (λ (text : List ℕ). BeginsWithHeader text h.0 h.1 h.2 more) same
      (header_begins line more h.0 h.1 h.2 h.3)))
  at_trace more trace fault (inl none) same =
      let len = sym (length-append line more) ∙ ap length same ∙ length-append trace_line trace in
      elim (cases_lt (length trace_line) (length line)) [
        | inl long ↦ absurd (no_end more (codes "trace") trace none long same)
        | inr short ↦ nil_from_length trace (omega (arith, len, short, ap length none))
      ]

  -- no entry, and more after it
  no_entry : (more rest : List ℕ) (fault : BundleFault) → Taken (line ++ more) rest → 0 < length rest
      → IsWithinEntry line more fault → ⊥
  no_entry more rest fault t some within = go within
    where
      ended : more ≡ [] → ⊥
      ended none =
          let b = t.begins in
          let is = line_is b.line t.header.script t.header.base t.header.bytes b.header in
          let front = inside t.header.script t.header.base b.header.digits in
          let len = sym (length-append line more) ∙ ap length b.whole ∙ length-append b.line t.more in
          no_end more front t.more none (omega (arith, len, ap length is, ap length none, t.leaves))
          (b.whole ∙ ap (λ (xs : List ℕ). xs ++ t.more) is)

      go : IsWithinEntry line more fault → ⊥
      go (inl none) = ended none
      go (inr (script, base, n, h, inl none)) = ended none
      go (inr (script, base, n, h, inr (of_map, few))) =
          let one = one_beginning (line ++ more) script base more t.header.script t.header.base t.more n
          t.header.bytes (header_begins line more script base n h) t.begins in
          omega (arith, one.2, ap length one.3, t.leaves, few, some)

  -- what follows some entries, if it is a bundle
  rest_is : (more trace : List ℕ) (seen scripts : List Script) (most : ℕ) (fault : BundleFault)
      → IsWithinEntry line more fault
      → bundle_from (suc most) seen (line ++ more) ≡ Ok (scripts, trace) → trace ≡ []
  unfolding bundle_from
  rest_is more trace seen scripts most fault within is =
      go (after trace_line (line ++ more)) refl (entry_in seen (line ++ more)) refl is
    where
      go : (o : Option (List ℕ)) → after trace_line (line ++ more) ≡ o
          → (r : Checked (Script × List ℕ)) → entry_in seen (line ++ more) ≡ r
          → option_map_or (λ t. Ok (seen, t)) o (r >>= λ e. bundle_from most (seen ++ e.0 ∷ []) e.1)
          ≡ Ok (scripts, trace) → trace ≡ []
      go (Some t) e r f same =
          let both : ◌≡◌ {A = List Script × List ℕ} (seen, t) (scripts, trace) = cc in
          sym (ap (λ (b : List Script × List ℕ). b.1) both)
          ∙ at_trace more t fault within (after_is trace_line (line ++ more) t e)
      go None e (Err bad) f same = absurd cc
      go None e (Ok (s, [])) f same = absurd (nothing_left most (seen ++ s ∷ []) (scripts, trace) same)
      go None e (Ok (s, x ∷ xs)) f same =
          absurd (no_entry more (x ∷ xs) fault (taken seen (line ++ more) (s, x ∷ xs) f) (omega arith) within)

pub trace_is_unread : TraceIsUnread
trace_is_unread input scripts trace ends b =
    let r = ends.1 in
    let text = r.line ++ r.more in
    rest_is r.line r.is_line r.more trace r.scripts scripts (length text) ends.0 r.within
    (sym (of_entries r.scripts input text (suc (length text)) r.reads (omega arith)) ∙ b)
