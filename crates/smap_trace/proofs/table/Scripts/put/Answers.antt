use Rattle.std.proofs.Common.{◌≡◌, ◌∙◌, ◌||◌, true, ap, rules, sym, subst, length, nat_eq, get_or, List, ℕ}
use Rattle.std.specs.List.{All}
use Rattle.std.proofs.lemmas.List.Elements.{All-weaker}
use Rattle.smap_record.specs.Record.{record_of}
use Rattle.smap_trace.specs.ByLength.{is_among}
use Rattle.smap_trace.specs.Scripts.{Script, with_script}
use Rattle.smap_trace.specs.Table.{scripts_of}
use Rattle.smap_trace.proofs.TableLemmas.{all_put, or_grows, put}
use Rattle.smap_trace.proofs.table.Scripts.put.Goals as goal

pub invariant_of-self-2 : goal.invariant_of-self-2
invariant_of-self-2 g c =
    let held_map = g.H.HasMap.held_map in
    let entries = c.self.inside.maps.entries in
    let url = c.args.url in
    let r = record_of (held_map c.args.map) in
    let before = scripts_of held_map entries in
    let is : scripts_of held_map c.insert.new.self.entries ≡ with_script url.items r before =
    ap (scripts_of held_map) c.in_ok-insert.ensures.entries ∙ put held_map url c.args.map entries in
    let HasLength = λ (s : Script). is_among c.note_length.new.lengths.items (length s.0) ≡ true in
    let begins = λ (bs : List ℕ) (s : Script). nat_eq (length s.0) 0 || is_among bs (get_or s.0 0 0) in
    let HasFirst = λ (s : Script). begins c.note_first.new.firsts.items s ≡ true in
    let text : c.deref.result.now ≡ url.items = c.deref.ensures.value in (
      subst (All HasLength) (sym is) (all_put HasLength url.items r before
          (All-weaker (λ (s : Script). is_among c.self.inside.lengths.items (length s.0) ≡ true) HasLength
          (λ s h. c.note_length.ensures.keeps (length s.0) h) before c.self.invariant.0)
          (search rules)),
      subst (All HasFirst) (sym is) (all_put HasFirst url.items r before
          (All-weaker
          (λ (s : Script). begins c.self.inside.firsts.items s ≡ true)
          HasFirst (λ s h. or_grows (nat_eq (length s.0) 0) _ _
          (c.note_first.ensures.keeps (get_or s.0 0 0)) h) before c.self.invariant.1)
          (subst (λ (t : List ℕ). HasFirst (t, r)) text c.in_ok-note_first.ensures.there)),
    )

pub returns-clause-ok : goal.returns-clause-ok
returns-clause-ok g c =
    let held_map = g.H.HasMap.held_map in
    ap (scripts_of held_map) c.in_ok-insert.ensures.entries
    ∙ put held_map c.args.url c.args.map c.self.inside.maps.entries
    ∙ ap (λ (ss : List Script). with_script c.args.url.items (record_of (held_map c.args.map)) ss)
    c.self.view_is
