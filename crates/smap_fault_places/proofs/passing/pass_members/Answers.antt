use Rattle.std.proofs.Common.{rules, ◌≡◌, ◌∙◌, sym, true≢false}
use Rattle.std.proofs.lemmas.Slice.Eq.{bytes_eq-Decides}
use Rattle.smap_fault_places.proofs.PassLemmas.{members-start, members-more, members-over}
use Rattle.smap_fault_places.proofs.passing.pass_members.Goals as goal

pub members-init : goal.members-init
members-init c = members-start c.args.depth c.args.name.now c.args.reader.now

pub members-preserved : goal.members-preserved
members-preserved c = members-more c.args.depth c.args.name.now c.members.some c.args.reader.now
    c.members.reader
    c.next_key.new.self c.skip_value.new.self c.in-Some.key.now c.members.invariant (search rules) apart
    c.in_ok-skip_value.ensures.value
  where
    apart : c.args.name.now ≡ c.in-Some.key.now → ⊥
    apart same = true≢false (sym ((bytes_eq-Decides c.args.name.now c.in-Some.key.now).1 same)
        ∙ sym c.if-eq.ensures)

pub returns : goal.returns
returns c = members-over c.args.depth c.args.name.now c.members.some c.args.reader.now c.members.reader
    c.next_key.new.self c.members.invariant (search rules)
