use Rattle.std.proofs.Common.{◌≡◌, ◌∙◌, List, Option, ap, nat_eq, refl, sym, ℕ}
use Rattle.indexmap.specs.IndexMap.{insert_entry}
use Rattle.smap_functions.specs.Sources.{Source}
use Rattle.smap_trace.proofs.KnownSourceLemmas.{put_first, put_into}
use Rattle.smap_trace.proofs.known.KnownFunctions.put.Goals as goal

pub returns-in-Some : goal.returns-in-Some
returns-in-Some c =
    let es = c.self.inside.scripts.entries in
    rw (← c.self.view_is) (put_into es _ c.args.script.now c.args.number c.args.source c.in-Some.known.now
    (record { sources = c.insert.new.self }) (sym c.in-Some.ensures.value)
    (c.get_mut.follows.holds (record { sources = c.insert.new.self })).0 c.in_ok-insert.ensures.entries)

pub returns : goal.returns
returns c =
    let es = c.self.inside.scripts.entries in
    let stays : c.get_mut.follows.lender-at-none.entries ≡ es = rw c.get_mut.follows.holds-at-none refl in
    let first = c.in_ok-insert-2.ensures.entries
    ∙ ap (λ (xs : List (ℕ × Option Source)). insert_entry nat_eq xs c.args.number c.args.source)
    c.new.ensures.empty in
    rw (← c.self.view_is) (put_first es c.get_mut.follows.lender-at-none.entries c.insert-3.new.self.entries
    c.args.script.now c.in_ok-from_slice.field-0 c.args.number c.args.source
    (record { sources = c.insert-2.new.self }) stays c.in_ok-from_slice.ensures.items
    c.in_ok-insert-3.ensures.entries first)
