use Rattle.std.proofs.Common.{◌∙◌, ◌||◌, List, ℕ, ap, sym, length}
use Rattle.std.proofs.lemmas.List.{length_push}
use Rattle.std.specs.List.{zip}
use Rattle.std.specs.Str.{bytes_eq}
use Rattle.smap_map_files.specs.Chosen.{holds}
use Rattle.smap_map_files.specs.WantedView.{Named}
use Rattle.smap_map_files.proofs.SettlingLemmas.{decided_again, decided_all, decided_first, decided_gone}
use Rattle.smap_map_files.proofs.SettlingLemmas.{decided_past, no_element}
use Rattle.std.proofs.lemmas.List.{nil_from_length}
use Rattle.smap_map_files.proofs.NamedLemmas.{past_end}
use Rattle.smap_map_files.proofs.SettlingLemmas.{none_decided, is_old, not_new}
use Rattle.smap_map_choice.specs.PlaceView.{place_in, places_in}
use Rattle.smap_map_files.proofs.settling.decide.Goals as goal

pub loop-i-init : goal.loop-i-init
loop-i-init c =
    none_decided (zip (places_in c.args.places.now) c.args.origins.now) c.new-kept.result.items
    c.new-seen.result.keys c.new-repeated.result.items c.new-kept.ensures.items
    (nil_from_length c.new-seen.result.keys c.new-seen.ensures.len)
    c.new-repeated.ensures.items

pub loop-i-preserved-in_default : goal.loop-i-preserved-in_default
loop-i-preserved-in_default c =
    let ns = zip (places_in c.args.places.now) c.args.origins.now in
    decided_past ns c.loop-i.i c.loop-i.kept.items c.loop-i.seen.keys c.loop-i.repeated.items
    (no_element ns c.loop-i.i (sym c.in_default.ensures)) (sym c.in_default.ensures) c.loop-i.invariant

pub loop-i-preserved-then-gives_way : goal.loop-i-preserved-then-gives_way
loop-i-preserved-then-gives_way c =
    let ns = zip (places_in c.args.places.now) c.args.origins.now in
    let n : Named = (place_in c.in-Some.place.now, c.in-Some.origin) in
    decided_gone ns c.loop-i.i c.loop-i.kept.items c.push.new.self.items c.loop-i.seen.keys
    c.loop-i.repeated.items n (sym c.in-Some.ensures) c.loop-i.invariant c.in_ok-push.ensures.items
    (sym (c.gives_way.ensures ns c.in_ok-mapped.ensures) ∙ c.if-gives_way.true)

pub loop-i-preserved-then-branch : goal.loop-i-preserved-then-branch
loop-i-preserved-then-branch c =
    let ns = zip (places_in c.args.places.now) c.args.origins.now in
    let n : Named = (place_in c.in-Some.place.now, c.in-Some.origin) in
    let as_text = c.as_slice.ensures.value in
    decided_first ns c.loop-i.i c.loop-i.kept.items c.push-then-branch.new.self.items c.loop-i.seen.keys
    c.loop-i.repeated.items n (sym c.in-Some.ensures) c.loop-i.invariant c.add_text.new.texts.keys
    c.in_ok-push-2.ensures.items
    (sym (c.gives_way.ensures ns c.in_ok-mapped.ensures) ∙ c.if-gives_way.false)
    (ap (λ (text : List ℕ). holds c.loop-i.seen.keys text) (sym as_text)
    ∙ not_new _ _ (c.in_ok-add_text.ensures.new) c.if-branch.true)
    (λ other. c.in_ok-add_text.ensures.added other
    ∙ ap (λ (text : List ℕ). holds c.loop-i.seen.keys other || bytes_eq other text) as_text)

pub loop-i-preserved : goal.loop-i-preserved
loop-i-preserved c =
    let ns = zip (places_in c.args.places.now) c.args.origins.now in
    let n : Named = (place_in c.in-Some.place.now, c.in-Some.origin) in
    let as_text = c.as_slice.ensures.value in
    decided_again ns c.loop-i.i c.loop-i.kept.items c.push-in-loop-i.new.self.items c.loop-i.seen.keys
    c.loop-i.repeated.items n (sym c.in-Some.ensures) c.loop-i.invariant c.add_text.new.texts.keys
    c.push-in-loop-i-2.new.self.items c.in_ok-push-3.ensures.items
    (sym (c.gives_way.ensures ns c.in_ok-mapped.ensures) ∙ c.if-gives_way.false)
    (ap (λ (text : List ℕ). holds c.loop-i.seen.keys text) (sym as_text)
    ∙ is_old _ _ (c.in_ok-add_text.ensures.new) c.if-branch.false)
    (λ other. c.in_ok-add_text.ensures.added other
    ∙ ap (λ (text : List ℕ). holds c.loop-i.seen.keys other || bytes_eq other text) as_text)
    (ap length c.in_ok-push-4.ensures.items ∙ length_push c.loop-i.repeated.items c.loop-i.i)

pub returns-clause-count : goal.returns-clause-count
returns-clause-count c = (decided_all (zip
    (places_in c.args.places.now) c.args.origins.now) c.loop-i.i c.loop-i.kept.items
    c.loop-i.seen.keys c.loop-i.repeated.items
    (past_end c.args.places.now c.args.origins.now c.loop-i.i c.loop-i-test.false) c.loop-i.invariant).0

pub returns-clause-kept : goal.returns-clause-kept
returns-clause-kept c = (decided_all (zip
    (places_in c.args.places.now) c.args.origins.now) c.loop-i.i c.loop-i.kept.items
    c.loop-i.seen.keys c.loop-i.repeated.items
    (past_end c.args.places.now c.args.origins.now c.loop-i.i c.loop-i-test.false) c.loop-i.invariant).1

pub returns-clause-repeated : goal.returns-clause-repeated
returns-clause-repeated c = (decided_all (zip
    (places_in c.args.places.now) c.args.origins.now) c.loop-i.i c.loop-i.kept.items
    c.loop-i.seen.keys c.loop-i.repeated.items
    (past_end c.args.places.now c.args.origins.now c.loop-i.i c.loop-i-test.false) c.loop-i.invariant).2
