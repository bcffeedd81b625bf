use Rattle.std.proofs.Common.{drop, ℕ, List, ◌||◌, ap, ◌∙◌, sym, arith}
use Rattle.std.specs.List.{zip}
use Rattle.std.proofs.lemmas.List.{drop_all, length-map}
use Rattle.std.proofs.lemmas.Slice.Zip.{length-zip}
use Rattle.smap_map_files.proofs.NamedLemmas.{mapped_added, mapped_all, mapped_passed, mapped_past}
use Rattle.std.specs.Str.{bytes_eq}
use Rattle.smap_map_files.specs.Chosen.{holds}
use Rattle.smap_map_choice.specs.PlaceView.{place_in, places_in}
use Rattle.smap_map_files.proofs.settling.mapped.Goals as goal

pub loop-i-preserved-in_default : goal.loop-i-preserved-in_default
loop-i-preserved-in_default c =
    mapped_past (zip (places_in c.args.places.now) c.args.origins.now) c.loop-i.i c.loop-i.mapped.keys
    (sym c.in_default.ensures) c.loop-i.invariant

pub loop-i-preserved-then-may_link : goal.loop-i-preserved-then-may_link
loop-i-preserved-then-may_link c =
    mapped_passed (zip (places_in c.args.places.now) c.args.origins.now) c.loop-i.i c.loop-i.mapped.keys
    (place_in c.in-Some.place.now, c.in-Some.origin) (sym c.in-Some.ensures)
    (sym c.may_link.ensures ∙ c.if-may_link.true) c.loop-i.invariant

pub loop-i-preserved : goal.loop-i-preserved
loop-i-preserved c =
    mapped_added (zip (places_in c.args.places.now) c.args.origins.now) c.loop-i.i c.loop-i.mapped.keys
    c.add_text.new.texts.keys (place_in c.in-Some.place.now, c.in-Some.origin) (sym c.in-Some.ensures)
    (sym c.may_link.ensures ∙ c.if-may_link.false) (λ other. c.in_ok-add_text.ensures.added other
    ∙ ap (λ (text : List ℕ). holds c.loop-i.mapped.keys other || bytes_eq other text)
    c.as_slice.ensures.value)
    c.loop-i.invariant

pub returns : goal.returns
returns c script =
    let ns = zip (places_in c.args.places.now) c.args.origins.now in
    mapped_all ns c.loop-i.mapped.keys script (drop c.loop-i.i ns)
    (drop_all c.loop-i.i ns (omega (
      arith,
      length-zip (places_in c.args.places.now) c.args.origins.now,
      length-map c.args.places.now place_in,
      c.loop-i-test.false,
    ))) (c.loop-i.invariant script)
