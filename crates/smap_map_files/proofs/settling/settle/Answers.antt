use Rattle.std.proofs.Common.{◌≡◌, ◌∙◌, inr, ap, sym, not, ◌==◌, length, rules}
use Rattle.std.specs.List.{zip}
use Rattle.smap_map_files.specs.Settling.{has_repeated}
use Rattle.smap_map_files.specs.WantedView.{named_in}
use Rattle.smap_map_files.proofs.KeptLemmas.{always_ok, if_err, on_ok, repeated_is, same_named, settled}
use Rattle.smap_map_choice.specs.PlaceView.{places_in}
use Rattle.smap_map_files.proofs.settling.settle.Goals as goal
use Rattle.smap_map_files.proofs.settling.settle.Goals.{After-drop-decided-3}
use Rattle.smap_map_files.proofs.settling.settle.Given.{Over}

pub returns-clause-settled : goal.returns-clause-settled
returns-clause-settled g c = always_ok c.end_if_repeated.result
    (settled c.args.wanted.now c.leave_kept.new.wanted
    c.put_maps_first.new.wanted c.as_slice.result.now c.as_slice-2.result.now
    c.in_ok-decided.decided.kept.items
    c.deref-2.result.now c.as_slice.ensures.value c.as_slice-2.ensures.value c.in_ok-decided.ensures.count
    c.in_ok-decided.ensures.kept c.deref-2.ensures.value c.in_ok-leave_kept.ensures.places
    c.in_ok-leave_kept.ensures.origins c.in_ok-leave_kept.ensures.others c.in_ok-put_maps_first.ensures.files
    c.in_ok-put_maps_first.ensures.file_roots c.in_ok-put_maps_first.ensures.map_count
    c.in_ok-put_maps_first.ensures.others)

are_repeated : (g : Over) (c : After-drop-decided-3 g) → not c.is_empty.result ≡ has_repeated
    (named_in c.args.wanted.now)
are_repeated g c =
    let none : c.is_empty.result ≡ (length c.in_ok-decided.decided.repeated.items == 0) = search rules in
    repeated_is (zip (places_in c.as_slice.result.now) c.as_slice-2.result.now)
    c.in_ok-decided.decided.repeated.items c.is_empty.result c.in_ok-decided.ensures.repeated none
    ∙ ap has_repeated (same_named c.args.wanted.now c.as_slice.result.now c.as_slice-2.result.now
    c.as_slice.ensures.value c.as_slice-2.ensures.value)

pub returns-clause-once : goal.returns-clause-once
returns-clause-once g c skip =
    on_ok c.end_if_repeated.result (λ none. sym (are_repeated g c) ∙ none)
    (c.end_if_repeated.ensures.once skip)

pub returns-clause-stops : goal.returns-clause-stops
returns-clause-stops g c =
    if_err c.end_if_repeated.result (λ s h. inr (
      h.0,
      h.1,
      sym (are_repeated g c)
          ∙ h.2,
    )) c.end_if_repeated.ensures.stops
