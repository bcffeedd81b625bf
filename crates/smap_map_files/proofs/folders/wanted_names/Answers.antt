use Rattle.std.proofs.Common.{◌≡◌, ◌∙◌, ap, map, not, rules, true}
use Rattle.smap_map_files.specs.Chosen.{beside_flag}
use Rattle.smap_map_files.specs.Lists.{has_own_map, texts}
use Rattle.smap_map_files.proofs.GivenLemmas.{unmapped_chosen}
use Rattle.smap_map_files.proofs.KeptLemmas.{if_ok}
use Rattle.smap_map_files.proofs.folders.wanted_names.Goals as goal

pub returns : goal.returns
returns c =
    let names = c.args.names.items in
    let flags : c.in_ok-flags.flags.items ≡ map (λ name. not (has_own_map (texts names) name)) (texts names) =
    search rules in
    if_ok c.chosen.result (λ v h. unmapped_chosen names v.items c.in_ok-flags.flags.items flags
    (h ∙ ap (λ fs. beside_flag true fs names) c.deref-2.ensures.value)) c.chosen.ensures
