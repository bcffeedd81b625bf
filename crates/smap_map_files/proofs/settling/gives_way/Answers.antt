use Rattle.std.proofs.Common.{◌∙◌, ◌&&◌, ap, sym, List, ℕ}
use Rattle.smap_map_files.specs.Chosen.{holds}
use Rattle.smap_map_files.specs.Settling.{is_mapped}
use Rattle.smap_map_files.proofs.settling.gives_way.Goals as goal

pub returns-then-may_link : goal.returns-then-may_link
returns-then-may_link c ns h =
    c.contains.ensures ∙ ap (λ (text : List ℕ). holds c.args.mapped.now.keys text) c.as_slice.ensures.value
    ∙ h c.args.place.now.script.items
    ∙ ap (λ b. b && is_mapped ns c.args.place.now.script.items) (sym (sym c.may_link.ensures
    ∙ c.if-may_link.true))
