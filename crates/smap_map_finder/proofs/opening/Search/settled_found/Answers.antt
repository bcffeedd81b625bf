use Rattle.std.proofs.Common.{◌∙◌, sym, true≢false}
use Rattle.smap_map_finder.proofs.ChoiceLemmas.{tied_choice, untied_choice}
use Rattle.smap_map_finder.proofs.opening.Search.settled_found.Goals as goal

pub script_or_map-requires-clause-unclear : goal.script_or_map-requires-clause-unclear
script_or_map-requires-clause-unclear g c =
    tied_choice c.args.self.now.wanted.now c.args.name.now c.args.finds.of_all c.args.finds.of_maps
    c.requires.found c.requires.map (c.in_ok-tied.ensures.0 c.if-tied.true)

pub returns-clause-choice : goal.returns-clause-choice
returns-clause-choice g c =
    untied_choice (g.D.Disk.held c.args.self.now.host.now.disk.now) c.args.self.now.wanted.now c.args.name.now
    c.args.finds.of_all c.args.finds.of_maps c.requires.found c.requires.map
    (λ is. true≢false (sym (c.in_ok-tied.ensures.1 is) ∙ c.if-tied.false))
