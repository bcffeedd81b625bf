use Rattle.std.proofs.Common.{Bor, List, ℕ, map, sym}
use Rattle.smap_map_choice.specs.Places.{scripts_of}
use Rattle.smap_map_finder.specs.Choice.{places_of}
use Rattle.smap_map_finder.proofs.opening.Search.found_among.Goals as goal

pub returns-clause-found : goal.returns-clause-found
returns-clause-found g c =
    let w = c.args.self.now.wanted.now in
    c.first_found.ensures w (map (λ (f : Bor (List ℕ)). f.now) c.args.files.now) c.args.name.now
    (rw (sym c.deref.ensures.value) at (c.in_ok-picks.ensures.picks (scripts_of (places_of w)) c.requires))
