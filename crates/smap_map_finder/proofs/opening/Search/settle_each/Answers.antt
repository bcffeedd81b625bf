use Rattle.std.proofs.Common.{◌+◌, refl, sym, subst, Bor, List, ℕ, map, take}
use Rattle.smap_map_finder.specs.Choice.{ArePicksOf, IsBestOf, map_names_of, names_of, script_names_of}
use Rattle.smap_map_finder.proofs.ChoiceLemmas.{found_at, one_more}
use Rattle.smap_map_finder.proofs.opening.Search.settle_each.Goals as goal

pub settled_found-requires-clause-found : goal.settled_found-requires-clause-found
settled_found-requires-clause-found g c = found_at c.args.self.now.wanted.now
    (names_of c.args.self.now.wanted.now)
    c.args.names.now c.args.picks.now.all.now c.loop-i.i _ _ c.requires.picks c.loop-i-test.true

pub settled_found-requires-clause-script : goal.settled_found-requires-clause-script
settled_found-requires-clause-script g c = found_at c.args.self.now.wanted.now
    (script_names_of c.args.self.now.wanted.now)
    c.args.names.now c.args.picks.now.scripts.now c.loop-i.i _ _ c.requires.scripts c.loop-i-test.true

pub settled_found-requires-clause-map : goal.settled_found-requires-clause-map
settled_found-requires-clause-map g c = found_at c.args.self.now.wanted.now
    (map_names_of c.args.self.now.wanted.now)
    c.args.names.now c.args.picks.now.maps.now c.loop-i.i _ _ c.requires.maps c.loop-i-test.true

pub settled_found-requires-clause-links : goal.settled_found-requires-clause-links
settled_found-requires-clause-links g c = c.loop-i.invariant.1

pub loop-i-preserved : goal.loop-i-preserved
loop-i-preserved g c =
    let Is = IsBestOf (g.D.Disk.held c.args.self.now.host.now.disk.now) c.args.self.now.wanted.now in
    let name_of = λ (n : Bor (List ℕ)). n.now in
    let names = c.args.names.now in (
      subst (ArePicksOf Is (take (c.loop-i.i + 1) (map name_of names))) (sym c.in_ok-push.ensures.items)
          (one_more Is name_of names c.loop-i.i c.loop-i.settled.items _ _ c.loop-i.invariant.0
          c.loop-i-test.true refl c.in_ok-found.ensures.choice),
      c.in_ok-found.ensures.links,
    )
