use Rattle.std.proofs.Common.{rules, ◌≡◌, ◌+◌, inl, inr, ap}
use Rattle.smap_map_choice.specs.declared.picks.Found.TheVariants.{ByEnd}
use Rattle.smap_map_finder.specs.Choice.{Links, map_count_of}
use Rattle.smap_map_finder.proofs.opening.Search.script_or_map.Goals as goal

pub returns-then-branch-clause-choice : goal.returns-then-branch-clause-choice
returns-then-branch-clause-choice g c =
    let w = c.args.self.now.wanted.now in
    let sum : c.in-Some.number ≡ map_count_of w + c.in-ByEnd-ByEnd.i = search rules in
    let links : Links (g.D.Disk.held c.args.self.now.host.now.disk.now) w c.in-Some.number
    c.in-ByEnd-ByEnd.of_map =
    c.in_ok-names_this.ensures.link c.if-branch.true in
    inr (inl (record {
      unclear = c.requires.unclear;
      settled = inr (record {
        script = c.in-ByEnd-ByEnd.i;
        file = c.in-ByEnd-ByEnd.of_map;
        by_script = rw c.in-ByEnd-ByEnd.is-0 at c.requires.script;
        by_map = rw c.in-ByEnd-ByEnd.is-1 at c.requires.map;
        found_is = ap ByEnd sum;
        links = rw sum at links;
      });
    }))
