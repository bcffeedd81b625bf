use Rattle.std.proofs.Common.{rules}
use Rattle.smap_map_finder.proofs.opening.Opener.new.Goals as goal

pub returns-in-Ok : goal.returns-in-Ok
returns-in-Ok c = λ held.
    record {
      table_is = search rules;
      links_are = c.new.ensures held c.args.wanted.now;
      compared_are = search rules;
    }
