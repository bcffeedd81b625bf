use Rattle.std.proofs.Common.{◌≡◌, arith}
use Rattle.std.proofs.lemmas.Bool.Decides.{nat_tests}
use Rattle.smap_map_finder.proofs.LinkLemmas.{kept_none}
use Rattle.smap_map_finder.proofs.opening.Search.is_without_map.Goals as goal

pub returns-then-key-script-clause-none : goal.returns-then-key-script-clause-none
returns-then-key-script-clause-none g c = λ is.
    let own : c.in-Some.key.now ≡ c.args.script = grind (arith, nat_tests, c.if-key-script.true) in
    kept_none (g.D.Disk.held c.args.self.now.host.now.disk.now) c.args.self.now.wanted.now
    c.note_named.new.links.named.entries _ _ _ _ c.in_ok-note_named.ensures c.in-Some.ensures.entry own
    (c.is_nothing.ensures is)
