use Rattle.std.proofs.Common.{rules, ◌≡◌, ◌∙◌, arith}
use Rattle.std.proofs.lemmas.Bool.Decides.{nat_tests}
use Rattle.std.proofs.lemmas.Option.{slice_get_read}
use Rattle.smap_map_finder.proofs.ChoiceLemmas.{file_at}
use Rattle.smap_map_finder.proofs.LinkLemmas.{kept_link}
use Rattle.smap_map_finder.proofs.opening.Search.names_this.Goals as goal

pub returns-then-key-script-clause-link : goal.returns-then-key-script-clause-link
returns-then-key-script-clause-link g c = λ is.
    let named = c.is_named.ensures is in
    let own : c.in-Some-get_full.key.now ≡ c.args.script = grind (arith, nat_tests, c.if-key-script.true) in
    let at = file_at c.args.self.now.wanted.now c.args.map c.in-Some.map.now (search (rules, slice_get_read))
    in
    kept_link (g.D.Disk.held c.args.self.now.host.now.disk.now) c.args.self.now.wanted.now
    c.note_named.new.links.named.entries _ _ _
    _ _ named.0 _ c.in_ok-note_named.ensures c.in-Some-get_full.ensures.entry own at named.1
    (named.2 ∙ c.deref-then-key-script.ensures.value)
