use Rattle.smap_trace.proofs.NamedFateLemmas.{line_named}
use Rattle.smap_trace.proofs.named.Naming.translate_anew.Goals as goal

pub returns-in_ok-outcome-in-Ok : goal.returns-in_ok-outcome-in-Ok
returns-in_ok-outcome-in-Ok g c =
    let self = c.args.self.now in
    line_named self.mode (g.M.Maps.scripts self.maps.now) self.hide c.args.line.now c.cut_feed.result.0.now
    c.in-Ok.given c.args.kept.now c.rename_frame.new.known c.args.out.now.items
    c.translate_given.new.out.items
    c.in_ok-outcome-in-Ok.outcome c.cut_feed.ensures.text c.in-Ok.ensures.renamed c.in-Ok.ensures.exact
    c.in_ok-outcome-in-Ok.ensures.ok c.in_ok-outcome-in-Ok.ensures.outcome
