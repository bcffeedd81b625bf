use Rattle.smap_trace.proofs.TranslatedLemmas.{kept_appended}
use Rattle.smap_trace.proofs.named.NamingTranslator.translate.Goals as goal

pub returns-in-Some : goal.returns-in-Some
returns-in-Some g c =
    let self = c.args.self.now in
    kept_appended self.mode (g.M.Maps.scripts self.maps.now) self.hide c.args.line.now c.args.kept.now
    c.in-Some.text.now c.args.out.now.items c.extend_from_slice.new.self.items c.in-Some.outcome
    c.in-Some.ensures c.in_ok-extend_from_slice.ensures.items
