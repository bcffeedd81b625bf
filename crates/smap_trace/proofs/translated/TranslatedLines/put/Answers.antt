use Rattle.smap_trace.proofs.TranslatedLemmas.{puts}
use Rattle.smap_trace.proofs.translated.TranslatedLines.put.Goals as goal

pub returns : goal.returns
returns c = puts c.keep.result c.args.self.now c.make_room.new.self c.keep.new.self c.args.line.now
    c.in_ok-key.key.items c.args.text.now c.in_ok-text.text.items c.args.outcome c.in_ok-key.ensures.items
    c.in_ok-text.ensures.items c.make_room.ensures c.keep.ensures
