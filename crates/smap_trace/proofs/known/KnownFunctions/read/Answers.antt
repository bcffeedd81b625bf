use Rattle.smap_record.specs.Views.{origin_of_view}
use Rattle.smap_trace.proofs.KnownSourceLemmas.{reads}
use Rattle.smap_trace.proofs.known.KnownFunctions.read.Goals as goal

pub returns : goal.returns
returns c = reads c.put.result c.args.self.now c.make_room.new.self c.put.new.self c.args.script.now
    c.args.original.now.source_number c.in_ok-source.source (origin_of_view c.args.original.now)
    c.make_room.ensures c.in_ok-source.ensures c.put.ensures
