use Rattle.std.proofs.Common.{ap, option_map, refl}
use Rattle.smap_frames.specs.FrameView.{parts_in}
use Rattle.smap_record.specs.Record.{record_of}
use Rattle.smap_record.specs.Views.{mapping_of_view, origin_of_view}
use Rattle.smap_trace.proofs.NameLemmas.{mapped_is, mapped_none}
use Rattle.smap_trace.proofs.names.mapping_with.Goals as goal

pub returns-in-Some-clause-value : goal.returns-in-Some-clause-value
returns-in-Some-clause-value c = mapped_is (parts_in c.args.frame.now) (record_of c.args.map.now) c.args.index
    (mapping_of_view c.token-token.result) (origin_of_view c.in-Some.original) c.token-token.ensures.mapping
    (ap (option_map origin_of_view) c.in-Some.is)

pub returns-in-Some-clause-mapped : goal.returns-in-Some-clause-mapped
returns-in-Some-clause-mapped c = (
  record { within = c.requires; number = rw c.in-Some.is at c.token-token.ensures.number },
  refl,
)

pub returns-in-None-clause-value : goal.returns-in-None-clause-value
returns-in-None-clause-value c = mapped_none (parts_in c.args.frame.now) (record_of c.args.map.now)
    c.args.index
    (mapping_of_view c.token-token.result) c.token-token.ensures.mapping
    (ap (option_map origin_of_view) c.in-None.is)
