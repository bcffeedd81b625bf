use Rattle.std.proofs.Common.{ap, option_map}
use Rattle.smap_record.specs.Views.{entry_of_view, mapping_of_view, origin_of_view}
use Rattle.smap_trace.proofs.NameLemmas.{in_none, in_other}
use Rattle.smap_trace.proofs.names.original_in.Goals as goal
use Rattle.smap_trace.proofs.names.original_in.Goals.{in_default-via-in-Some+else-original-other}
use Rattle.smap_trace.proofs.names.original_in.Goals.{in_default-via-in_default}

pub returns-in_default : goal.returns-in_default
returns-in_default c = elim c.in_default.branch [
  | in_default-via-in-Some+else-original-other w ↦
      let original = w.in-Some.original in
      let other = c.args.other.now in
      rw c.token.ensures.mapping (in_other c.args.map.now original.source_number other.source_number
      (origin_of_view original) (entry_of_view other.source) (mapping_of_view c.token.result)
      (rw w.in-Some.is at c.token.ensures.number) c.requires.number w.if-original-other.false
      (ap (option_map origin_of_view) w.in-Some.is))
  | in_default-via-in_default w ↦
      rw c.token.ensures.mapping (in_none (entry_of_view c.args.other.now.source)
      (mapping_of_view c.token.result) (ap (option_map origin_of_view) w.in_default.is))
]
