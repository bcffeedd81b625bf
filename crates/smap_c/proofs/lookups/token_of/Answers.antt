-- The mapping with that number, or that there is none.
use Rattle.std.proofs.Common.{◌≤◌, length, Some, None, refl, rules}
use Rattle.std.proofs.lemmas.Option.{slice_get_past}
use Rattle.smap_record.specs.Record.{record_of}
use Rattle.smap_c.proofs.lookups.token_of.Goals as goal

pub returns-then-i-token_count : goal.returns-then-i-token_count
returns-then-i-token_count c = (
  Some c.token.result,
  c.token.ensures.mapping,
  c.token.ensures.number,
  (refl, c.reported_mapping.ensures),
)

pub returns-else-i-token_count : goal.returns-else-i-token_count
returns-else-i-token_count c =
    let past : length (record_of c.args.map.now).mappings ≤ c.args.i = search rules in
    (None, slice_get_past (record_of c.args.map.now).mappings c.args.i past, tt, (refl, refl))
