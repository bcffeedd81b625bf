use Rattle.std.proofs.Common.{◌∙◌, ap, map, option_map}
use Rattle.std.proofs.lemmas.Option.{slice_get-map}
use Rattle.smap_record.specs.Fitting.{mapping_position}
use Rattle.smap_record.specs.Record.{mapping_of}
use Rattle.smap_trace.proofs.lookups.PlacesPositions.at.Goals as goal

pub returns-clause-value : goal.returns-clause-value
returns-clause-value c =
    let l = c.args.self.now.map.now.listing in
    slice_get-map mapping_position (map (mapping_of l) l.tokens) c.args.i
    ∙ ap (option_map mapping_position) (slice_get-map (mapping_of l) l.tokens c.args.i
    ∙ ap (option_map (mapping_of l)) c.listed_token-token.ensures)
