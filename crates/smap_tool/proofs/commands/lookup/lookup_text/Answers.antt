use Rattle.std.proofs.Common.{rules}
use Rattle.smap_record.specs.Record.{record_of}
use Rattle.smap_trace.proofs.LookupLemmas.{falls_to_is}
use Rattle.smap_tool.proofs.commands.lookup.lookup_text.Goals as goal

pub returns : goal.returns
returns c =
    let fell = falls_to_is (record_of c.args.map.now).mappings c.args.line c.args.column _
    c.lookup.ensures.found in
    rw (← fell) (search rules)
