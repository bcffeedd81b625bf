use Rattle.std.proofs.Common.{◌∙◌}
use Rattle.smap_tool.proofs.ScriptLemmas.{has_map}
use Rattle.smap_tool.proofs.entries.has_script.Goals as goal

pub returns : goal.returns
returns c = c.is_some.ensures ∙ has_map _ c.map_of.result c.as_bytes.result.now c.args.script.now
    c.args.scripts.now c.as_bytes.ensures.value c.map_of.ensures
