use Rattle.std.proofs.Common.{rules}
use Rattle.smap_tool.proofs.ScriptLemmas.{put_last}
use Rattle.smap_tool.proofs.entries.add.Goals as goal

pub returns-in-Ok-put-clause-added : goal.returns-in-Ok-put-clause-added
returns-in-Ok-put-clause-added c = search (rules, put_last)
