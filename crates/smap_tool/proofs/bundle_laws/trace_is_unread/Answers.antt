use Rattle.smap_tool.proofs.ReachLemmas as reach
use Rattle.smap_tool.proofs.bundle_laws.trace_is_unread.Goals as goal

pub returns : goal.returns
returns c = reach.trace_is_unread
