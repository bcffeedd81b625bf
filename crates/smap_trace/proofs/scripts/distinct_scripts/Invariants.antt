use Rattle.std.proofs.Common.{◌≢◌, ℕ, ◌<◌, List, Bor}
use Rattle.std.specs.Prelude.{slice_index_or}
use Rattle.smap_record.specs.Record.{ReadMap}
use Rattle.smap_trace.proofs.ScriptLemmas.{AreDistinctBelow}
use Rattle.smap_trace.proofs.scripts.distinct_scripts.Given as goal

abbrev pub invariant-loop-i : goal.invariant-loop-i
invariant-loop-i l = AreDistinctBelow l.scripts l.i

abbrev pub invariant-loop-j : goal.invariant-loop-j
invariant-loop-j l = (k : ℕ) (d : Bor (List ℕ) × Bor ReadMap) → l.i < k → k < l.j
    → (slice_index_or l.scripts l.i d).0.now ≢ (slice_index_or l.scripts k d).0.now
