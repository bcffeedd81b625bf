use Rattle.std.proofs.Common.{◌++◌, List, take}
use Rattle.smap_record.specs.Record.{Entry, record_of}
use Rattle.smap_compose.specs.Closed.{AreOpen}
use Rattle.smap_compose.proofs.leading.with_sources.Given as goal

-- the sources that were gone through wait, too
abbrev pub invariant-loop-i : goal.invariant-loop-i
invariant-loop-i l = (es : List Entry) → AreOpen l.fn.before.entries es
    → AreOpen l.urls.entries (es ++ take l.i (record_of l.map).sources)
