-- What contracts say of a writer that keeps why it failed.
use Rattle.std.specs.Prelude.{Option, Some, Result, Ok, Err}
use Rattle.smap_system.specs.declared.watched.Watched.{Watched}

-- the writer
abbrev pub inner_of : {W : Type 0} → Watched W → W
inner_of w = w.inner

-- The fault that is kept after a call: its own, or else the one from before.
abbrev pub noted : {A E : Type 0} → Option E → Result A E → Option E
noted before (Ok x) = before
noted before (Err e) = Some e
