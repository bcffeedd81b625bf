-- What contracts say of what lines are written to.
use Rattle.std.specs.Prelude.{ℕ, List, Option, option_and_then}
use Rattle.smap_system.specs.Watched.{inner_of}
use Rattle.smap_trace_run.specs.declared.output.Output.{Output}

-- the bytes that it holds, where they are known
abbrev pub contents_of : {W : Type 0} → (W → Option (List ℕ)) → Output W → Option (List ℕ)
contents_of contents o = option_and_then (λ w. contents (inner_of w)) o.writer
