-- The exit status of a run.
use Rattle.std.specs.Prelude.{ℕ, Result, Ok, Err}
use Rattle.smap_tool.specs.declared.outcome.Outcome.{Outcome}
use Rattle.smap_tool.specs.declared.outcome.Outcome.TheVariants.{Done, Refused}
use Rattle.smap_tool.specs.declared.outcome.RunFault.{RunFault}
use Rattle.smap_tool.specs.declared.outcome.RunFault.TheVariants as run

-- 0 done, 1 refused, 3 for an input that is too long or a device that failed, 4 for running out of memory
abbrev pub status_of : Result Outcome RunFault → ℕ
status_of (Ok Done) = 0
status_of (Ok Refused) = 1
status_of (Err run.TooLong) = 3
status_of (Err run.Read) = 3
status_of (Err run.Write) = 3
status_of (Err run.Memory) = 4
