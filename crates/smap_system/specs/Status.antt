-- The exit statuses of a run that ends before its end.
use Rattle.std.specs.Prelude.{ℕ, ◌==◌, Result, Ok, Err, if◌then◌else◌}
use Rattle.smap_system.specs.declared.stop.Stop.{Stop}
use Rattle.smap_system.specs.declared.stop.Stop.TheVariants as stops

-- that which was said with the reason; 141, as of a program that SIGPIPE has ended; 4 where memory ran out
abbrev pub status_of : Stop → ℕ
status_of (stops.Reported status) = status
status_of stops.Unread = 141
status_of stops.Memory = 4

-- 0 where it came to its end, and never 0 where it stopped
abbrev pub status_after : {A : Type 0} → Result A Stop → ℕ
status_after (Ok a) = 0
status_after (Err stop) = if status_of stop == 0 then 1 else status_of stop
