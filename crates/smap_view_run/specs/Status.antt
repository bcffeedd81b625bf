-- The status of a run that did all that it was asked, or all that could be done.
use Rattle.std.specs.Prelude.{ℕ, ◌==◌, ◌||◌, true, false, if◌then◌else◌}
use Rattle.smap_view_run.specs.declared.status.Verdict.{Verdict}

abbrev pub nothing_wrong : Verdict
nothing_wrong = record { refused = false; unread = false; over_budget = false }

-- 3 where a file of a folder can't be read; else 1 where a map is refused, a script left out, or sources have
-- more bytes than they may have
abbrev pub status : Verdict → ℕ
status v = if v.unread then 3 else (if v.refused || v.over_budget then 1 else 0)

-- A script of a folder is left out, of which a run alone would end with this status.
abbrev pub with_left_out : ℕ → Verdict → Verdict
with_left_out n v = if n == 3 then record v { unread = true } else record v { refused = true }
