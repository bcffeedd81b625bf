-- What became of a map, and the status of that.
use Rattle.std.specs.Prelude.{ℕ, ◌+◌, ◌^◌, ◌-◌, ◌==◌, List, codes, if◌then◌else◌, max, min}
use Rattle.smap_maps_run.specs.declared.outcome.Failure.{Failure}
use Rattle.smap_maps_run.specs.declared.outcome.Failure.TheVariants as failure
use Rattle.smap_maps_run.specs.declared.outcome.Tally.{Tally}
use Rattle.smap_maps_run.specs.declared.outcome.Verdict.{Verdict}
use Rattle.smap_maps_run.specs.declared.outcome.Verdict.TheVariants as verdict

-- the name in a line of JSON
abbrev pub name : Verdict → List ℕ
name verdict.Accepted = codes "accepted"
name verdict.Unchanged = codes "unchanged"
name verdict.Changed = codes "changed"
name verdict.Kept = codes "kept"
name verdict.Rewritten = codes "rewritten"
name (verdict.Refused why) = codes "refused"
name verdict.NotUrl = codes "refused"
name (verdict.LongUrls most) = codes "refused"
name (verdict.Failed why) = codes "failed"

abbrev pub failure_status : Failure → ℕ
failure_status failure.Memory = 4
failure_status why = 3

-- the exit status of a run over one map
abbrev pub status : Verdict → ℕ
status verdict.Accepted = 0
status verdict.Unchanged = 0
status verdict.Changed = 1
status verdict.Kept = 1
status verdict.Rewritten = 0
status (verdict.Refused why) = 1
status verdict.NotUrl = 1
status (verdict.LongUrls most) = 1
status (verdict.Failed why) = failure_status why

-- no map yet
abbrev pub none : Tally
none = record { accepted = 0; refused = 0; worst = 0 }

-- a count, as far as 64 bits hold it
abbrev pub one_more : ℕ → ℕ
one_more n = min (n + 1) (2 ^ 64 - 1)

-- One map more, with this status: the greatest status counts.
abbrev pub with_map : Tally → ℕ → Tally
with_map t s = if s == 0
    then record t { accepted = one_more t.accepted; worst = max t.worst s }
    else record t { refused = one_more t.refused; worst = max t.worst s }
