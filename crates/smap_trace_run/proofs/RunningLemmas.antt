-- A run goes on: it finds maps of its own job.
use Rattle.std.proofs.Common.{◌≡◌, ◌∙◌, arith, subst, sym, ℕ, List, Bor, Option, Result, Ok, Err, OnOk}
use Rattle.std.specs.List.{Contains}
use Rattle.smap_system.specs.Held.{Held}
use Rattle.smap_map_finder.specs.ChosenView.{AreChosen, Choices, KeepEnds}
use Rattle.smap_map_finder.specs.Finding.{Finding, IsSameSearch}
use Rattle.smap_trace_run.specs.declared.tracing.Job.{Job}
use Rattle.smap_trace_run.specs.Running.{IsRunning, IsSameRun, Running}
use Rattle.smap_trace_run.specs.Written.{AreAmong, AreSettled, AreSettledLogs, IsLog, IsTracedLog, asked_by}
use Rattle.smap_trace_run.proofs.AskedLemmas.{ends_kept, same_ends}

pub one_search : {D : Type 0} (f g h : Finding D) → IsSameSearch f g → IsSameSearch g h → IsSameSearch f h
one_search f g h one two = record {
  disk = two.disk ∙ one.disk;
  how = two.how ∙ one.how;
  wanted = two.wanted ∙ one.wanted;
  worst = omega (arith, one.worst, two.worst);
}

-- what was kept by the later of two searches for the same
pub kept_search : {D : Type 0} (of : D → Held) (f g : Finding D) (names : List (List ℕ)) (old new : Choices)
    → IsSameSearch f g → KeepEnds (of g.disk) g.wanted names old new
    → KeepEnds (of f.disk) f.wanted names old new
kept_search of f g names old new same keep = rw (same.disk, same.wanted) at keep

pub one_run : {D : Type 0} (f g h : Running D) → IsSameRun f g → IsSameRun g h → IsSameRun f h
one_run f g h one two = record {
  disk = two.disk ∙ one.disk;
  job = two.job ∙ one.job;
  worst = omega (arith, one.worst, two.worst);
}

-- a run that is as it was, and then goes on with its job
pub started : {D : Type 0} (f g h : Running D) → g ≡ f → IsSameRun g h → IsSameRun f h
started {D = D} f g h is same = subst (λ (r : Running D). IsSameRun r h) is same

-- and one that goes on, and then is as it was
pub ended : {D : Type 0} (f g h : Running D) → IsSameRun f g → h ≡ g → IsSameRun f h
ended f g h same is = subst (IsSameRun f) (sym is) same

-- what is so of a run's disk and job later was so before
pub at_start : {D : Type 0} (P : D → Job → Type 0) (old new : Running D) → IsSameRun old new
    → P new.disk new.job → P old.disk old.job
at_start P old new same p = rw (same.disk, same.job) at p

pub later : {D : Type 0} (P : D → Job → Type 0) (old new : Running D) → IsSameRun old new
    → P old.disk old.job → P new.disk new.job
later P old new same p = rw (same.disk, same.job) p

pub log_at_start : {D : Type 0} (of : D → Held) (old new : Running D) (worst : ℕ) (path : List ℕ)
    (before after : Option (List ℕ)) → IsSameRun old new
    → IsTracedLog (of new.disk) new.job worst path before after
    → IsTracedLog (of old.disk) old.job worst path before after
log_at_start of old new worst path before after same traced = rw (same.disk, same.job) at traced

pub log_later : {D : Type 0} (of : D → Held) (old new : Running D) (path : List ℕ) → IsSameRun old new
    → IsLog (of old.disk) old.job path → IsLog (of new.disk) new.job path
log_later of old new path same log = rw (same.disk, same.job) log

-- nothing was opened for names
pub runs_still : {D : Type 0} (of : D → Held) (disk : D) (job : Job) (f g : Finding D)
    → IsRunning of disk job f → IsSameSearch f g → AreChosen (of g.disk) g.wanted g.chosen
    → g.chosen.ends ≡ f.chosen.ends → IsRunning of disk job g
runs_still of disk job f g is same chosen ends = record {
  disk_is = same.disk ∙ is.disk_is;
  how_is = same.how ∙ is.how_is;
  wanted_is = same.wanted ∙ is.wanted_is;
  named = record {
    named = rw (same.disk ∙ is.disk_is, same.wanted ∙ is.wanted_is) at chosen;
    ends = same_ends (of disk) job.wanted (asked_by (of disk) job) f.chosen g.chosen ends is.named.ends;
  };
}

-- the maps of names of the logs were opened
pub runs_on : {D : Type 0} (of : D → Held) (disk : D) (job : Job) (f g : Finding D) (names : List (List ℕ))
    → IsRunning of disk job f → IsSameSearch f g
    → (AreChosen (of f.disk) f.wanted f.chosen → AreChosen (of g.disk) g.wanted g.chosen)
    → KeepEnds (of f.disk) f.wanted names f.chosen g.chosen → AreAmong (asked_by (of disk) job) names
    → IsRunning of disk job g
runs_on of disk job f g names is same chosen keep among = record {
  disk_is = same.disk ∙ is.disk_is;
  how_is = same.how ∙ is.how_is;
  wanted_is = same.wanted ∙ is.wanted_is;
  named = record {
    named = rw (same.disk ∙ is.disk_is, same.wanted ∙ is.wanted_is)
        at (chosen (rw (is.disk_is, is.wanted_is) is.named.named));
    ends = ends_kept (of disk) job.wanted (asked_by (of disk) job) names f.chosen g.chosen
        (rw (is.disk_is, is.wanted_is) at keep) among is.named.ends;
  };
}

-- what is settled by its finder is so by its job
pub settled_by : {D : Type 0} (of : D → Held) (disk : D) (job : Job) (f : Finding D) (after : Choices)
    (names : List (List ℕ)) → IsRunning of disk job f
    → AreSettled (of f.disk) f.wanted after (Contains names)
    → AreSettled (of disk) job.wanted after (Contains names)
settled_by of disk job f after names is settled = rw (is.disk_is, is.wanted_is) at settled

-- and by a later one
pub settled_on : {D A E : Type 0} (of : D → Held) (disk : D) (job : Job) (f g : Finding D) (after : Choices)
    (names : List (List ℕ)) (result : Result A E) → IsRunning of disk job f → IsSameSearch f g
    → OnOk result (AreSettled (of g.disk) g.wanted after (Contains names))
    → OnOk result (AreSettled (of disk) job.wanted after (Contains names))
settled_on of disk job f g after names (Ok a) is same settled =
    rw (same.disk ∙ is.disk_is, same.wanted ∙ is.wanted_is) at settled
settled_on of disk job f g after names (Err e) is same settled = tt

-- what is settled in a run that is as it was
pub settled_still : {D : Type 0} (of : D → Held) (old new : Running D) (paths : List (Bor (List ℕ)))
    → new ≡ old → AreSettledLogs (of old.disk) old.job.wanted old.chosen paths
    → AreSettledLogs (of new.disk) new.job.wanted new.chosen paths
settled_still of old new paths is settled = rw is settled
