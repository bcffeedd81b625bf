-- What contracts say of a run.
use Rattle.std.specs.Prelude.{◌≡◌, ◌≤◌}
use Rattle.smap_system.specs.Held.{Held}
use Rattle.smap_map_finder.specs.ChosenView.{Choices}
use Rattle.smap_map_finder.specs.Finding.{Finding}
use Rattle.smap_trace_run.specs.Written.{AreNamed}
use Rattle.smap_trace_run.specs.declared.tracing.Job.{Job}

-- Of a disk, its job, and what was chosen of the maps that the job names.
pub record Running (D : Type 0) : Type 0 where
  pub disk : D
  pub job : Job
  pub chosen : Choices

-- It finds maps of its own job on its own disk: each name of a log has the map that it has by the definition,
-- and files that end as names do were opened for names of the logs alone.
pub record IsRunning {D : Type 0} (of : D → Held) (disk : D) (job : Job) (f : Finding D) : Type 0 where
  pub disk_is : f.disk ≡ disk
  pub how_is : f.how ≡ job.how
  pub wanted_is : f.wanted ≡ job.wanted
  pub named : AreNamed (of disk) job f.chosen

-- A run goes on with its job, and what was refused stays so.
pub record IsSameRun {D : Type 0} (old new : Running D) : Type 0 where
  pub disk : new.disk ≡ old.disk
  pub job : new.job ≡ old.job
  pub worst : old.chosen.worst ≤ new.chosen.worst
