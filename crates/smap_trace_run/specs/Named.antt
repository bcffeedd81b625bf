-- The names of logs that were looked through.
use Rattle.std.specs.Prelude.{ℕ, ◌<◌, Option, get_or, List, ◌++◌, length}
use Rattle.std.specs.Borrow.{Bor}
use Rattle.smap_system.specs.Held.{GivesHeld, Held}
use Rattle.smap_map_files.specs.declared.wanted.Wanted.{Wanted}
use Rattle.smap_trace.specs.Naming.{urls_of}
use Rattle.smap_logs.specs.Logs.{IsAll}
use Rattle.smap_logs.specs.Naming.{AreIn, AreSame, frames_of}
use Rattle.smap_logs.specs.declared.naming.Names.{Names}
use Rattle.smap_trace_run.specs.Alone.{as_read}

-- All that a reader had was looked through, and the names of its frames were added.
pub record AddsNames (wanted : Wanted) (left : Option (List ℕ)) (before after : Names) : Type 0 where
  pub text : List ℕ
  pub all : IsAll left text
  pub frames : AreSame (frames_of after) (frames_of before ++ urls_of (as_read wanted text))

-- These have the name of each frame of what the file with this name holds.
pub record HasNamesOf (held : Held) (wanted : Wanted) (path : List ℕ) (names : Names) : Type 0 where
  pub left : Option (List ℕ)
  pub text : List ℕ
  pub gives : GivesHeld held path left
  pub all : IsAll left text
  pub frames : AreIn (urls_of (as_read wanted text)) (frames_of names)

-- The same of the files with these names.
abbrev pub HaveNames : Held → Wanted → List (Bor (List ℕ)) → Names → Type 0
HaveNames held wanted paths names = (k : ℕ) (d : Bor (List ℕ)) → k < length paths
    → HasNamesOf held wanted (get_or paths k d).now names
