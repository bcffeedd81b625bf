-- What contracts say of a finder.
use Rattle.std.specs.Prelude.{◌≡◌, ◌≤◌}
use Rattle.smap_system.specs.Held.{Held}
use Rattle.smap_map_files.specs.declared.opening.How.{How}
use Rattle.smap_map_files.specs.declared.wanted.Wanted.{Wanted}
use Rattle.smap_map_finder.specs.ChosenView.{AreChosen, Choices, IsOver}
use Rattle.smap_map_finder.specs.declared.opening.Opener.{Opener}

-- Of a disk, how maps are opened, what the arguments name, and what was chosen of that.
pub record Finding (D : Type 0) : Type 0 where
  pub disk : D
  pub how : How
  pub wanted : Wanted
  pub chosen : Choices

-- All that was chosen are those that the arguments name, among files that hold this.
pub record IsFinding (held : Held) (w : Wanted) (o : Opener) (c : Choices) : Type 0 where
  pub over : IsOver held w o
  pub chosen : AreChosen held w c

-- They look for the same, and what was refused stays so.
pub record IsSameSearch {D : Type 0} (old new : Finding D) : Type 0 where
  pub disk : new.disk ≡ old.disk
  pub how : new.how ≡ old.how
  pub wanted : new.wanted ≡ old.wanted
  pub worst : old.chosen.worst ≤ new.chosen.worst
