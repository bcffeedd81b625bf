-- what is kept of a source's text
use Rattle.std.specs.Prelude.{ℕ, List, IsTrue}
use Rattle.smap_functions.specs.Brackets.{brackets_match}
use Rattle.smap_functions.specs.Functions.{AreFunctions}
use Rattle.smap_functions.specs.Lines.{AreLines}
use Rattle.smap_functions.specs.declared.found.Function.{Function}
use Rattle.smap_functions.specs.declared.lines.Line.{Line}

-- its functions and its lines
pub record Source : Type 0 where
  pub functions : List Function
  pub lines : List Line

-- They are of this text, whose brackets match.
pub record IsOf (text : List ℕ) (s : Source) : Type 0 where
  pub functions : AreFunctions text s.functions
  pub lines : AreLines text s.lines
  pub brackets : IsTrue (brackets_match text)
