-- The error line of an input.
use Rattle.std.specs.Prelude.{ℕ, List, ◌++◌, codes}
use Rattle.smap_record.specs.declared.fault.Fault.{Fault}
use Rattle.smap_record.specs.Messages.{fault_message}

-- The line for a fault, without a line feed.
unfoldable pub fault_line : Fault → List ℕ
fault_line fault = codes "refused: " ++ fault_message fault
