-- The error line of a bundle.
use Rattle.std.specs.Prelude.{ℕ, List, ◌++◌, codes, decimal}
use Rattle.smap_record.specs.Messages.{fault_message}
use Rattle.smap_tool.specs.declared.fault.EntryFault.{EntryFault}
use Rattle.smap_tool.specs.declared.fault.EntryFault.TheVariants as wrong
use Rattle.smap_tool.specs.declared.fault.Refusal.{Refusal}

-- what is wrong with the entry with this index, from 0
abbrev pub entry_line : ℕ → EntryFault → List ℕ
entry_line i wrong.Header = codes "refused: bundle header " ++ decimal i
entry_line i wrong.Repeated = codes "refused: map " ++ (decimal i ++ codes ": script repeated")
entry_line i wrong.Base = codes "refused: map " ++ (decimal i ++ codes ": base is no URL")
entry_line i wrong.CutOff = codes "refused: map " ++ (decimal i ++ codes ": cut off")
entry_line i (wrong.Map fault) = codes "refused: map " ++ (decimal i ++ (codes ": " ++ fault_message fault))

-- The line for a bundle's first fault, without a line feed.
abbrev pub bundle_line : Refusal → List ℕ
bundle_line r = entry_line r.entry r.fault
