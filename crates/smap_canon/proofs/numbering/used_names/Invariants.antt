use Rattle.std.proofs.Common.{◌≡◌, take}
use Rattle.std.specs.List.{AllByRecursion}
use Rattle.smap_record.specs.Record.{record_of}
use Rattle.smap_record.specs.Fitting.{names_used}
use Rattle.smap_canon.specs.Numbering.{used_in, AreNumbers, IsNumbered}
use Rattle.smap_canon.proofs.numbering.used_names.Given as goal

abbrev pub invariant-loop-i : goal.invariant-loop-i
invariant-loop-i l = record {
  used : used_in l.names ≡ names_used (take l.i (record_of l.map).mappings);
  numbers : AreNumbers l.map.listing.names (used_in l.names) l.names.numbers.items;
  each : AllByRecursion (IsNumbered l.names.numbers.items) (take l.i l.map.listing.tokens);
}
