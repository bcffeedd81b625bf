use Rattle.std.proofs.Common.{◌≡◌, take}
use Rattle.std.specs.Str.{bytes_eq}
use Rattle.indexmap.specs.IndexSet.{insert_all}
use Rattle.smap_differences.proofs.DropLemmas.{texts}
use Rattle.smap_differences.proofs.sections.add_once.Given as goal

abbrev pub invariant-loop-i : goal.invariant-loop-i
invariant-loop-i l =
    texts l.found.keys ≡ insert_all bytes_eq (texts l.initial.found.keys) (take l.i (texts l.names))
