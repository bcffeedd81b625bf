use Rattle.std.proofs.Common.{◌≡◌, map, string_bytes, take}
use Rattle.smap_report.proofs.junit.copies.Given as goal

abbrev pub invariant-loop-file : goal.invariant-loop-file
invariant-loop-file l = map string_bytes l.made.items ≡ map string_bytes (take l.file-index l.files)
