use Rattle.std.proofs.Common.{◌≡◌, ◌+◌, drop}
use Rattle.std.specs.List.{prefix_len}
use Rattle.smap_logs.specs.Bytes.{is_scheme_byte}
use Rattle.smap_logs.proofs.beginnings.scheme_len.Given as goal

abbrev pub invariant-loop-at : goal.invariant-loop-at
invariant-loop-at l = prefix_len is_scheme_byte l.text ≡ l.at + prefix_len is_scheme_byte (drop l.at l.text)
