use Rattle.std.proofs.Common.{◌≡◌, ◌+◌, drop}
use Rattle.std.specs.Char.{is_ascii_alphanumeric}
use Rattle.std.specs.List.{prefix_len}
use Rattle.smap_trace_summary.proofs.builds.word_len.Given as goal

abbrev pub invariant-loop-at : goal.invariant-loop-at
invariant-loop-at l =
    prefix_len is_ascii_alphanumeric l.text ≡ l.at + prefix_len is_ascii_alphanumeric (drop l.at l.text)
