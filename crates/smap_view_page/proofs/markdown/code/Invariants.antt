use Rattle.std.proofs.Common.{◌≡◌, string_bytes}
use Rattle.std.specs.List.{flat_map}
use Rattle.smap_view_page.specs.Markdown.{char_text}
use Rattle.smap_view_page.proofs.markdown.code.Given as goal

abbrev pub invariant-loop-c : goal.invariant-loop-c
invariant-loop-c l = string_bytes l.made ≡ flat_map char_text l.yielded
