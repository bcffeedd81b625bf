use Rattle.std.proofs.Common.{◌≡◌, ◌++◌, drop, string_bytes}
use Rattle.smap_view_page.specs.Numbers.{text as numbers_text}
use Rattle.smap_view_page.specs.Steps.{all_numbers}
use Rattle.smap_view_page.specs.Places.{places, mappings_text}
use Rattle.smap_view_page.proofs.mappings.mappings_text.Given as goal

abbrev pub invariant-loop-number : goal.invariant-loop-number
invariant-loop-number l =
    string_bytes l.text ++ numbers_text (all_numbers l.last (drop l.number (places l.map)))
    ≡ mappings_text l.map
