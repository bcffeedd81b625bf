-- What `compose` writes.
use Rattle.std.specs.Prelude.{ℕ, ◌+◌, Bool, if◌then◌else◌, List, [], ◌∷◌, ◌++◌, codes, decimal}
use Rattle.std.specs.Prelude.{Option, Some, None, Ok, Err}
use Rattle.std.specs.Option.{option_map_or}
use Rattle.smap_record.specs.Record.{Record, usual}
use Rattle.smap_canon.specs.Canonical.{canonical_text_in}
use Rattle.smap_canon.specs.Layout.{form_asked}
use Rattle.smap_compose.specs.Chain.{chain_is_too_many, chained, unled}
use Rattle.smap_compose.specs.Thinning.{thinned}
use Rattle.smap_compose.specs.Using.{used}
use Rattle.smap_tool.specs.BundleLine.{bundle_line}
use Rattle.smap_tool.specs.Links.{ChainParts, Checked, chain_in}
use Rattle.smap_tool.specs.declared.commands.compose.ComposeOptions.{ComposeOptions}
use Rattle.smap_tool.specs.declared.outcome.Outcome.{Outcome}
use Rattle.smap_tool.specs.declared.outcome.Outcome.TheVariants.{Done, Refused}

-- an error line
abbrev pub refused : List ℕ → List ℕ × Outcome
refused line = (line ++ 10 ∷ [], Refused)

-- the line for the i-th link if no source leads to it; the outer map is map 0
abbrev pub unled_line : ℕ → List ℕ
unled_line i = codes "refused: map " ++ (decimal (i + 1) ++ codes ": no source leads to it")

-- the composition as it is asked for: thinned, or then without the sources that no mapping has
abbrev pub asked : ComposeOptions → Record → Record
asked options r =
    let thin = if options.thin then thinned r else r in
    if options.used then used thin else thin

-- its canonical form
abbrev pub composed_text : ComposeOptions → ChainParts → List ℕ
composed_text options chain = canonical_text_in (form_asked options.relative) chain.base
    (asked options (chained chain.outer chain.links))

-- What is written for a chain: its composition, unless no source leads to one of its maps, or it is too
-- large.
abbrev pub chain_output : ComposeOptions → ChainParts → List ℕ × Outcome
chain_output options chain = option_map_or
    (λ i. refused (unled_line i))
    (unled chain.outer chain.links)
    (if chain_is_too_many usual chain.outer chain.links
    then refused (codes "refused: too many sources or names") else (composed_text options chain, Done))

-- the same, or what is written for a fault of an entry
abbrev pub read_output : ComposeOptions → Checked (Option ChainParts) → List ℕ × Outcome
read_output options (Err fault) = refused (bundle_line fault)
read_output options (Ok None) = refused (codes "refused: no maps")
read_output options (Ok (Some chain)) = chain_output options chain

-- What is written for an input, and the outcome.
unfoldable pub compose_output : ComposeOptions → List ℕ → List ℕ × Outcome
compose_output options input = read_output options (chain_in input)
