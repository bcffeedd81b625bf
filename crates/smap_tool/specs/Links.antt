-- The chain that `compose` reads: entries as those of a bundle, the outer map first, and then the line `end`
-- and nothing more. The format is this project's own.
use Rattle.std.specs.Prelude.{◌≡◌, ℕ, zero, suc, ◌+◌, ◌≤◌, if◌then◌else◌, List, [], ◌∷◌, ◌++◌, bytes_eq}
use Rattle.std.specs.Prelude.{codes, length, Option, Some, None, Result, Ok, Err}
use Rattle.url.specs.Parser.{Parsed, parse_url}
use Rattle.url.specs.Parts.{Parts}
use Rattle.smap_record.specs.Faults as record_faults
use Rattle.smap_record.specs.Faults.{◌>>=◌}
use Rattle.smap_record.specs.Reading.{reading}
use Rattle.smap_record.specs.Record.{ReadMap, Record, record_of, usual}
use Rattle.smap_compose.specs.Chain.{Link, links_of}
use Rattle.smap_tool.specs.declared.fault.EntryFault.{EntryFault}
use Rattle.smap_tool.specs.declared.fault.EntryFault.TheVariants as wrong
use Rattle.smap_tool.specs.declared.fault.Refusal.{Refusal}
use Rattle.smap_tool.specs.declared.links.Chain.{Chain}
use Rattle.smap_tool.specs.declared.links.ChainFault.{ChainFault}
use Rattle.smap_tool.specs.declared.links.ChainFault.TheVariants as chain
use Rattle.smap_tool.specs.declared.links.LinkEntry.{LinkEntry}
use Rattle.smap_tool.specs.Bundle.{map_in}
use Rattle.smap_tool.specs.Header.{header_in}

-- a value, or the first fault of an entry
abbrev pub Checked : Type 0 → Type 0
Checked A = Result A Refusal

-- this fault of the entry with this index
abbrev pub fault_at : ℕ → EntryFault → Refusal
fault_at i fault = record { entry = i; fault = fault }

-- the value if there is one, and else this fault of the entry
abbrev pub or_fault : {A : Type 0} → ℕ → EntryFault → Option A → Checked A
or_fault i fault None = Err (fault_at i fault)
or_fault i fault (Some x) = Ok x

-- the URL of a base
abbrev pub base_url : ℕ → Parsed Parts → Checked Parts
base_url i (Ok url) = Ok url
base_url i (Err e) = Err (fault_at i wrong.Base)

-- what the map of an entry says
abbrev pub map_read : ℕ → record_faults.Checked ReadMap → Checked ReadMap
map_read i (Ok m) = Ok m
map_read i (Err fault) = Err (fault_at i (wrong.Map fault))

-- An entry: the URL of its script, the base of its map, the map, and what follows the entry.
pub record EntryParts : Type 0 where
  pub script : List ℕ
  pub base : Parts
  pub map : Record
  pub rest : List ℕ

-- The next entry, which has this index, or its first fault.
unfoldable pub entry_in : ℕ → List ℕ → Checked EntryParts
entry_in i text = do
  begun ← or_fault i wrong.Header (header_in text)
  url ← base_url i (parse_url None begun.0.base)
  parts ← or_fault i wrong.CutOff (map_in begun.0.bytes begun.1)
  m ← map_read i (reading url usual parts.0)
  Ok (record { script = begun.0.script; base = url; map = record_of m; rest = parts.1 })

-- the line that ends the entries
abbrev pub end_line : List ℕ
end_line = codes "end" ++ 10 ∷ []

-- The links of a text with at most this many entries, the first of which has this index.
unfoldable pub links_from : ℕ → ℕ → List ℕ → Checked (List Link)
links_from zero i text = Err (fault_at i wrong.Header)
links_from (suc most) i text = if bytes_eq text end_line then Ok [] else (do
  entry ← entry_in i text
  links ← links_from most (i + 1) entry.rest
  Ok ((entry.script, entry.map) ∷ links))

-- A chain: the base of the outer map, the map, and the links behind it.
pub record ChainParts : Type 0 where
  pub base : Parts
  pub outer : Record
  pub links : List Link

-- The chain of an input, none if it has no entry, or the first fault. There are fewer entries than bytes.
unfoldable pub chain_in : List ℕ → Checked (Option ChainParts)
chain_in input = if bytes_eq input end_line then Ok None else (do
  first ← entry_in 0 input
  links ← links_from (length first.rest) 1 first.rest
  Ok (Some (record { base = first.base; outer = first.map; links = links })))

-- ---- what is read

-- what an entry, and a chain, have
abbrev pub entry_of : LinkEntry → EntryParts
entry_of e = record { script = e.script.now; base = e.base; map = record_of e.map; rest = e.rest.now }

abbrev pub chain_of : Chain → ChainParts
chain_of c = record { base = c.base; outer = record_of c.outer; links = links_of c.links.items }

-- The fault is the first one, unless memory ran out.
abbrev pub IsFirst : {A : Type 0} → Checked A → ChainFault → Type 0
IsFirst found (chain.Refused refusal) = found ≡ Err refusal
IsFirst found chain.Memory = Unit {0}

-- With these links before, this is what is left.
abbrev pub behind : List Link → Checked (List Link) → Checked (List Link)
behind links later = later >>= λ more. Ok (links ++ more)

-- These links were read, and this text is left.
pub record LinksSoFar (text : List ℕ) (links : List Link) (rest : List ℕ) : Type 0 where
  pub most : ℕ
  pub fits : length rest ≤ most
  pub whole : behind links (links_from most (length links + 1) rest) ≡ links_from (length text) 1 text
