-- Laws about bundles, for every input.
use Rattle.std.specs.Prelude.{◌≡◌, ◌↔◌, ℕ, List, [], ◌++◌, codes, Some, Ok, Err}
use Rattle.smap_tool.specs.declared.fault.EntryFault.TheVariants as wrong
use Rattle.smap_record.specs.Scripts.{Script}
use Rattle.smap_tool.specs.Header.{BeginsWithHeader, HeaderParts, IsHeader, header_in}
use Rattle.smap_tool.specs.Bundle.{bundle_of, fault_after}
use Rattle.smap_tool.specs.Reach.{EndsWithinEntry}

-- `header_in` computes exactly the header with which a text begins.
abbrev pub HeaderIsComputed : Type 0
HeaderIsComputed = (text : List ℕ) (h : HeaderParts) (more : List ℕ)
    → (header_in text ≡ Some (h, more)) ↔ BeginsWithHeader text h.script h.base h.bytes more

-- A line is a header in at most one way.
abbrev pub OneHeader : Type 0
OneHeader = (line script base other_script other_base : List ℕ) (n m : ℕ)
    → IsHeader line script base n → IsHeader line other_script other_base m
    → (script ≡ other_script) × (base ≡ other_base) × (n ≡ m)

-- An input begins with at most one header.
abbrev pub OneBeginning : Type 0
OneBeginning = (text script base more other_script other_base other_more : List ℕ) (n m : ℕ)
    → BeginsWithHeader text script base n more → BeginsWithHeader text other_script other_base m other_more
    → (script ≡ other_script) × (base ≡ other_base) × (n ≡ m) × (more ≡ other_more)

-- The shortest inputs: an empty one has no header, and the line `trace` alone has no entries and no lines.
abbrev pub FirstRows : Type 0
FirstRows = (bundle_of [] ≡ Err (fault_after [] wrong.Header)) × (bundle_of (codes "trace\n") ≡ Ok ([], []))

-- What ends within an entry has the line `trace` after its entries at most as its end.
abbrev pub TraceIsUnread : Type 0
TraceIsUnread = (input : List ℕ) (scripts : List Script) (trace : List ℕ) → EndsWithinEntry input
    → bundle_of input ≡ Ok (scripts, trace) → trace ≡ []
