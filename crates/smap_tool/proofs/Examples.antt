-- Known error lines, computed by the definitions.
use Rattle.std.proofs.Common.{◌≡◌, ℕ, List, [], ◌∷◌, Option, Some, None, codes, refl}
use Rattle.std.specs.Fmt.{digits}
use Rattle.smap_mappings.specs.declared.error.SegmentPlace.{SegmentPlace}
use Rattle.smap_record.specs.declared.fault.Kind.{Kind}
use Rattle.smap_record.specs.declared.fault.Kind.TheVariants as kind
use Rattle.smap_record.specs.Messages.{fault_message}
use Rattle.smap_tool.specs.declared.fault.EntryFault.{EntryFault}
use Rattle.smap_tool.specs.declared.fault.EntryFault.TheVariants as wrong
use Rattle.smap_tool.specs.BundleLine.{bundle_line}
use Rattle.smap_tool.specs.FaultLine.{fault_line}

abbrev line_of : List ℕ → Option SegmentPlace → Kind → List ℕ
line_of section place kind = fault_line (record { section = section; place = place; kind = kind })

abbrev at : ℕ → ℕ → Option SegmentPlace
at line segment = Some (record { line = line; segment = segment })

-- ---- the line of a map

not_json : line_of [] None kind.Json ≡ codes "refused: not json"
unfolding digits fault_message fault_line
not_json = refl

column_below_zero : line_of [] (at 0 0) kind.Column ≡ codes "refused: line 0 segment 0: generated column"
unfolding digits fault_message fault_line
column_below_zero = refl

two_numbers : line_of [] (at 0 0) (kind.Count 2) ≡ codes "refused: line 0 segment 0: 2 numbers"
unfolding digits fault_message fault_line
two_numbers = refl

no_url : line_of [] None (kind.SourceUrl 0) ≡ codes "refused: source 0 is no URL"
unfolding digits fault_message fault_line
no_url = refl

overlap : line_of (1 ∷ []) None kind.Overlap ≡ codes "refused: section 1: overlap"
unfolding digits fault_message fault_line
overlap = refl

line_beyond : line_of (0 ∷ []) (at 0 0) kind.GeneratedLine
    ≡ codes "refused: section 0: line 0 segment 0: generated line"
unfolding digits fault_message fault_line
line_beyond = refl

within_a_section : line_of (10 ∷ 2 ∷ []) (at 12 3) kind.Name
    ≡ codes "refused: section 10.2: line 12 segment 3: name index"
unfolding digits fault_message fault_line
within_a_section = refl

-- ---- the line of a bundle

abbrev entry_of : ℕ → EntryFault → List ℕ
entry_of entry fault = bundle_line (record { entry = entry; fault = fault })

first_header : entry_of 0 wrong.Header ≡ codes "refused: bundle header 0"
unfolding digits
first_header = refl

repeated : entry_of 1 wrong.Repeated ≡ codes "refused: map 1: script repeated"
unfolding digits
repeated = refl

base : entry_of 0 wrong.Base ≡ codes "refused: map 0: base is no URL"
unfolding digits
base = refl

cut_off : entry_of 10 wrong.CutOff ≡ codes "refused: map 10: cut off"
unfolding digits
cut_off = refl

map : entry_of 0 (wrong.Map (record { section = []; place = at 0 1; kind = kind.Empty }))
    ≡ codes "refused: map 0: line 0 segment 1: empty segment"
unfolding digits fault_message
map = refl
