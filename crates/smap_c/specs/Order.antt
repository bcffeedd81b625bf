-- The fields of each struct that crosses to C, in the order in which they lie in it, as in `smap.h`.
-- tools/write-bindings writes those of structs that are no handles out of capi/smap.h.
use Rattle.std.specs.Prelude.{◌≡◌}
use Rattle.smap_c_answers.specs.declared.spelling.MappingNumbers.{MappingNumbers}
use Rattle.smap_c.specs.declared.faults.SmapFault.{SmapFault}
use Rattle.smap_c.specs.declared.handles.Owner.{Owner}
use Rattle.smap_c.specs.declared.handles.SmapBuilder.{SmapBuilder}
use Rattle.smap_c.specs.declared.handles.SmapBytes.{SmapBytes}
use Rattle.smap_c.specs.declared.handles.SmapMap.{SmapMap}
use Rattle.smap_c.specs.declared.handles.SmapScripts.{SmapScripts}
use Rattle.smap_c.specs.declared.lists.SmapListedMapping.{SmapListedMapping}
use Rattle.smap_c.specs.declared.lookups.SmapMapping.{SmapMapping}
use Rattle.smap_c.specs.declared.maps.SmapCounts.{SmapCounts}
use Rattle.smap_c.specs.declared.maps.SmapLimits.{SmapLimits}
use Rattle.smap_c.specs.declared.scripts.SmapTraceCounts.{SmapTraceCounts}
use Rattle.smap_c.specs.declared.traces.SmapFrameParts.{SmapFrameParts}
use Rattle.smap_c_answers.specs.contracts.spelling.MappingNumbers as numbers
use Rattle.smap_c.specs.contracts.faults.SmapFault as fault
use Rattle.smap_c.specs.contracts.handles.Owner as owner
use Rattle.smap_c.specs.contracts.handles.SmapBuilder as builder
use Rattle.smap_c.specs.contracts.handles.SmapBytes as bytes
use Rattle.smap_c.specs.contracts.handles.SmapMap as map
use Rattle.smap_c.specs.contracts.handles.SmapScripts as scripts
use Rattle.smap_c.specs.contracts.lists.SmapListedMapping as listed
use Rattle.smap_c.specs.contracts.lookups.SmapMapping as mapping
use Rattle.smap_c.specs.contracts.maps.SmapCounts as counts
use Rattle.smap_c.specs.contracts.maps.SmapLimits as limits
use Rattle.smap_c.specs.contracts.scripts.SmapTraceCounts as trace_counts
use Rattle.smap_c.specs.contracts.traces.SmapFrameParts as frame

infixr 50 ◌then◌
-- a field and those after it
abbrev pub ◌then◌ : {A B : Type 0} → A → B → A × B
a then b = (a, b)

abbrev pub FaultOrder : Type 0
FaultOrder = (f : SmapFault) → fault.the_type.as_values f
    ≡ f.kind then f.line then f.segment then f.has_place then f.number then f.depth then f.section
    then f.text_len then f.text then tt

abbrev pub LimitsOrder : Type 0
LimitsOrder = (l : SmapLimits) → limits.the_type.as_values l ≡ l.items then l.lines then tt

abbrev pub CountsOrder : Type 0
CountsOrder = (c : SmapCounts) → counts.the_type.as_values c
    ≡ c.sources then c.listed_sources then c.names then c.mappings then c.lines then tt

abbrev pub MappingOrder : Type 0
MappingOrder = (m : SmapMapping) → mapping.the_type.as_values m
    ≡ m.line then m.column then m.has_source then m.has_name then m.is_ignored then m.source_line
    then m.source_column then m.source then tt

abbrev pub ListedOrder : Type 0
ListedOrder = (m : SmapListedMapping) → listed.the_type.as_values m
    ≡ m.line then m.column then m.has_source then m.has_name then m.source_line then m.source_column
    then m.source then m.name then tt

abbrev pub FrameOrder : Type 0
FrameOrder = (f : SmapFrameParts) → frame.the_type.as_values f
    ≡ f.url_from then f.url_len then f.line then f.column then tt

abbrev pub TraceCountsOrder : Type 0
TraceCountsOrder = (c : SmapTraceCounts) → trace_counts.the_type.as_values c
    ≡ c.lines then c.translated then c.dropped then tt

-- ---- the numbers of a mapping, which are no struct in `smap.h`: they follow one another in an array

abbrev pub NumbersOrder : Type 0
NumbersOrder = (n : MappingNumbers) → numbers.the_type.as_values n
    ≡ n.line then n.column then n.source then n.source_line then n.source_column then n.name then tt

-- ---- handles: a flag, and a pointer beside an allocator, which takes no room

abbrev pub MapOrder : Type 0
MapOrder = (h : SmapMap) → map.the_type.as_values h ≡ h.is_open then h.owner then tt

abbrev pub BytesOrder : Type 0
BytesOrder = (h : SmapBytes) → bytes.the_type.as_values h ≡ h.is_open then h.owner then tt

abbrev pub ScriptsOrder : Type 0
ScriptsOrder = (h : SmapScripts) → scripts.the_type.as_values h ≡ h.is_open then h.owner then tt

abbrev pub BuilderOrder : Type 0
BuilderOrder = (h : SmapBuilder) → builder.the_type.as_values h ≡ h.is_open then h.owner then tt

abbrev pub OwnerOrder : Type 0
OwnerOrder = (o : Owner) → owner.the_type.as_values o ≡ o.at then o.alloc then tt
