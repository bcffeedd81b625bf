-- What lookups report, and what the calls that give a mapping by its number do.
use Rattle.std.specs.Prelude.{◌≡◌, ℕ, true, false, Option, Some, None, IfSome, option_map, slice_get, List}
use Rattle.std.specs.Prelude.{option_and_then}
use Rattle.std.specs.Option.{is_some}
use Rattle.smap_record.specs.declared.view.TokenView.{TokenView}
use Rattle.smap_record.specs.declared.view.OriginalView.{OriginalView}
use Rattle.smap_record.specs.Record.{Record, ReadMap, record_of, Mapping}
use Rattle.smap_record.specs.Views.{entry_of_view, mapping_of_view}
use Rattle.smap_trace.specs.Lookup.{FallsTo, FallsToIndex}
use Rattle.smap_c.specs.declared.lookups.SmapMapping.{SmapMapping}
use Rattle.smap_c.specs.declared.opened.Opened.{Opened}
use Rattle.smap_c_answers.specs.Strings.{TextReported, ClosedReported}
use Rattle.smap_c_answers.specs.Codes as codes

-- a mapping's numbers
abbrev pub reported_mapping_at : ℕ → ℕ → Option OriginalView → SmapMapping
reported_mapping_at line column None = record {
  line = line;
  column = column;
  has_source = false;
  has_name = false;
  is_ignored = false;
  source_line = 0;
  source_column = 0;
  source = 0;
}
reported_mapping_at line column (Some o) = record {
  line = line;
  column = column;
  has_source = true;
  has_name = is_some o.name;
  is_ignored = o.source.ignored;
  source_line = o.line;
  source_column = o.column;
  source = o.source_number;
}

abbrev pub reported_mapping : TokenView → SmapMapping
reported_mapping t = reported_mapping_at t.line t.column t.original

-- its source's number is that of its source
abbrev pub IsNumbered : Record → TokenView → Type 0
IsNumbered r t = IfSome t.original (λ o. slice_get r.sources o.source_number ≡ Some (entry_of_view o.source))

-- the code, and what is reported
abbrev pub IsReported : Option TokenView → SmapMapping → SmapMapping → ℕ → Type 0
IsReported None before after code = (code ≡ codes.NONE) × (after ≡ before)
IsReported (Some t) before after code = (code ≡ codes.OK) × (after ≡ reported_mapping t)

-- The mapping that the position falls to, by its numbers.
abbrev pub Finds : ReadMap → ℕ → ℕ → SmapMapping → SmapMapping → ℕ → Type 0
Finds m line column before after code = (t : Option TokenView)
    × FallsTo (record_of m).mappings line column (option_map mapping_of_view t)
    × IfSome t (IsNumbered (record_of m)) × IsReported t before after code

-- The same of a handle.
abbrev pub LooksUp : Option Opened → ℕ → ℕ → SmapMapping → SmapMapping → ℕ → Type 0
LooksUp None line column before after code = (code ≡ codes.CLOSED) × (after ≡ before)
LooksUp (Some o) line column before after code = Finds o.map line column before after code

-- the code, and the index
abbrev pub IsIndexReported : Option ℕ → ℕ → ℕ → ℕ → Type 0
IsIndexReported None before after code = (code ≡ codes.NONE) × (after ≡ before)
IsIndexReported (Some i) before after code = (code ≡ codes.OK) × (after ≡ i)

-- The index of the mapping that the position falls to.
abbrev pub FindsIndex : ReadMap → ℕ → ℕ → ℕ → ℕ → ℕ → Type 0
FindsIndex m line column before after code = (i : Option ℕ)
    × FallsToIndex (record_of m).mappings line column i × IsIndexReported i before after code

-- The same of a handle.
abbrev pub LooksUpIndex : Option Opened → ℕ → ℕ → ℕ → ℕ → ℕ → Type 0
LooksUpIndex None line column before after code = (code ≡ codes.CLOSED) × (after ≡ before)
LooksUpIndex (Some o) line column before after code = FindsIndex o.map line column before after code

-- ---- one mapping, by its number

-- the code, and what is reported
abbrev pub IsGot : Option TokenView → SmapMapping → SmapMapping → ℕ → Type 0
IsGot None before after code = (code ≡ codes.RANGE) × (after ≡ before)
IsGot (Some t) before after code = (code ≡ codes.OK) × (after ≡ reported_mapping t)

-- the i-th mapping of the record, by its numbers
abbrev pub TokenReported : ReadMap → ℕ → SmapMapping → SmapMapping → ℕ → Type 0
TokenReported m i before after code = (t : Option TokenView)
    × (slice_get (record_of m).mappings i ≡ option_map mapping_of_view t)
    × IfSome t (IsNumbered (record_of m)) × IsGot t before after code

-- The same of a handle.
abbrev pub Token : Option Opened → ℕ → SmapMapping → SmapMapping → ℕ → Type 0
Token None i before after code = (code ≡ codes.CLOSED) × (after ≡ before)
Token (Some o) i before after code = TokenReported o.map i before after code

-- ---- names

-- the name that a mapping has
abbrev pub name_of : Option Mapping → Option (List ℕ)
name_of m = option_and_then (λ m. option_and_then (λ o. o.name) m.origin) m

-- the name of the mapping that the position falls to
abbrev pub NameReported : ReadMap → ℕ → ℕ → List ℕ → List ℕ → ℕ → ℕ → Type 0
NameReported m line column before after len code = (found : Option Mapping)
    × FallsTo (record_of m).mappings line column found × TextReported (name_of found) before after len code

-- The same of a handle.
abbrev pub NameAt : Option Opened → ℕ → ℕ → List ℕ → List ℕ → ℕ → ℕ → Type 0
NameAt None line column before after len code = ClosedReported before after len code
NameAt (Some o) line column before after len code = NameReported o.map line column before after len code
