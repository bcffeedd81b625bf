-- What the views that the getters return stand for in the record.
use Rattle.std.specs.Prelude.{ℕ, List, Option, option_map, option_copied}
use Rattle.smap_record.specs.declared.view.LabelView.{LabelView}
use Rattle.smap_record.specs.declared.view.SourceView.{SourceView}
use Rattle.smap_record.specs.declared.view.TokenView.{TokenView}
use Rattle.smap_record.specs.declared.view.OriginalView.{OriginalView}
use Rattle.smap_record.specs.Record.{Entry, Origin, Mapping}

-- a label: its name and its text
abbrev pub named_of_view : LabelView → List ℕ × Option (List ℕ)
named_of_view v = (v.name.now, option_copied v.text)

-- a source
abbrev pub entry_of_view : SourceView → Entry
entry_of_view v = record { url = option_copied v.url; content = option_copied v.content; ignored = v.ignored }

-- the original of a mapping
abbrev pub origin_of_view : OriginalView → Origin
origin_of_view v = record {
  source = entry_of_view v.source;
  line = v.line;
  column = v.column;
  name = option_copied v.name;
}

-- a mapping
abbrev pub mapping_of_view : TokenView → Mapping
mapping_of_view v = record { line = v.line; column = v.column; origin = option_map origin_of_view v.original }
