-- For private contracts: a source as the hashed table keeps it.
use Rattle.std.specs.Prelude.{Bool, ◌&&◌, option_map, string_bytes, string_eq}
use Rattle.std.specs.Option.{option_eq}
use Rattle.std.proofs.Math.Bool.{beq}
use Rattle.smap_record.specs.declared.entry.SourceEntry.{SourceEntry}
use Rattle.smap_record.specs.Record.{Entry}

-- the source that an entry of the table is
abbrev pub entry_of : SourceEntry → Entry
entry_of e = record {
  url = option_map string_bytes e.url;
  content = option_map string_bytes e.content;
  ignored = e.ignored;
}

-- what the derived comparison returns
abbrev pub same_key : SourceEntry → SourceEntry → Bool
same_key a b =
    option_eq string_eq a.url b.url
    && (option_eq string_eq a.content b.content && beq a.ignored b.ignored)
