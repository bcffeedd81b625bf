-- For private contracts: equality of views whose sources are indices into one list.
use Rattle.std.specs.Prelude.{Bool, ◌&&◌, ◌==◌, option_copied}
use Rattle.std.specs.Option.{option_eq}
use Rattle.smap_record.specs.declared.view.OriginalView.{OriginalView}
use Rattle.smap_record.specs.declared.view.TokenView.{TokenView}
use Rattle.smap_record.specs.Record.{same_text}

abbrev pub same_numbered : OriginalView → OriginalView → Bool
same_numbered a b = a.source_number == b.source_number
    && (a.line == b.line && (a.column == b.column && same_text (option_copied a.name) (option_copied b.name)))

abbrev pub same_view : TokenView → TokenView → Bool
same_view a b = a.line == b.line && (a.column == b.column && option_eq same_numbered a.original b.original)
