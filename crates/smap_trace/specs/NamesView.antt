-- For private contracts: what a frame with its mapping stands for.
use Rattle.std.specs.Prelude.{◌≡◌, ◌<◌, IfSome, Some, length, slice_get}
use Rattle.smap_frames.specs.FrameView.{parts_in}
use Rattle.smap_functions.specs.Lines.{AreLines}
use Rattle.smap_functions.specs.Sources.{Source}
use Rattle.smap_record.specs.Record.{record_of}
use Rattle.smap_record.specs.Views.{entry_of_view, origin_of_view}
use Rattle.smap_record.specs.declared.view.OriginalView.{OriginalView}
use Rattle.smap_trace.specs.Names.{Mapped}
use Rattle.smap_trace.specs.declared.names.MappedFrame.{MappedFrame}

abbrev pub mapped_of : MappedFrame → Mapped
mapped_of m = record {
  frame = parts_in m.frame;
  map = record_of m.map.now;
  index = m.index;
  column = m.token.column;
  origin = origin_of_view m.original;
}

-- The mapping is one of the map, and the number of its source is that of the map.
pub record IsMapped (m : MappedFrame) : Type 0 where
  pub within : m.index < length (record_of m.map.now).mappings
  pub number : slice_get (record_of m.map.now).sources m.original.source_number
      ≡ Some (entry_of_view m.original.source)

-- The lines are those of the content of the original's source, if that has one.
abbrev pub IsOfContent : OriginalView → Source → Type 0
IsOfContent o s = IfSome o.source.content (λ content. AreLines content.now s.lines)
