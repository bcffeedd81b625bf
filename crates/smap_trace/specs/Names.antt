-- Names of functions in frames. This project's own rules.
use Rattle.std.specs.Prelude.{◌≡◌, ℕ, suc, ◌+◌, ◌-◌, ◌*◌, ◌==◌, ◌&&◌, ◌||◌, Bool, false, nat_eq, nat_le}
use Rattle.std.specs.Prelude.{if◌then◌else◌, List, [], ◌∷◌, length, drop, count_by, slice_get, slice_range}
use Rattle.std.specs.Prelude.{Option, None, Some, option_and_then, option_copied, option_map}
use Rattle.std.specs.List.{filter_map, starts_with}
use Rattle.std.specs.Option.{is_some, option_map_or, option_or}
use Rattle.smap_frames.specs.Frame.{FrameParts}
use Rattle.smap_frames.specs.Reading.{frame_of}
use Rattle.smap_functions.specs.Functions.{innermost}
use Rattle.smap_functions.specs.Lines.{place_of}
use Rattle.smap_functions.specs.Names.{IsName, name_of}
use Rattle.smap_functions.specs.Renaming.{closing, logged_name, renamed_before, says}
use Rattle.smap_functions.specs.Segments.{undivided}
use Rattle.smap_functions.specs.Sources.{IsOf, Source}
use Rattle.smap_functions.specs.declared.found.Function.{Function}
use Rattle.smap_functions.specs.declared.renaming.Name.{Name}
use Rattle.smap_record.specs.Record.{Entry, Mapping, Origin, Record, same_entry}
use Rattle.smap_trace.specs.Lookup.{is_within}
use Rattle.smap_trace.specs.Scripts.{Script}
use Rattle.smap_trace.specs.Translation.{map_for}
use Rattle.smap_trace.specs.declared.names.RenamedFrame.{RenamedFrame}

-- ---- the mapping of a frame

-- the index of the last mapping on the line whose column isn't greater
abbrev pub index_at : List Mapping → ℕ → ℕ → Option ℕ
index_at [] line column = None
index_at (m ∷ ms) line column =
    option_or (option_map suc (index_at ms line column)) (if is_within line column m then Some 0 else None)

-- a frame, the map of its script, and the mapping that its position falls to: its index, its column and its
-- original
pub record Mapped : Type 0 where
  pub frame : FrameParts
  pub map : Record
  pub index : ℕ
  pub column : ℕ
  pub origin : Origin

-- with the mapping of this index
abbrev pub mapped_at : FrameParts → Record → ℕ → Option Mapped
mapped_at f r i = option_and_then (λ m. option_map
    (λ o. record { frame = f; map = r; index = i; column = m.column; origin = o }) m.origin)
    (slice_get r.mappings i)

abbrev pub mapped_in : FrameParts → Record → Option Mapped
mapped_in f r = option_and_then (mapped_at f r) (index_at r.mappings (f.line - 1) (f.column - 1))

-- The frame that a line is, if its position has an original.
abbrev pub mapped : Bool → List Script → List ℕ → Option Mapped
mapped ignore scripts text =
    option_and_then (λ f. option_and_then (mapped_in f) (map_for ignore scripts text f)) (frame_of text)

-- ---- whether a source's text is of the map's build

-- the original of a mapping, if it is in this source
abbrev pub in_source : Entry → Mapping → Option Origin
in_source source m = option_and_then (λ o. if same_entry o.source source then Some o else None) m.origin

-- and has a name
abbrev pub named_in : Entry → Mapping → Option Origin
named_in source m = option_and_then (λ o. if is_some o.name then Some o else None) (in_source source m)

-- a name of at most 256 bytes stands at this place of a text
abbrev pub stands_at : List ℕ → List ℕ → ℕ → Bool
stands_at text name at = nat_le (length name) 256 && starts_with nat_eq (drop at text) name

-- the text has the original's name at its line and column
abbrev pub has_name_there : List ℕ → Origin → Bool
has_name_there text o = option_map_or
    (λ name. option_map_or (stands_at text name) (place_of text o.line o.column) false) o.name false

-- up to 64 mappings before this one, itself, and up to 63 behind it
abbrev pub near : List Mapping → ℕ → List Mapping
near ms i = slice_range ms (i - 64) (i + 64)

-- Of the originals of these mappings that have a name and are in this source, at least half have it there.
abbrev pub fits : List ℕ → Entry → List Mapping → Bool
fits text source ms = let named = filter_map (named_in source) ms in
    nat_le (length named) (2 * count_by (has_name_there text) named)

-- ---- whether a name is sure

-- A name is sure where the mapping begins exactly at the frame's position, or the log says it already, or the
-- next mapping's original is in the same source and no function begins or ends between the two.
abbrev pub is_sure : ℕ → ℕ → List ℕ → List ℕ → Bool → Bool
is_sure column mapped_column logged word is_followed =
    mapped_column + 1 == column || (says logged word || is_followed)

-- no function begins or ends between this place and that of the next mapping's original, which is in the same
-- source
abbrev pub is_followed : List Function → List ℕ → Mapped → ℕ → Bool
is_followed fs text p at = option_map_or
    (λ o. option_map_or (undivided fs at) (place_of text o.line o.column) false)
    (option_and_then (in_source p.origin.source) (slice_get p.map.mappings (p.index + 1))) false

-- this word is sure, and the text is of the map's build
abbrev pub is_told : List Function → List ℕ → Mapped → ℕ → List ℕ → Bool
is_told fs text p at word =
    is_sure p.frame.column p.column (logged_name p.frame.before) word (is_followed fs text p at)
    && fits text p.origin.source (near p.map.mappings p.index)

-- ---- the name

-- the words of a function's name, and of its class's
abbrev pub Words : Type 0
Words = List ℕ × Option (List ℕ)

-- at this place of a text with these functions
abbrev pub told_at : List Function → List ℕ → Mapped → ℕ → Option Words
told_at fs text p at = option_and_then (λ words. if is_told fs text p at words.0 then Some words else None)
    (option_and_then (name_of text) (innermost fs at))

-- The name of the innermost of these functions around the original position, in the source's own text, if it
-- has one that is sure.
abbrev pub name_at : List Function → Mapped → Option Words
name_at fs p = option_and_then
    (λ text. option_and_then (told_at fs text p) (place_of text p.origin.line p.origin.column))
    p.origin.source.content

-- ---- the frame with it

-- A frame that has this before its position has it with the name of a function, which is a word, perhaps
-- behind that of a class.
pub record IsRenamed (before : List ℕ) (r : RenamedFrame) : Type 0 where
  pub name : Name
  pub is_name : IsName name
  pub start : r.start ≡ length before
  pub before_is : r.before.items ≡ renamed_before before (option_copied name.class) name.word.now
  pub closing_is : r.closing.now ≡ closing before

-- what a frame with a name has around its position: where that begins, what is before it, and what is put
-- behind it
abbrev pub Around : Type 0
Around = ℕ × (List ℕ × List ℕ)

abbrev pub around_of : RenamedFrame → Around
around_of r = (r.start, (r.before.items, r.closing.now))

abbrev pub renamed : List ℕ → Words → Around
renamed before words = (length before, (renamed_before before words.1 words.0, closing before))

-- What it has by what is known of its source, if anything is.
abbrev pub renamed_by : Mapped → Option Source → Option Around
renamed_by p known =
    option_and_then (λ s. option_map (renamed p.frame.before) (name_at s.functions p)) known

-- it is of the source's own text
abbrev pub IsOfOrigin : Origin → Source → Type 0
IsOfOrigin o s = (text : List ℕ) × (o.source.content ≡ Some text) × IsOf text s
