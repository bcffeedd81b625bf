-- Laws about the definitions.
use Rattle.std.specs.Prelude.{◌≡◌, ◌↔◌, ◌⊎◌, ℕ, ◌+◌, ◌<◌, ◌==◌, Bool, List, ◌∷◌, ◌++◌, count_by, flat_map}
use Rattle.std.specs.Prelude.{length, map, Option, slice_index}
use Rattle.smap_frames.specs.Frame.{IsFrame, FrameParts, position_text}
use Rattle.smap_mappings.specs.Position.{NeverFalls}
use Rattle.smap_record.specs.Fitting.{mapping_position}
use Rattle.smap_record.specs.Record.{Mapping}
use Rattle.smap_trace.specs.Anywhere.{Occurrence, Piece, byte, bytes_of, found, pieces_of}
use Rattle.smap_trace.specs.Cuts.{IsCut}
use Rattle.smap_trace.specs.LineStarts.{line_starts}
use Rattle.smap_trace.specs.Lookup.{FallsTo, mapping_at}
use Rattle.smap_trace.specs.Scripts.{AreDistinct, Script}
use Rattle.smap_trace.specs.Translation.{anywhere_fate, frame_fate}

-- `mapping_at` computes exactly the mapping that a position has, in any list of mappings.
abbrev pub LookupIsComputed : Type 0
LookupIsComputed = (ms : List Mapping) (line column : ℕ) (found : Option Mapping)
    → (mapping_at ms line column ≡ found) ↔ FallsTo ms line column found

-- In the table of mappings that are in order, a line's entry and the number of mappings on the line are
-- together the next entry.
abbrev pub LinesAreCounted : Type 0
LinesAreCounted = (ms : List Mapping) (line : ℕ) → NeverFalls (map mapping_position ms)
    → line + 1 < length (line_starts ms)
    → slice_index (line_starts ms) line + count_by (λ m. m.line == line) ms
    ≡ slice_index (line_starts ms) (line + 1)

-- `pieces_of` computes exactly the pieces into which a line is cut.
abbrev pub CutIsComputed : Type 0
CutIsComputed = (ignore : Bool) (scripts : List Script) (line : List ℕ) (pieces : List Piece)
    → AreDistinct scripts → (pieces_of ignore scripts line ≡ pieces) ↔ IsCut ignore scripts line pieces

-- A line is cut in one way.
abbrev pub OneCut : Type 0
OneCut = (ignore : Bool) (scripts : List Script) (line : List ℕ) (ps qs : List Piece) → AreDistinct scripts
    → IsCut ignore scripts line ps → IsCut ignore scripts line qs → ps ≡ qs

-- The pieces of a line, joined, are the line.
abbrev pub PiecesAreTheLine : Type 0
PiecesAreTheLine = (ignore : Bool) (scripts : List Script) (line : List ℕ)
    → flat_map bytes_of (pieces_of ignore scripts line) ≡ line

-- The line holds no position but that of its frame, if that is one of a script.
abbrev pub HoldsOwnAlone : Bool → List Script → List ℕ → FrameParts → Type 0
HoldsOwnAlone ignore scripts line f = (pieces_of ignore scripts line ≡ map byte line) ⊎ ((o : Occurrence)
    × (o.line ≡ f.line) × (o.column ≡ f.column)
    × (pieces_of ignore scripts line ≡ map byte f.before
    ++ found o (position_text f.url f.line f.column) ∷ map byte f.after))

-- The same becomes of a line that is a frame and holds no further position, whether positions are found in
-- frames or anywhere, and whether or not queries are ignored.
abbrev pub FramesAreFoundAnywhere : Type 0
FramesAreFoundAnywhere = (ignore : Bool) (scripts : List Script) (hide : Bool) (line : List ℕ)
    (f : FrameParts) → AreDistinct scripts → IsFrame line f → HoldsOwnAlone ignore scripts line f
    → anywhere_fate ignore scripts hide line ≡ frame_fate ignore scripts hide line
