-- Laws about traces that are translated by compositions.
use Rattle.std.specs.Prelude.{◌≡◌, ◌≢◌, ℕ, ◌+◌, Bool, false, List, [], ◌∷◌, None, Some, Contains, IfSome}
use Rattle.std.specs.Prelude.{option_and_then}
use Rattle.std.specs.List.{AllByRecursion}
use Rattle.smap_frames.specs.Frame.{FrameParts, IsFrame}
use Rattle.smap_record.specs.Record.{Origin, Record}
use Rattle.smap_trace.specs.RenamedFrame.{IsPut}
use Rattle.smap_trace.specs.TraceLaws.{Names}
use Rattle.smap_trace.specs.Translation.{fate_of, kept, lines_of, map_of, origin_at, origin_text, translated}
use Rattle.smap_trace.specs.Translation.{translation, without_line_feed}
use Rattle.smap_compose.specs.Chain.{Link, chained, closed, led_to}
use Rattle.smap_compose.specs.Composing.{composition, origin_in}

-- Its position can stand in a frame: where its source has a URL, that is not empty and has no space.
abbrev pub CanStand : Origin → Type 0
CanStand o = IfSome o.source.url (λ url. IsPut url (o.line + 1) (o.column + 1))

-- Those of all originals of the map can.
abbrev pub AllStand : Record → Type 0
AllStand r = AllByRecursion (λ m. IfSome m.origin CanStand) r.mappings

-- the later scripts, and before them the script with the composition of its map with theirs
abbrev pub at_once : Link → List Link → List Link
at_once link later = (link.0, composition link.1 (led_to later)) ∷ later

-- The text is a frame of the script, and the map leads its position into the source of a later map that has
-- no position with a URL there.
pub record EndsBetween (link : Link) (later : List Link) (text : List ℕ) : Type 0 where
  pub frame : FrameParts
  pub between : Origin
  pub next : Record
  pub is_frame : IsFrame text frame
  pub of_script : frame.url ≡ link.0
  pub found : origin_at link.1 frame.line frame.column ≡ Some between
  pub leads : led_to later between.source ≡ Some next
  pub nothing : option_and_then origin_text (origin_in next between.line between.column) ≡ None

-- A trace that is translated by the map of a script, and then by the maps of the sources, is translated alike
-- at once by the composition and these maps. No later script is the first one, all originals can stand in
-- frames, and no line of the trace ends between.
abbrev pub TraceIsFollowed : Type 0
TraceIsFollowed = (link : Link) (later : List Link) (hide : Bool) (trace : List ℕ)
    → map_of later link.0 ≡ None → AllStand link.1
    → ((line : List ℕ) → Contains (lines_of trace) line → EndsBetween link later (without_line_feed line) → ⊥)
    → translation later hide (translation (link ∷ []) hide trace)
    ≡ translation (at_once link later) hide trace

-- Where nothing is hidden, a line that ends between is kept by the composition, while one map after the other
-- leaves the position in the source between.
abbrev pub BetweenIsLeft : Type 0
BetweenIsLeft = (link : Link) (later : List Link) (text : List ℕ) → AllStand link.1
    → EndsBetween link later text → (fate_of (at_once link later) false text ≡ kept)
    × ((t : List ℕ) × (fate_of (link ∷ []) false text ≡ translated t) × (fate_of later false t ≡ kept))

-- a trace translated by the maps of a chain, one after another
abbrev pub in_turn : List Link → Bool → List ℕ → List ℕ
in_turn [] hide trace = trace
in_turn (link ∷ later) hide trace = in_turn later hide (translation (link ∷ []) hide trace)

-- It can stand in a frame, and if its source is the script of a later map, that map has a position with a URL
-- there.
abbrev pub LeadsOn : List Link → Origin → Type 0
LeadsOn later o = CanStand o × IfSome (led_to later o.source)
    (λ s. option_and_then origin_text (origin_in s o.line o.column) ≢ None)

-- No script of the chain is one of a later map, and all originals lead on.
abbrev pub AllLeadOn : List Link → Type 0
AllLeadOn [] = Unit {0}
AllLeadOn (link ∷ later) = (map_of later link.0 ≡ None)
    × AllByRecursion (λ m. IfSome m.origin (LeadsOn (closed later))) link.1.mappings × AllLeadOn later

-- A trace that is translated by the maps of a chain, one after another, is translated alike at once by their
-- compositions, if all originals lead on.
abbrev pub ChainTranslates : Type 0
ChainTranslates = (links : List Link) (hide : Bool) (trace : List ℕ) → AllLeadOn links
    → in_turn links hide trace ≡ translation (closed links) hide trace

-- If it has no frames of the later scripts, the composition of the chain translates it alone.
abbrev pub ComposedTranslates : Type 0
ComposedTranslates = (link : Link) (later : List Link) (hide : Bool) (trace : List ℕ)
    → AllLeadOn (link ∷ later) → ((s : Link) → Contains later s → Names trace s.0 → ⊥)
    → in_turn (link ∷ later) hide trace ≡ translation ((link.0, chained link.1 later) ∷ []) hide trace
