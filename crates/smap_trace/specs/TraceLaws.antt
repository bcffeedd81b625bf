-- Laws about the translation of whole traces.
use Rattle.std.specs.Prelude.{◌≡◌, ◌↔◌, ◌⊎◌, ℕ, ◌+◌, Bool, true, false, List, [], ◌++◌, Contains, filter}
use Rattle.std.specs.Prelude.{bytes_eq, Some}
use Rattle.std.specs.List.{list_any}
use Rattle.std.specs.Map.{keys_of}
use Rattle.smap_frames.specs.Frame.{FrameParts, IsFrame, position_text}
use Rattle.smap_trace.specs.Anywhere.{Occurrence, found, longest, pieces_of}
use Rattle.smap_trace.specs.Naming.{named_in}
use Rattle.smap_trace.specs.Scripts.{Script}
use Rattle.smap_trace.specs.Translation.{Fate, fate, fate_by, has_line_feed, lines_of, translation_by}
use Rattle.smap_trace.specs.Translation.{without_line_feed}
use Rattle.smap_trace.specs.Views.{at_most_u64, counts_by}
use Rattle.smap_trace.specs.declared.match_mode.MatchMode.{MatchMode}
use Rattle.smap_trace.specs.declared.outcome.Counts.{Counts}

-- ---- a trace in two parts

-- The counts of two parts, added and capped at the greatest `u64`.
abbrev pub sum_of : Counts → Counts → Counts
sum_of c d = record {
  lines = at_most_u64 (c.lines + d.lines);
  translated = at_most_u64 (c.translated + d.translated);
  dropped = at_most_u64 (c.dropped + d.dropped);
}

-- nothing, or a text that ends in a line feed
abbrev pub EndsItsLine : List ℕ → Type 0
EndsItsLine text = (text ≡ []) ⊎ (has_line_feed text ≡ true)

-- A trace that is cut behind a line feed is translated part by part, and its counts are the sums of theirs,
-- whatever becomes of each line.
abbrev pub PartsAreTranslated : Type 0
PartsAreTranslated = (fates : List ℕ → Fate) (first rest : List ℕ) → EndsItsLine first
    → (translation_by fates (first ++ rest) ≡ translation_by fates first ++ translation_by fates rest)
    × (counts_by fates (first ++ rest) ≡ sum_of (counts_by fates first) (counts_by fates rest))

-- ---- scripts that a trace doesn't name

-- A line of the trace is a frame with this URL.
pub record Names (trace url : List ℕ) : Type 0 where
  pub line : List ℕ
  pub frame : FrameParts
  pub of_trace : Contains (lines_of trace) line
  pub is_frame : IsFrame (without_line_feed line) frame
  pub is_url : frame.url ≡ url

-- The URLs that a trace is found to name are those of its frames.
abbrev pub NamedAreOfFrames : Type 0
NamedAreOfFrames = (trace url : List ℕ) → Contains (keys_of (named_in trace)) url ↔ Names trace url

-- The translations of the trace and the counts are the same in both ways.
abbrev pub AreAlike : (List ℕ → Fate) → (List ℕ → Fate) → List ℕ → Type 0
AreAlike fates others trace = (translation_by fates trace ≡ translation_by others trace)
    × (counts_by fates trace ≡ counts_by others trace)

-- Where positions are found in frames, the scripts that a choice doesn't keep can be left out if no frame of
-- the trace has the URL of one of them.
abbrev pub UnnamedAreLeftOut : Type 0
UnnamedAreLeftOut = (keeps : Script → Bool) (scripts : List Script) (hide : Bool) (trace : List ℕ)
    → ((s : Script) → Contains scripts s → keeps s ≡ false → Names trace s.0 → ⊥)
    → AreAlike (fate scripts hide) (fate (filter keeps scripts) hide) trace

-- whether the trace is found to name the script
abbrev pub is_named : List ℕ → Script → Bool
is_named trace s = list_any (bytes_eq s.0) (keys_of (named_in trace))

-- Where positions are found in frames, the scripts that a trace is found to name suffice.
abbrev pub NamedSuffice : Type 0
NamedSuffice = (scripts : List Script) (hide : Bool) (trace : List ℕ)
    → AreAlike (fate scripts hide) (fate (filter (is_named trace) scripts) hide) trace

-- ---- scripts that aren't found, in each way of finding positions

-- The script with this URL is the one that the frame names; where queries are ignored, the one that is found
-- at its position.
abbrev pub IsOfFrame : Bool → List Script → FrameParts → List ℕ → Type 0
IsOfFrame false scripts f url = f.url ≡ url
IsOfFrame true scripts f url = (o : Occurrence)
    × (longest true scripts (position_text f.url f.line f.column) ≡ Some o) × (o.url ≡ url)

-- The line is a frame of the script with this URL.
abbrev pub IsInFrame : Bool → List Script → List ℕ → List ℕ → Type 0
IsInFrame ignore scripts text url =
    (f : FrameParts) × IsFrame text f × IsOfFrame ignore scripts f url

-- A piece of the line is a position of the script with this URL.
abbrev pub IsAmongPieces : Bool → List Script → List ℕ → List ℕ → Type 0
IsAmongPieces ignore scripts text url = (o : Occurrence) × (bytes : List ℕ)
    × Contains (pieces_of ignore scripts text) (found o bytes) × (o.url ≡ url)

-- The script with this URL is found in the line: in its frame, or anywhere if positions are found so.
abbrev pub IsFoundIn : MatchMode → List Script → List ℕ → List ℕ → Type 0
IsFoundIn mode scripts text url = IsInFrame mode.ignore_query scripts text url
    ⊎ ((mode.anywhere ≡ true) × IsAmongPieces mode.ignore_query scripts text url)

-- It is found in a line of the trace.
abbrev pub Finds : MatchMode → List Script → List ℕ → List ℕ → Type 0
Finds mode scripts trace url = (line : List ℕ) × Contains (lines_of trace) line
    × IsFoundIn mode scripts (without_line_feed line) url

-- The scripts that a choice doesn't keep can be left out if none of them is found in the trace.
abbrev pub UnfoundAreLeftOut : Type 0
UnfoundAreLeftOut = (mode : MatchMode) (keeps : Script → Bool) (scripts : List Script) (hide : Bool)
    (trace : List ℕ)
    → ((s : Script) → Contains scripts s → keeps s ≡ false → Finds mode scripts trace s.0 → ⊥)
    → AreAlike (fate_by mode scripts hide) (fate_by mode (filter keeps scripts) hide) trace
