-- The translation of a trace with the names of functions. This project's own rules.
use Rattle.std.specs.Prelude.{◌≡◌, ℕ, ◌++◌, Bool, bytes_eq, if◌then◌else◌, List, [], IfSome}
use Rattle.std.specs.Prelude.{Option, None, Some, option_map}
use Rattle.std.specs.Option.{option_map_or}
use Rattle.smap_frames.specs.Frame.{FrameParts}
use Rattle.smap_frames.specs.Reading.{frame_of}
use Rattle.smap_trace.specs.Known.{AreKnown, GivesName, Known}
use Rattle.smap_trace.specs.Names.{Around, IsRenamed, around_of, mapped}
use Rattle.smap_trace.specs.Scripts.{Script}
use Rattle.smap_trace.specs.Translated.{Lines, translation_in}
use Rattle.smap_trace.specs.Translation.{Fate, fate_by, fate_in, frame_fate, kept, line_translation_by}
use Rattle.smap_trace.specs.Translation.{map_for, without_line_feed, written}
use Rattle.smap_trace.specs.Views.{outcome_of}
use Rattle.smap_trace.specs.declared.match_mode.MatchMode.{MatchMode}
use Rattle.smap_trace.specs.declared.names.RenamedFrame.{RenamedFrame}
use Rattle.smap_trace.specs.declared.outcome.LineOutcome.{LineOutcome}
use Rattle.smap_trace.specs.declared.kept.Kept.{Kept}

-- a frame with this around its position
abbrev pub with_around : Around → FrameParts → FrameParts
with_around a f = record f { before = a.1.0; after = a.1.1 ++ f.after }

-- What becomes of a line without its line feed that is a frame with this around its position.
abbrev pub renamed_fate : Around → Bool → List Script → Bool → List ℕ → Fate
renamed_fate a ignore scripts hide text = option_map_or
    (λ f. option_map_or (fate_in hide (with_around a f)) (map_for ignore scripts text f) kept)
    (frame_of text) kept

-- Whether the line is translated as a frame: also where positions are found anywhere, it has no other.
abbrev pub is_framed : MatchMode → List Script → Bool → List ℕ → Bool
is_framed mode scripts hide line = bytes_eq (line_translation_by (fate_by mode scripts hide) line)
    (written (frame_fate mode.ignore_query scripts hide (without_line_feed line)) line)

-- What becomes of a line that gets this.
abbrev pub fate_with : Option Around → MatchMode → List Script → Bool → List ℕ → Fate
fate_with None mode scripts hide line = fate_by mode scripts hide line
fate_with (Some a) mode scripts hide line = if is_framed mode scripts hide line
    then renamed_fate a mode.ignore_query scripts hide (without_line_feed line)
    else fate_by mode scripts hide line

-- A frame gets the name of a function. What a line gets is exactly what the definition says by what is known
-- of the sources of these maps.
pub record Gets (ignore : Bool) (scripts : List Script) (text : List ℕ) (given : Option RenamedFrame)
    : Type 0 where
  pub name : IfSome given (λ r. (f : FrameParts) × (frame_of text ≡ Some f) × IsRenamed f.before r)
  pub exact : (known : Known) × AreKnown ignore scripts known
      × GivesName (mapped ignore scripts text) known (option_map around_of given)

-- A line becomes what it does without names, with what it gets in place of what is around its position.
pub record MayBecome (mode : MatchMode) (scripts : List Script) (hide : Bool) (line : List ℕ) (f : Fate)
    : Type 0 where
  pub given : Option RenamedFrame
  pub gets : Gets mode.ignore_query scripts (without_line_feed line) given
  pub is : f ≡ fate_with (option_map around_of given) mode scripts hide line

-- ---- what is kept while lines become that

abbrev pub nothing_kept : Kept
nothing_kept = record { functions = []; lines = [] }

-- A line may become what is kept of it.
abbrev pub AreTranslated : MatchMode → List Script → Bool → Lines → Type 0
AreTranslated mode scripts hide lines = (line : List ℕ) (t : List ℕ × LineOutcome)
    → translation_in lines line ≡ Some t → (f : Fate) × MayBecome mode scripts hide line f
    × (t.0 ≡ written f line) × (t.1 ≡ outcome_of f)

-- What is known of a source is of its own text, and a line may become what is kept of it.
abbrev pub AreKept : MatchMode → List Script → Bool → Kept → Type 0
AreKept mode scripts hide k = AreKnown mode.ignore_query scripts k.functions
    × AreTranslated mode scripts hide k.lines
