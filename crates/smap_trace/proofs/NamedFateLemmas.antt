-- A line gets the name of a function.
use Rattle.std.proofs.Common.{◌≡◌, ℕ, ◌++◌, Bool, List, Option, refl}
use Rattle.std.specs.Prelude.{IfSome, Some, option_map}
use Rattle.smap_frames.specs.Frame.{FrameParts}
use Rattle.smap_frames.specs.Reading.{frame_of}
use Rattle.smap_trace.specs.Known.{AreKnown, GivesName, Known}
use Rattle.smap_trace.specs.NamedFates.{AreKept, MayBecome, fate_with}
use Rattle.smap_trace.specs.Names.{IsRenamed, around_of, mapped}
use Rattle.smap_trace.specs.Pieces.{AppendsLine}
use Rattle.smap_trace.specs.Scripts.{Script}
use Rattle.smap_trace.specs.Translation.{without_line_feed, written}
use Rattle.smap_trace.specs.Views.{outcome_of}
use Rattle.smap_trace.specs.declared.kept.Kept.{Kept}
use Rattle.smap_trace.specs.declared.match_mode.MatchMode.{MatchMode}
use Rattle.smap_trace.specs.declared.names.RenamedFrame.{RenamedFrame}
use Rattle.smap_trace.specs.declared.outcome.LineOutcome.{LineOutcome}

pub line_named : (mode : MatchMode) (scripts : List Script) (hide : Bool) (line text : List ℕ)
    (given : Option RenamedFrame) (k : Kept) (new : Known) (before after : List ℕ) (o : LineOutcome)
    → text ≡ without_line_feed line
    → IfSome given (λ r. (f : FrameParts) × (frame_of text ≡ Some f) × IsRenamed f.before r)
    → (AreKnown mode.ignore_query scripts k.functions
    → AreKnown mode.ignore_query scripts new
    × GivesName (mapped mode.ignore_query scripts text) new (option_map around_of given))
    → after ≡ before ++ written (fate_with (option_map around_of given) mode scripts hide line) line
    → o ≡ outcome_of (fate_with (option_map around_of given) mode scripts hide line)
    → AppendsLine (MayBecome mode scripts hide) (AreKept mode scripts hide) line k before
    (record k { functions = new }) after o
line_named mode scripts hide line text given k new before after o is name exact ok outcome = λ holds. (
  ((exact holds.0).0, holds.1),
  (
    fate_with (option_map around_of given) mode scripts hide line,
    record {
      given = given;
      gets = record {
        name = rw is at name;
        exact = (new, (exact holds.0).0, rw is at (exact holds.0).1);
      };
      is = refl;
    },
    ok,
    outcome,
  ),
)
