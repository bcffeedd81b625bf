-- What is known of the functions of sources.
use Rattle.std.specs.Prelude.{◌≡◌, ◌⊎◌, ℕ, nat_eq, Bool, List, bytes_eq, map, slice_get, Option}
use Rattle.std.specs.Prelude.{None, Some, option_and_then}
use Rattle.std.specs.Global.{Vec}
use Rattle.std.specs.Map.{lookup}
use Rattle.std.specs.Option.{option_flatten}
use Rattle.smap_functions.specs.Sources.{IsOf, Source}
use Rattle.smap_frames.specs.Frame.{FrameParts}
use Rattle.smap_frames.specs.Reading.{frame_of}
use Rattle.smap_record.specs.Record.{Entry, Origin, Record}
use Rattle.smap_trace.specs.Names.{Around, IsOfOrigin, Mapped, renamed_by}
use Rattle.smap_trace.specs.Scripts.{Script}
use Rattle.smap_trace.specs.Translation.{map_for}
use Rattle.smap_trace.specs.declared.known.ScriptSources.{ScriptSources}

-- by the URLs of scripts and the numbers of sources in their maps; none of those in which none were found
abbrev pub Known : Type 0
Known = List (List ℕ × List (ℕ × Option Source))

-- what is known of one
abbrev pub of_source : Known → List ℕ → ℕ → Option Source
of_source known url number =
    option_and_then (λ t. option_flatten (lookup (nat_eq number) t)) (lookup (bytes_eq url) known)

-- For private contracts: what these entries hold.
abbrev pub known_in : List (Vec ℕ × ScriptSources) → Known
known_in es = map (λ e. (e.0.items, e.1.sources.entries)) es

-- Nothing is known that wasn't.
abbrev pub KnowsLess : Known → Known → Type 0
KnowsLess old new = (url : List ℕ) (number : ℕ) (s : Source) → of_source new url number ≡ Some s
    → of_source old url number ≡ Some s

-- Nothing is known that wasn't, but for this of one source.
abbrev pub KnowsMore : Known → Known → List ℕ → ℕ → Option Source → Type 0
KnowsMore old new script n o = (url : List ℕ) (number : ℕ) (s : Source) → of_source new url number ≡ Some s
    → (of_source old url number ≡ Some s) ⊎ ((url ≡ script) × (number ≡ n) × (o ≡ Some s))

-- Nothing is known that wasn't, but for what the text of this original's source gives.
abbrev pub KnowsOf : Known → Known → List ℕ → ℕ → Origin → Type 0
KnowsOf old new script n origin = (url : List ℕ) (number : ℕ) (s : Source) → of_source new url number ≡ Some s
    → (of_source old url number ≡ Some s) ⊎ ((url ≡ script) × (number ≡ n) × IsOfOrigin origin s)

-- ---- what is known is of these maps

-- some frame with this URL is in the script of this map
pub record IsFor (ignore : Bool) (scripts : List Script) (url : List ℕ) (r : Record) : Type 0 where
  pub text : List ℕ
  pub frame : FrameParts
  pub reads : frame_of text ≡ Some frame
  pub names : frame.url ≡ url
  pub finds : map_for ignore scripts text frame ≡ Some r

-- Frames with one URL are in the script of one map.
abbrev pub OneMapEach : Bool → List Script → Type 0
OneMapEach ignore scripts = (url : List ℕ) (r q : Record) → IsFor ignore scripts url r
    → IsFor ignore scripts url q → r ≡ q

-- What is known of a source is of its own text.
abbrev pub AreKnown : Bool → List Script → Known → Type 0
AreKnown ignore scripts known = (url : List ℕ) (number : ℕ) (s : Source) (r : Record) (e : Entry)
    → of_source known url number ≡ Some s → IsFor ignore scripts url r → slice_get r.sources number ≡ Some e
    → (text : List ℕ) × (e.content ≡ Some text) × IsOf text s

-- A frame gets nothing without such a mapping, and else what it has by what is known of its source.
abbrev pub GivesName : Option Mapped → Known → Option Around → Type 0
GivesName None known given = given ≡ None
GivesName (Some p) known given = (number : ℕ) × (slice_get p.map.sources number ≡ Some p.origin.source)
    × (given ≡ renamed_by p (of_source known p.frame.url number))

-- This holds of any scripts.
abbrev pub OneMapOfAUrl : Type 0
OneMapOfAUrl = (ignore : Bool) (scripts : List Script) → OneMapEach ignore scripts
