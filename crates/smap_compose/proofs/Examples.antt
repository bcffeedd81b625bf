-- Known answers, computed by the definitions.
use Rattle.std.proofs.Common.{◌≡◌, ℕ, List, [], ◌∷◌, Option, Some, None, Bool, true, false, refl}
use Rattle.std.proofs.Common.{Result, Ok, Err}
use Rattle.std.specs.Prelude.{codes, ◌++◌}
use Rattle.std.specs.Fmt.{digits}
use Rattle.smap_vlq.specs.Number.{digit_byte, shortest_digits, spelling}
use Rattle.smap_mappings.specs.Text.{mappings_text}
use Rattle.smap_frames.specs.Reading.{frame_of}
use Rattle.smap_record.specs.Record.{Entry, Origin, Mapping, Parts, Record, distinct, no_labels, record_of}
use Rattle.smap_record.specs.Record.{usual}
use Rattle.smap_trace.specs.Translation.{translation}
use Rattle.smap_compose.specs.declared.error.BuildError.{BuildError}
use Rattle.smap_compose.specs.Building.{Made, content_due, ignored_due, listing_made, map_made, mapping_due}
use Rattle.smap_compose.specs.Building.{name_due, nothing, put_sources, with_url, within}
use Rattle.smap_compose.specs.Chain.{Link, chained, closed, led_to, unled}
use Rattle.smap_compose.specs.Composing.{composition}
use Rattle.smap_compose.specs.Thinning.{thinned}
use Rattle.smap_compose.specs.TraceLaws.{in_turn}
use Rattle.smap_compose.specs.Using.{used}

abbrev source : List ℕ → Entry
source url = record { url = Some url; content = None; ignored = false }

abbrev at : Entry → ℕ → ℕ → Option Origin
at s line column = Some (record { source = s; line = line; column = column; name = None })

abbrev named : Entry → ℕ → ℕ → List ℕ → Option Origin
named s line column name = Some (record { source = s; line = line; column = column; name = Some name })

abbrev mapped : ℕ → ℕ → Option Origin → Mapping
mapped line column origin = record { line = line; column = column; origin = origin }

abbrev says : List Entry → List Mapping → Record
says sources mappings = record { labels = no_labels; sources = sources; mappings = mappings }

abbrev a_ts : Entry
a_ts = source (codes "a.ts")

abbrev b_ts : Entry
b_ts = source (codes "b.ts")

abbrev c_ts : Entry
c_ts = source (codes "c.ts")

abbrev m_js : Entry
m_js = source (codes "m.js")

-- What the inner map has no original of has none, and isn't taken for what stands before it.
no_original : composition
    (says (m_js ∷ []) (mapped 0 0 (at m_js 0 0) ∷ mapped 0 4 (at m_js 1 0) ∷ []))
    (led_to ((codes "m.js", says (a_ts ∷ []) (mapped 0 0 (at a_ts 0 0) ∷ [])) ∷ []))
    ≡ says (a_ts ∷ []) (mapped 0 0 (at a_ts 0 0) ∷ mapped 0 4 None ∷ [])
unfolding distinct
no_original = refl

-- ---- names, contents, ignored sources

abbrev with_content : List ℕ → List ℕ → Bool → Entry
with_content url content ignored = record { url = Some url; content = Some content; ignored = ignored }

abbrev hidden : Entry
hidden = with_content (codes "m.js") (codes "M") true

abbrev beside : Entry
beside = with_content (codes "v.js") (codes "V") false

abbrev written : Bool → Entry
written ignored = with_content (codes "a.ts") (codes "A") ignored

abbrev labelled : List ℕ → List Entry → List Mapping → Record
labelled file sources mappings =
    record { labels = record { file = Some file }; sources = sources; mappings = mappings }

-- The inner name counts, the outer one where there is none, and a source that stands for an ignored one is
-- ignored.
names_and_flags : composition
    (labelled (codes "out.js") (hidden ∷ beside ∷ [])
    (mapped 0 0 (named hidden 0 0 (codes "x")) ∷ mapped 0 4 (named hidden 0 9 (codes "y"))
    ∷ mapped 0 8 (named beside 2 0 (codes "x")) ∷ []))
    (led_to ((
      codes "m.js",
      labelled (codes "m.js") (written false ∷ [])
          (mapped 0 0 (at (written false) 0 0) ∷ mapped 0 5 (named (written false) 3 2
          (codes "name")) ∷ []),
    ) ∷ []))
    ≡ labelled (codes "out.js") (written true ∷ beside ∷ [])
    (mapped 0 0 (named (written true) 0 0 (codes "x")) ∷ mapped 0 4 (named (written true) 3 2
    (codes "name"))
    ∷ mapped 0 8 (named beside 2 0 (codes "x")) ∷ [])
unfolding distinct
names_and_flags = refl

-- ---- several mappings at one position, and some without original

abbrev ties : Record
ties = composition
    (says (m_js ∷ []) (mapped 0 0 (at m_js 0 0) ∷ mapped 0 2 (at m_js 0 0) ∷ mapped 0 4 (at m_js 0 6)
    ∷ mapped 1 0 None ∷ []))
    (led_to ((
      codes "m.js",
      says (a_ts ∷ [])
          (mapped 0 0 (at a_ts 0 0) ∷ mapped 0 0 (at a_ts 7 1) ∷ mapped 0 6 None ∷ []),
    ) ∷ []))

last_at_position : ties ≡ says (a_ts ∷ [])
    (mapped 0 0 (at a_ts 7 1) ∷ mapped 0 2 (at a_ts 7 1) ∷ mapped 0 4 None ∷ mapped 1 0 None ∷ [])
unfolding distinct
last_at_position = refl

thin : thinned ties ≡ says (a_ts ∷ []) (mapped 0 0 (at a_ts 7 1) ∷ mapped 0 4 None ∷ [])
unfolding distinct
thin = refl

-- ---- a chain of one name

abbrev a_js : Entry
a_js = source (codes "a.js")

one_name : chained
    (says (a_js ∷ []) (mapped 0 0 (at a_js 0 0) ∷ mapped 0 3 (at a_js 0 5) ∷ []))
    ((codes "a.js", says (a_js ∷ []) (mapped 0 0 (at a_js 0 0) ∷ mapped 0 5 (at a_js 2 1) ∷ []))
    ∷ (
      codes "a.js",
      says (a_js ∷ []) (mapped 0 0 (at a_js 9 0) ∷ mapped 2 0 (named a_js 8 4
          (codes "f")) ∷ []),
    )
    ∷ [])
    ≡ says (a_js ∷ []) (mapped 0 0 (at a_js 9 0) ∷ mapped 0 3 (named a_js 8 4 (codes "f")) ∷ [])
unfolding distinct
one_name = refl

-- ---- sources in their order, each once

abbrev null : Entry
null = record { url = None; content = None; ignored = false }

abbrev many : Record
many = composition
    (says (a_ts ∷ m_js ∷ null ∷ []) (mapped 0 0 (at m_js 0 0) ∷ mapped 0 2 (at null 1 1) ∷ []))
    (led_to ((codes "m.js", says (b_ts ∷ a_ts ∷ c_ts ∷ []) (mapped 0 0 (at b_ts 0 0) ∷ [])) ∷ []))

in_order : many ≡ says (a_ts ∷ b_ts ∷ c_ts ∷ null ∷ [])
    (mapped 0 0 (at b_ts 0 0) ∷ mapped 0 2 (at null 1 1) ∷ [])
unfolding distinct
in_order = refl

-- only those that a mapping has
of_mappings : used many ≡ says (b_ts ∷ null ∷ [])
    (mapped 0 0 (at b_ts 0 0) ∷ mapped 0 2 (at null 1 1) ∷ [])
unfolding distinct
of_mappings = refl

-- ---- links that no source leads to

abbrev link : List ℕ → Entry → List ℕ × Record
link script source = (script, says (source ∷ []) [])

-- A script of one name leads to a later one, and one that is named otherwise is led to by none.
led_to_each : unled (says (a_js ∷ []) []) (link (codes "a.js") a_js ∷ link (codes "a.js") m_js
    ∷ link (codes "m.js") a_ts ∷ []) ≡ None
led_to_each = refl

first_unled : unled (says (a_js ∷ []) []) (link (codes "a.js") m_js ∷ link (codes "a.js") a_ts ∷ [])
    ≡ Some 1
first_unled = refl

-- ---- a map that is built

-- what a call makes of this
abbrev then : {A : Type 0} → Made → Result (A × Made) BuildError → Made
then m (Ok p) = p.1
then m (Err e) = m

abbrev sourced : Made → Entry → Made
sourced m e = then m (within (put_sources m) (with_url m.limits.items e.url m.sources))

abbrev added : Made → ℕ → ℕ → ℕ → ℕ → ℕ → Option ℕ → Made
added m line column source original_line original_column name = then m (mapping_due m (record {
  line = line;
  column = column;
  original = Some (record { source = source; line = original_line; column = original_column; name = name });
}))

-- Two sources, a name and the name of the file, against any base.
abbrev listed : Parts → Made
listed base =
    let one = sourced (sourced (record (nothing base usual) { file = Some (codes "out.js") }) a_ts) b_ts in
    let told = then one (content_due one 1 (Some (codes "B"))) in
    let hidden = then told (ignored_due told 1 true) in
    then hidden (name_due hidden (codes "f"))

abbrev built : Parts → Made
built base = added (added (added (listed base) 1 4 1 0 0 None) 0 0 0 2 1 (Some 0)) 1 4 0 5 0 None

numbers : (base : Parts) → sourced (listed base) a_ts ≡ listed base
numbers base = refl

mappings : (base : Parts) → mappings_text (listing_made (built base)).tokens ≡ codes "AAECA;ICFD,ADKA"
unfolding digit_byte shortest_digits spelling mappings_text
mappings base = refl

record_built : (base : Parts) → record_of (map_made (built base)) ≡ labelled (codes "out.js")
    (a_ts ∷ with_content (codes "b.ts") (codes "B") true ∷ [])
    (mapped 0 0 (named a_ts 2 1 (codes "f"))
    ∷ mapped 1 4 (at (with_content (codes "b.ts") (codes "B") true) 0 0) ∷ mapped 1 4 (at a_ts 5 0) ∷ [])
unfolding distinct
record_built base = refl

-- ---- a trace by one map after another, and at once

abbrev steps : List Link
steps = (codes "out.js", says (m_js ∷ []) (mapped 0 0 (at m_js 0 0) ∷ mapped 0 4 (at m_js 1 0) ∷ []))
    ∷ (codes "m.js", says (a_ts ∷ []) (mapped 0 0 (at a_ts 6 2) ∷ [])) ∷ []

abbrev logged : List ℕ
logged = codes "    at f (out.js:1:2)\n    at m.js:1:4\n"

-- The last frame leads to where `m.js` has nothing.
abbrev ends_between : List ℕ
ends_between = codes "g@out.js:1:5"

one_by_one : in_turn steps false (logged ++ ends_between)
    ≡ codes "    at f (a.ts:7:3)\n    at a.ts:7:3\ng@m.js:2:1"
unfolding digits frame_of
one_by_one = refl

all_at_once : translation (closed steps) false (logged ++ ends_between)
    ≡ codes "    at f (a.ts:7:3)\n    at a.ts:7:3\ng@out.js:1:5"
unfolding digits frame_of
all_at_once = refl
