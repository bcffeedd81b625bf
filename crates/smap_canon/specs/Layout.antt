-- The layout that canonical and flat bytes share.
use Rattle.std.specs.Prelude.{◌≡◌, ℕ, ◌+◌, List, [], ◌∷◌, ◌++◌, map, codes, Bool, true, false}
use Rattle.std.specs.Prelude.{if◌then◌else◌, IsUtf8}
use Rattle.std.specs.Prelude.{Option, Some, None, is_some, option_map}
use Rattle.std.specs.List.{list_any}
use Rattle.serde_json.specs.Data.{Data, null, number, string, array, object, unsigned}
use Rattle.serde_json.specs.Data.{Members, no_members, member}
use Rattle.serde_json.specs.Read.{read}
use Rattle.serde_json.specs.View.{items_of}
use Rattle.serde_json.specs.Written.{compact_text}
use Rattle.smap_mappings.specs.Text.{mappings_text}
use Rattle.smap_shape.specs.Labels.{named}
use Rattle.smap_record.specs.Record.{Parts, Labels, Entry, Listing, ReadMap}
use Rattle.smap_record.specs.Relative.{relatively}

abbrev pub or_null : Option (List ℕ) → Data
or_null None = null
or_null (Some s) = string s

abbrev pub whole_number : ℕ → Data
whole_number n = number (unsigned n)

abbrev pub list_of : List Data → Data
list_of ds = array (items_of ds)

-- the indices of the ignored sources, rising, where the first source has index i
abbrev pub ignored_from : ℕ → List Entry → List ℕ
ignored_from i [] = []
ignored_from i (e ∷ es) = if e.ignored then i ∷ ignored_from (i + 1) es else ignored_from (i + 1) es

-- the list, unless it is empty
abbrev pub unless_empty : List Data → Option Data
unless_empty [] = None
unless_empty (d ∷ ds) = Some (list_of (d ∷ ds))

-- the member, if there is one, before the others
abbrev pub optional_member : List ℕ → Option Data → Members → Members
optional_member key None rest = rest
optional_member key (Some d) rest = member key d rest

abbrev pub has_content : List Entry → Bool
has_content es = list_any (λ e. is_some e.content) es

-- each source's content, if any source has one
abbrev pub written_contents : List Entry → Option Data
written_contents es = if has_content es then Some (list_of (map (λ e. or_null e.content) es)) else None

-- Writes a source's URL as it is.
abbrev pub absolute : List ℕ → List ℕ
absolute url = url

-- How canonical bytes write the URLs of sources.
pub data Form : Type 0 where
  absolute_form : Form
  relative_form : Form

-- How a form writes URLs with respect to a base: each as it is, or in its relative form if it has one.
abbrev pub spelling_in : Form → Parts → List ℕ → List ℕ
spelling_in absolute_form base = absolute
spelling_in relative_form base = relatively base

-- the relative form if the flag is set, and else the absolute one
abbrev pub form_asked : Bool → Form
form_asked true = relative_form
form_asked false = absolute_form

-- a name, and the value if the member is written
abbrev pub OptionalMember : Type 0
OptionalMember = List ℕ × Option Data

-- those that are written
abbrev pub written : List OptionalMember → Members
written [] = no_members
written (m ∷ ms) = optional_member m.0 m.1 (written ms)

-- what a label is written as: its name and its text
abbrev pub label_member : List ℕ × Option (List ℕ) → OptionalMember
label_member n = (n.0, option_map string n.1)

abbrev pub label_members : Labels → List OptionalMember
label_members l = map label_member (named l)

-- what a listing is written as
abbrev pub listing_members : (List ℕ → List ℕ) → Listing → List OptionalMember
listing_members spell l =
    (codes "ignoreList", unless_empty (map whole_number (ignored_from 0 l.sources)))
    ∷ (codes "mappings", Some (string (mappings_text l.tokens)))
    ∷ (codes "names", Some (list_of (map string l.names)))
    ∷ (
      codes "sources",
      Some (list_of (map (λ (e : Entry). or_null (option_map spell e.url)) l.sources)),
    )
    ∷ (codes "sourcesContent", written_contents l.sources)
    ∷ (codes "version", Some (whole_number 3)) ∷ []

-- The members of a flat map with these labels and this listing (ECMA-426, "Source map format"), in byte order
-- of their names: those of the labels come first. A label, `ignoreList` and `sourcesContent` are left out if
-- there is none, and there is no `sourceRoot`. Each source's URL is written as the first argument says.
abbrev pub members_of : (List ℕ → List ℕ) → ReadMap → List OptionalMember
members_of spell m = label_members m.labels ++ listing_members spell m.listing

-- The JSON object of these.
unfoldable pub layout : (List ℕ → List ℕ) → ReadMap → Data
layout spell m = object (written (members_of spell m))

-- Its compact text: JSON (RFC 8259) without any space between tokens.
abbrev pub layout_text : (List ℕ → List ℕ) → ReadMap → List ℕ
layout_text spell m = compact_text (layout spell m)

-- The flat bytes of a map: its listing as it is.
abbrev pub flat_text : ReadMap → List ℕ
flat_text m = layout_text absolute m

-- The tree's compact text is UTF-8, and read as JSON it is the tree again.
pub record ReadsBack (tree : Data) : Type 0 where
  pub utf8 : IsUtf8 (compact_text tree)
  pub same : read (compact_text tree) ≡ Some tree
