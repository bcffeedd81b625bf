-- For private contracts: what a layout sends to a serializer, member by member.
use Rattle.std.specs.Prelude.{◌≡◌, ℕ, List, [], ◌++◌, map, Option, Some, None, is_some, option_map}
use Rattle.std.specs.Prelude.{option_copied}
use Rattle.std.specs.Prelude.{if◌then◌else◌}
use Rattle.serde.specs.Event.{Log, Logs, field_key}
use Rattle.serde.specs.declared.name.Case.TheVariants.{AsIs}
use Rattle.serde_json.specs.Data.{Data, string}
use Rattle.serde_json.specs.Events.{SendsMembers}
use Rattle.smap_mappings.specs.declared.token.Token.{Token}
use Rattle.smap_mappings.specs.Text.{mappings_text}
use Rattle.smap_record.specs.declared.view.LabelView.{LabelView}
use Rattle.smap_record.specs.Views.{named_of_view}
use Rattle.smap_record.specs.Record.{Entry, ReadMap, record_of}
use Rattle.smap_canon.specs.declared.listing_to_write.ListingToWrite.{ListingToWrite}
use Rattle.smap_canon.specs.declared.layout.Names.{Names}
use Rattle.smap_canon.specs.declared.layout.Mappings.{Mappings}
use Rattle.smap_canon.specs.declared.layout.Urls.{Urls}
use Rattle.smap_canon.specs.declared.layout.Contents.{Contents}
use Rattle.smap_canon.specs.declared.layout.Ignored.{Ignored}
use Rattle.smap_canon.specs.declared.layout.FlatMap.{FlatMap}
use Rattle.smap_canon.specs.declared.spelling.SpelledUrl.{SpelledUrl}
use Rattle.smap_canon.specs.Layout.{list_of, or_null, whole_number, ignored_from, layout}
use Rattle.smap_canon.specs.Layout.{OptionalMember, written, label_member}
use Rattle.smap_canon.specs.Canonical.{canonical_listing}
use Rattle.smap_canon.specs.Spelling.{spelling_of}

-- ---- what is listed: by a record, or by a map as it is

abbrev pub sources_of : ListingToWrite → List Entry
sources_of l = if is_some l.names then (record_of l.map.now).sources else l.map.now.listing.sources

abbrev pub names_of : ListingToWrite → List (List ℕ)
names_of l = if is_some l.names then (canonical_listing (record_of l.map.now)).names
    else l.map.now.listing.names

abbrev pub tokens_of : ListingToWrite → List Token
tokens_of l = if is_some l.names then (canonical_listing (record_of l.map.now)).tokens
    else l.map.now.listing.tokens

abbrev pub map_of : ListingToWrite → ReadMap
map_of l = record {
  labels = l.map.now.labels;
  listing = record { sources = sources_of l; names = names_of l; tokens = tokens_of l };
}

-- ---- the tree of each part

abbrev pub url_tree : SpelledUrl → Data
url_tree u = or_null (option_map (spelling_of u.spelling) (option_copied u.url))

abbrev pub mappings_tree : Mappings → Data
mappings_tree m = string (mappings_text (tokens_of m.listed))

abbrev pub names_tree : Names → Data
names_tree n = list_of (map string (names_of n.listed))

abbrev pub urls_tree : Urls → Data
urls_tree u = list_of (map (λ e. or_null (option_map (spelling_of u.spelling) e.url)) (sources_of u.listed))

abbrev pub contents_tree : Contents → Data
contents_tree c = list_of (map (λ e. or_null e.content) (sources_of c.listed))

abbrev pub ignored_tree : Ignored → Data
ignored_tree i = list_of (map whole_number (ignored_from 0 (sources_of i.listed)))

abbrev pub flat_tree : FlatMap → Data
flat_tree m = layout (spelling_of m.spelling) (map_of m.listed)

-- ---- members

-- the name, and then the value
abbrev pub SendsMember : (Log → Log → Type 0) → List ℕ → Log → Log → Type 0
SendsMember value name old new = (named : Log) × Logs old named (field_key name AsIs) × value named new

-- the same if there is a value, and else nothing
abbrev pub SendsOptional : {A : Type 0} → (A → Log → Log → Type 0) → Option A → List ℕ → Log → Log → Type 0
SendsOptional value None name old new = new ≡ old
SendsOptional value (Some x) name old new = SendsMember (value x) name old new

-- whatever follows these members, and ends them well from here, ends all of them well from the start
abbrev pub Continues : List OptionalMember → Log → List OptionalMember → Log → Type 0
Continues left here all start = (rest : List OptionalMember) (end : Log)
    → SendsMembers (written (left ++ rest)) here end → SendsMembers (written (all ++ rest)) start end

-- these members, before whichever follow
abbrev pub SendsAll : List OptionalMember → Log → Log → Type 0
SendsAll ms old new = Continues [] new ms old

-- the member that a label is
abbrev pub member_of_label : LabelView → OptionalMember
member_of_label v = label_member (named_of_view v)
