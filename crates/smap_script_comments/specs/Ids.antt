-- The debug id of a script and its map: what a new one is made of, and where it goes.
use Rattle.std.specs.Prelude.{◌≡◌, ◌⊎◌, ℕ, ◌+◌, true}
use Rattle.std.specs.Prelude.{Bool, List, ◌++◌, codes, cond, drop, length, take, Ok, Some}
use Rattle.std.specs.Char.{is_ascii_whitespace}
use Rattle.std.specs.List.{list_all}
use Rattle.serde_json.specs.Data.{Data}
use Rattle.sha2.specs.Sha256.{sha256}
use Rattle.uuid.specs.Parts.{with_variant, with_version}
use Rattle.uuid.specs.Text.{hyphenated_text, lower}
use Rattle.uuid.specs.declared.Variant.TheVariants as variant
use Rattle.uuid.specs.declared.Version.TheVariants as version
use Rattle.smap_link.specs.Kinds.{file_kind, link_in}
use Rattle.smap_lint_rules.specs.Ids.{debug_id, map_id}
use Rattle.smap_record.specs.Reading.{map_tree}
use Rattle.smap_script_comments.specs.Comments.{IsFramed, IsPlace, replaced, sheet_kind}
use Rattle.smap_script_comments.specs.declared.comments.Edited.{Edited}

abbrev pub digest_of : List ℕ → List ℕ → List ℕ
digest_of script map = sha256 (sha256 script ++ sha256 map)

-- the first bytes of a digest, as a UUID has random ones
abbrev pub uuid_of : List ℕ → List ℕ
uuid_of digest = with_version (with_variant (take 16 digest) variant.RFC4122) version.Random

abbrev pub made_id : List ℕ → List ℕ → List ℕ
made_id script map = hyphenated_text lower (uuid_of (digest_of script map))

-- ---- a script

abbrev pub id_comment : Bool → List ℕ → List ℕ
id_comment closed id = cond closed (codes "/*# debugId=" ++ (id ++ codes " */")) (codes "//# debugId=" ++ id)

-- The place is behind all code: the end of the text, or before the comment that names its map, if nothing
-- but white space comes behind that.
abbrev pub IsBehindCode : List ℕ → List ℕ → ℕ → Type 0
IsBehindCode name text at = (at ≡ length text)
    ⊎ ((size : ℕ) × IsPlace name text at size
    × (list_all is_ascii_whitespace (drop (at + size) text) ≡ true))

-- The text has a comment with this id, and names the map that it named.
abbrev pub IsIdSet : List ℕ → List ℕ → List ℕ → Edited → Type 0
IsIdSet name old id e = IsBehindCode name old e.at
    × IsFramed e.made.items (id_comment (sheet_kind (file_kind name)) id)
    × (e.text.items ≡ replaced old e.at 0 e.made.items)
    × (link_in name e.text.items ≡ link_in name old)
    × (debug_id e.text.items ≡ Some id)

-- ---- a map

abbrev pub id_member_text : List ℕ → List ℕ
id_member_text id = codes ",\"debugId\":\"" ++ (id ++ codes "\"")

-- the map has this id
abbrev pub HasMapId : List ℕ → List ℕ → Type 0
HasMapId map id = (d : Data) × (map_tree map ≡ Ok d) × (map_id d ≡ Some id)

-- One member more is written at one place.
abbrev pub IsMapIdSet : List ℕ → List ℕ → Edited → Type 0
IsMapIdSet old id e = (e.text.items ≡ replaced old e.at 0 (id_member_text id)) × HasMapId e.text.items id
