-- What a script names for its map, within its folder (ECMA-426, "Linking generated code to source maps" and
-- "Fetching source maps"): its text names a URL; a `data:` URL holds the map, and any other, seen from the
-- script's own, leads to a file of the folder.
use Rattle.std.specs.Prelude.{◌≡◌, ℕ, ◌==◌, ◌||◌, Bool, true, false, nat_lt, List, length}
use Rattle.std.specs.Prelude.{Option, Some, None, Ok, Err, IsErr}
use Rattle.base64.specs.declared.engine.general_purpose.GeneralPurpose.{GeneralPurpose}
use Rattle.smap_link.specs.Inline.{IsForgiving, inline_map, is_data}
use Rattle.smap_link.specs.Kinds.{link_in}
use Rattle.smap_map_choice.specs.Linked.{linked}
use Rattle.smap_map_choice.specs.declared.linked.LinkedFault.TheVariants as file
use Rattle.smap_map_choice.specs.declared.named.Named.{Named}
use Rattle.smap_map_choice.specs.declared.named.Named.TheVariants as named
use Rattle.smap_map_choice.specs.declared.named.NamedFault.{NamedFault}
use Rattle.smap_map_choice.specs.declared.named.NamedFault.TheVariants as fault

-- The bytes that a `data:` URL holds.
abbrev pub IsInline : List ℕ → List ℕ → Type 0
IsInline url bytes = (e : GeneralPurpose) × IsForgiving e × (inline_map e url ≡ Ok (Some bytes))

-- It is a `data:` URL that can't be decoded.
abbrev pub IsGarbled : List ℕ → Type 0
IsGarbled url = (e : GeneralPurpose) × IsForgiving e × IsErr (inline_map e url)

-- Empty, or longer than 65,536 bytes.
abbrev pub is_vain : List ℕ → Bool
is_vain url = (length url == 0) || nat_lt 65536 (length url)

-- It is the URL of a file, as far as its bytes say.
abbrev pub IsFileUrl : List ℕ → Type 0
IsFileUrl url = (is_data url ≡ false) × (is_vain url ≡ false)

-- Why the script with this name in a folder names no map there by a URL.
abbrev pub IsWrong : List ℕ → List ℕ → List ℕ → NamedFault → Type 0
IsWrong folder name url fault.Garbled = IsGarbled url
IsWrong folder name url fault.NoName = (is_data url ≡ false) × (is_vain url ≡ true)
IsWrong folder name url fault.NotUrl = IsFileUrl url × (linked folder name url ≡ Err file.NotUrl)
IsWrong folder name url fault.Leaves = IsFileUrl url × (linked folder name url ≡ Err file.Leaves)

-- What it names by a URL.
abbrev pub IsNamedBy : List ℕ → List ℕ → List ℕ → Named → Type 0
IsNamedBy folder name url named.Nothing = ⊥
IsNamedBy folder name url (named.Inline bytes) = IsInline url bytes.items
IsNamedBy folder name url (named.File found) = IsFileUrl url × (linked folder name url ≡ Ok found.items)
IsNamedBy folder name url (named.Wrong why) = IsWrong folder name url why

abbrev pub IsNamedIf : List ℕ → List ℕ → Option (List ℕ) → Named → Type 0
IsNamedIf folder name None it = it ≡ named.Nothing
IsNamedIf folder name (Some url) it = IsNamedBy folder name url it

-- What the script with this name in a folder names in its text.
abbrev pub IsNamed : List ℕ → List ℕ → List ℕ → Named → Type 0
IsNamed folder name text it = IsNamedIf folder name (link_in name text) it
