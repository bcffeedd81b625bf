-- The members of a map that no repair changes.
use Rattle.std.specs.Prelude.{◌≡◌, ◌⊎◌, ⊤, ℕ, zero, suc, ◌&&◌, Bool, true, false, not, bytes_eq, cond, List}
use Rattle.std.specs.Prelude.{[], ◌∷◌, ◌++◌, codes, map, option_and_then, Option, Some, None, Ok, String}
use Rattle.std.specs.Prelude.{string_bytes}
use Rattle.std.specs.Borrow.{Bor}
use Rattle.std.specs.Cmp.Lexicographic.{pointwise}
use Rattle.std.specs.List.{flat_map, list_all, list_any}
use Rattle.std.specs.BTreeMap.{BTreeMap, get_by_text}
use Rattle.std.specs.declared.alloc.Global.{Global}
use Rattle.serde_json.specs.contracts.value.ValuePartialEq.TheImpl as comparison
use Rattle.serde_json.specs.View.{view}
use Rattle.serde_json.specs.declared.value.Value.{Value, out-Value}
use Rattle.serde_json.specs.declared.value.Value.TheOpen.{Value-F}
use Rattle.smap_record.specs.Reading.{map_tree}
use Rattle.smap_shape.specs.Limits.{max_level}
use Rattle.smap_repair.specs.Leading.{Leads}
use Rattle.smap_repair.specs.declared.repair.Change.{Change}
use Rattle.smap_repair.specs.declared.repair.Change.TheVariants as change
use Rattle.smap_repair.specs.declared.repair.Repair.{Repair}
use Rattle.smap_repair.specs.declared.repairing.Repaired.{Repaired}
use Rattle.smap_repair.specs.declared.repairing.Repaired.TheVariants as answer

-- equal values, as `==` of JSON trees has it
abbrev pub is_same : Value → Value → Bool
is_same v w = (comparison.ghosts).eq v w

-- ---- objects

abbrev pub Entry : Type 0
Entry = String Global × Value

-- a name and a value
abbrev pub Member : Type 0
Member = List ℕ × Value

abbrev pub object_in : Value-F Value → Option (BTreeMap (String Global) Value)
object_in Value-F.Null = None
object_in (Value-F.Bool b) = None
object_in (Value-F.Number n) = None
object_in (Value-F.String s) = None
object_in (Value-F.Array v) = None
object_in (Value-F.Object m) = Some m

abbrev pub object_of : Value → Option (BTreeMap (String Global) Value)
object_of tree = object_in (out-Value tree)

abbrev pub entries_if : Option (BTreeMap (String Global) Value) → List Entry
entries_if None = []
entries_if (Some m) = m.entries

abbrev pub entries_of : Value → List Entry
entries_of tree = entries_if (object_of tree)

abbrev pub member : Value → List ℕ → Option Value
member tree name = option_and_then (λ m. get_by_text m name) (object_of tree)

abbrev pub array_in : Value-F Value → List Value
array_in Value-F.Null = []
array_in (Value-F.Bool b) = []
array_in (Value-F.Number n) = []
array_in (Value-F.String s) = []
array_in (Value-F.Array v) = v.items
array_in (Value-F.Object m) = []

abbrev pub array_if : Option Value → List Value
array_if None = []
array_if (Some v) = array_in (out-Value v)

abbrev pub sections_of : Value → List Value
sections_of tree = array_if (member tree (codes "sections"))

-- ---- what stays

-- what repairs may change of a map
abbrev pub is_repaired : List ℕ → Bool
is_repaired name = list_any (bytes_eq name) (codes "version" ∷ codes "mappings" ∷ codes "sourceRoot"
    ∷ codes "sources" ∷ codes "sections" ∷ [])

-- whether repairs leave a member of a map, or of a section, as it is
abbrev pub stays : Bool → List ℕ → Bool
stays of_map name = cond of_map (not (is_repaired name)) (not (bytes_eq name (codes "map")))

abbrev pub staying : Bool → Member → List Member
staying of_map m = cond (stays of_map m.0) (m ∷ []) []

abbrev pub staying_entry : Bool → Entry → List Member
staying_entry of_map e = staying of_map (string_bytes e.0, e.1)

abbrev pub staying_of : Bool → Value → List Member
staying_of of_map tree = flat_map (staying_entry of_map) (entries_of tree)

abbrev pub of_map_in : (Value → List Member) → Option Value → List Member
of_map_in f None = []
of_map_in f (Some map) = f map

-- the members that stay of the sections of a map and of their maps, so many levels deep
abbrev pub staying_below : ℕ → Value → List Member
staying_below zero tree = []
staying_below (suc n) tree = flat_map (λ s. staying_of false s
    ++ of_map_in (λ m. staying_of true m ++ staying_below n m) (member s (codes "map"))) (sections_of tree)

abbrev pub staying_in : ℕ → Value → List Member
staying_in n tree = staying_of true tree ++ staying_below n tree

abbrev pub staying_in_section : ℕ → Value → List Member
staying_in_section n s = staying_of false s ++ of_map_in (staying_in n) (member s (codes "map"))

abbrev pub all_staying : Value → List Member
all_staying tree = staying_in max_level tree

-- These are the same members, with the same values.
abbrev pub is_same_member : Member → Member → Bool
is_same_member m n = bytes_eq m.0 n.0 && is_same m.1 n.1

abbrev pub are_same : List Member → List Member → Bool
are_same ms ns = pointwise is_same_member ms ns

-- The members that stay are the same in the maps that both texts are.
pub record KeepsMembers (old new : List ℕ) : Type 0 where
  pub before : Value
  pub after : Value
  pub old_is : map_tree old ≡ Ok (view before)
  pub new_is : map_tree new ≡ Ok (view after)
  pub same : are_same (all_staying before) (all_staying after) ≡ true

-- for private contracts: the members that are found
abbrev pub members_in : List (Bor (List ℕ) × Bor Value) → List Member
members_in found = map (λ e. (e.0.now, e.1.now)) found

-- The text stays, or becomes another map that keeps its other members.
abbrev pub KeepsRest : List ℕ → List ℕ → Type 0
KeepsRest old new = (new ≡ old) ⊎ KeepsMembers old new

-- Whether a repair is one by which a text becomes JSON, and not one of a member.
abbrev pub is_of_text : Change → Bool
is_of_text change.ByteOrderMark = true
is_of_text change.HalfSurrogate = true
is_of_text change.Version = false
is_of_text change.Mappings = false
is_of_text change.MappingsBeside = false
is_of_text change.SourceRoot = false
is_of_text (change.Source i) = false

abbrev pub AreOfText : List Repair → Type 0
AreOfText repairs = list_all (λ r. is_of_text r.change) repairs ≡ true

-- Repairs by which a text becomes JSON leave a map, and of that the other members stay.
abbrev pub IsMendedIn : List ℕ → List ℕ → Type 0
IsMendedIn old new = (repairs : List Repair) × (between : List ℕ) × AreOfText repairs
    × Leads repairs old between × KeepsRest between new

abbrev pub KeepsOthers : List ℕ → Repaired → Type 0
KeepsOthers old (answer.Mended new repairs) = IsMendedIn old new.items
KeepsOthers old a = ⊤
