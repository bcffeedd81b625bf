-- What changes of a map, a line for each member of its top level that isn't the same.
use Rattle.std.specs.Prelude.{ℕ, ◌-◌, ◌==◌, ◌&&◌, ◌||◌, Bool, bytes_eq, cond, List, [], ◌∷◌, ◌++◌, codes}
use Rattle.std.specs.Prelude.{length, nat_le}
use Rattle.std.specs.Prelude.{option_and_then, Option, Some, None, String, string_bytes, take}
use Rattle.std.specs.List.{flat_map, list_all}
use Rattle.std.specs.BTreeMap.{BTreeMap, get_by_text}
use Rattle.std.specs.declared.alloc.Global.{Global}
use Rattle.serde_json.specs.contracts.value.ValuePartialEq.TheImpl as comparison
use Rattle.serde_json.specs.Data.{Data, Items}
use Rattle.serde_json.specs.Find.{as_array, as_str}
use Rattle.serde_json.specs.View.{view}
use Rattle.serde_json.specs.declared.value.Value.{Value, out-Value}
use Rattle.serde_json.specs.declared.value.Value.TheOpen.{Value-F}
use Rattle.smap_differences.specs.Drops.{items_of}
use Rattle.smap_differences.specs.Lists.{fewer, is_text_or_null, missing, texts_of}
use Rattle.smap_differences.specs.Showing.{byte_counts, count_text, entry_counts, line, quoted, size}
use Rattle.smap_differences.specs.Showing.{text_change}

-- ---- lists of texts

abbrev pub other : List ℕ → List ℕ
other text = codes ", " ++ quoted text

-- so many more texts than two
abbrev pub more : ℕ → List ℕ
more n = cond (nat_le n 2) [] (codes " and " ++ (count_text (n - 2) ++ codes " more"))

-- three texts at most, and how many more there are
abbrev pub named : List (List ℕ) → List ℕ
named [] = []
named (t ∷ ts) = quoted t ++ (flat_map other (take 2 ts) ++ more (length ts))

abbrev pub is_none : List (List ℕ) → Bool
is_none texts = length texts == 0

-- texts behind a word
abbrev pub told : List ℕ → List (List ℕ) → List ℕ
told word texts = cond (is_none texts) [] (codes "; " ++ (word ++ (codes " " ++ named texts)))

abbrev pub merged_told : List (List ℕ) → List ℕ
merged_told texts = cond (is_none texts) [] (codes ", " ++ (named texts ++ codes " merged"))

abbrev pub all_told : List (List ℕ) → List (List ℕ) → List (List ℕ) → List ℕ
all_told merged gone added = merged_told merged ++ (told (codes "without") gone ++ told (codes "with") added)

-- where there is nothing to be told of single texts
abbrev pub order_told : Bool → List ℕ
order_told are_reordered = cond are_reordered (codes ", in another order") (codes ", other ones")

-- what became of a list's texts, if these are merged, gone and new
abbrev pub texts_change : Bool → Bool → List (List ℕ) → List (List ℕ) → List (List ℕ) → List ℕ
texts_change is_as_long are_reordered merged gone added = cond
    (is_as_long && (is_none merged && (is_none gone && is_none added)))
    (order_told are_reordered) (all_told merged gone added)

-- the same by the texts before and now: those are merged that stood there more often than they do now
abbrev pub texts_told : Bool → Bool → List (List ℕ) → List (List ℕ) → List ℕ
texts_told is_as_long are_reordered before now =
    texts_change is_as_long are_reordered (fewer now before) (missing now before) (missing before now)

-- None stands there more often now, and what isn't a text is null. So these are the same entries in another
-- order where there are as many, and none is merged, gone or new.
abbrev pub are_reordered : List Data → List Data → Bool
are_reordered before now = is_none (fewer (texts_of before) (texts_of now))
    && (list_all is_text_or_null before && list_all is_text_or_null now)

abbrev pub list_change : List Data → List Data → List ℕ
list_change before now = entry_counts (length before) (length now)
    ++ texts_told (length before == length now) (are_reordered before now) (texts_of before) (texts_of now)

-- ---- values

abbrev pub is_list_of_texts : List ℕ → Bool
is_list_of_texts name = bytes_eq name (codes "sources") || bytes_eq name (codes "names")

abbrev pub array_change : List ℕ → List Data → List Data → List ℕ
array_change name before now = cond (is_list_of_texts name) (list_change before now)
    (entry_counts (length before) (length now) ++ codes ", other ones")

abbrev pub string_change : List ℕ → List ℕ → List ℕ → List ℕ
string_change name before now = cond (bytes_eq name (codes "mappings"))
    (byte_counts (length before) (length now)) (text_change before now)

abbrev pub if_arrays : List ℕ → Option Items → Option Items → List ℕ → List ℕ
if_arrays name None o else_this = else_this
if_arrays name (Some ds) None else_this = else_this
if_arrays name (Some ds) (Some es) else_this = array_change name (items_of ds) (items_of es)

abbrev pub if_strings : List ℕ → Option (List ℕ) → Option (List ℕ) → List ℕ
if_strings name None o = codes "another value"
if_strings name (Some s) None = codes "another value"
if_strings name (Some s) (Some t) = string_change name s t

-- how a value that isn't an array in both becomes another
abbrev pub other_change : List ℕ → Data → Data → List ℕ
other_change name before now = if_strings name (as_str before) (as_str now)

-- how a value becomes another
abbrev pub value_change : List ℕ → Data → Data → List ℕ
value_change name before now = if_arrays name (as_array before) (as_array now) (other_change name before now)

-- ---- members

abbrev pub Entry : Type 0
Entry = String Global × Value

-- equal values, as `==` of JSON trees has it
abbrev pub is_same : Value → Value → Bool
is_same v w = (comparison.ghosts).eq v w

abbrev pub object_in : Value-F Value → Option (BTreeMap (String Global) Value)
object_in Value-F.Null = None
object_in (Value-F.Bool b) = None
object_in (Value-F.Number n) = None
object_in (Value-F.String s) = None
object_in (Value-F.Array v) = None
object_in (Value-F.Object m) = Some m

-- an object, whose members have the order of the bytes of their names
abbrev pub object_of : Value → Option (BTreeMap (String Global) Value)
object_of tree = object_in (out-Value tree)

abbrev pub entries_if : Option (BTreeMap (String Global) Value) → List Entry
entries_if None = []
entries_if (Some m) = m.entries

abbrev pub members_of : Value → List Entry
members_of tree = entries_if (object_of tree)

abbrev pub member : Value → List ℕ → Option Value
member tree name = option_and_then (λ m. get_by_text m name) (object_of tree)

-- a member that only one of the maps has, behind a word
abbrev pub single : List ℕ → List ℕ → Value → List ℕ
single word name value = line name (word ++ size (view value))

abbrev pub changed : List ℕ → Value → Value → List ℕ
changed name before now = line name (value_change name (view before) (view now))

-- what becomes of a member that the map has, if it isn't the same
abbrev pub old_change : List ℕ → Value → Option Value → List (List ℕ)
old_change name before None = single (codes "dropped") name before ∷ []
old_change name before (Some now) = cond (is_same now before) [] (changed name before now ∷ [])

abbrev pub old_line : Value → Entry → List (List ℕ)
old_line after m = old_change (string_bytes m.0) m.1 (member after (string_bytes m.0))

-- a member of the new map, if only that has it
abbrev pub new_change : List ℕ → Value → Option Value → List (List ℕ)
new_change name now None = single (codes "added") name now ∷ []
new_change name now (Some before) = []

abbrev pub new_line : Value → Entry → List (List ℕ)
new_line before m = new_change (string_bytes m.0) m.1 (member before (string_bytes m.0))

abbrev pub old_lines : Value → Value → List (List ℕ)
old_lines before after = flat_map (old_line after) (members_of before)

abbrev pub new_lines : Value → Value → List (List ℕ)
new_lines before after = flat_map (new_line before) (members_of after)

abbrev pub or_none : List (List ℕ) → List (List ℕ)
or_none [] = codes "the same members and values, written otherwise" ∷ []
or_none (line ∷ lines) = line ∷ lines

-- first those that the map has, and then those that are new
abbrev pub lines : Value → Value → List (List ℕ)
lines before after = or_none (old_lines before after ++ new_lines before after)
