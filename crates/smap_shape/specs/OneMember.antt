-- One member of a JSON tree, and what its value is read as (ECMA-426, "JSON values utilities"). The tree is a
-- JSON text (RFC 8259) as serde_json reads it: of two equal keys the last one's value counts, and an integer
-- is a number that `Value::as_u64` accepts. That null counts as absent is this project's own rule.
use Rattle.std.specs.Prelude.{ℕ, nat_lt, List, [], ◌∷◌, Bool, true, false, Option, Some, None, is_some}
use Rattle.std.specs.Prelude.{option_and_then, option_map, Result, Ok, Err, if◌then◌else◌}
use Rattle.serde_json.specs.Data.{Data, Items, no_items, item}
use Rattle.serde_json.specs.Find.{get, as_null, as_str, as_number, as_array, as_object, as_u64}
use Rattle.smap_shape.specs.declared.fault.ShapeFault.{ShapeFault}

-- the value if there is one, and else this fault
abbrev pub or_fault : {A : Type 0} → ShapeFault → Option A → Result A ShapeFault
or_fault fault None = Err fault
or_fault fault (Some x) = Ok x

-- this fault if the test holds
abbrev pub refuse_if : ShapeFault → Bool → Result (Unit {0}) ShapeFault
refuse_if fault true = Err fault
refuse_if fault false = Ok tt

-- the value, unless it is null
abbrev pub if_present : Data → Option Data
if_present d = if is_some (as_null d) then None else Some d

-- A member is present if it is there and not null.
abbrev pub member_of : List ℕ → Data → Option Data
member_of key tree = option_and_then if_present (get key tree)

-- whether the member is present
abbrev pub has : List ℕ → Data → Bool
has key tree = is_some (member_of key tree)

-- the integer that a value is: -1, 3.0 and -0 are none
abbrev pub whole : Data → Option ℕ
whole d = option_and_then as_u64 (as_number d)

-- no value if the member is absent, and else the one that `read` gives, if it gives one
abbrev pub optional : {A : Type 0} → (Data → Option A) → Option Data → Option (Option A)
optional read None = Some None
optional read (Some d) = option_map Some (read d)

-- what `read` gives for each entry of an array, if it gives something for each
abbrev pub each_item : {A : Type 0} → (Data → Option A) → Items → Option (List A)
each_item read no_items = Some []
each_item read (item d ds) = option_and_then (λ x. option_map (λ xs. x ∷ xs) (each_item read ds)) (read d)

-- the entries of the array that a member is, each by `read`; an absent array is empty
abbrev pub list_member : {A : Type 0} → (Data → Option A) → Option Data → Option (List A)
list_member read None = Some []
list_member read (Some d) = option_and_then (each_item read) (as_array d)

-- a string or null
abbrev pub text_or_null : Data → Option (Option (List ℕ))
text_or_null d = optional as_str (if_present d)

-- an integer below the count
unfoldable pub number_below : ℕ → Data → Option ℕ
number_below count d = option_and_then (λ n. if nat_lt n count then Some n else None) (whole d)

-- an object
abbrev pub object_only : Data → Option Data
object_only d = if is_some (as_object d) then Some d else None
