-- Where the text of a child is in the text of an array or an object (RFC 8259), by the tokens around it.
use Rattle.std.specs.Prelude.{◌≡◌, ◌≤◌, ℕ, zero, suc, length, List, [], ◌∷◌, ◌++◌, Option, Some, Bool, true}
use Rattle.std.specs.Prelude.{⊤}
use Rattle.json.specs.Token.{Token, begin_array, begin_object, string}
use Rattle.json.specs.Word.{ends_word}
use Rattle.json.specs.Lex.{between, lex, after_value, punctuate, tokens}
use Rattle.json.specs.Json.{Json, Items, no_items, item, Members, no_members, member, value}
use Rattle.json.specs.Print.{begins}
use Rattle.json.specs.Tree.{json_tokens, items_tokens, members_tokens, items_depth, members_depth}
use Rattle.serde_json.specs.Data.{Data}
use Rattle.serde_json.specs.Read.{of_json, max_depth}
use Rattle.smap_fault_places.specs.declared.step.Step.{Step}
use Rattle.smap_fault_places.specs.Paths.{value_at}
use Rattle.smap_fault_places.specs.declared.range.TextRange.{TextRange}
use Rattle.smap_fault_places.specs.Ranges.{IsRangeOf, bytes_in, replaced}

-- ---- tokens

-- those of items and of members, without the closing bracket
abbrev pub items_before : Items → List Token
items_before no_items = []
items_before (item j js) = json_tokens j ++ items_before js

abbrev pub members_before : Members → List Token
members_before no_members = []
members_before (member k j ms) = Token.key k ∷ (json_tokens j ++ members_before ms)

abbrev pub items_len : Items → ℕ
items_len no_items = zero
items_len (item j js) = suc (items_len js)

-- no member has this name
abbrev pub Lacks : List ℕ → Members → Type 0
Lacks k no_members = ⊤
Lacks k (member l j ms) = (k ≡ l → ⊥) × Lacks k ms

-- the first token begins a value or a member
abbrev pub begins_first : List Token → Bool
begins_first [] = Bool.false
begins_first (t ∷ ts) = begins t

-- ---- texts

-- The text is that of a value, which nests so deep at most.
abbrev pub IsText : ℕ → List ℕ → Json → Type 0
IsText d text j = value d (tokens text) ≡ Some (j, [])

-- What is before the colon of a member are the members before it and its name.
pub record IsBeforeMember (d : ℕ) (k : List ℕ) (text : List ℕ) : Type 0 where
  pub before : Members
  pub is : tokens text ≡ begin_object ∷ (members_before before ++ string k ∷ [])
  pub shallow : members_depth before ≤ d

-- What is behind a member are the members after it, of which none has its name, and the end of the object.
pub record IsAfterMember (d : ℕ) (k : List ℕ) (text : List ℕ) : Type 0 where
  pub after : Members
  pub ended : ends_word text ≡ true
  pub is : punctuate after_value (lex between text) ≡ members_tokens after
  pub shallow : members_depth after ≤ d
  pub lacks : Lacks k after

-- What is before the comma of an entry are the entries before it.
pub record IsBeforeItem (d : ℕ) (n : ℕ) (text : List ℕ) : Type 0 where
  pub first : Json
  pub before : Items
  pub len : items_len (item first before) ≡ n
  pub is : tokens text ≡ begin_array ∷ items_before (item first before)
  pub shallow : items_depth (item first before) ≤ d

-- What is behind an entry are those after it, and the end of the array.
pub record IsAfterItem (d : ℕ) (text : List ℕ) : Type 0 where
  pub after : Items
  pub ended : ends_word text ≡ true
  pub is : punctuate after_value (lex between text) ≡ items_tokens after
  pub shallow : items_depth after ≤ d

-- ---- parts

-- With a child in place of another there is data where there was, and that of the child is found there.
abbrev pub IsAround : (Data → Option Data) → (Json → Json) → Json → Type 0
IsAround find around old = (whole : Data) → of_json (around old) ≡ Some whole
    → ((d : Data) × (of_json old ≡ Some d))
    × ((new : Json) (d : Data) → of_json new ≡ Some d → (made : Data) × (of_json (around new) ≡ Some made)
    × (find made ≡ Some d))

-- In this range of the text of a value, which nests `outer` deep at most, is the text of one that nests
-- `inner`
-- deep at most. With the text of any other such value in its place there is the text of a value in which that
-- value is found.
pub record IsPart (outer inner : ℕ) (find : Data → Option Data) (text : List ℕ) (r : TextRange) : Type 0 where
  pub within : IsRangeOf (length text) r
  pub part : Json
  pub is : IsText inner (bytes_in r text) part
  pub around : Json → Json
  pub replaces : (other : List ℕ) (j : Json) → IsText inner other j
      → IsText outer (replaced r other text) (around j)
  pub finds : IsAround find around part

-- The value at the path is in this range of the text.
pub record IsPlace (path : List Step) (text : List ℕ) (r : TextRange) : Type 0 where
  pub inner : ℕ
  pub shallow : inner ≤ max_depth
  pub is : IsPart max_depth inner (value_at path) text r

-- The value at the path's first steps is in this range; the others are left.
pub record IsReached (path rest : List Step) (inner : ℕ) (text : List ℕ) (r : TextRange) : Type 0 where
  pub front : List Step
  pub parts : path ≡ front ++ rest
  pub shallow : inner ≤ max_depth
  pub is : IsPart max_depth inner (value_at front) text r

-- ---- what a reader passes

-- These tokens are members of which none has this name, the end of their object, and others; whether there
-- are
-- members.
pub record PassesMembers (d : ℕ) (k : List ℕ) (some : Bool) (old new : List Token) : Type 0 where
  pub after : Members
  pub is : old ≡ members_tokens after ++ new
  pub shallow : members_depth after ≤ d
  pub lacks : Lacks k after
  pub begins : some ≡ true → begins_first (members_tokens after) ≡ true

-- the same without the end
pub record PassedMembers (d : ℕ) (k : List ℕ) (some : Bool) (old new : List Token) : Type 0 where
  pub passed : Members
  pub is : old ≡ members_before passed ++ new
  pub shallow : members_depth passed ≤ d
  pub lacks : Lacks k passed
  pub begins : some ≡ true → begins_first (members_tokens passed) ≡ true

pub record PassesItems (d : ℕ) (some : Bool) (old new : List Token) : Type 0 where
  pub after : Items
  pub is : old ≡ items_tokens after ++ new
  pub shallow : items_depth after ≤ d
  pub begins : some ≡ true → begins_first (items_tokens after) ≡ true

pub record PassedItems (d n : ℕ) (old new : List Token) : Type 0 where
  pub passed : Items
  pub len : items_len passed ≡ n
  pub is : old ≡ items_before passed ++ new
  pub shallow : items_depth passed ≤ d

-- These tokens are the beginning of an object with some members, and others.
pub record OpensObject (d : ℕ) (old new : List Token) : Type 0 where
  pub before : Members
  pub is : old ≡ begin_object ∷ (members_before before ++ new)
  pub shallow : members_depth before ≤ d
