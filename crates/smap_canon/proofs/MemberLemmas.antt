-- What is proved of the members of a layout, member by member.
use Rattle.std.proofs.Common.{arith}
use Rattle.std.proofs.Common.{◌≡◌, ℕ, List, [], ◌∷◌, Option, Some, None, ap, refl, Bool, true, false, cond}
use Rattle.std.proofs.Common.{bytes_eq, not}
use Rattle.std.specs.Prelude.{option_map, option_and_then, ◌&&◌, IfSome}
use Rattle.std.specs.List.{list_all, AllByRecursion}
use Rattle.std.specs.Option.{option_or}
use Rattle.std.proofs.Common.{Ordering, Less, Equal, Greater}
use Rattle.std.specs.Ordering.{nat_cmp, match_ordering, is_gt, is_eq}
use Rattle.std.proofs.lemmas.Map.Text.{is_eq-slice_cmp}
use Rattle.std.specs.Cmp.Lexicographic.{slice_cmp}
use Rattle.std.proofs.lemmas.Bool.{and_parts}
use Rattle.serde_json.specs.Data.{Data, object, Members, no_members, member, put}
use Rattle.serde_json.specs.Find.{get_member}
use Rattle.serde_json.specs.Read.{of_json, of_members}
use Rattle.serde_json.specs.Written.{outline, members_outline}
use Rattle.smap_shape.specs.Reading.{if_present, member_of}
use Rattle.smap_record.proofs.EqualLemmas.{own_bytes}
use Rattle.smap_canon.specs.Layout.{OptionalMember, optional_member, written}

-- what holds of a member, before what holds of the rest
abbrev pub before_rest : {P Q : Type 0} → P → Q → P × Q
before_rest p q = (p, q)

-- ---- the value under a name

abbrev pub value_of : List ℕ → List OptionalMember → Option Data
value_of name [] = None
value_of name (m ∷ ms) = match_ordering (slice_cmp nat_cmp name m.0)
    (value_of name ms) (option_or m.1 (value_of name ms)) (value_of name ms)

get-optional : (name key : List ℕ) (o : Option Data) (ms : Members)
    → get_member name (optional_member key o ms) ≡ match_ordering (slice_cmp nat_cmp name key)
    (get_member name ms) (option_or o (get_member name ms)) (get_member name ms)
get-optional name key (Some d) ms = refl
get-optional name key None ms = alike (slice_cmp nat_cmp name key) (get_member name ms)
  where
    alike : (c : Ordering) (v : Option Data) → v ≡ match_ordering c v v v
    alike Less v = refl
    alike Equal v = refl
    alike Greater v = refl

pub get-written : (name : List ℕ) (ms : List OptionalMember) → get_member name (written ms) ≡ value_of name ms
get-written name [] = refl
get-written name (m ∷ ms) = rw (get-optional name m.0 m.1 (written ms), get-written name ms) refl

pub found : (name : List ℕ) (ms : List OptionalMember)
    → member_of name (object (written ms)) ≡ option_and_then if_present (value_of name ms)
found name ms = ap (option_and_then if_present) (get-written name ms)

-- ---- each value under its own name

value_by : (name : List ℕ) (m : OptionalMember) (ms : List OptionalMember)
    → value_of name (m ∷ ms)
    ≡ cond (bytes_eq name m.0) (option_or m.1 (value_of name ms)) (value_of name ms)
value_by name m ms = rw (← is_eq-slice_cmp name m.0)
    (by (slice_cmp nat_cmp name m.0) (option_or m.1 (value_of name ms)) (value_of name ms))
  where
    by : (c : Ordering) (v w : Option Data) → match_ordering c w v w ≡ cond (is_eq c) v w
    by Less v w = refl
    by Equal v w = refl
    by Greater v w = refl

-- no two have one name
abbrev pub once : List OptionalMember → Bool
once [] = true
once (m ∷ ms) = list_all (λ k. not (bytes_eq m.0 k.0)) ms
    && (list_all (λ k. not (bytes_eq k.0 m.0)) ms && once ms)

untrue : (b : Bool) → not b ≡ true → b ≡ false
untrue b h = grind arith

none_there : (name : List ℕ) (ms : List OptionalMember)
    → list_all (λ k. not (bytes_eq name k.0)) ms ≡ true → value_of name ms ≡ None
none_there name [] h = refl
none_there name (m ∷ ms) h =
    let parts = and_parts (not (bytes_eq name m.0)) (list_all (λ k. not (bytes_eq name k.0)) ms) h in
    rw (value_by name m ms, untrue (bytes_eq name m.0) parts.0) (none_there name ms parts.1)

own_value : (m : OptionalMember) (ms : List OptionalMember)
    → list_all (λ k. not (bytes_eq m.0 k.0)) ms ≡ true → value_of m.0 (m ∷ ms) ≡ m.1
own_value m ms h = rw (value_by m.0 m ms, own_bytes m.0, none_there m.0 ms h) (or_none m.1)
  where
    or_none : (o : Option Data) → option_or o None ≡ o
    or_none None = refl
    or_none (Some d) = refl

later_values : (m : OptionalMember) (ms ks : List OptionalMember)
    → list_all (λ k. not (bytes_eq k.0 m.0)) ks ≡ true → AllByRecursion (λ k. value_of k.0 ms ≡ k.1) ks
    → AllByRecursion (λ k. value_of k.0 (m ∷ ms) ≡ k.1) ks
later_values m ms [] h all = tt
later_values m ms (k ∷ ks) h all =
    let parts = and_parts (not (bytes_eq k.0 m.0)) (list_all (λ k. not (bytes_eq k.0 m.0)) ks) h in (
      rw (value_by k.0 m ms, untrue (bytes_eq k.0 m.0) parts.0) all.0,
      later_values m ms ks parts.1 all.1,
    )

pub own_values : (ms : List OptionalMember) → once ms ≡ true
    → AllByRecursion (λ m. value_of m.0 ms ≡ m.1) ms
own_values [] h = tt
own_values (m ∷ ms) h =
    let first = and_parts (list_all (λ k. not (bytes_eq m.0 k.0)) ms)
    (list_all (λ k. not (bytes_eq k.0 m.0)) ms && once ms) h in
    let second = and_parts (list_all (λ k. not (bytes_eq k.0 m.0)) ms) (once ms) first.1 in
    (own_value m ms first.0, later_values m ms ms second.0 (own_values ms second.1))

-- ---- members that are read one after another

-- the JSON of the value says it
abbrev pub IsSaid : Data → Type 0
IsSaid d = of_json (outline d) ≡ Some d

abbrev pub are_after : List ℕ → List OptionalMember → Bool
are_after name ms = list_all (λ m. is_gt (slice_cmp nat_cmp m.0 name)) ms

-- the names rise
abbrev pub rise : List OptionalMember → Bool
rise [] = true
rise (m ∷ ms) = are_after m.0 ms && rise ms

-- the members, read after those that were found
abbrev read_after : List OptionalMember → Members → Option Members
read_after ms found = of_members (members_outline (written ms)) found

greater : (c : Ordering) → is_gt c ≡ true → c ≡ Greater
greater Less h = absurd cc
greater Equal h = absurd cc
greater Greater h = refl

put_behind : (name key : List ℕ) (d x : Data) (found : Members) → is_gt (slice_cmp nat_cmp key name) ≡ true
    → put key x (member name d found) ≡ member name d (put key x found)
put_behind name key d x found h = rw (greater (slice_cmp nat_cmp key name) h) refl

-- One that may be there stays before the member, if those after it do.
stays_before : (name key : List ℕ) (d : Data) (o : Option Data) (ms found : Members)
    → is_gt (slice_cmp nat_cmp key name) ≡ true
    → ((ns : Members) → of_members (members_outline ms) (member name d ns)
    ≡ option_map (member name d) (of_members (members_outline ms) ns))
    → of_members (members_outline (optional_member key o ms)) (member name d found)
    ≡ option_map (member name d) (of_members (members_outline (optional_member key o ms)) found)
stays_before name key d o ms found after stays = grind (arith, put_behind name key d, stays)

-- A member stays before those with names after its own.
stays_first : (name : List ℕ) (d : Data) (ms : List OptionalMember) → are_after name ms ≡ true
    → (found : Members)
    → read_after ms (member name d found) ≡ option_map (member name d) (read_after ms found)
stays_first name d [] after found = refl
stays_first name d (m ∷ ms) after found =
    let parts = and_parts (is_gt (slice_cmp nat_cmp m.0 name)) (are_after name ms) after in
    stays_before name m.0 d m.1 (written ms) found parts.0 (stays_first name d ms parts.1)

-- Members whose names rise, and whose values are said, are read as they are written.
pub members_said : (ms : List OptionalMember) → rise ms ≡ true → AllByRecursion (λ m. IfSome m.1 IsSaid) ms
    → of_members (members_outline (written ms)) no_members ≡ Some (written ms)
members_said [] rising said = refl
members_said (m ∷ ms) rising said =
    let parts = and_parts (are_after m.0 ms) (rise ms) rising in
    by m.1 said.0 parts.0 (members_said ms parts.1 said.1)
  where
    by : (o : Option Data) → IfSome o IsSaid
        → are_after m.0 ms ≡ true → read_after ms no_members ≡ Some (written ms)
        → of_members (members_outline (optional_member m.0 o (written ms))) no_members
        ≡ Some (optional_member m.0 o (written ms))
    by None said after more = more
    by (Some d) said after more = rw (said, stays_first m.0 d ms after no_members, more) refl
