-- What is found in a value nests no deeper than that value.
use Rattle.std.proofs.Common.{◌≡◌, ℕ, zero, suc, ◌≤◌, max, List, Option, Some, None, IfSome, arith, subst}
use Rattle.std.proofs.Common.{sym}
use Rattle.std.specs.Prelude.{option_map}
use Rattle.std.proofs.Common.{Ordering, Less, Equal, Greater}
use Rattle.std.specs.Ordering.{nat_cmp, match_ordering}
use Rattle.std.specs.Cmp.Lexicographic.{slice_cmp}
use Rattle.serde_json.specs.Data.{Data, null, boolean, number, string, array, object, Items, no_items, item}
use Rattle.serde_json.specs.Data.{Members, no_members, member, depth, items_depth, members_depth}
use Rattle.serde_json.specs.Find.{get, get_member, at, get_item}

-- what is found, if anything, nests at most n deep
abbrev IsAtMost : ℕ → Option Data → Type 0
IsAtMost n o = IfSome o (λ d. depth d ≤ n)

more : (m n : ℕ) (o : Option Data) → m ≤ n → IsAtMost m o → IsAtMost n o
more m n None less h = tt
more m n (Some d) less h = omega (arith, less, h)

by_order : (n : ℕ) (o : Ordering) (a b : Option Data) → IsAtMost n a → IsAtMost n b
    → IsAtMost n (match_ordering o a b a)
by_order n Less a b h k = h
by_order n Equal a b h k = k
by_order n Greater a b h k = h

in_members : (k : List ℕ) (ms : Members) → IsAtMost (members_depth ms) (get_member k ms)
in_members k no_members = tt
in_members k (member l e ms) = by_order (max (depth e) (members_depth ms)) (slice_cmp nat_cmp k l)
    (get_member k ms) (Some e)
    (more (members_depth ms) (max (depth e) (members_depth ms)) (get_member k ms) (omega arith)
    (in_members k ms))
    (omega arith)

in_items : (n : ℕ) (ds : Items) → IsAtMost (items_depth ds) (get_item n ds)
in_items n no_items = tt
in_items zero (item d ds) = omega arith
in_items (suc n) (item d ds) = more (items_depth ds) (max (depth d) (items_depth ds)) (get_item n ds)
    (omega arith) (in_items n ds)

of_member : (k : List ℕ) (d : Data) → IsAtMost (depth d) (get k d)
of_member k null = tt
of_member k (boolean b) = tt
of_member k (number x) = tt
of_member k (string s) = tt
of_member k (array ds) = tt
of_member k (object ms) = more (members_depth ms) (suc (members_depth ms)) (get_member k ms) (omega arith)
    (in_members k ms)

of_entry : (n : ℕ) (d : Data) → IsAtMost (depth d) (at n d)
of_entry n null = tt
of_entry n (boolean b) = tt
of_entry n (number x) = tt
of_entry n (string s) = tt
of_entry n (array ds) = more (items_depth ds) (suc (items_depth ds)) (get_item n ds) (omega arith)
    (in_items n ds)
of_entry n (object ms) = tt

-- the same, of what is seen of a result
of_seen : {X : Type 0} (see : X → Data) (o : Option X) (found : Option Data) (n : ℕ)
    → option_map see o ≡ found → IsAtMost n found → IfSome o (λ x. depth (see x) ≤ n)
of_seen see None found n same h = tt
of_seen see (Some x) found n same h = subst (IsAtMost n) (sym same) h

pub of_get : {X : Type 0} (see : X → Data) (o : Option X) (k : List ℕ) (d : Data)
    → option_map see o ≡ get k d → IfSome o (λ x. depth (see x) ≤ depth d)
of_get see o k d same = of_seen see o (get k d) (depth d) same (of_member k d)

pub of_at : {X : Type 0} (see : X → Data) (o : Option X) (n : ℕ) (d : Data)
    → option_map see o ≡ at n d → IfSome o (λ x. depth (see x) ≤ depth d)
of_at see o n d same = of_seen see o (at n d) (depth d) same (of_entry n d)
