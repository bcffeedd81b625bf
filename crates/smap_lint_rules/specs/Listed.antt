-- What a map lists in vain.
use Rattle.std.specs.Prelude.{ℕ, ◌==◌, not, Bool, true, false, cond, List, Option, None, Some, filter, length}
use Rattle.std.specs.Prelude.{nat_lt, slice_set}
use Rattle.std.specs.Option.{option_and_then}
use Rattle.std.specs.List.{list_any, range_with_len}
use Rattle.smap_mappings.specs.declared.token.Token.{Token}

-- the number of a mapping's name
abbrev pub name_of : Token → Option ℕ
name_of t = option_and_then (λ o. o.name) t.original

abbrev pub is_name : Option ℕ → ℕ → Bool
is_name None k = false
is_name (Some n) k = n == k

abbrev pub has_name : ℕ → Token → Bool
has_name k t = is_name (name_of t) k

-- of so many names, the numbers of those that no mapping has
abbrev pub unused : ℕ → List Token → List ℕ
unused count tokens = filter (λ k. not (list_any (has_name k) tokens)) (range_with_len 0 count)

-- For private contracts: marks of names, with that of one more.
abbrev pub marked : List Bool → Option ℕ → List Bool
marked marks None = marks
marked marks (Some n) = cond (nat_lt n (length marks)) (slice_set marks n true) marks
