-- Shares, and the order of rows.
use Rattle.std.specs.Prelude.{ℕ, ◌+◌, ◌-◌, ◌*◌, ◌/◌, ◌^◌, ◌==◌, Bool, cond, min, nat_lt}
use Rattle.smap_view_page.specs.declared.amounts.Amounts.{Amounts}
use Rattle.smap_view_page.specs.declared.amounts.Row.{Row}

-- tenths of a percent, to the nearest
abbrev pub share : ℕ → ℕ → ℕ
share bytes all = cond (all == 0) 0 ((2000 * min bytes all + all) / (2 * all))

-- the growth, and the greatest number of 64 bits
abbrev pub rank : Amounts → ℕ
rank a = a.bytes + (2 ^ 64 - 1 - a.old)

abbrev pub grew_more : Row → Row → Bool
grew_more r s = nat_lt (rank s.amounts) (rank r.amounts)
