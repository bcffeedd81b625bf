-- How many bytes a growth allows.
use Rattle.std.specs.Prelude.{ℕ, ◌+◌, ◌*◌, ◌/◌}
use Rattle.smap_view_page.specs.Amounts.{capped}
use Rattle.smap_view_page.specs.declared.budgets.Growth.{Growth}
use Rattle.smap_view_page.specs.declared.budgets.Growth.TheVariants.{Bytes, Percent}

-- whole bytes: a part of one isn't allowed
abbrev pub most_after : Growth → ℕ → ℕ
most_after (Bytes n) old = capped (old + n)
most_after (Percent n) old = capped (old * (100 + n) / 100)
