-- How repairs lead from one text to another.
use Rattle.std.specs.Prelude.{◌≡◌, ℕ, ◌+◌, true, List, [], ◌∷◌, ◌++◌, length, take, drop, string_bytes}
use Rattle.smap_repair.specs.Listed.{is_listed}
use Rattle.smap_repair.specs.declared.repair.Repair.{Repair}

-- what is ahead of the place of a repair
abbrev pub ahead_of : Repair → List ℕ → List ℕ
ahead_of r text = take r.start text

-- what is behind the bytes that a repair replaces
abbrev pub behind : Repair → List ℕ → List ℕ
behind r text = drop (r.start + length (string_bytes r.before)) text

-- the text with a repair made: only these bytes are others
abbrev pub made : Repair → List ℕ → List ℕ
made r text = ahead_of r text ++ (string_bytes r.after ++ behind r text)

-- The text has at its place what the repair replaces, and the list has the repair.
pub record IsRepairOf (r : Repair) (text : List ℕ) : Type 0 where
  pub there : text ≡ ahead_of r text ++ (string_bytes r.before ++ behind r text)
  pub listed : is_listed r.change (ahead_of r text) (string_bytes r.before) (string_bytes r.after)
      (behind r text) ≡ true

-- Each repair is one of the text that those before it left, and they leave `new` of `old`.
unfoldable pub Leads : List Repair → List ℕ → List ℕ → Type 0
Leads [] old new = old ≡ new
Leads (r ∷ rs) old new = IsRepairOf r old × Leads rs (made r old) new
