-- What is said of a map that is refused, after the message of its fault.
use Rattle.std.specs.Prelude.{◌≡◌, ◌⊎◌, ◌++◌, ℕ, List, [], codes}
use Rattle.url.specs.Parts.{Parts}
use Rattle.smap_fault_places.specs.Details.{IsDetail}
use Rattle.smap_record.specs.declared.fault.Fault.{Fault}
use Rattle.smap_record.specs.Record.{usual}
use Rattle.smap_repair.specs.Leading.{Leads}
use Rattle.smap_repair.specs.Repairing.{IsRead}
use Rattle.smap_repair.specs.declared.repair.Repair.{Repair}

-- Listed repairs leave a text that is read.
pub record IsMendable (base : Parts) (most : ℕ) (text : List ℕ) : Type 0 where
  pub new : List ℕ
  pub repairs : List Repair
  pub leads : Leads repairs text new
  pub read : IsRead base usual most new

-- The command that mends the map is named only where it does.
abbrev pub IsNext : Parts → ℕ → List ℕ → List ℕ → Type 0
IsNext base most text said = (said ≡ [])
    ⊎ ((said ≡ codes "; smap-maps repair --write mends it") × IsMendable base most text)

-- What is wrong there, and the command.
pub record IsRefusalDetail (base : Parts) (most : ℕ) (text : List ℕ) (fault : Fault) (said : List ℕ) : Type 0
  where
    pub wrong : List ℕ
    pub next : List ℕ
    pub parts : said ≡ wrong ++ next
    pub wrong_is : IsDetail text fault wrong
    pub next_is : IsNext base most text next
