-- A URL that holds a map, and the URL of a map next to its script.
use Rattle.std.specs.Prelude.{◌≡◌, ℕ, ◌==◌, Bool, List, ◌++◌, codes, cond, Ok, Some}
use Rattle.std.specs.List.{list_any}
use Rattle.base64.specs.declared.engine.general_purpose.GeneralPurpose.{GeneralPurpose}
use Rattle.smap_link.specs.Inline.{IsForgiving, inline_map}
use Rattle.smap_link.specs.Urls.{encoded}

-- The URL holds these bytes, by the Fetch Standard's reading.
pub record Holds (url map : List ℕ) : Type 0 where
  pub engine : GeneralPurpose
  pub forgiving : IsForgiving engine
  pub held : inline_map engine url ≡ Ok (Some map)

-- A file in the script's folder, by its name: without `./` a colon would end a scheme.
abbrev pub reference : List ℕ → List ℕ
reference name = cond (list_any (λ b. b == 58) name) (codes "./" ++ encoded name) (encoded name)
