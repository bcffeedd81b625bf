-- What contracts say of a map that is to be opened.
use Rattle.std.specs.Global.{Vec}
use Rattle.std.specs.Prelude.{◌≡◌, ℕ, true, List, Option, option_map}
use Rattle.smap_map_choice.specs.PlaceView.{place_in}
use Rattle.smap_map_files.specs.Opened.{may_lie_beside, script_beside}
use Rattle.smap_map_files.specs.RootView.{folder_of}
use Rattle.smap_map_files.specs.declared.opening.Subject.{Subject}

-- the widths of lines, if they are known
abbrev pub widths_in : Option (Vec ℕ) → Option (List ℕ)
widths_in ends = option_map (λ widths. widths.items) ends

-- The other is the script next to it, in the same folder, to be opened alike.
pub record IsScriptBeside (map script : Subject) : Type 0 where
  pub lies : may_lie_beside (folder_of map.root) (place_in map.place) ≡ true
  pub place_is : place_in script.place ≡ script_beside (place_in map.place)
  pub root_is : script.root ≡ map.root
  pub has_base_is : script.has_base ≡ map.has_base
  pub reading_is : script.reading ≡ map.reading
