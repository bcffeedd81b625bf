-- One map for each script.
use Rattle.std.specs.Prelude.{◌≡◌, ℕ, Bool, true, false, not, ◌&&◌, ◌==◌, List, [], ◌∷◌, ◌++◌, filter}
use Rattle.std.specs.Prelude.{length, map}
use Rattle.std.specs.List.{list_any}
use Rattle.std.specs.Str.{bytes_eq}
use Rattle.smap_map_files.specs.WantedView.{Named, OfFolder, files_in, may_name_map, named_in}
use Rattle.smap_map_files.specs.declared.wanted.Origin.{Origin}
use Rattle.smap_map_files.specs.declared.wanted.Origin.TheVariants as origin
use Rattle.smap_map_files.specs.declared.wanted.Wanted.{Wanted}
use Rattle.smap_map_choice.specs.PlaceView.{places_in}

-- ---- maps of scripts with names

abbrev pub is_below : Origin → Bool
is_below (origin.Alone has_base) = false
is_below (origin.Below n) = true

-- a script of a folder, which may name its map
abbrev pub may_link : Named → Bool
may_link n = is_below n.1 && may_name_map n.0.file

-- The other is of the same script.
abbrev pub is_same_script : Named → Named → Bool
is_same_script n other = bytes_eq other.0.script n.0.script

-- A map of this script is there, or what was named alone.
abbrev pub is_mapped : List Named → List ℕ → Bool
is_mapped ns script = list_any (λ n. not (may_link n) && bytes_eq script n.0.script) ns

-- A script that may name its map gives way to one that is there.
abbrev pub gives_way : List Named → Named → Bool
gives_way ns n = may_link n && is_mapped ns n.0.script

abbrev pub that_stay : List Named → List Named
that_stay ns = filter (λ n. not (gives_way ns n)) ns

-- the first of each script
abbrev pub first_of_each : List Named → List Named
first_of_each [] = []
first_of_each (n ∷ ns) = n ∷ filter (λ other. not (is_same_script n other)) (first_of_each ns)

-- One for each script: the first of those that stay.
abbrev pub kept : List Named → List Named
kept ns = first_of_each (that_stay ns)

-- Of two that stay the script is the same.
abbrev pub has_repeated : List Named → Bool
has_repeated ns = not (length (kept ns) == length (that_stay ns))

-- ---- files of folders that are given alone

abbrev pub maps_of : List OfFolder → List OfFolder
maps_of fs = filter (λ f. not (may_name_map f.0)) fs

abbrev pub scripts_of : List OfFolder → List OfFolder
scripts_of fs = filter (λ f. may_name_map f.0) fs

-- The maps, and behind them the scripts, each in their order.
abbrev pub maps_first : List OfFolder → List OfFolder
maps_first fs = maps_of fs ++ scripts_of fs

-- ---- all that arguments name

-- One map is left for each script, and the files of folders are put in order.
pub record IsSettled (before after : Wanted) : Type 0 where
  pub places : places_in after.places.items ≡ map (λ n. n.0) (kept (named_in before))
  pub origins : after.origins.items ≡ map (λ n. n.1) (kept (named_in before))
  pub files : map (λ f. f.items) after.files.items ≡ map (λ f. f.0) (maps_first (files_in before))
  pub file_roots : after.file_roots.items ≡ map (λ f. f.1) (maps_first (files_in before))
  pub map_count : after.map_count ≡ length (maps_of (files_in before))
  pub roots : after.roots ≡ before.roots
  pub logs : after.logs ≡ before.logs
  pub positions : after.positions ≡ before.positions
