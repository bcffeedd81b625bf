-- Which script a map belongs to, where the map is known by its file's name alone.
use Rattle.std.specs.Prelude.{ℕ, ◌-◌, nat_eq, List, cond, codes, length, take, map, None, Ok, Err}
use Rattle.std.specs.List.{ends_with}
use Rattle.std.specs.Str.{is_utf8}
use Rattle.percent_encoding.specs.Percent.{percent_decode}
use Rattle.url.specs.Parser.{Parsed, parse_url}
use Rattle.url.specs.Parts.{Parts}
use Rattle.smap_link.specs.Alike.{own_url}
use Rattle.smap_link.specs.Likeness.{IsMostAlike}
use Rattle.smap_link.specs.Paths.{bare}
use Rattle.smap_link.specs.declared.likeness.Likeness.{Likeness}

abbrev pub path_in : List ℕ → Parsed Parts → List ℕ
path_in name (Ok url) = percent_decode url.path
path_in name (Err e) = bare name

abbrev pub path_of : List ℕ → List ℕ → List ℕ
path_of name url = cond (is_utf8 url) (path_in name (parse_url None url)) (bare name)

-- The path of a script's URL, decoded; of a name that is no URL the name without query and fragment.
abbrev pub script_path : List ℕ → List ℕ
script_path name = path_of name (own_url name)

-- a file's name without `.map`
abbrev pub stem : List ℕ → List ℕ
stem name = cond (ends_with nat_eq name (codes ".map")) (take (length name - 4) name) name

-- The map with this name belongs to that script with whose path its name has the longest end in common.
abbrev pub BelongsTo : List ℕ → List (List ℕ) → Likeness → Type 0
BelongsTo name scripts found = IsMostAlike (stem name) (map script_path scripts) found
