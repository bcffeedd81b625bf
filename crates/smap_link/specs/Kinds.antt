-- What a file is by the end of its name, and the map that it names: this project's own choice of endings.
use Rattle.std.specs.Prelude.{ℕ, Bool, true, false, nat_eq, ◌||◌, List, codes, cond, Option}
use Rattle.std.specs.List.{ends_with}
use Rattle.smap_link.specs.Comment.{css_map_url, is_silent, map_url}
use Rattle.smap_link.specs.declared.kinds.FileKind.{FileKind}
use Rattle.smap_link.specs.declared.kinds.FileKind.TheVariants.{Script, StyleSheet, Map, Other}

abbrev pub is_script : List ℕ → Bool
is_script name = ends_with nat_eq name (codes ".js")
    || (ends_with nat_eq name (codes ".mjs") || ends_with nat_eq name (codes ".cjs"))

abbrev pub is_style_sheet : List ℕ → Bool
is_style_sheet name = ends_with nat_eq name (codes ".css")

abbrev pub is_map : List ℕ → Bool
is_map name = ends_with nat_eq name (codes ".map")

abbrev pub file_kind : List ℕ → FileKind
file_kind name = cond (is_script name) Script
    (cond (is_style_sheet name) StyleSheet (cond (is_map name) Map Other))

-- the URL that a file names, by the rule of style sheets or by that of scripts
abbrev pub link_by : FileKind → List ℕ → Option (List ℕ)
link_by StyleSheet text = css_map_url text
link_by Script text = map_url text
link_by Map text = map_url text
link_by Other text = map_url text

abbrev pub link_in : List ℕ → List ℕ → Option (List ℕ)
link_in name text = link_by (file_kind name) text

-- its lines say nothing, by the same rule
abbrev pub silent_by : FileKind → List ℕ → Bool
silent_by StyleSheet text = is_silent false text
silent_by Script text = is_silent true text
silent_by Map text = is_silent true text
silent_by Other text = is_silent true text

abbrev pub says_nothing : List ℕ → List ℕ → Bool
says_nothing name text = silent_by (file_kind name) text
