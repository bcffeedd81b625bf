-- Which members the fields of a `FlatShape` stand for: it keeps arrays as they are in the JSON tree.
use Rattle.std.specs.Prelude.{ℕ, ◌<◌, List, [], map, length, All, Option, option_copied, unwrap_or}
use Rattle.serde_json.specs.Find.{as_str}
use Rattle.serde_json.specs.View.{view}
use Rattle.serde_json.specs.declared.value.Value.{Value}
use Rattle.smap_shape.specs.declared.flat.FlatShape.TheInside.{Inside}
use Rattle.smap_shape.specs.Members.{Flat, fitted}
use Rattle.smap_shape.specs.Reading.{whole}

-- each entry's string, if it is one
abbrev pub texts : List Value → List (Option (List ℕ))
texts vs = map (λ v. as_str (view v)) vs

-- each entry's string, if each is one
abbrev pub sure_texts : List Value → List (List ℕ)
sure_texts vs = map (λ v. unwrap_or (as_str (view v)) []) vs

-- each entry's integer, if each is one
abbrev pub numbers : List Value → List ℕ
numbers vs = map (λ v. unwrap_or (whole (view v)) 0) vs

-- the members that the fields are
abbrev pub flat_view : Inside → Flat
flat_view s = record {
  labels = s.labels;
  root = option_copied s.root;
  sources = texts s.sources.now;
  contents = fitted (length s.sources.now) (texts s.contents.now);
  names = sure_texts s.names.now;
  ignored = numbers s.ignored.now;
  mappings = s.mappings.now;
}

-- each ignored index is that of a source
abbrev pub IgnoresSources : Inside → Type 0
IgnoresSources s = All (λ n. n < length s.sources.now) (numbers s.ignored.now)
