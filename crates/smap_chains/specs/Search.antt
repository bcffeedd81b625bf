-- For private contracts: what a search for the maps of sources has found so far.
use Rattle.std.specs.Prelude.{◌≡◌, ℕ, List, Option, Some, slice_get, ⊤}
use Rattle.std.specs.Prelude.{option_map, option_and_then, string_bytes}
use Rattle.std.specs.HashMap.{get_by_text}
use Rattle.smap_mappings.specs.Widths.{script_widths}
use Rattle.smap_record.specs.Record.{Entry, ReadMap, record_of}
use Rattle.smap_system.specs.Held.{Held}
use Rattle.smap_chains.specs.Chains.{Fits, IsAt, IsMapBy, IsOwnMap, IsText, IsWay, url_of}
use Rattle.smap_chains.specs.declared.chains.ChainAsked.{ChainAsked}
use Rattle.smap_chains.specs.declared.search.Search.{Search}
use Rattle.smap_chains.specs.declared.source_maps.SourceText.{SourceText}
use Rattle.smap_chains.specs.declared.source_maps.SourceText.TheVariants.{Content, File}
use Rattle.smap_chains.specs.declared.ways.Found.{Found}
use Rattle.smap_chains.specs.declared.ways.Opened.{Opened}
use Rattle.smap_chains.specs.declared.ways.Opened.TheVariants.{Map, Refused, Missing}

abbrev pub text_of : SourceText → List ℕ
text_of (Content text) = text.now
text_of (File bytes) = bytes.items

abbrev pub IfMap : Opened → (ReadMap → Type 0) → Type 0
IfMap (Map m) Holds = Holds m
IfMap (Refused why) Holds = ⊤
IfMap (Missing why) Holds = ⊤

abbrev pub widths_of : Found → Option (List ℕ)
widths_of f = option_map (λ w. w.items) f.widths

-- A source of the map of a script, where it was found that it has a map.
pub record IsFound (held : Held) (a : ChainAsked) (script : List ℕ) (e : Entry) (f : Found) : Type 0 where
  pub text : Option (List ℕ)
  pub is_text : IsText held a.home script (url_of e) e.content text
  pub is_way : IsWay a (url_of e) text f.way
  pub is_url : string_bytes f.url ≡ url_of e
  pub are_widths : widths_of f ≡ option_and_then script_widths text

-- Such is the i-th source of this map.
abbrev pub IsFoundAt : Held → ChainAsked → List ℕ → ReadMap → ℕ → Found → Type 0
IsFoundAt held a script m i f =
    (e : Entry) × ((slice_get (record_of m).sources i ≡ Some e) × IsFound held a script e f)

-- A map that it has.
pub record IsFitting (held : Held) (a : ChainAsked) (f : Found) (m : ReadMap) : Type 0 where
  pub is_map : IsMapBy held a (string_bytes f.url) f.way m
  pub fits : Fits (widths_of f) m

-- The maps that were found stay where they are.
abbrev pub Keeps : List ReadMap → List ReadMap → Type 0
Keeps old new = (k : ℕ) (m : ReadMap) → slice_get old k ≡ Some m → slice_get new k ≡ Some m

-- The maps of files that were read are those files'.
abbrev pub AreFiles : Held → ChainAsked → Search → Type 0
AreFiles held a s = (name : List ℕ) (k : ℕ) → get_by_text s.files name ≡ Some (Some k)
    → IsAt s.maps.items k (IsOwnMap held a name)
