-- Which maps the sources of a map lead to: those that the sources have. (That each map which is there is
-- found, no clause says.)
use Rattle.std.specs.Prelude.{◌≡◌, ℕ, ◌++◌, ◌||◌, true, false, List, [], slice_get, ⊤, Ok, string_bytes}
use Rattle.std.specs.Prelude.{Option, Some, None, option_map, option_and_then, unwrap_or, find, bytes_eq}
use Rattle.std.specs.Global.{Vec}
use Rattle.smap_link.specs.Urls.{script_url}
use Rattle.smap_link.specs.Kinds.{link_in}
use Rattle.smap_link.specs.Names.{script_name}
use Rattle.smap_link.specs.Paths.{bare}
use Rattle.smap_lint_rules.specs.Findings.{own_part}
use Rattle.smap_lint_rules.specs.Positions.{is_past_end}
use Rattle.smap_map_choice.specs.Named.{IsInline}
use Rattle.smap_map_choice.specs.ScriptMap.{beside}
use Rattle.smap_map_files.specs.Given.{WithBase}
use Rattle.smap_map_files.specs.Target.{LeadsTo}
use Rattle.smap_map_files.specs.declared.target.Home.{Home}
use Rattle.smap_map_files.specs.declared.target.Target.{Target}
use Rattle.smap_map_files.specs.declared.target.Target.TheVariants as target
use Rattle.smap_mappings.specs.Widths.{script_widths}
use Rattle.smap_record.specs.Record.{Entry, ReadMap, record_of, usual}
use Rattle.smap_record.specs.UrlBytes.{reading_within}
use Rattle.smap_system.specs.Held.{Held, IsHeld}
use Rattle.smap_chains.specs.declared.chains.Chain.{Chain}
use Rattle.smap_chains.specs.declared.chains.ChainAsked.{ChainAsked}
use Rattle.smap_chains.specs.declared.ways.Way.{Way}
use Rattle.smap_chains.specs.declared.ways.Way.TheVariants as ways

-- ---- the text of a source

-- It is what the file of the source with this URL holds, which is one of the folder.
pub record IsFileText (held : Held) (home : Home) (url text : List ℕ) : Type 0 where
  pub name : List ℕ
  pub is_name : script_name home.url.now (bare url) ≡ Some name
  pub is_held : IsHeld held (home.path.now ++ name) text

-- What is known of it: the source's content or, if it has none, what its file holds. That of the script was
-- written over.
abbrev pub IsText : Held → Home → List ℕ → List ℕ → Option (List ℕ) → Option (List ℕ) → Type 0
IsText held home script url (Some content) text = text ≡ Some content
IsText held home script url None None = ⊤
IsText held home script url None (Some text) = (bytes_eq url script ≡ false) × IsFileText held home url text

-- ---- where its map is

-- the path that is given for the source with this URL, which is told whole or below that of the folder
abbrev pub given_for : ChainAsked → List ℕ → Option (List ℕ)
given_for a url = option_map (λ g. g.1.now)
    (find (λ g. bytes_eq g.0.now url || bytes_eq g.0.now (own_part a.home.url.now url)) a.more.given.now)

-- A file of the folder is what the script with this name names by its link; or, if it has none, it is the one
-- next to that, where such count.
abbrev pub IsFileOf : ChainAsked → List ℕ → Option (List ℕ) → List ℕ → Type 0
IsFileOf a name None file = (a.more.beside ≡ true) × (file ≡ beside name)
IsFileOf a name (Some link) file = LeadsTo a.home.url.now name link file

-- What the text of the source with this URL leads to.
abbrev pub IsTargetOf : ChainAsked → List ℕ → List ℕ → Target → Type 0
IsTargetOf a url text (target.Inline bytes) =
    (link : List ℕ) × ((link_in (bare url) text ≡ Some link) × IsInline link bytes.items)
IsTargetOf a url text (target.File file) = (name : List ℕ)
    × ((script_name a.home.url.now (bare url) ≡ Some name)
    × IsFileOf a name (link_in (bare url) text) (string_bytes file))
IsTargetOf a url text (target.Absent name why) = ⊤
IsTargetOf a url text (target.Wrong why) = ⊤

-- Where the map of a source with this URL and this text is. What one names for which a map is given doesn't
-- count.
abbrev pub IsWay : ChainAsked → List ℕ → Option (List ℕ) → Way → Type 0
IsWay a url text (ways.Given path) = given_for a url ≡ Some path.now
IsWay a url None (ways.Named t) = ⊥
IsWay a url (Some text) (ways.Named t) = (given_for a url ≡ None) × IsTargetOf a url text t

-- ---- the map that is there

-- These bytes are the map, with this URL of their own.
abbrev pub AreMap : ChainAsked → List ℕ → List ℕ → ReadMap → Type 0
AreMap a url bytes m = WithBase url (λ base. reading_within base usual a.url_bytes bytes ≡ Ok (Some m))

-- The file with this path holds the map.
pub record IsFileMap (held : Held) (a : ChainAsked) (path url : List ℕ) (m : ReadMap) : Type 0 where
  pub bytes : List ℕ
  pub is_held : IsHeld held path bytes
  pub are_map : AreMap a url bytes m

-- The file of the folder with this name does.
abbrev pub IsOwnMap : Held → ChainAsked → List ℕ → ReadMap → Type 0
IsOwnMap held a name m = IsFileMap held a (a.home.path.now ++ name) (script_url a.home.url.now name) m

-- The map that is found this way for the source with this URL.
abbrev pub IsMapBy : Held → ChainAsked → List ℕ → Way → ReadMap → Type 0
IsMapBy held a url (ways.Given path) m = IsFileMap held a path.now url m
IsMapBy held a url (ways.Named (target.Inline bytes)) m = AreMap a url bytes.items m
IsMapBy held a url (ways.Named (target.File file)) m = IsOwnMap held a (string_bytes file) m
IsMapBy held a url (ways.Named (target.Absent name why)) m = ⊥
IsMapBy held a url (ways.Named (target.Wrong why)) m = ⊥

-- No mapping is past the end of a text whose lines are so wide, if that is known.
abbrev pub Fits : Option (List ℕ) → ReadMap → Type 0
Fits None m = ⊤
Fits (Some widths) m = find (is_past_end widths) m.listing.tokens ≡ None

abbrev pub url_of : Entry → List ℕ
url_of e = unwrap_or e.url []

-- A source of the map of a script has this map.
pub record HasMap (held : Held) (a : ChainAsked) (script : List ℕ) (e : Entry) (m : ReadMap) : Type 0 where
  pub text : Option (List ℕ)
  pub is_text : IsText held a.home script (url_of e) e.content text
  pub way : Way
  pub is_way : IsWay a (url_of e) text way
  pub is_map : IsMapBy held a (url_of e) way m
  pub fits : Fits (option_and_then script_widths text) m

-- ---- chains

-- One of the maps has this index, and this holds of it.
pub record IsAt (maps : List ReadMap) (k : ℕ) (Holds : ReadMap → Type 0) : Type 0 where
  pub map : ReadMap
  pub is_there : slice_get maps k ≡ Some map
  pub holds : Holds map

-- This is the number of the map that a source has; or none is followed.
abbrev pub IsNumber : Held → ChainAsked → List ReadMap → List ℕ → Option Entry → Option ℕ → Type 0
IsNumber held a maps script source None = ⊤
IsNumber held a maps script source (Some k) =
    (e : Entry) × ((source ≡ Some e) × IsAt maps k (HasMap held a script e))

-- So are these of the sources of a map, which is that of a script.
abbrev pub AreNumbers : Held → ChainAsked → List ReadMap → List ℕ → ReadMap → List (Option ℕ) → Type 0
AreNumbers held a maps script m numbers = (i : ℕ) (number : Option ℕ) → slice_get numbers i ≡ Some number
    → IsNumber held a maps script (slice_get (record_of m).sources i) number

-- So are these of the sources of the maps that have their indices.
abbrev pub AreLeads : Held → ChainAsked → List ReadMap → List (Vec (Option ℕ)) → Type 0
AreLeads held a maps leads = (j : ℕ) (numbers : Vec (Option ℕ)) → slice_get leads j ≡ Some numbers
    → (script : List ℕ) × IsAt maps j (λ m. AreNumbers held a maps script m numbers.items)

-- Each map that is followed is one that its source has: those of this map's sources, and those of theirs.
pub record IsChain (held : Held) (a : ChainAsked) (script : List ℕ) (m : ReadMap) (c : Chain) : Type 0 where
  pub first : AreNumbers held a c.maps.items script m c.numbers.items
  pub later : AreLeads held a c.maps.items c.leads.items
