-- A map composed with those that its sources lead to.
use Rattle.std.specs.Prelude.{◌≡◌, ◌⊎◌, ℕ, Bool, true, false, List, [], Option, ⊤}
use Rattle.smap_compose.specs.Deep.{by_numbers, levels}
use Rattle.smap_link.specs.Alike.{own_url}
use Rattle.smap_map_choice.specs.Places.{MapPlace}
use Rattle.smap_map_files.specs.Given.{Folder}
use Rattle.smap_map_files.specs.Homes.{home_of}
use Rattle.smap_map_files.specs.declared.loading.Reading.{Reading}
use Rattle.smap_record.specs.Record.{ReadMap, Record, record_of}
use Rattle.smap_system.specs.Held.{Held}
use Rattle.smap_chains.specs.Chains.{IsChain}
use Rattle.smap_chains.specs.declared.chains.Chain.{Chain}
use Rattle.smap_chains.specs.declared.chains.ChainAsked.{ChainAsked}
use Rattle.smap_chains.specs.declared.closing.Closed.{Closed}
use Rattle.smap_chains.specs.declared.closing.Closed.TheVariants.{Same, Map, Endless, TooMuch}

-- The record of a map composed with those of a chain, so many levels deep.
abbrev pub closed_in : ReadMap → Chain → ℕ → Record
closed_in m c below = by_numbers m c.numbers.items (levels c.maps.items c.leads.items below)

-- This is it, at some depth, if there is a composition.
abbrev pub IsClosedBy : ReadMap → Chain → Closed → Type 0
IsClosedBy m c Same = ⊤
IsClosedBy m c (Map closed) = (below : ℕ) × (record_of closed ≡ closed_in m c below)
IsClosedBy m c Endless = ⊤
IsClosedBy m c TooMuch = ⊤

-- A map composed with maps that its sources have, and those with maps that theirs have, at some depth.
pub record IsClosed (held : Held) (a : ChainAsked) (script : List ℕ) (m closed : ReadMap) : Type 0 where
  pub chain : Chain
  pub is_chain : IsChain held a script m chain
  pub below : ℕ
  pub is_closed : record_of closed ≡ closed_in m chain below

-- Files are looked for in this folder, and no maps but those that sources name.
pub record IsAskedFor (home : Folder) (url_bytes : ℕ) (a : ChainAsked) : Type 0 where
  pub url : a.home.url.now ≡ home.url
  pub path : a.home.path.now ≡ home.path
  pub beside : a.more.beside ≡ false
  pub given : a.more.given.now ≡ []
  pub bytes : a.url_bytes ≡ url_bytes

-- The map of a place, which was found in a folder, is closed so.
pub record IsClosedAt (held : Held) (how : Reading) (root : Option Folder) (place : MapPlace)
    (m closed : ReadMap) : Type 0 where
  pub asked : ChainAsked
  pub is_asked : IsAskedFor (home_of root place) how.url_bytes asked
  pub is_closed : IsClosed held asked (own_url place.script) m closed

abbrev pub IsFollowedIf : Bool → Held → Reading → Option Folder → MapPlace → ReadMap → ReadMap → Type 0
IsFollowedIf false held how root place m followed = followed ≡ m
IsFollowedIf true held how root place m followed =
    (followed ≡ m) ⊎ IsClosedAt held how root place m followed

-- It is closed, or stays as it is: always, if chains aren't followed.
abbrev pub IsFollowed : Held → Reading → Option Folder → MapPlace → ReadMap → ReadMap → Type 0
IsFollowed held how root place m followed = IsFollowedIf how.chains held how root place m followed
