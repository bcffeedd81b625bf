-- A map that is closed, out of what was found for it.
use Rattle.std.proofs.Common.{◌≡◌, ℕ, List}
use Rattle.smap_link.specs.Alike.{own_url}
use Rattle.smap_map_choice.specs.Places.{MapPlace}
use Rattle.smap_map_files.specs.Given.{Folder}
use Rattle.smap_map_files.specs.Homes.{home_of}
use Rattle.smap_map_files.specs.declared.loading.Reading.{Reading}
use Rattle.smap_record.specs.Record.{ReadMap, record_of}
use Rattle.smap_system.specs.Held.{Held}
use Rattle.std.specs.Prelude.{Option}
use Rattle.smap_chains.specs.Chains.{IsChain}
use Rattle.smap_chains.specs.Closing.{IsAskedFor, IsClosedAt, closed_in}
use Rattle.smap_chains.specs.declared.chains.Chain.{Chain}
use Rattle.smap_chains.specs.declared.chains.ChainAsked.{ChainAsked}

pub closed_at : (held : Held) (how : Reading) (root : Option Folder) (place : MapPlace) (m closed : ReadMap)
    (a : ChainAsked) (script : List ℕ) (c : Chain) (below : ℕ)
    → IsChain held a script m c → record_of closed ≡ closed_in m c below → script ≡ own_url place.script
    → IsAskedFor (home_of root place) how.url_bytes a → IsClosedAt held how root place m closed
closed_at held how root place m closed a script c below chain is same asked = record {
  asked = a;
  is_asked = asked;
  is_closed = record { chain = c; is_chain = rw same at chain; below = below; is_closed = is };
}
