-- A map that is closed, as it was found.
use Rattle.std.proofs.Common.{◌≡◌, ℕ, List}
use Rattle.smap_chains.specs.Chains.{IsChain}
use Rattle.smap_chains.specs.Closing.{closed_in}
use Rattle.smap_chains.specs.declared.chains.Chain.{Chain}
use Rattle.smap_chains.specs.declared.chains.ChainAsked.{ChainAsked}
use Rattle.smap_record.specs.Record.{ReadMap, record_of}
use Rattle.smap_system.specs.Held.{Held}
use Rattle.smap_maps_run.specs.Composing.{IsClosedOver}

pub closed_over : (held : Held) (m closed : ReadMap) (a : ChainAsked) (script : List ℕ) (c : Chain)
    (below : ℕ) → IsChain held a script m c → record_of closed ≡ closed_in m c below
    → IsClosedOver held m closed
closed_over held m closed a script c below chain is = record {
  asked = a;
  script = script;
  is_closed = record { chain = c; is_chain = chain; below = below; is_closed = is };
}
