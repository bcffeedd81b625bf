-- A map that is read again has the same record, and so translates alike.
use Rattle.std.proofs.Common.{◌≡◌, ℕ, List, ◌∷◌, ◌++◌, Ok, ap}
use Rattle.smap_record.specs.declared.fault.ReadError.{ReadError}
use Rattle.smap_record.specs.declared.fault.ReadError.TheVariants as errors
use Rattle.smap_record.specs.Results.{Fails}
use Rattle.smap_record.specs.Faults.{Checked}
use Rattle.smap_record.specs.Reading.{reading}
use Rattle.smap_record.specs.Record.{Parts, Record, Allowed, ReadMap, record_of}
use Rattle.smap_canon.specs.Laws.{ReadAs}
use Rattle.smap_trace.specs.Translation.{translation}
use Rattle.smap_tool.specs.RoundTrips.{TranslateAlike}

-- what is read of bytes that are read as this record has it
read_same : (base : Parts) (limits : Allowed) (a b : List ℕ) (r : Record) (n : ReadMap)
    → ReadAs base limits a r → b ≡ a → reading base limits b ≡ Ok n → r ≡ record_of n
read_same base limits a b r n one same read = cc (one.1, one.2)

pub alike : (base : Parts) (limits : Allowed) (a b : List ℕ) (r : Record) (n : ReadMap)
    → ReadAs base limits a r → b ≡ a → reading base limits b ≡ Ok n → TranslateAlike r (record_of n)
alike base limits a b r n one same read before after url distinct hide trace =
    ap (λ (x : Record). translation (before ++ (url, x) ∷ after) hide trace)
    (read_same base limits a b r n one same read)

-- reading them fails for want of memory alone
pub only_memory : {Y : Type 0} (base : Parts) (limits : Allowed) (a b : List ℕ) (r : Record) (e : ReadError)
    (expected : Checked Y) → ReadAs base limits a r → b ≡ a → Fails e (reading base limits b)
    → Fails e expected
only_memory base limits a b r (errors.Refused fault) expected one same fails =
    absurd (cc one.1)
only_memory base limits a b r errors.Memory expected one same fails = tt
