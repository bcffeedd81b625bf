-- What becomes of a text that is repaired.
use Rattle.std.specs.Prelude.{◌≡◌, ℕ, List, Option, Some, None, IfSome, Ok, Err, IsErr}
use Rattle.url.specs.Parts.{Parts}
use Rattle.smap_record.specs.Faults.{Checked}
use Rattle.smap_record.specs.Record.{Allowed, ReadMap}
use Rattle.smap_record.specs.UrlBytes.{reading_within}
use Rattle.smap_repair.specs.Leading.{Leads}
use Rattle.smap_repair.specs.declared.repair.Repair.{Repair}
use Rattle.smap_repair.specs.declared.repairing.Repaired.{Repaired}
use Rattle.smap_repair.specs.declared.repairing.Repaired.TheVariants as answer
use Rattle.smap_repair.specs.declared.repairing.State.{State}
use Rattle.smap_repair.specs.declared.repairing.State.TheVariants as state

-- for private contracts: what a text is of which this is the reading
abbrev pub IsState : Checked (Option ReadMap) → State → Type 0
IsState expected state.Sound = (m : ReadMap) × (expected ≡ Ok (Some m))
IsState expected state.LongUrls = expected ≡ Ok None
IsState expected (state.Faulty fault) = expected ≡ Err fault

-- The text is read, and the URLs of its sources take at most so many bytes.
abbrev pub IsRead : Parts → Allowed → ℕ → List ℕ → Type 0
IsRead base limits most text = (m : ReadMap) × (reading_within base limits most text ≡ Ok (Some m))

-- Some repairs of the text, or none, leave one that reads so.
abbrev pub Leaves : Parts → Allowed → ℕ → List ℕ → Checked (Option ReadMap) → Type 0
Leaves base limits most text read =
    (new : List ℕ) × (rs : List Repair) × Leads rs text new × (reading_within base limits most new ≡ read)

-- What is answered for a text: it is read as it is; or it is refused, and read once it is repaired; or it is
-- refused, with its first fault, and the one that repairs leave if there are any to be made; or its URLs take
-- more than they may, as it is or after repairs.
abbrev pub IsRepaired : Parts → Allowed → ℕ → List ℕ → Repaired → Type 0
IsRepaired base limits most text answer.Sound = IsRead base limits most text
IsRepaired base limits most text (answer.Mended new repairs) = IsErr (reading_within base limits most text)
    × (IsRead base limits most new.items × Leads repairs.items text new.items)
IsRepaired base limits most text (answer.Refused fault left) =
    (reading_within base limits most text ≡ Err fault)
    × IfSome left (λ f. Leaves base limits most text (Err f))
IsRepaired base limits most text answer.LongUrls = Leaves base limits most text (Ok None)
