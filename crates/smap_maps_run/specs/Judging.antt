-- What is said of a map that was read.
use Rattle.std.specs.Prelude.{◌≡◌, ℕ, List, Ok, Err, Option, Some, None, IfSome, string_bytes}
use Rattle.url.specs.Parts.{Parts}
use Rattle.smap_record.specs.Faults.{Checked}
use Rattle.smap_record.specs.Record.{ReadMap, usual}
use Rattle.smap_record.specs.UrlBytes.{reading_within}
use Rattle.smap_record.specs.declared.fault.Fault.{Fault}
use Rattle.smap_record.specs.declared.fault.ReadError.{ReadError}
use Rattle.smap_record.specs.declared.fault.ReadError.TheVariants as error
use Rattle.smap_fault_places.specs.Points.{point_at}
use Rattle.smap_fault_places.specs.FaultRanges.{IsFaultRange}
use Rattle.smap_map_files.specs.Refusals.{IsRefusalDetail}
use Rattle.smap_maps_run.specs.declared.outcome.Failure.TheVariants.{Memory}
use Rattle.smap_maps_run.specs.declared.outcome.Refusal.{Refusal}
use Rattle.smap_maps_run.specs.declared.outcome.TextPlace.{TextPlace}
use Rattle.smap_maps_run.specs.declared.outcome.Verdict.{Verdict}
use Rattle.smap_maps_run.specs.declared.outcome.Verdict.TheVariants as verdict

-- This is a place of the fault in the text of a map: the line and the column are those where its range
-- begins.
abbrev pub IsPlaceOf : List ℕ → Fault → TextPlace → Type 0
IsPlaceOf bytes fault place =
    IsFaultRange bytes fault place.range × (place.point ≡ point_at bytes place.range.start)

-- What is told of a refused map is so: what is wrong with it, and the place of its fault. Its own URL is
-- `base`, and the URLs of its sources may take `most` bytes.
abbrev pub IsTold : Parts → ℕ → List ℕ → Refusal → Type 0
IsTold base most bytes why = IsRefusalDetail base most bytes why.fault (string_bytes why.detail)
    × IfSome why.place (IsPlaceOf bytes why.fault)

-- A map is accepted exactly if the reading within a bound on the bytes of its URLs accepts it: the fault that
-- is told is its first one, and else its URLs take more. That memory ran out says nothing about the map.
abbrev pub IsJudgedAs : Checked (Option ReadMap) → Parts → ℕ → List ℕ → Verdict → Type 0
IsJudgedAs expected base most bytes verdict.Accepted = (m : ReadMap) × (expected ≡ Ok (Some m))
IsJudgedAs expected base most bytes (verdict.LongUrls n) = (expected ≡ Ok None) × (n ≡ most)
IsJudgedAs expected base most bytes (verdict.Refused why) =
    (expected ≡ Err why.fault) × IsTold base most bytes why
IsJudgedAs expected base most bytes (verdict.Failed Memory) = Unit {0}
IsJudgedAs expected base most bytes v = ⊥

abbrev pub IsJudged : Parts → ℕ → List ℕ → Verdict → Type 0
IsJudged base most bytes v = IsJudgedAs (reading_within base usual most bytes) base most bytes v

abbrev pub IsRefusedFor : Parts → ℕ → List ℕ → Fault → Verdict → Type 0
IsRefusedFor base most bytes fault (verdict.Refused why) = (why.fault ≡ fault) × IsTold base most bytes why
IsRefusedFor base most bytes fault (verdict.Failed Memory) = Unit {0}
IsRefusedFor base most bytes fault v = ⊥

abbrev pub IsJudgedFor : Parts → ℕ → List ℕ → ReadError → Verdict → Type 0
IsJudgedFor base most bytes (error.Refused fault) v = IsRefusedFor base most bytes fault v
IsJudgedFor base most bytes error.Memory (verdict.Failed Memory) = Unit {0}
IsJudgedFor base most bytes error.Memory v = ⊥
