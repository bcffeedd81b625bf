-- Calls of a device that were made one after another.
use Rattle.std.proofs.Common.{◌≡◌, ◌∙◌, Bool, true, false, refl}
use Rattle.smap_io.specs.declared.device.Device.{Device}
use Rattle.smap_io.specs.Calls.{StaysOpen, StopsInTime}
use Rattle.smap_io.specs.Device.{has_ended, has_gone_on, is_over}

pub in_time_then : {T : Type 0} (a b c : Device T) → is_over b ≡ is_over a → StopsInTime a b
    → StopsInTime b c → StopsInTime a c
in_time_then a b c same p q = λ over. q (same ∙ over) ∙ p over

-- What came after the end made no call.
pub in_time_or_ended : {T : Type 0} (a b c : Device T) → StaysOpen a b → StopsInTime a b
    → (has_ended b ≡ true → has_gone_on c ≡ has_gone_on b) → StopsInTime b c → StopsInTime a c
in_time_or_ended a b c still p idle q = by (has_ended b) refl
  where
    by : (e : Bool) → has_ended b ≡ e → StopsInTime a c
    by true ended = λ over. idle ended ∙ p over
    by false going = in_time_then a b c (still going) p q
