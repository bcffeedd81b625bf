-- What several calls have read together.
use Rattle.std.proofs.Common.{◌≡◌, ◌∙◌, ℕ, ◌+◌, ◌<◌, ◌≤◌, List, [], ◌++◌, length, Option, take, drop, arith}
use Rattle.std.proofs.Common.{append-nil, length-append, refl, subst, true}
use Rattle.std.proofs.Math.Seq.{take-add}
use Rattle.std.specs.Io.KnownBytes.{Keeps}
use Rattle.std.proofs.KnownBytes.{Consumes-kept, Consumes-nil, Consumes-trans}
use Rattle.smap_io.specs.declared.device.Device.{Device}
use Rattle.smap_io.specs.declared.reading.ReadFault.{ReadFault}
use Rattle.smap_io.specs.declared.reading.ReadFault.TheVariants as fault
use Rattle.smap_io.specs.Device.{device_failures, has_ended}
use Rattle.smap_io.specs.Reading.{Gave, GaveUp, IsFewerThan, IsWithinLine, SpentBy, failed_by, lacks}

pub Gave-none : {R : Type 0} (remaining : R → Option (List ℕ)) (a : Device R) → Gave remaining a a []
Gave-none remaining a = Consumes-nil (remaining a.inner)

pub Gave-kept : {R : Type 0} (remaining : R → Option (List ℕ)) (a b : Device R)
    → Keeps (remaining a.inner) (remaining b.inner) → Gave remaining a b []
Gave-kept remaining a b kept = Consumes-kept (remaining a.inner) (remaining a.inner) (remaining b.inner) []
    (Gave-none remaining a) kept

pub Gave-then : {R : Type 0} (remaining : R → Option (List ℕ)) (a b c : Device R) (xs ys : List ℕ)
    → Gave remaining a b xs → Gave remaining b c ys → Gave remaining a c (xs ++ ys)
Gave-then remaining a b c xs ys p q = Consumes-trans (remaining a.inner) (remaining b.inner)
    (remaining c.inner) xs ys p q

-- Nothing more was read.
pub Gave-no_more : {R : Type 0} (remaining : R → Option (List ℕ)) (a b c : Device R) (xs : List ℕ)
    → Gave remaining a b xs → Gave remaining b c [] → Gave remaining a c xs
Gave-no_more remaining a b c xs p q =
    subst (Gave remaining a c) (append-nil xs) (Gave-then remaining a b c xs [] p q)

-- What was read is the filled front of a list, and then `n` more bytes of it.
pub Gave-after : {R : Type 0} (remaining : R → Option (List ℕ)) (a b c : Device R) (old new : List ℕ)
    (filled n : ℕ)
    → take filled new ≡ take filled old → Gave remaining a b (take filled old)
    → Gave remaining b c (take n (drop filled new)) → Gave remaining a c (take (filled + n) new)
Gave-after remaining a b c old new filled n front before read =
    rw (take-add filled n new, front) (Gave-then remaining a b c (take filled old)
    (take n (drop filled new)) before read)

spent_after : (fault : ReadFault) (calls left n m : ℕ) → calls ≤ left + n → SpentBy fault left m
    → SpentBy fault calls (n + m)
spent_after fault.Failed calls left n m counted spent = tt
spent_after fault.Spent calls left n m counted spent = omega (arith, counted, spent)
spent_after fault.Memory calls left n m counted spent = tt

failed_after : (fault : ReadFault) (new mid old : ℕ) → new ≡ failed_by fault mid → mid ≡ old
    → new ≡ failed_by fault old
failed_after fault new mid old failed same = rw (← same) failed

-- A call gave up after these bytes, so that reading does.
pub GaveUp-after : {R : Type 0} (remaining : R → Option (List ℕ)) (a b c : Device R) (bytes : List ℕ)
    (IsPart : List ℕ → Type 0) (calls left : ℕ) (fault : ReadFault)
    → Gave remaining a b bytes → ((more : List ℕ) → length more < 1 → IsPart (bytes ++ more))
    → calls ≤ left + length bytes → device_failures b ≡ device_failures a → has_ended b ≡ has_ended a
    → GaveUp remaining b c (IsFewerThan 1) left fault → GaveUp remaining a c IsPart calls fault
GaveUp-after remaining a b c bytes IsPart calls left fault gave part counted failures ended g = record {
  bytes = bytes ++ g.bytes;
  gave = Gave-then remaining a b c bytes g.bytes gave g.gave;
  is_part = part g.bytes g.is_part;
  spent = rw (length-append bytes g.bytes) (spent_after fault calls left (length bytes) (length g.bytes)
      counted g.spent);
  failures = failed_after fault (device_failures c) (device_failures b) (device_failures a) g.failures
      failures;
  ended = g.ended ∙ ended;
}

-- Bytes without a line feed and at most one byte after them are within a line.
pub within_line : (most : ℕ) (front last : List ℕ) → lacks 10 front ≡ true → length front < most
    → length last ≤ 1 → IsWithinLine most (front ++ last)
within_line most front last one_line short one = record {
  front = front;
  last = last;
  whole = refl;
  one_line = one_line;
  one = one;
  within = omega (arith, length-append front last, short, one);
}
