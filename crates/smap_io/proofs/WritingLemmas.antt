-- What several calls have written together.
use Rattle.std.proofs.Common.{◌≡◌, ℕ, ◌+◌, ◌-◌, List, Option, [], ◌++◌, Result, Ok, Err, length, take, drop}
use Rattle.std.proofs.Math.Seq.{take-add, take-length}
use Rattle.std.proofs.lemmas.List.{length-drop}
use Rattle.std.specs.Io.KnownBytes.{Keeps}
use Rattle.std.proofs.KnownBytes.{Appends-kept, Appends-nil, Appends-trans}
use Rattle.smap_io.specs.declared.device.Device.{Device}
use Rattle.smap_io.specs.declared.device.Failed.{Failed}
use Rattle.smap_io.specs.Writing.{Took, WritesText}

pub Took-none : {W : Type 0} (contents : W → Option (List ℕ)) (a : Device W) → Took contents a a []
Took-none contents a = Appends-nil (contents a.inner)

pub Took-then : {W : Type 0} (contents : W → Option (List ℕ)) (a b c : Device W) (xs ys : List ℕ)
    → Took contents a b xs → Took contents b c ys → Took contents a c (xs ++ ys)
Took-then contents a b c xs ys p q = Appends-trans (contents a.inner) (contents b.inner) (contents c.inner)
    xs ys p q

-- A front was written, and then n bytes of what is left after it.
pub Took-after : {W : Type 0} (contents : W → Option (List ℕ)) (a b c : Device W) (text : List ℕ) (at n : ℕ)
    → Took contents a b (take at text) → Took contents b c (take n (take (length text - at) (drop at text)))
    → Took contents a c (take (at + n) text)
Took-after contents a b c text at n front more =
    let whole : take (length text - at) (drop at text) ≡ drop at text = rw (← length-drop at text)
    (take-length (drop at text)) in
    rw (take-add at n text) (rw whole at (Took-then contents a b c _ _ front more))

-- A text was written, and then a call was made that writes nothing.
pub flushed_text : {W : Type 0} (contents : W → Option (List ℕ)) (a b c : Device W) (text : List ℕ)
    (r : Result (Unit {0}) Failed)
    → Took contents a b text → Keeps (contents b.inner) (contents c.inner) → WritesText contents a c text r
flushed_text contents a b c text (Ok x) took kept = Appends-kept (contents a.inner) (contents b.inner)
    (contents c.inner) text took kept
flushed_text contents a b c text (Err e) took kept = (
  length text,
  rw (take-length text) (Appends-kept (contents a.inner) (contents b.inner)
      (contents c.inner) text took kept),
)
