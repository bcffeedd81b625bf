-- Reading stops after what was read before.
use Rattle.std.proofs.Common.{◌≡◌, ◌∙◌, ◌⊎◌, inl, inr, ℕ, ◌+◌, ◌≤◌, List, ◌++◌, length, Option}
use Rattle.std.proofs.Common.{refl, sym, subst, append_assoc, length-append}
use Rattle.std.proofs.Common.{arith}
use Rattle.smap_io.specs.declared.device.Device.{Device}
use Rattle.smap_io.specs.Device.{device_failures, has_ended}
use Rattle.smap_io.specs.Reading.{Gave, GaveUp, SpentBy, failed_by}
use Rattle.smap_io.specs.declared.reading.ReadFault.{ReadFault}
use Rattle.smap_io.specs.declared.reading.ReadFault.TheVariants as io
use Rattle.smap_io.proofs.ReadingLemmas.{Gave-then}
use Rattle.smap_tool.specs.declared.fault.BundleFault.{BundleFault}
use Rattle.smap_tool.specs.declared.fault.BundleFault.TheVariants as fault
use Rattle.smap_tool.specs.declared.fault.Refusal.{Refusal}
use Rattle.smap_tool.specs.Reading.{MayFollow}
use Rattle.smap_tool.specs.Stopping.{Says, Stops, unread}

-- What is said is said in other words.
pub says_as : (P Q : BundleFault → Type 0) → ((found : BundleFault) → P found → Q found) → (s : BundleFault)
    → Says P s → Says Q s
says_as P Q f (fault.Refused r) h = f (fault.Refused r) h
says_as P Q f fault.TooLong h = f fault.TooLong h
says_as P Q f fault.Memory h = tt
says_as P Q f fault.Read h = absurd h

-- What holds of every fault is said of this one.
pub says_any : (P Q : BundleFault → Type 0) → ((found : BundleFault) → Q found) → (s : BundleFault) → Says P s
    → Says Q s
says_any P Q f s h = says_as P Q (λ found p. f found) s h

-- one more failure, or too many bytes, after these
blamed_after : (old mid new calls left n m : ℕ) → mid ≡ old → calls ≤ left + n → (new ≡ mid + 1)
    ⊎ ((new ≡ mid) × (left ≤ m)) → (new ≡ old + 1) ⊎ ((new ≡ old) × (calls ≤ n + m))
blamed_after old mid new calls left n m same counted (inl one) = inl (omega (arith, one, same))
blamed_after old mid new calls left n m same counted (inr e) = inr (e.0 ∙ same, omega (arith, counted, e.1))

module _ {R : Type 0} (remaining : R → Option (List ℕ)) (a b : Device R) (bytes : List ℕ)
    (gave : Gave remaining a b bytes) (same : device_failures b ≡ device_failures a) where
  -- A fault that stands whatever follows is where reading stops.
  pub says_stops : (calls : ℕ) (P Within : List ℕ → BundleFault → Type 0) (s : BundleFault)
      → ((more : List ℕ) → Says (P (bytes ++ more)) s) → Says (Within bytes) s
      → (some : BundleFault) × Within bytes some → Stops remaining a b calls P Within s
  says_stops calls P Within (fault.Refused r) says within some = (
    record { bytes = bytes; gave = gave; settled = λ more may. says more; within = within },
    same,
  )
  says_stops calls P Within fault.TooLong says within some = (bytes, gave, says, within, same)
  says_stops calls P Within fault.Memory says within some = (bytes, gave, some, same)
  says_stops calls P Within fault.Read says within some = absurd (says bytes)

  -- One refusal, of what was read and what may follow it.
  pub refusal_stops : (calls : ℕ) (r : Refusal) (P Within : List ℕ → BundleFault → Type 0) (s : BundleFault)
      → Says (λ found. found ≡ fault.Refused r) s
      → ((more : List ℕ) → MayFollow (has_ended b) more → P (bytes ++ more) (fault.Refused r))
      → Within bytes (fault.Refused r) → Stops remaining a b calls P Within s
  refusal_stops calls r P Within (fault.Refused told) says settled within = (
    record {
      bytes = bytes;
      gave = gave;
      settled = λ more may. subst (P (bytes ++ more)) (sym says) (settled more may);
      within = subst (Within bytes) (sym says) within;
    },
    same,
  )
  refusal_stops calls r P Within fault.TooLong says settled within = absurd cc
  refusal_stops calls r P Within fault.Memory says settled within =
      (bytes, gave, (fault.Refused r, within), same)
  refusal_stops calls r P Within fault.Read says settled within = absurd says

  -- There was no memory after what was read.
  pub memory_stops : (calls : ℕ) (P Within : List ℕ → BundleFault → Type 0) (s : BundleFault)
      → s ≡ fault.Memory → (some : BundleFault) × Within bytes some → Stops remaining a b calls P Within s
  memory_stops calls P Within s is some =
      subst (Stops remaining a b calls P Within) (sym is) (bytes, gave, some, same)

  -- Reading stops after these bytes, by what is said of others after them.
  pub stops_after : (c : Device R) (calls left : ℕ) (P Q Near Far : List ℕ → BundleFault → Type 0)
      (s : BundleFault) → (s ≡ fault.Read → calls ≤ left + length bytes)
      → ((text : List ℕ) (found : BundleFault) → P text found → Q (bytes ++ text) found)
      → ((text : List ℕ) (found : BundleFault) → Near text found → Far (bytes ++ text) found)
      → Stops remaining b c left P Near s → Stops remaining a c calls Q Far s
  stops_after c calls left P Q Near Far (fault.Refused r) counted f g st = (
    record {
      bytes = bytes ++ st.0.bytes;
      gave = Gave-then remaining a b c bytes st.0.bytes gave st.0.gave;
      settled = λ more may. rw (append_assoc bytes st.0.bytes more)
          (f (st.0.bytes ++ more) (fault.Refused r) (st.0.settled more may));
      within = g st.0.bytes (fault.Refused r) st.0.within;
    },
    st.1 ∙ same,
  )
  stops_after c calls left P Q Near Far fault.TooLong counted f g st = (
    bytes ++ st.0,
    Gave-then remaining a b c bytes st.0 gave st.1,
    λ more. rw (append_assoc bytes st.0 more) (f (st.0 ++ more) fault.TooLong (st.2 more)),
    g st.0 fault.TooLong st.3,
    st.4 ∙ same,
  )
  stops_after c calls left P Q Near Far fault.Memory counted f g st = (
    bytes ++ st.0,
    Gave-then remaining a b c bytes st.0 gave st.1,
    (st.2.0, g st.0 st.2.0 st.2.1),
    st.3 ∙ same,
  )
  stops_after c calls left P Q Near Far fault.Read counted f g st = (
    bytes ++ st.0,
    Gave-then remaining a b c bytes st.0 gave st.1,
    (st.2.0, g st.0 st.2.0 st.2.1),
    rw (length-append bytes st.0) (blamed_after (device_failures a) (device_failures b) (device_failures c)
        calls left (length bytes) (length st.0) same (counted refl) st.3),
  )

-- The calls of a reader gave up, after what was read.
pub gave_up_stops : {R : Type 0} (remaining : R → Option (List ℕ)) (a b c : Device R) (bytes : List ℕ)
    (IsPart : List ℕ → Type 0) (calls left : ℕ) (e : ReadFault) (s : BundleFault)
    (P Within : List ℕ → BundleFault → Type 0)
    → Gave remaining a b bytes → device_failures b ≡ device_failures a → calls ≤ left + length bytes
    → ((more : List ℕ) → IsPart more → (some : BundleFault) × Within (bytes ++ more) some)
    → GaveUp remaining b c IsPart left e → s ≡ unread e → Stops remaining a c calls P Within s
gave_up_stops remaining a b c bytes IsPart calls left e s P Within gave same counted within g is =
    rw is (told e g.spent g.failures)
  where
    read : List ℕ
    read = bytes ++ g.bytes

    all : Gave remaining a c read
    all = Gave-then remaining a b c bytes g.bytes gave g.gave

    some : (some : BundleFault) × Within read some
    some = within g.bytes g.is_part

    told : (e : ReadFault) → SpentBy e left (length g.bytes)
        → device_failures c ≡ failed_by e (device_failures b) → Stops remaining a c calls P Within (unread e)
    told io.Failed spent failures = (read, all, some, inl (omega (arith, failures, same)))
    told io.Spent spent failures =
        (read, all, some, inr (failures ∙ same, omega (arith, counted, spent, length-append bytes g.bytes)))
    told io.Memory spent failures = (read, all, some, failures ∙ same)
