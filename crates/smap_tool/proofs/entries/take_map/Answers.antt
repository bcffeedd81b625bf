use Rattle.std.proofs.Common.{◌≡◌, ◌∙◌, ℕ, List, ◌++◌, ◌∷◌, [], inl, inr}
use Rattle.std.proofs.Common.{Err, length-append, sym, refl}
use Rattle.std.proofs.Common.{arith, subst}
use Rattle.std.proofs.lemmas.Result.{err_from_is_err_and}
use Rattle.smap_io.proofs.ReadingLemmas.{Gave-none}
use Rattle.smap_record.specs.Reading.{reading}
use Rattle.smap_record.specs.Scripts.{Script}
use Rattle.smap_record.specs.declared.fault.Fault.{Fault}
use Rattle.smap_tool.specs.declared.fault.EntryFault.TheVariants as wrong
use Rattle.smap_tool.specs.declared.fault.BundleFault.TheVariants as stop
use Rattle.smap_tool.specs.declared.fault.BundleFault.{BundleFault}
use Rattle.smap_tool.specs.Bundle.{entry_with, usual}
use Rattle.smap_tool.specs.Entries.{cut_off, refusal}
use Rattle.smap_tool.specs.Reach.{IsFaultOfMap, IsWithinMap}
use Rattle.smap_tool.specs.Stopping.{Stops}
use Rattle.smap_tool.proofs.EntryLemmas.{bad_map, cut_entry, is_len, refused_at, within_map}
use Rattle.std.proofs.lemmas.Result.{IfErr-weaker}
use Rattle.smap_tool.proofs.StopLemmas.{memory_stops, says_any, says_as, says_stops, stops_after}
use Rattle.smap_tool.proofs.entries.take_map.Goals as goal

-- the faults of the entry with a header
abbrev Faults : List Script → List ℕ → List ℕ → ℕ → List ℕ → BundleFault → Type 0
Faults seen script base n more found =
    entry_with seen (record { script = script; base = base; bytes = n }) more ≡ Err found

pub returns-in_err-base-clause-stops : goal.returns-in_err-base-clause-stops
returns-in_err-base-clause-stops g c = λ n e.
    let p = err_from_is_err_and c.from_residual.result c.from_residual.ensures.1 in
    let faults = Faults c.args.scripts.now c.args.header.now.script.now
    c.args.header.now.base.now n in
    rw (p.1, p.2) (says_stops g.R.Read.remaining c.args.reader.now c.args.reader.now []
    (Gave-none g.R.Read.remaining c.args.reader.now) refl c.args.calls.now faults (IsWithinMap n)
    c.in_err-base.field-0.0 (λ more. c.in_err-base.ensures.stops n more e)
    (says_any (faults []) (IsWithinMap n []) (λ found. inl refl) c.in_err-base.field-0.0
    (c.in_err-base.ensures.stops n [] e)) (stop.TooLong, inl refl))

pub returns-in_err-bytes-clause-stops : goal.returns-in_err-bytes-clause-stops
returns-in_err-bytes-clause-stops g c = λ n e.
    let p = err_from_is_err_and c.from_residual-in_err-bytes.result c.from_residual-in_err-bytes.ensures.1 in
    let seen = c.args.scripts.now in
    let script = c.args.header.now.script.now in
    let base = c.args.header.now.base.now in
    let len = is_len n c.args.header.now.length e c.in_ok-base.ensures.fits in
    let at = c.len-entry.ensures in
    rw (p.1, p.2) (stops_after g.R.Read.remaining c.args.reader.now c.args.reader.now []
    (Gave-none g.R.Read.remaining c.args.reader.now) refl c.bytes_of.new.reader
    c.args.calls.now c.args.calls.now (cut_off c.len-entry.result n) (Faults seen script base n)
    (IsWithinMap n) (IsWithinMap n) c.in_err-bytes.field-0.0 (λ is. omega arith)
    (λ text found cut. refused_at seen c.len-entry.result wrong.CutOff found at cut.1
    (cut_entry seen script base n (omega (arith, len, c.in_ok-base.ensures.fits)) c.in_ok-base.ensures.new
    c.in_ok-base.base c.in_ok-base.ensures.base text cut.0))
    (λ text found within. within)
    (rw len c.in_err-bytes.ensures.stops))

pub returns-in_err-map-clause-stops : goal.returns-in_err-map-clause-stops
returns-in_err-map-clause-stops g c = λ n e.
    let p = err_from_is_err_and c.from_residual-in_err-map.result c.from_residual-in_err-map.ensures.1 in
    let seen = c.args.scripts.now in
    let script = c.args.header.now.script.now in
    let base = c.args.header.now.base.now in
    let bytes = c.in_ok-bytes.bytes.items in
    let len = is_len n c.args.header.now.length e c.in_ok-base.ensures.fits in
    let at = c.len-entry.ensures in
    rw (p.1, p.2) (says_stops g.R.Read.remaining c.args.reader.now c.bytes_of.new.reader (bytes ++ 10 ∷ [])
    c.in_ok-bytes.ensures.gave c.in_ok-bytes.ensures.failures
    c.args.calls.now (Faults seen script base n) (IsWithinMap n) c.in_err-map.field-0.0
    (λ more. says_as (λ found. (fault : Fault) × (reading c.in_ok-base.base usual bytes ≡ Err fault)
    × (found ≡ refusal c.len-entry.result (wrong.Map fault)))
    (Faults seen script base n ((bytes ++ 10 ∷ []) ++ more))
    (λ found bad. refused_at seen c.len-entry.result (wrong.Map bad.0) found at bad.2
    (bad_map seen script base n (omega (arith, len, c.in_ok-base.ensures.fits)) c.in_ok-base.ensures.new
    c.in_ok-base.base c.in_ok-base.ensures.base bytes more bad.0 (c.in_ok-bytes.ensures.len ∙ sym len)
    bad.1))
    c.in_err-map.field-0.0 c.in_err-map.ensures.stops)
    (says_as (λ found. (fault : Fault) × (reading c.in_ok-base.base usual bytes ≡ Err fault)
    × (found ≡ refusal c.len-entry.result (wrong.Map fault))) (IsWithinMap n (bytes ++ 10 ∷ []))
    (λ found bad. inr (
      subst IsFaultOfMap (sym bad.2) tt,
      omega (
        arith,
        length-append bytes (10 ∷ []),
        c.in_ok-bytes.ensures.len,
        len,
      ),
    )) c.in_err-map.field-0.0 c.in_err-map.ensures.stops)
    (within_map n bytes (c.in_ok-bytes.ensures.len ∙ sym len)))

pub returns-clause-stops : goal.returns-clause-stops
returns-clause-stops g c = λ n e.
    let fault = Faults c.args.scripts.now c.args.header.now.script.now
    c.args.header.now.base.now n in
    IfErr-weaker c.add.result (λ s. s ≡ stop.Memory)
    (Stops g.R.Read.remaining c.args.reader.now c.bytes_of.new.reader c.args.calls.now fault
    (IsWithinMap n))
    (λ s is. memory_stops g.R.Read.remaining c.args.reader.now c.bytes_of.new.reader
    (c.in_ok-bytes.bytes.items ++ 10 ∷ []) c.in_ok-bytes.ensures.gave c.in_ok-bytes.ensures.failures
    c.args.calls.now fault (IsWithinMap n) s is
    (within_map n c.in_ok-bytes.bytes.items (c.in_ok-bytes.ensures.len
    ∙ sym (is_len n c.args.header.now.length e c.in_ok-base.ensures.fits))))
    c.add.ensures.memory
