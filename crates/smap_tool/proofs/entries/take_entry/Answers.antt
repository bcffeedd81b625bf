use Rattle.std.proofs.Common.{arith, ◌≡◌, ◌∙◌, ◌++◌, [], Err, inl, inr, sym, refl}
use Rattle.std.proofs.lemmas.Result.{on_ok_weaker}
use Rattle.smap_io.specs.Device.{has_ended}
use Rattle.smap_io.proofs.ReadingLemmas.{Gave-none}
use Rattle.smap_tool.specs.Bundle.{entry_with}
use Rattle.smap_tool.specs.Entries.{IsFaultAt}
use Rattle.smap_tool.specs.declared.fault.EntryFault.TheVariants as wrong
use Rattle.smap_tool.specs.Reach.{IsWithinEntry, IsWithinMap}
use Rattle.smap_tool.specs.Stopping.{Stops}
use Rattle.smap_tool.proofs.EntryLemmas.{entry_taken, fault_of_entry, no_entry}
use Rattle.smap_tool.proofs.StopLemmas.{refusal_stops, stops_after}
use Rattle.std.proofs.lemmas.Result.{IfErr-weaker}
use Rattle.smap_tool.proofs.entries.take_entry.Goals as goal

pub returns-in_default-clause-stops : goal.returns-in_default-clause-stops
returns-in_default-clause-stops g c =
    let seen = c.args.scripts.now in
    let at = c.len.ensures in
    refusal_stops g.R.Read.remaining c.args.reader.now c.args.reader.now []
    (Gave-none g.R.Read.remaining c.args.reader.now) refl
    c.args.calls.now (record { entry = c.len.result; fault = wrong.Header })
    (λ more. IsFaultAt seen (c.args.line.now ++ more))
    (IsWithinEntry c.args.line.now) c.refused.result c.refused.ensures
    (λ more may. rw at (no_entry seen (has_ended c.args.reader.now) c.args.line.now more c.requires.line may
    c.requires.no_trace c.in_default.ensures)) (inl refl)

pub returns-clause-takes : goal.returns-clause-takes
returns-clause-takes g c = on_ok_weaker c.take_map.result
    (entry_taken g.R.Read.remaining c.args.reader.now c.take_map.new.reader c.args.calls.now
    c.take_map.new.calls c.args.line.now c.in-Some.header.script.now c.in-Some.header.base.now
    c.in-Some.ensures.0 c.in-Some.header.length
    c.args.scripts.now c.take_map.new.scripts c.in-Some.ensures.1
    c.in-Some.ensures.2) c.take_map.ensures.takes

pub returns-clause-stops : goal.returns-clause-stops
returns-clause-stops g c =
    let seen = c.args.scripts.now in
    let script = c.in-Some.header.script.now in
    let base = c.in-Some.header.base.now in
    let n = c.in-Some.ensures.0 in
    IfErr-weaker c.take_map.result (Stops g.R.Read.remaining c.args.reader.now c.take_map.new.reader
    c.args.calls.now
    (λ more found. entry_with seen (record { script = script; base = base; bytes = n }) more ≡ Err found)
    (IsWithinMap n))
    (Stops g.R.Read.remaining c.args.reader.now c.take_map.new.reader c.args.calls.now
    (λ more. IsFaultAt seen (c.args.line.now ++ more)) (IsWithinEntry c.args.line.now))
    (λ s stops. stops_after g.R.Read.remaining c.args.reader.now c.args.reader.now []
    (Gave-none g.R.Read.remaining c.args.reader.now) refl c.take_map.new.reader
    c.args.calls.now c.args.calls.now
    (λ more found. entry_with seen (record { script = script; base = base; bytes = n }) more ≡ Err found)
    (λ more. IsFaultAt seen (c.args.line.now ++ more)) (IsWithinMap n) (IsWithinEntry c.args.line.now) s
    (λ is. omega arith)
    (λ text found fault. fault_of_entry seen c.args.line.now script base n text found c.in-Some.ensures.1
    fault)
    (λ text found within. inr (script, base, n, c.in-Some.ensures.1, within)) stops)
    (c.take_map.ensures.stops n c.in-Some.ensures.2)
