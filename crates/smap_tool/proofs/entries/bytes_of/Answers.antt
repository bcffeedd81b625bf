use Rattle.std.proofs.Common.{◌≢◌, ◌+◌, ◌<◌, ◌≤◌, [], ◌++◌, ℕ, List, Some, length, inr, arith, refl, rules}
use Rattle.std.specs.Prelude.{slice_get}
use Rattle.smap_io.specs.Reading.{IsFewerThan}
use Rattle.smap_io.proofs.ReadingLemmas.{Gave-none}
use Rattle.smap_io.specs.Device.{has_ended}
use Rattle.smap_tool.specs.declared.fault.EntryFault.TheVariants as wrong
use Rattle.smap_tool.specs.Entries.{cut_off}
use Rattle.smap_tool.specs.Reading.{MayFollow}
use Rattle.smap_tool.specs.Reach.{IsWithinMap}
use Rattle.smap_tool.proofs.EntryLemmas.{no_feed_there, no_map, past_the_end, within_part}
use Rattle.smap_tool.proofs.StopLemmas.{gave_up_stops, refusal_stops}
use Rattle.smap_tool.proofs.entries.bytes_of.Goals as goal

pub returns-in-Err-clause-stops : goal.returns-in-Err-clause-stops
returns-in-Err-clause-stops g c =
    gave_up_stops g.R.Read.remaining c.args.reader.now c.args.reader.now c.read_up_to.new.reader []
    (IsFewerThan (c.args.len + 1)) c.args.calls.now c.args.calls.now c.in-Err.fault c.unread.result
    (cut_off c.args.entry c.args.len) (IsWithinMap c.args.len)
    (Gave-none g.R.Read.remaining c.args.reader.now) refl (omega arith)
    (λ more few. within_part c.args.len more few) c.in-Err.ensures.reads c.unread.ensures

pub returns-then-len-clause-stops : goal.returns-then-len-clause-stops
returns-then-len-clause-stops g c =
    let bytes = c.in-Ok.bytes.items in
    let settled : (more : List ℕ) → MayFollow (has_ended c.read_up_to.new.reader) more
    → slice_get (bytes ++ more) c.args.len ≢ Some 10 = λ more may. elim c.then-len.branch [
      | goal.then-len-via-then-len w ↦
          let short : length bytes ≤ c.args.len = search rules in
          past_the_end bytes more c.args.len short
          (may (c.in-Ok.ensures.reads.short (omega (arith, short))).0)
      | goal.then-len-via-else-len+then-index-ne10 w ↦
          let within : c.args.len < length bytes = search rules in
          no_feed_there bytes more c.args.len w.index.result.now within w.index.ensures w.if-index-ne10.true
    ] in
    refusal_stops g.R.Read.remaining c.args.reader.now c.read_up_to.new.reader bytes
    c.in-Ok.ensures.reads.gave c.in-Ok.ensures.reads.failures c.args.calls.now
    (record { entry = c.args.entry; fault = wrong.CutOff }) (cut_off c.args.entry c.args.len)
    (IsWithinMap c.args.len) c.refused.result c.refused.ensures
    (λ more may. (no_map c.args.len (bytes ++ more) (settled more may), refl))
    (inr (tt, omega (arith, c.in-Ok.ensures.reads.within)))
