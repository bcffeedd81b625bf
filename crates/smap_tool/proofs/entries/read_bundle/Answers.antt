use Rattle.std.proofs.Common.{◌≡◌, ◌∙◌, ◌++◌, ap, append_assoc, length-append, sym, subst, arith, rules}
use Rattle.std.proofs.lemmas.Result.{err_from_is_err_and}
use Rattle.smap_io.specs.Device.{has_ended}
use Rattle.smap_io.specs.Reading.{Gave, IsWithinLine}
use Rattle.smap_io.specs.Limits.{most_calls}
use Rattle.smap_io.proofs.CallLemmas.{in_time_or_ended, in_time_then}
use Rattle.smap_io.proofs.ReadingLemmas.{Gave-then}
use Rattle.smap_record.specs.Scripts.{AreDistinct}
use Rattle.smap_tool.specs.Header.{longest_header, trace_line}
use Rattle.smap_tool.specs.Bundle.{HasFault, entry_in}
use Rattle.smap_tool.specs.Entries.{IsFaultAt}
use Rattle.smap_tool.specs.Reach.{IsWithinEntry, ReadsNoMore}
use Rattle.smap_tool.proofs.BundleLemmas.{entries_more, faulty_bundle, whole_bundle}
use Rattle.smap_tool.proofs.EntryLemmas.{AreEntries, distinct_more, ends_within, line_read, no_more}
use Rattle.smap_tool.proofs.StopLemmas.{gave_up_stops, stops_after}
use Rattle.smap_tool.proofs.entries.read_bundle.Goals as goal

pub returns-in-Err-clause-stops : goal.returns-in-Err-clause-stops
returns-in-Err-clause-stops g c =
    let reads = c.entries.invariant.reads in
    gave_up_stops g.R.Read.remaining c.args.reader.now c.entries.reader c.read_line.new.reader reads.0
    (IsWithinLine longest_header) most_calls c.entries.calls c.in-Err.fault c.unread.result
    HasFault ReadsNoMore reads.1 c.entries.invariant.failures reads.3
    (λ line within. ends_within c.entries.scripts reads.0 line reads.2
    within) c.in-Err.ensures.reads c.unread.ensures

pub returns-then-eq-clause-takes : goal.returns-then-eq-clause-takes
returns-then-eq-clause-takes g c =
    let reads = c.entries.invariant.reads in
    let is : c.in-Ok.line.items ≡ trace_line = search rules in
    let line = line_read g.R.Read.remaining c.entries.reader c.read_line.new.reader c.in-Ok.line.items
    c.entries.invariant.not_ended c.in-Ok.ensures.reads in
    record {
      bytes = reads.0 ++ trace_line;
      gave = Gave-then g.R.Read.remaining c.args.reader.now c.entries.reader c.read_line.new.reader reads.0
          trace_line reads.1 (subst (Gave g.R.Read.remaining c.entries.reader c.read_line.new.reader)
          is line.1);
      are = λ trace. whole_bundle c.new.result reads.0 trace
          (subst (AreEntries reads.0) (sym c.new.ensures) reads.2);
      distinct = subst AreDistinct (sym c.new.ensures) c.entries.invariant.distinct;
    }

pub returns-in_err-take_entry-clause-stops : goal.returns-in_err-take_entry-clause-stops
returns-in_err-take_entry-clause-stops g c =
    let p = err_from_is_err_and c.from_residual.result c.from_residual.ensures.1 in
    let reads = c.entries.invariant.reads in
    let line = c.in-Ok.line.items in
    let seen = c.entries.scripts in
    let was = line_read g.R.Read.remaining c.entries.reader c.read_line.new.reader line
    c.entries.invariant.not_ended c.in-Ok.ensures.reads in
    let stops = rw c.as_slice-in-entries-2.ensures.value at c.in_err-take_entry.ensures.stops in
    rw (p.1, p.2) (stops_after g.R.Read.remaining c.args.reader.now c.read_line.new.reader (reads.0 ++ line)
    (Gave-then g.R.Read.remaining c.args.reader.now c.entries.reader c.read_line.new.reader reads.0 line
    reads.1 was.1) (was.2 ∙ c.entries.invariant.failures)
    c.take_entry.new.reader most_calls c.read_line.new.calls (λ more. IsFaultAt seen (line ++ more))
    HasFault
    (IsWithinEntry line) ReadsNoMore c.in_err-take_entry.field-0.0
    (λ is. let paid = c.in-Ok.ensures.calls.paid (c.in_err-take_entry.ensures.open is) in
    omega (arith, length-append reads.0 line, reads.3, paid))
    (λ text found fault. faulty_bundle seen reads.0 line text found reads.2 fault)
    (λ text found within. no_more (has_ended c.read_line.new.reader) seen reads.0 line text found reads.2
    was.0 within) stops)

pub entries-preserved : goal.entries-preserved
entries-preserved g c =
    let reads = c.entries.invariant.reads in
    let line = c.in-Ok.line.items in
    let seen = c.entries.scripts in
    let was = line_read g.R.Read.remaining c.entries.reader c.read_line.new.reader line
    c.entries.invariant.not_ended c.in-Ok.ensures.reads in
    let t = rw c.as_slice-in-entries-2.ensures.value at c.in_ok-take_entry.ensures.takes in
    let entry = line ++ t.bytes in
    let paid = c.in-Ok.ensures.calls.paid c.in_ok-take_entry.ensures.open in
    record {
      reads = (
        reads.0 ++ entry,
        Gave-then g.R.Read.remaining c.args.reader.now c.entries.reader c.take_entry.new.reader reads.0 entry
            reads.1
            (Gave-then g.R.Read.remaining c.entries.reader c.read_line.new.reader c.take_entry.new.reader line
            t.bytes was.1 t.gave),
        subst (AreEntries (reads.0 ++ entry)) (sym t.added)
            (entries_more seen reads.0 entry t.script reads.2 (λ more.
            ap (entry_in seen) (append_assoc line t.bytes more) ∙ t.entry more)),
        omega (arith, length-append reads.0 entry, length-append line t.bytes, reads.3, paid, t.calls.paid),
      );
      distinct = subst AreDistinct (sym t.added)
          (distinct_more seen t.script c.entries.invariant.distinct t.new_script);
      failures = c.in_ok-take_entry.ensures.failures ∙ was.2 ∙ c.entries.invariant.failures;
      not_ended = c.in_ok-take_entry.ensures.not_ended;
      in_time = in_time_then c.args.reader.now c.entries.reader c.take_entry.new.reader
          c.entries.invariant.still c.entries.invariant.in_time (in_time_or_ended c.entries.reader
          c.read_line.new.reader c.take_entry.new.reader c.in-Ok.ensures.still c.read_line.ensures.in_time
          c.take_entry.ensures.idle c.take_entry.ensures.in_time);
      spends = search rules;
      still = search rules;
    }
