-- A run from its parts.
use Rattle.std.proofs.Common.{◌≡◌, ◌∙◌, inl, inr, ℕ, Bool, true, false, List, ◌++◌}
use Rattle.std.proofs.Common.{Option, Result, Ok, Err, refl, arith}
use Rattle.std.proofs.Common.{length-append}
use Rattle.smap_io.specs.declared.device.Device.{Device}
use Rattle.smap_io.specs.Device.{device_failures, has_ended}
use Rattle.smap_io.specs.Streams.{ReadsTooMuch, RisesOr, Streams, fails_by, streams}
use Rattle.smap_io.proofs.ReadingLemmas.{Gave-then}
use Rattle.smap_tool.specs.Run.{is_read}
use Rattle.smap_tool.specs.declared.outcome.Outcome.{Outcome}
use Rattle.smap_tool.specs.declared.outcome.Outcome.TheVariants.{Done, Refused}
use Rattle.smap_tool.specs.declared.outcome.RunFault.{RunFault}
use Rattle.smap_tool.specs.declared.outcome.RunFault.TheVariants as run
use Rattle.smap_trace.specs.Streaming.{GivesBy, GivesPrefix, TranslatesBy, WritesPrefix, complete_of}
use Rattle.smap_trace.specs.Translation.{Fate, Script, translation_by}
use Rattle.smap_trace.specs.declared.error.TraceError.{TraceError}
use Rattle.smap_trace.specs.declared.error.TraceError.TheVariants as error
use Rattle.smap_trace.specs.declared.outcome.Counts.{Counts}
use Rattle.smap_tool.specs.Entries.{TakesEntries}
use Rattle.smap_tool.specs.Translate.{AfterTrace, Extent, GaveUp, IsBegun, IsBegunGiven, RunTranslates}
use Rattle.smap_tool.specs.Translate.{RunsTrace, RunsTranslate, TranslatesTrace, WritesFates, WritesGiven}
use Rattle.smap_tool.specs.Translate.{answer_of, begun, completed, entire}

module _ {R W : Type 0} (remaining : R → Option (List ℕ)) (contents : W → Option (List ℕ))
    (writes : List Script → Extent → List ℕ → List ℕ → Type 0)
    (ro rm rn : Device R) (wo wn : Device W)
    (scripts : List Script) (t : TakesEntries remaining ro rm scripts)
    (same : device_failures rm ≡ device_failures ro) where
  after : (extent : Extent) (trace text : List ℕ) → writes scripts extent trace text
      → AfterTrace writes extent (t.bytes ++ trace) text
  after extent trace text is = record { scripts = scripts; trace = trace; reads = t.are trace; is = is }

  told : (r : Result Outcome RunFault)
      → TranslatesTrace (writes scripts) (streams remaining rm rn contents wo wn) r
      → RunTranslates writes (streams remaining ro rn contents wo wn) r
  told (Ok Done) w = (
    t.bytes ++ w.0,
    w.1,
    Gave-then remaining ro rm rn t.bytes w.0 t.gave w.2,
    w.3,
    w.4,
    w.5,
    after entire w.0 w.1 w.6,
  )
  told (Ok Refused) w = absurd w
  told (Err run.TooLong) w = absurd w
  told (Err run.Read) w = record {
    input = t.bytes ++ w.0;
    text = w.1;
    read = Gave-then remaining ro rm rn t.bytes w.0 t.gave w.2;
    written = w.3;
    is_written = inr (after completed w.0 w.1 w.4);
  }
  told (Err run.Memory) w = record {
    input = t.bytes ++ w.0;
    text = w.1;
    read = Gave-then remaining ro rm rn t.bytes w.0 t.gave w.2;
    written = w.3;
    is_written = inr (after (begun (has_ended rn)) w.0 w.1 w.4);
  }
  told (Err run.Write) w = inl (record {
    input = t.bytes ++ w.0;
    text = w.1;
    read = Gave-then remaining ro rm rn t.bytes w.0 t.gave w.2;
    written = w.3;
    is_written = inr (after (begun (has_ended rn)) w.0 w.1 w.4);
  })

  tired : (b : Bool) → RisesOr (ReadsTooMuch (streams remaining rm rn contents wo wn)) b (device_failures rm)
      (device_failures rn)
      → RisesOr (ReadsTooMuch (streams remaining ro rn contents wo wn)) b (device_failures ro)
      (device_failures rn)
  tired true (inl one) = inl (omega (arith, one, same))
  tired true (inr e) =
      let sum = length-append t.bytes e.1.0 in
      inr (
        e.0 ∙ same,
        (
          t.bytes ++ e.1.0,
          Gave-then remaining ro rm rn t.bytes
              e.1.0 t.gave e.1.1,
          omega (arith, sum, e.1.2),
        ),
      )
  tired false e = e ∙ same

  -- a bundle without a fault
  pub whole_run : (r : Result Outcome RunFault)
      → RunsTrace (writes scripts) (streams remaining rm rn contents wo wn) r
      → RunsTranslate writes (streams remaining ro rn contents wo wn) r
  whole_run r w = record {
    translates = told r w.translates;
    reader_failures = tired (fails_by is_read r) w.reader_failures;
    writer_failures = w.writer_failures;
  }

-- ---- the trace

module _ (fates : List Script → List ℕ → Fate) (scripts : List Script) (s : Streams) where
  a_prefix : (w : WritesPrefix (fates scripts) s) → IsBegun (fates scripts) s.ended (w.before ++ w.piece)
      (translation_by (fates scripts) (complete_of w.before) ++ w.front)
  a_prefix w = record {
    before = w.before;
    piece = w.piece;
    front = w.front;
    rest = w.rest;
    trace_is = refl;
    within = w.within;
    is = refl;
    is_front = w.is_front;
  }

  pub by_fates : (r : Result Counts TraceError) → TranslatesBy (fates scripts) s r
      → RunsTrace (WritesFates fates scripts) s (answer_of r)
  by_fates (Ok counts) t = record {
    translates =
        let all = t.translates.0 in
        (all.bytes, _, all.read, all.at_end, t.translates.1, all.written, refl);
    reader_failures = t.reader_failures;
    writer_failures = t.writer_failures;
  }
  by_fates (Err error.Read) t = record {
    translates = (t.translates.bytes, _, t.translates.read, t.translates.written, refl);
    reader_failures = t.reader_failures;
    writer_failures = t.writer_failures;
  }
  by_fates (Err error.Write) t = record {
    translates = (_, _, t.translates.read, t.translates.written, a_prefix t.translates);
    reader_failures = t.reader_failures;
    writer_failures = t.writer_failures;
  }
  by_fates (Err error.Memory) t = record {
    translates = (_, _, t.translates.read, t.translates.written, a_prefix t.translates);
    reader_failures = t.reader_failures;
    writer_failures = t.writer_failures;
  }

module _ (may : List Script → List ℕ → Fate → Type 0) (scripts : List Script) (s : Streams) where
  a_part : (g : GivesPrefix (may scripts) s)
      → IsBegunGiven (may scripts) s.ended ((g.whole ++ g.line) ++ g.piece) (g.text ++ g.front)
  a_part g = record {
    before = g.whole ++ g.line;
    piece = g.piece;
    first = g.text;
    more = g.ended;
    left = g.left;
    front = g.front;
    rest = g.rest;
    counts = g.counts;
    last = g.last;
    trace_is = refl;
    within = g.within;
    before_given = record {
      whole = g.whole;
      line = g.line;
      counts = g.counts;
      trace_is = refl;
      is_whole = g.is_whole;
      free = g.free;
      give = g.give;
    };
    lines = g.lines;
    are_ended = g.are_ended;
    is = refl;
    give = g.give_front;
  }

  pub by_given : (r : Result Counts TraceError) → GivesBy (may scripts) s r
      → RunsTrace (WritesGiven may scripts) s (answer_of r)
  by_given (Ok counts) t = record {
    translates =
        let all = t.gives.0 in
        (all.bytes, all.text, all.read, all.at_end, t.gives.1, all.written, (counts, all.give));
    reader_failures = t.reader_failures;
    writer_failures = t.writer_failures;
  }
  by_given (Err error.Read) t = record {
    translates =
        let g = t.gives in (
          g.whole ++ g.line,
          g.text,
          g.read,
          g.written,
          record {
            whole = g.whole;
            line = g.line;
            counts = g.counts;
            trace_is = refl;
            is_whole = g.is_whole;
            free = g.free;
            give = g.give;
          },
        );
    reader_failures = t.reader_failures;
    writer_failures = t.writer_failures;
  }
  by_given (Err error.Write) t = record {
    translates = (_, _, t.gives.read, t.gives.written, a_part t.gives);
    reader_failures = t.reader_failures;
    writer_failures = t.writer_failures;
  }
  by_given (Err error.Memory) t = record {
    translates = (_, _, t.gives.read, t.gives.written, a_part t.gives);
    reader_failures = t.reader_failures;
    writer_failures = t.writer_failures;
  }
