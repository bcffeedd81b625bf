-- What was read and written, over a whole run.
use Rattle.std.proofs.Common.{◌≡◌, ◌∙◌, ◌⊎◌, ℕ, ◌+◌, ◌<◌, ◌≤◌, Bool, true, false, List, [], ◌++◌, inl, inr}
use Rattle.std.proofs.Common.{take, drop, length, Option, refl, sym, append_assoc, arith, subst}
use Rattle.std.proofs.Common.{append-nil, Result, Ok, Err}
use Rattle.std.proofs.lemmas.List.{take-append-drop}
use Rattle.smap_io.specs.declared.device.Device.{Device}
use Rattle.smap_io.specs.Device.{has_ended}
use Rattle.smap_io.specs.Lines.{HasNoFeed, IsWhole, TakesPiece}
use Rattle.smap_io.specs.Reading.{Gave, IsAtItsEnd}
use Rattle.smap_io.specs.Streams.{Streams, streams}
use Rattle.smap_io.specs.Writing.{Took, TookPrefix}
use Rattle.smap_io.proofs.LineLemmas.{ReadsLines-more, complete_lines, complete_of-append}
use Rattle.smap_io.proofs.ReadingLemmas.{Gave-no_more, Gave-none, Gave-then}
use Rattle.smap_io.proofs.WritingLemmas.{Took-none, Took-then}
use Rattle.smap_trace.specs.declared.outcome.Counts.{Counts}
use Rattle.smap_trace.specs.declared.error.TraceError.{TraceError}
use Rattle.smap_trace.specs.declared.error.TraceError.TheVariants as error
use Rattle.smap_trace.specs.declared.streaming.Output.{Output}
use Rattle.smap_trace.specs.declared.kept.Kept.{Kept}
use Rattle.smap_trace.specs.Giving.{Give, no_counts}
use Rattle.smap_trace.specs.Pieces.{EndsTrace, IsFate, TakesLine}
use Rattle.smap_trace.specs.Streaming.{Gives, GivesAll, GivesBy, GivesPrefix, GivesWhole, Translates}
use Rattle.smap_trace.specs.Streaming.{TranslatesBy, WritesAll, WritesComplete, WritesPrefix, complete_of}
use Rattle.smap_trace.specs.Streaming.{most_of_one_read, read_lines}
use Rattle.smap_trace.specs.Translation.{Fate, lines_of, translation_by}
use Rattle.smap_trace.proofs.CountLemmas.{counted_all}
use Rattle.smap_trace.proofs.LineLemmas.{counts_by_fates, give_whole, lines_given, text_by}
use Rattle.smap_trace.proofs.LineLemmas.{translation-append}
use Rattle.smap_trace.proofs.SoFarLemmas.{SoFar}

module _ {R W : Type 0} (remaining : R → Option (List ℕ)) (contents : W → Option (List ℕ))
    (may : List ℕ → Fate → Type 0) (ro rm rn : Device R) (wo wm wn : Device W) (calls : ℕ)
    (line : List ℕ) (c : Counts) (s : SoFar remaining contents may ro rm wo wm calls line c) where
  -- nothing more was read, and what the whole lines give was written
  pub all_so_far : Gave remaining rm rn [] → GivesWhole may (streams remaining ro rn contents wo wm)
  all_so_far none = record {
    whole = s.whole;
    line = line;
    text = s.text;
    counts = c;
    read = Gave-no_more remaining ro rm rn (s.whole ++ line) s.lines.gave none;
    is_whole = s.lines.is_whole;
    free = s.lines.free;
    written = s.written;
    give = s.give;
  }

  -- a piece was read, and of what the lines give that it ended a prefix was written
  pub front_written : (piece ended left text : List ℕ) (last : Counts) → length piece ≤ most_of_one_read
      → Gave remaining rm rn piece → line ++ piece ≡ ended ++ left
      → IsWhole ended ⊎ ((has_ended rn ≡ true) × (left ≡ [])) → Give may (lines_of ended) text c last
      → TookPrefix contents wm wn text → GivesPrefix may (streams remaining ro rn contents wo wn)
  front_written piece ended left text last within given is are give went = record {
    whole = s.whole;
    line = line;
    text = s.text;
    counts = c;
    piece = piece;
    ended = ended;
    left = left;
    front = take went.0 text;
    rest = drop went.0 text;
    last = last;
    read = Gave-then remaining ro rm rn (s.whole ++ line) piece s.lines.gave given;
    is_whole = s.lines.is_whole;
    free = s.lines.free;
    within = within;
    lines = is;
    are_ended = are;
    written = Took-then contents wo wm wn s.text (take went.0 text) s.written went.1;
    give = s.give;
    give_front = rw (take-append-drop went.0 text) give;
  }

  -- no line of it was translated
  pub none_written : (piece : List ℕ) → length piece ≤ most_of_one_read → Gave remaining rm rn piece
      → wn ≡ wm → GivesPrefix may (streams remaining ro rn contents wo wn)
  none_written piece within given same = front_written piece [] (line ++ piece) [] c within given refl
      (inl (inl refl)) (refl, refl)
      (subst (λ w. TookPrefix contents wm w []) (sym same) (0, Took-none contents wm))

  module _ (holds : Kept → Type 0) (piece rest : List ℕ) (old new : Output)
      (given : Gave remaining rm rn piece) (empty : old.text.items ≡ []) (same : old.counts ≡ c)
      (kept : holds old.kept) (t : TakesPiece (TakesLine may holds) line piece rest old new) where
    took : holds new.kept × Give may (lines_of t.whole) new.text.items c new.counts
    took = rw same at (lines_given may holds t.whole old new empty t.taken kept)

    -- what its lines give was written in part
    pub front_with : length piece ≤ most_of_one_read → TookPrefix contents wm wn new.text.items
        → GivesPrefix may (streams remaining ro rn contents wo wn)
    front_with within went = front_written piece t.whole rest new.text.items new.counts within given t.bytes
        (inl t.is_whole) took.1 went

    -- or all
    pub after_piece : 0 < length piece → HasNoFeed rest → Took contents wm wn new.text.items
        → holds new.kept × SoFar remaining contents may ro rn wo wn (calls + 1) rest new.counts
    after_piece some free went = (
      took.0,
      record {
        whole = s.whole ++ t.whole;
        text = s.text ++ new.text.items;
        lines = ReadsLines-more remaining (TakesLine may holds) ro rm rn calls line s.whole piece rest old new
            s.lines given some free t;
        written = Took-then contents wo wm wn s.text new.text.items s.written went;
        give = give_whole may s.whole t.whole s.text new.text.items no_counts c new.counts s.lines.is_whole
            s.give took.1;
      },
    )

  -- at the end of the input: what the last line gives was written, or a prefix of it
  pub at_the_end : (r : Result Counts TraceError) → Gave remaining rm rn [] → IsAtItsEnd remaining rn
      → EndsTrace may contents wm wn line c r → Gives may (streams remaining ro rn contents wo wn) r
  at_the_end (Ok after) none end e = (
    record {
      bytes = s.whole ++ line;
      text = s.text ++ e.0;
      read = Gave-no_more remaining ro rm rn (s.whole ++ line) s.lines.gave none;
      at_end = end.1;
      written = Took-then contents wo wm wn s.text e.0 s.written e.1;
      give = give_whole may s.whole line s.text e.0 no_counts c after s.lines.is_whole s.give e.2;
    },
    end.0,
  )
  at_the_end (Err error.Read) none end e = absurd e
  at_the_end (Err error.Write) none end e = front_written [] line [] e.0 e.1 (omega arith) none refl
      (inr (end.0, refl)) e.3 e.2
  at_the_end (Err error.Memory) none end e = none_written [] (omega arith) none e

-- ---- where each line becomes what a function says

module _ (fates : List ℕ → Fate) where
  -- a prefix of what was read gives a prefix of what is written
  output_front : (whole more : List ℕ) (ended : Bool) → IsWhole whole
      → translation_by fates (read_lines ended (whole ++ more))
      ≡ translation_by fates whole ++ translation_by fates (read_lines ended more)
  output_front whole more true is = translation-append fates whole more is
  output_front whole more false is =
      rw (complete_of-append whole more is) (translation-append fates whole (complete_of more) is)

  of_all : (s : Streams) (counts : Counts) → GivesAll (IsFate fates) s counts → WritesAll fates s counts
  of_all s counts g = record {
    bytes = g.bytes;
    read = g.read;
    at_end = g.at_end;
    written = rw (← text_by fates (lines_of g.bytes) g.text no_counts counts g.give) g.written;
    counts_are = counts_by_fates fates (lines_of g.bytes) g.text no_counts counts g.give
        ∙ counted_all fates g.bytes;
  }

  of_whole : (s : Streams) → GivesWhole (IsFate fates) s → WritesComplete fates s
  of_whole s g = record {
    bytes = g.whole ++ g.line;
    read = g.read;
    written = rw (
      complete_lines g.whole g.line g.is_whole g.free,
      ← text_by fates (lines_of g.whole) g.text no_counts g.counts g.give,
    ) g.written;
  }

  -- what is left gives some text more
  left_gives : (s : Streams) (g : GivesPrefix (IsFate fates) s) → (more : List ℕ)
      × (translation_by fates (read_lines s.ended (g.line ++ g.piece)) ≡ (g.front ++ g.rest) ++ more)
  left_gives s g =
      let text = text_by fates (lines_of g.ended) (g.front ++ g.rest) g.counts g.last g.give_front in
      elim g.are_ended [
        | inl is ↦ (
          translation_by fates (read_lines s.ended g.left),
          rw (g.lines, text) (output_front g.ended g.left s.ended is),
        )
        | inr all ↦ (
          [],
          rw (g.lines, all.1, append-nil g.ended, all.0, text)
              (sym (append-nil (translation_by fates g.ended))),
        )
      ]

  of_prefix : (s : Streams) → GivesPrefix (IsFate fates) s → WritesPrefix fates s
  of_prefix s g =
      let more = left_gives s g in
      let complete = complete_lines g.whole g.line g.is_whole g.free in
      let text = text_by fates (lines_of g.whole) g.text no_counts g.counts g.give in
      record {
        before = g.whole ++ g.line;
        piece = g.piece;
        front = g.front;
        rest = g.rest ++ more.0;
        read = g.read;
        within = g.within;
        written = rw (complete, ← text) g.written;
        is_front = rw (
          complete,
          append_assoc g.whole g.line g.piece,
          ← append_assoc g.front g.rest more.0,
          ← more.1,
        ) (output_front g.whole (g.line ++ g.piece) s.ended g.is_whole);
      }

  pub by_function : (s : Streams) (r : Result Counts TraceError) → GivesBy (IsFate fates) s r
      → TranslatesBy fates s r
  by_function s r g = record {
    translates = go r g.gives;
    reader_failures = g.reader_failures;
    writer_failures = g.writer_failures;
  }
    where
      go : (r : Result Counts TraceError) → Gives (IsFate fates) s r → Translates fates s r
      go (Ok counts) g = (of_all s counts g.0, g.1)
      go (Err error.Read) g = of_whole s g
      go (Err error.Write) g = of_prefix s g
      go (Err error.Memory) g = of_prefix s g

-- where nothing was read and nothing written
pub nothing : {R W : Type 0} (remaining : R → Option (List ℕ)) (contents : W → Option (List ℕ))
    (fates : List ℕ → Fate) (r : Device R) (w : Device W)
    → WritesPrefix fates (streams remaining r r contents w w)
nothing remaining contents fates r w = record {
  before = [];
  piece = [];
  front = [];
  rest = translation_by fates (read_lines (has_ended r) []);
  read = Gave-none remaining r;
  within = omega arith;
  written = Took-none contents w;
  is_front = refl;
}
