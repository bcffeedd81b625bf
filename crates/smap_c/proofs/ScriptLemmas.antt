-- The translation of a whole trace.
use Rattle.std.proofs.Common.{◌≡◌, ℕ, List, [], Some, Ok, refl}
use Rattle.std.proofs.lemmas.List.{append-nil}
use Rattle.smap_io.specs.Streams.{Streams}
use Rattle.smap_trace.specs.Giving.{Give, no_counts}
use Rattle.smap_trace.specs.Streaming.{GivesBy, TranslatesBy}
use Rattle.smap_trace.specs.Translation.{Fate, lines_of}
use Rattle.smap_trace.specs.declared.outcome.Counts.{Counts}
use Rattle.smap_c.specs.Scripts.{reported_trace}

pub whole : (fates : List ℕ → Fate) (s : Streams) (trace rest out : List ℕ) (counts : Counts)
    → TranslatesBy fates s (Ok counts) → s.read_before ≡ Some trace → s.read_after ≡ Some rest
    → s.written_before ≡ Some [] → s.written_after ≡ Some out
    → ◌≡◌ {A = List ℕ × Counts} (out, counts) (reported_trace fates trace)
whole fates s trace rest out counts t before after empty full =
    let a = t.translates.0 in
    let ended = rw after at a.at_end in
    let all = rw (before, after, ended, append-nil a.bytes) at a.read in
    let written = rw (empty, full) at a.written in
    rw (all, written, a.counts_are) refl

-- with names
pub whole_given : (may : List ℕ → Fate → Type 0) (s : Streams) (trace rest out : List ℕ) (counts : Counts)
    → GivesBy may s (Ok counts) → s.read_before ≡ Some trace → s.read_after ≡ Some rest
    → s.written_before ≡ Some [] → s.written_after ≡ Some out
    → Give may (lines_of trace) out no_counts counts
whole_given may s trace rest out counts t before after empty full =
    let a = t.gives.0 in
    let ended = rw after at a.at_end in
    let all = rw (before, after, ended, append-nil a.bytes) at a.read in
    let written = rw (empty, full) at a.written in
    rw (all, written) a.give
