-- What the values of the code stand for.
use Rattle.std.specs.Prelude.{ℕ, ◌^◌, ◌-◌, Bool, List, length, min, count_by}
pub use Rattle.smap_record.specs.Scripts.{script_in, scripts_in}
use Rattle.smap_trace.specs.Translation.{Fate, Script, dropped, kept, translated}
use Rattle.smap_trace.specs.Translation.{fate, is_dropped, is_translated, lines_of}
use Rattle.smap_trace.specs.declared.outcome.LineOutcome.{LineOutcome}
use Rattle.smap_trace.specs.declared.outcome.LineOutcome.TheVariants.{Kept, Translated, Dropped}
use Rattle.smap_trace.specs.declared.outcome.Counts.{Counts}

-- what became of a line, as the code has it
abbrev pub outcome_of : Fate → LineOutcome
outcome_of kept = Kept
outcome_of (translated text) = Translated
outcome_of dropped = Dropped

-- the number, capped at the greatest `u64`
abbrev pub at_most_u64 : ℕ → ℕ
at_most_u64 n = min n (2 ^ 64 - 1)

-- The number of lines of a trace, and of those that are translated and left out, each capped at the
-- greatest `u64`, where each line becomes this.
abbrev pub counts_by : (List ℕ → Fate) → List ℕ → Counts
counts_by fates trace = record {
  lines = at_most_u64 (length (lines_of trace));
  translated = at_most_u64 (count_by (λ line. is_translated (fates line)) (lines_of trace));
  dropped = at_most_u64 (count_by (λ line. is_dropped (fates line)) (lines_of trace));
}

-- The same where positions are found in frames.
abbrev pub counts_of : List Script → Bool → List ℕ → Counts
counts_of scripts hide trace = counts_by (fate scripts hide) trace
