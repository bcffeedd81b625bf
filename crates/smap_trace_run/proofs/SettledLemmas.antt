-- Names that have their maps, or are left without one.
use Rattle.std.proofs.Common.{◌≡◌, ◌∙◌, sym, subst, arith, ℕ, List, [], ◌∷◌, Bor, Option, None, Some, Result}
use Rattle.std.proofs.Common.{Ok, Err, OnOk, map, true}
use Rattle.std.specs.Prelude.{⊤}
use Rattle.std.specs.List.{All, Contains}
use Rattle.std.proofs.lemmas.List.Elements.{All-contains, All-map, All-nil}
use Rattle.smap_system.specs.Held.{GivesHeld, Held}
use Rattle.smap_map_files.specs.declared.wanted.Wanted.{Wanted}
use Rattle.smap_map_finder.specs.ChosenView.{AreChosen, Choices, Grows, HasNamedMap, IsFor}
use Rattle.smap_map_finder.specs.ChosenView.{IsLeftName}
use Rattle.smap_map_finder.specs.ChosenView.{IsSettledIn, no_choices}
use Rattle.smap_map_finder.proofs.GrowthLemmas.{settled_grown}
use Rattle.smap_trace.specs.Naming.{urls_of}
use Rattle.smap_logs.specs.Naming.{AreIn, frames_of}
use Rattle.smap_trace_run.specs.Alone.{as_read}
use Rattle.smap_trace_run.specs.Named.{HaveNames}
use Rattle.smap_trace_run.specs.Written.{AreSettled, AreSettledLogs, IsBegun, IsNameOf, IsTracedLog}
use Rattle.smap_trace_run.specs.Written.{IsTracedTextIn}
use Rattle.smap_logs.specs.declared.naming.Names.{Names}
use Rattle.smap_trace_run.specs.declared.tracing.Job.{Job}
use Rattle.smap_trace_run.proofs.PartsLemmas.{one_log, text_weaker}
use Rattle.smap_logs.specs.Logs.{IsAll}

-- before any name
pub none_chosen : (held : Held) (wanted : Wanted) (choices : Choices) → choices ≡ no_choices
    → AreChosen held wanted choices
none_chosen held wanted choices is = subst (AreChosen held wanted) (sym is) (record {
  scripts = All-nil (HasNamedMap held wanted);
  openings = All-nil (IsFor held wanted 0);
  left = All-nil (IsLeftName held wanted no_choices);
})

-- names were settled, and then others
pub names_settled : {A E : Type 0} (held : Held) (w : Wanted) (before after : Choices)
    (frames : List (Bor (List ℕ))) (names : List (List ℕ)) (result : Result A E)
    → map (λ (n : Bor (List ℕ)). n.now) frames ≡ names
    → All (λ (n : Bor (List ℕ)). IsSettledIn held w true before n.now) frames → Grows before after
    → OnOk result (AreSettled held w after (Contains names))
names_settled held w before after frames names (Ok a) is all grows = record {
  each = λ name there. settled_grown held w true before after name grows
      (All-contains (IsSettledIn held w true before) names name
      (subst (All (IsSettledIn held w true before)) is
      (All-map (IsSettledIn held w true before) (λ (n : Bor (List ℕ)). n.now) frames all)) there);
}
names_settled held w before after frames names (Err e) is all grows = tt

pub lines_settled : {A E : Type 0} (held : Held) (w : Wanted) (choices : Choices)
    (names urls : List (List ℕ)) (result : Result A E) → AreIn urls names
    → OnOk result (AreSettled held w choices (Contains names))
    → OnOk result (AreSettled held w choices (Contains urls))
lines_settled held w choices names urls (Ok a) are settled =
    record { each = λ name there. settled.each name (are name there) }
lines_settled held w choices names urls (Err e) are settled = tt

-- What was named of logs is settled.
pub settled_logs : (held : Held) (job : Job) (choices : Choices) (paths : List (Bor (List ℕ))) (names : Names)
    → HaveNames held job.wanted paths names → AreSettled held job.wanted choices (Contains (frames_of names))
    → AreSettledLogs held job.wanted choices paths
settled_logs None job choices paths names have settled k d lt =
    record { each = λ name known. absurd known }
settled_logs (Some held) job choices paths names have settled k d lt =
    let has = have k d lt in
    record {
      each = λ name known.
          let same : known.0 ≡ has.text =
          subst (λ (l : Option (List ℕ)). IsAll l has.text) (sym has.gives.0 ∙ known.1) has.all in
          settled.each name
          (has.frames name
          (subst (λ (t : List ℕ). Contains (urls_of (as_read job.wanted t)) name) same known.2));
    }

pub first_settled : (held : Held) (job : Job) (choices : Choices) (paths : List (Bor (List ℕ)))
    (path : Bor (List ℕ))
    → paths ≡ path ∷ [] → AreSettledLogs held job.wanted choices paths
    → AreSettled held job.wanted choices (IsNameOf held job.wanted path.now)
first_settled held job choices paths path is all =
    subst (λ (ps : List (Bor (List ℕ))). AreSettledLogs held job.wanted choices ps) is all 0 path
    (omega arith)

-- a log that is read once
pub followed_log : (held : Held) (job : Job) (worst : ℕ) (path : List ℕ)
    (left before begun after : Option (List ℕ))
    → IsBegun before begun → GivesHeld held path left
    → IsTracedTextIn held job worst (λ name. ⊤) left begun after
    → IsTracedLog held job worst path before after
followed_log held job worst path left before begun after is gives traced =
    one_log held job worst path left before begun after is gives
    (λ plain. text_weaker held job worst worst (λ name. ⊤) (IsNameOf held job.wanted path) left begun after
    (omega arith) (λ name known. tt)
    (traced plain))
