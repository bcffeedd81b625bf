-- Scripts whose maps are open have maps that the arguments name.
use Rattle.std.proofs.Common.{◌≡◌, ◌∙◌, ap, arith, sym, ℕ, ◌+◌, ◌<◌, List, [], ◌∷◌, ◌++◌, length, map, take}
use Rattle.std.proofs.Common.{Bor}
use Rattle.std.proofs.Common.{Option, option_map, Result, Ok, Err, OnOk, get_or, subst, refl, Some}
use Rattle.std.specs.Prelude.{⊤}
use Rattle.std.specs.List.{Contains}
use Rattle.smap_trace.specs.Naming.{urls_of}
use Rattle.std.proofs.lemmas.List.{map-append, take_more}
use Rattle.smap_system.specs.Held.{GivesHeld, HasSize, Held}
use Rattle.smap_map_finder.specs.ChosenView.{Choices}
use Rattle.smap_trace_run.specs.declared.tracing.Job.{Job}
use Rattle.smap_trace_run.proofs.PartsLemmas.{one_log, one_part}
use Rattle.smap_trace_run.specs.Written.{AreNamed, AreTraced, AreSettled, IsNameOf}
use Rattle.smap_trace_run.specs.Written.{IsBegun, IsTracedFront, IsTracedIn, IsTracedLog, IsTracedTextIn}
use Rattle.smap_trace_run.specs.Written.{IsTranslatedIn}
use Rattle.smap_logs.specs.Logs.{IsAll}
use Rattle.smap_trace_run.specs.Alone.{as_read}

pub traced : (held : Held) (job : Job) (chosen : Choices) (Sought : List ℕ → Type 0)
    (left before after : Option (List ℕ)) → AreNamed held job chosen
    → ((text : List ℕ) → IsAll left text
    → AreSettled held job.wanted chosen
    (λ name. Contains (urls_of (as_read job.wanted text)) name × Sought name))
    → IsTranslatedIn chosen job left before after
    → IsTracedIn held job chosen.worst Sought left before after
traced held job chosen Sought left before after all settled is = λ plain.
    let by = is plain in
    let names = settled by.text by.all in
    record {
      scripts = chosen.scripts;
      have_maps = all.named.scripts;
      translated = by;
      choices = chosen;
      given = λ name of sought. names.each name (of, sought);
      ends = all.ends;
      within = omega arith;
    }

of_log : (held : Held) (job : Job) (choices : Choices) (path text : List ℕ)
    → AreSettled held job.wanted choices (IsNameOf held job.wanted path)
    → AreSettled held job.wanted choices
    (λ name. Contains (urls_of (as_read job.wanted text)) name × IsNameOf held job.wanted path name)
of_log held job choices path text settled =
    record { each = λ name both. settled.each name both.1 }

pub traced_log : (held : Held) (job : Job) (chosen : Choices) (path : List ℕ)
    (left before begun after : Option (List ℕ)) → AreNamed held job chosen
    → AreSettled held job.wanted chosen (IsNameOf held job.wanted path)
    → IsBegun before begun → GivesHeld held path left
    → IsTranslatedIn chosen job left begun after
    → IsTracedLog held job chosen.worst path before after
traced_log held job chosen path left before begun after all settled is gives translated =
    one_log held job chosen.worst path left before begun after is gives
    (λ plain. one_part held job chosen.worst (IsNameOf held job.wanted path) left begun after
    (traced held job chosen (IsNameOf held job.wanted path) left begun after all
    (λ text is. of_log held job chosen path text settled)
    translated plain))

pub traced_front : {A E : Type 0} (held : Held) (job : Job) (chosen : Choices) (path : List ℕ)
    (size : ℕ) (left front before after : Option (List ℕ)) (result : Result A E) → AreNamed held job chosen
    → AreSettled held job.wanted chosen (IsNameOf held job.wanted path) → HasSize held path size
    → front ≡ option_map (take size) left
    → OnOk result (IsTranslatedIn chosen job front before after)
    → OnOk result (IsTracedFront held job chosen.worst path left before after)
traced_front held job chosen path size left front before after (Ok a) all settled has is translated = (
  size,
  has,
  subst (λ (f : Option (List ℕ)).
      IsTracedTextIn held job chosen.worst (IsNameOf held job.wanted path) f before after) is
      (λ plain. one_part held job chosen.worst (IsNameOf held job.wanted path) front before after
      (traced held job chosen (IsNameOf held job.wanted path) front before after all
      (λ text is. of_log held job chosen path text settled)
      translated plain)),
)
traced_front held job chosen path size left front before after (Err e) all settled has is translated = tt

pub traced_lines : (held : Held) (job : Job) (chosen : Choices) (lines : List ℕ)
    (before after : Option (List ℕ)) → AreNamed held job chosen
    → AreSettled held job.wanted chosen (Contains (urls_of (as_read job.wanted lines)))
    → IsTranslatedIn chosen job (Some lines) before after
    → IsTracedIn held job chosen.worst (λ name. ⊤) (Some lines) before after
traced_lines held job chosen lines before after all settled translated =
    traced held job chosen (λ name. ⊤) (Some lines) before after all (λ text is. record {
      each = λ name both. settled.each name
          (subst (λ (t : List ℕ). Contains (urls_of (as_read job.wanted t)) name) (sym is) both.0);
    }) translated

pub one_more : (held : Held) (job : Job) (worst : ℕ) (paths : List (List ℕ)) (path : List ℕ)
    (before middle after : Option (List ℕ)) → AreTraced held job worst paths before middle
    → IsTracedLog held job worst path middle after
    → AreTraced held job worst (paths ++ path ∷ []) before after
one_more held job worst [] path before middle after all one =
    (after, subst (λ (b : Option (List ℕ)). IsTracedLog held job worst path b after) all one, refl)
one_more held job worst (p ∷ paths) path before middle after all one =
    (all.0, all.1, one_more held job worst paths path all.0 middle after all.2 one)

pub one_more_path : (held : Held) (job : Job) (worst : ℕ) (paths : List (Bor (List ℕ))) (i : ℕ)
    (d : Bor (List ℕ)) → i < length paths → (before middle after : Option (List ℕ))
    → AreTraced held job worst (map (λ (p : Bor (List ℕ)). p.now) (take i paths)) before middle
    → IsTracedLog held job worst (get_or paths i d).now middle after
    → AreTraced held job worst (map (λ (p : Bor (List ℕ)). p.now) (take (i + 1) paths)) before after
one_more_path held job worst paths i d lt before middle after all one =
    let now = λ (p : Bor (List ℕ)). p.now in
    subst (λ (ps : List (List ℕ)). AreTraced held job worst ps before after)
    (sym (ap (map now) (take_more paths i d lt) ∙ map-append now (take i paths) (get_or paths i d ∷ [])))
    (one_more held job worst (map now (take i paths)) (get_or paths i d).now before middle after all one)
