-- What a run answers to its words.
use Rattle.std.proofs.Common.{◌≡◌, ◌∙◌, ◌==◌, [], ◌∷◌, Bor, false, true, not, length, map, subst, sym, arith}
use Rattle.std.proofs.Common.{ℕ, Bool, List, Option, None, Some, Result, Ok, Err, IfOk, OnOk, codes, inl, inr}
use Rattle.std.specs.Prelude.{IsOk, cond, option_map}
use Rattle.std.proofs.Common.{refl}
use Rattle.std.proofs.lemmas.Bool.Decides.{nat_tests}
use Rattle.std.proofs.lemmas.List.{nil_from_length}
use Rattle.std.specs.Prelude.{⊤, if◌then◌else◌}
use Rattle.smap_system.specs.Held.{Held}
use Rattle.smap_system.specs.Status.{status_after, status_of}
use Rattle.smap_system.specs.Tree.{Told}
use Rattle.smap_system.specs.declared.stop.Stop.{Stop}
use Rattle.smap_map_files.specs.Positions.{has_positions, log_in}
use Rattle.smap_map_files.specs.declared.wanted.Wanted.{Wanted}
use Rattle.smap_trace_run.specs.Running.{IsSameRun, Running}
use Rattle.smap_trace_run.specs.Runs.{AreFound, IsAnswered, IsJobOf, IsTracedAsked, IsTracedJob, IsTracedRun}
use Rattle.smap_trace_run.specs.Runs.{AreTracedWords, IsToTranslate, IsTracedInput, IsTracedLines}
use Rattle.smap_trace_run.specs.Runs.{IsTracedTo, IsTranslating}
use Rattle.smap_trace_run.specs.Written.{AreTraced, IsTracedFront, IsTracedTextIn}
use Rattle.smap_trace_run.specs.declared.program.TheConstants.{STDIN}
use Rattle.smap_trace_run.specs.declared.program.InputKind.{InputKind}
use Rattle.smap_trace_run.specs.declared.program.InputKind.TheVariants.{Closed, File, Other, Terminal}
use Rattle.smap_trace_run.specs.declared.tracing.Job.{Job}
use Rattle.smap_command_line.specs.Lookups.{text}
use Rattle.smap_command_line.specs.Trace.{IsAsked}
use Rattle.smap_command_line.specs.declared.trace.words.Asked.{Asked}
use Rattle.smap_command_line.specs.declared.trace.words.TraceWords.{TraceWords}

-- standard input that is a file, as far as it went
pub to_its_size : (held : Held) (job : Job) (worst : ℕ) (kind : InputKind)
    (left before after : Option (List ℕ))
    → kind ≡ File → IsTracedFront held job worst STDIN.now left before after
    → IsTracedInput held job worst kind left before after
to_its_size held job worst kind left before after is traced =
    subst (λ (k : InputKind). IsTracedInput held job worst k left before after) (sym is) (inl traced)

-- and standard input to its end
pub to_its_end : (held : Held) (job : Job) (worst : ℕ) (kind : InputKind)
    (left before after : Option (List ℕ))
    → IsTracedTextIn held job worst (λ name. ⊤) left before after
    → IsTracedInput held job worst kind left before after
to_its_end held job worst File left before after traced = inr traced
to_its_end held job worst Closed left before after traced = traced
to_its_end held job worst Terminal left before after traced = traced
to_its_end held job worst Other left before after traced = traced

none_mapped : {A B : Type 0} (f : A → B) (found : Option A) → option_map f found ≡ None → found ≡ None
none_mapped f None is = refl
none_mapped f (Some a) is = absurd cc

-- what the words ask for, by its job
pub asked_traced : {E : Type 0} (told : Told) (held : Held) (asked : TraceWords) (job : Job)
    (kind : InputKind) (left before after : Option (List ℕ)) (result : Result ℕ E)
    → AreFound told held asked job.wanted → IsJobOf asked job
    → IfOk result (λ status. IsTranslating job → IsTracedTo status held job kind left before after)
    → IfOk result (λ status. text asked.options (codes "output") ≡ None
    → IsToTranslate asked.options → (w : Wanted) × AreFound told held asked w
    × IsTracedAsked status held w asked kind left before after)
asked_traced told held asked job kind left before after (Ok a) found of traced = λ none off. (
  job.wanted,
  found,
  record {
    job = job;
    wanted_is = refl;
    is_job = of;
    traced = traced (record {
      list = of.list ∙ off.list;
      explain = none_mapped (λ (p : Bor (List ℕ)). p.now) job.explain (of.explain ∙ off.explain);
    });
  },
)
asked_traced told held asked job kind left before after (Err e) found of traced = tt

pub answered : {A E : Type 0} (told : Told) (held : Held) (help version : List ℕ) (words : List (List ℕ))
    (asked : Asked)
    (kind : InputKind) (left before after : Option (List ℕ)) (result : Result A E) → IsAsked words asked
    → OnOk result (IsAnswered told held help version asked kind left before after)
    → OnOk result ((a : Asked) × IsAsked words a × IsAnswered told held help version a kind left before after)
answered told held help version words asked kind left before after (Ok a) is done = (asked, is, done)
answered told held help version words asked kind left before after (Err e) is done = tt

some_logs : (held : Held) (job : Job) (worst : ℕ) (paths : List (Bor (List ℕ))) (kind : InputKind)
    (left before after : Option (List ℕ)) → (length paths == 0) ≡ false
    → AreTraced held job worst (map (λ (p : Bor (List ℕ)). p.now) paths) before after
    → IsTracedRun held job worst (map (λ (p : Bor (List ℕ)). p.now) paths) kind left before after
some_logs held job worst [] kind left before after some all = absurd cc
some_logs held job worst (path ∷ paths) kind left before after some all = all

pub logs_traced : (held : Held) (job : Job) (worst : ℕ) (paths : List (Bor (List ℕ))) (kind : InputKind)
    (left before after : Option (List ℕ)) → paths ≡ job.wanted.logs.items → (length paths == 0) ≡ false
    → AreTraced held job worst (map (λ (p : Bor (List ℕ)). p.now) paths) before after
    → IsTracedJob held job worst kind left before after
logs_traced held job worst paths kind left before after is some all =
    subst (λ (ps : List (Bor (List ℕ))).
    IsTracedRun held job worst (map (λ (p : Bor (List ℕ)). p.now) ps) kind left before after)
    is (some_logs held job worst paths kind left before after some all)

-- there is none
pub no_items : (job : Job) (paths : List (Bor (List ℕ))) → paths ≡ job.wanted.logs.items
    → (length paths == 0) ≡ true → job.wanted.logs.items ≡ []
no_items job paths is none = sym is ∙ nil_from_length paths (grind (arith, nat_tests, none))

no_logs : (held : Held) (job : Job) (worst : ℕ) (paths : List (Bor (List ℕ))) (kind : InputKind)
    (left before after : Option (List ℕ)) → paths ≡ []
    → IsTracedLines held job worst kind left before after
    → IsTracedRun held job worst (map (λ (p : Bor (List ℕ)). p.now) paths) kind left before after
no_logs held job worst paths kind left before after is traced =
    subst (λ (ps : List (Bor (List ℕ))).
    IsTracedRun held job worst (map (λ (p : Bor (List ℕ)). p.now) ps) kind left before after) (sym is) traced

pub lines_traced : (held : Held) (job : Job) (worst : ℕ) (kind : InputKind)
    (left before after : Option (List ℕ))
    → job.wanted.logs.items ≡ [] → IsTracedLines held job worst kind left before after
    → IsTracedJob held job worst kind left before after
lines_traced held job worst kind left before after is traced =
    no_logs held job worst job.wanted.logs.items kind left before after is traced

-- standard input, where there are no positions
pub no_words : (held : Held) (job : Job) (worst : ℕ) (kind : InputKind) (left before after : Option (List ℕ))
    → has_positions job.wanted ≡ false → IsTracedInput held job worst kind left before after
    → IsTracedLines held job worst kind left before after
no_words held job worst kind left before after none traced =
    subst (λ (ws : List (Bor (List ℕ))). AreTracedWords held job worst ws kind left before after)
    (sym (nil_from_length job.wanted.positions.words.items (grind (arith, nat_tests, none)))) traced

by_words : (held : Held) (job : Job) (worst : ℕ) (words : List (Bor (List ℕ))) (kind : InputKind)
    (left before after : Option (List ℕ)) → not (length words == 0) ≡ true
    → IsTracedTextIn held job worst (λ name. ⊤) (Some (log_in job.wanted.positions)) before after
    → AreTracedWords held job worst words kind left before after
by_words held job worst [] kind left before after some traced = absurd cc
by_words held job worst (word ∷ words) kind left before after some traced = traced

-- and positions, where there are some
pub some_words : (held : Held) (job : Job) (worst : ℕ) (kind : InputKind)
    (left before after : Option (List ℕ))
    → has_positions job.wanted ≡ true
    → IsTracedTextIn held job worst (λ name. ⊤) (Some (log_in job.wanted.positions)) before after
    → IsTracedLines held job worst kind left before after
some_words held job worst kind left before after some traced =
    by_words held job worst job.wanted.positions.words.items kind left before after some traced

true_false : (b : Bool) → b ≡ true → b ≡ false → ⊥
true_false b is off = cc

some_none : {A : Type 0} (found : Option A) (a : A) → found ≡ Some a → found ≡ None → ⊥
some_none found a is none = cc

-- a list is no translation
pub not_listed : {E : Type 0} (job : Job) (P : ℕ → Type 0) (result : Result ℕ E) → job.list ≡ true
    → IfOk result (λ status. IsTranslating job → P status)
not_listed job P (Ok status) is = λ off. absurd (true_false job.list is off.list)
not_listed job P (Err e) is = tt

-- nor is an explanation
pub not_explained : {E : Type 0} (job : Job) (p : Bor (List ℕ)) (P : ℕ → Type 0) (result : Result ℕ E)
    → job.explain ≡ Some p → IfOk result (λ status. IsTranslating job → P status)
not_explained job p P (Ok status) is = λ off. absurd (some_none job.explain p is off.explain)
not_explained job p P (Err e) is = tt

pub on_ok : {A E : Type 0} (P : Type 0) (result : Result A E) → P → OnOk result P
on_ok P (Ok a) p = p
on_ok P (Err e) p = tt

by_test : (n : ℕ) (b : Bool) → (n == 0) ≡ b → (if b then 1 else n) ≡ 0 → ⊥
by_test n true e is = absurd (omega (arith, is))
by_test n false e is = absurd (grind (arith, nat_tests, e, is))

never_zero : (n : ℕ) → (if n == 0 then 1 else n) ≡ 0 → ⊥
never_zero n is = by_test n (n == 0) refl is

-- a run whose status is 0 has come to its end
pub finished : {A : Type 0} (answer : Result A Stop) (P : Type 0) (status : ℕ) → status ≡ status_after answer
    → OnOk answer P → status ≡ 0 → P
finished (Ok a) P status is done none = done
finished (Err stop) P status is done none = absurd (never_zero (status_of stop) (sym is ∙ none))

-- and that of one that stopped is never 0
pub stopped : (stop : Stop) (P : Type 0) (status : ℕ)
    → status ≡ (if status_of stop == 0 then 1 else status_of stop) → status ≡ 0 → P
stopped stop P status is none = absurd (never_zero (status_of stop) (sym is ∙ none))

-- what holds of a status holds of it where that is asked for
pub if_asked : {E : Type 0} (Asked : Type 0) (P : ℕ → Type 0) (result : Result ℕ E) → IfOk result P
    → IfOk result (λ status. Asked → P status)
if_asked Asked P (Ok status) is = λ asked. is
if_asked Asked P (Err e) is = tt

not_ok : (A : Type 0) {E : Type 0} (error : E) → IsOk {T = A} (Err error) → ⊥
not_ok A error is = let no : false ≡ true = is in absurd cc

-- a run that came to its end, whose logs were translated
ended_job : {A E F : Type 0} (held : Held) (job : Job) (worst : ℕ) (kind : InputKind)
    (left before after : Option (List ℕ)) (answer : Result A E) (result : Result ℕ F)
    → OnOk answer (IsTracedJob held job worst kind left before after)
    → IfOk result (λ status. IsOk answer × status ≡ cond job.how.skip 0 worst)
    → IfOk result (λ status. IsTracedTo status held job kind left before after)
ended_job held job worst kind left before after (Ok a) (Ok status) traced ended = record {
  worst = worst;
  traced = traced;
  status_is = ended.1;
}
ended_job {A = A} held job worst kind left before after (Err e) (Ok status) traced ended =
    absurd (not_ok A e ended.0)
ended_job held job worst kind left before after answer (Err f) traced ended = tt

-- the same of one that had read its maps before
pub ended_run : {D A E F : Type 0} (of : D → Held) (first next last : Running D) (kind : InputKind)
    (left before after : Option (List ℕ)) (answer : Result A E) (result : Result ℕ F)
    → IsSameRun first next → IsSameRun next last
    → OnOk answer (IsTracedJob (of next.disk) next.job last.chosen.worst kind left before after)
    → IfOk result (λ status. IsOk answer × status ≡ cond last.job.how.skip 0 last.chosen.worst)
    → IfOk result (λ status. IsTracedTo status (of first.disk) first.job kind left before after)
ended_run of first next last kind left before after answer result one two traced ended =
    ended_job (of first.disk) first.job last.chosen.worst kind left before after answer result
    (rw (one.disk, one.job) at traced) (rw (two.job ∙ one.job) at ended)
