-- Names that logs have, and files that are opened for these.
use Rattle.std.proofs.Common.{◌≡◌, ◌∙◌, ap, sym, subst, refl, ℕ, ◌<◌, inl, inr, Bool, true, false, cond, List}
use Rattle.std.proofs.Common.{[], ◌∷◌, ◌++◌, map, length, flat_map, bytes_eq, get_or, not, Bor, append_assoc}
use Rattle.std.proofs.Common.{append-nil, arith, filter, Option, Some, None, option_map}
use Rattle.std.specs.Prelude.{◌⊎◌}
use Rattle.std.specs.Io.KnownBytes.{Consumes, prepend_known}
use Rattle.std.specs.List.{Contains, list_any, onto_first, slice_split}
use Rattle.std.specs.Option.{unwrap_or}
use Rattle.std.proofs.lemmas.Grind.{flat_map-append}
use Rattle.std.proofs.lemmas.List.Elements.{All-contains, All-contains_itself, All-filter, All-weaker}
use Rattle.std.proofs.lemmas.List.Elements.{Contains-append_cases, Contains-append_left}
use Rattle.std.proofs.lemmas.List.Elements.{Contains-append_right, Contains-push_cases}
use Rattle.std.proofs.lemmas.List.Splits.{length-slice_split}
use Rattle.smap_map_files.specs.declared.wanted.Wanted.{Wanted}
use Rattle.smap_system.specs.Held.{GivesHeld, Held, IsHeld}
use Rattle.smap_map_finder.specs.ChosenView.{AreChosen, AreEnds, Choices, IsEndOf, KeepEnds}
use Rattle.smap_map_finder.specs.ChosenView.{no_choices}
use Rattle.smap_map_finder.proofs.ChosenLemmas.{mapped_among}
use Rattle.smap_map_finder.proofs.EndLemmas.{none_ended}
use Rattle.smap_logs.specs.Lines.{is_feed, open_line, whole_lines}
use Rattle.smap_trace.specs.Naming.{urls_of}
use Rattle.smap_io.specs.Lines.{IsWhole}
use Rattle.smap_trace.proofs.NamingLemmas.{urls_of-append}
use Rattle.smap_logs.specs.Logs.{IsAll}
use Rattle.smap_logs.specs.Naming.{AreIn, asked_in, frames_of, names_of, others_if, others_in, others_in_line}
use Rattle.smap_logs.specs.Naming.{others_of, without}
use Rattle.smap_trace_run.specs.Written.{AreAmong, AreEndsAmong, AreLogs, AreNamed, IsLog, IsOfLogs, asked_by}
use Rattle.smap_trace_run.specs.Written.{asked_for, asked_of}
use Rattle.smap_trace_run.specs.Alone.{as_read}
use Rattle.smap_logs.specs.declared.naming.Names.{Names}
use Rattle.smap_trace_run.specs.declared.tracing.Job.{Job}
use Rattle.smap_logs.proofs.LogLemmas.{handed_lines}
use Rattle.smap_trace_run.proofs.AloneLemmas.{as_read-append, as_read-whole}
use Rattle.smap_trace_run.proofs.NamedLemmas.{is_whole}
use Rattle.smap_trace_run.proofs.SettledLemmas.{none_chosen}

-- ---- the names of texts that are put together

onto_first-append : (b : ℕ) (parts more : List (List ℕ)) → 0 < length parts
    → onto_first b (parts ++ more) ≡ onto_first b parts ++ more
onto_first-append b [] more some = absurd (omega arith)
onto_first-append b (p ∷ parts) more some = refl

split-append : (front more : List ℕ)
    → slice_split is_feed (front ++ 10 ∷ more) ≡ slice_split is_feed front ++ slice_split is_feed more
split-append [] more = refl
split-append (b ∷ bs) more = go (is_feed b) (split-append bs more)
  where
    go : (t : Bool)
        → slice_split is_feed (bs ++ 10 ∷ more) ≡ slice_split is_feed bs ++ slice_split is_feed more
        → cond t ([] ∷ slice_split is_feed (bs ++ 10 ∷ more))
        (onto_first b (slice_split is_feed (bs ++ 10 ∷ more)))
        ≡ cond t ([] ∷ slice_split is_feed bs) (onto_first b (slice_split is_feed bs))
        ++ slice_split is_feed more
    go true e = ap (λ (ls : List (List ℕ)). [] ∷ ls) e
    go false e = ap (onto_first b) e ∙ onto_first-append b (slice_split is_feed bs) (slice_split is_feed more)
        (omega (arith, length-slice_split is_feed bs))

others_behind : (front more : List ℕ) → others_in (front ++ 10 ∷ more) ≡ others_in front ++ others_in more
others_behind front more = rw (split-append front more)
    (flat_map-append others_in_line (slice_split is_feed front) (slice_split is_feed more))

others_in-append : (whole more : List ℕ) → IsWhole whole
    → others_in (whole ++ more) ≡ others_in whole ++ others_in more
others_in-append whole more (inl e) = rw e refl
others_in-append whole more (inr p) = rw (p.1, append_assoc p.0 (10 ∷ []) more)
    (others_behind p.0 more ∙ ap (λ (ns : List (List ℕ)). ns ++ others_in more)
    (sym (others_behind p.0 [] ∙ append-nil (others_in p.0))))

in_both : (xs ys us vs : List (List ℕ)) → AreIn xs us → AreIn ys vs → AreIn (xs ++ ys) (us ++ vs)
in_both xs ys us vs one two n has = elim (Contains-append_cases xs ys n has) [
  | inl left ↦ Contains-append_left us vs n (one n left)
  | inr right ↦ Contains-append_right us vs n (two n right)
]

front_in : (anywhere : Bool) (us vs os ps : List (List ℕ))
    → AreIn (us ++ cond anywhere os []) ((us ++ vs) ++ cond anywhere (os ++ ps) [])
front_in true us vs os ps =
    in_both us os (us ++ vs) (os ++ ps) (Contains-append_left us vs) (Contains-append_left os ps)
front_in false us vs os ps = in_both us [] (us ++ vs) [] (Contains-append_left us vs) (λ n has. has)

back_in : (anywhere : Bool) (us vs os ps : List (List ℕ))
    → AreIn (vs ++ cond anywhere ps []) ((us ++ vs) ++ cond anywhere (os ++ ps) [])
back_in true us vs os ps =
    in_both vs ps (us ++ vs) (os ++ ps) (Contains-append_right us vs) (Contains-append_right os ps)
back_in false us vs os ps = in_both vs [] (us ++ vs) [] (Contains-append_right us vs) (λ n has. has)

asked_front : (anywhere : Bool) (whole more : List ℕ) → IsWhole whole
    → AreIn (asked_in anywhere whole) (asked_in anywhere (whole ++ more))
asked_front anywhere whole more is = rw (urls_of-append whole more is, others_in-append whole more is)
    (front_in anywhere (urls_of whole) (urls_of more) (others_in whole) (others_in more))

asked_back : (anywhere : Bool) (whole more : List ℕ) → IsWhole whole
    → AreIn (asked_in anywhere more) (asked_in anywhere (whole ++ more))
asked_back anywhere whole more is = rw (urls_of-append whole more is, others_in-append whole more is)
    (back_in anywhere (urls_of whole) (urls_of more) (others_in whole) (others_in more))

-- the same of what is looked for
sought_front : (job : Job) (whole more : List ℕ) → IsWhole whole
    → AreIn (asked_for job whole) (asked_for job (whole ++ more))
sought_front job whole more is = rw (as_read-append job.wanted whole more is)
    (asked_front job.anywhere (as_read job.wanted whole) (as_read job.wanted more)
    (as_read-whole job.wanted whole is))

sought_back : (job : Job) (whole more : List ℕ) → IsWhole whole
    → AreIn (asked_for job more) (asked_for job (whole ++ more))
sought_back job whole more is = rw (as_read-append job.wanted whole more is)
    (asked_back job.anywhere (as_read job.wanted whole) (as_read job.wanted more)
    (as_read-whole job.wanted whole is))

-- ---- a log that is read block by block

-- all that is left has such names alone
abbrev pub AreAllAmong : Job → Option (List (List ℕ)) → Option (List ℕ) → Type 0
AreAllAmong job asked left = (text : List ℕ) → IsAll left text → AreAmong asked (asked_for job text)

goes_on : (job : Job) (asked : Option (List (List ℕ))) (rest next : Option (List ℕ)) (part : List ℕ)
    → ((more : List ℕ) → next ≡ Some more → IsWhole part ⊎ (more ≡ [])) → Consumes rest next part
    → AreAllAmong job asked rest
    → AreAllAmong job asked next × AreAmong asked (asked_for job part)
goes_on job asked None next part apart taken all = (λ text is. all text tt, all part tt)
goes_on job asked (Some x) None part apart taken all = absurd taken
goes_on job asked (Some x) (Some y) part apart taken all = elim (apart y refl) [
  | inl whole ↦ (
    λ text is. subst (λ (t : List ℕ). AreAmong asked (asked_for job t)) is
        (λ n has. all (part ++ y) taken n (sought_back job part y whole n has)),
    λ n has. all (part ++ y) taken n (sought_front job part y whole n has),
  )
  | inr none ↦ let now : AreAmong asked (asked_for job part) =
      subst (λ (t : List ℕ). AreAmong asked (asked_for job t))
      (ap (λ (t : List ℕ). part ++ t) none ∙ append-nil part)
      (all (part ++ y) taken) in (
        λ text is. subst (λ (t : List ℕ). AreAmong asked (asked_for job t)) (sym none ∙ is)
            (λ n has. now n (sought_front job [] part (inl refl) n has)),
        now,
      )
]

nothing_left : (left : Option (List ℕ)) (more : List ℕ) → option_map (λ bytes. []) left ≡ Some more
    → more ≡ []
nothing_left None more is = absurd cc
nothing_left (Some bytes) more is = cc

parts_apart : (block : List ℕ) (left : Option (List ℕ)) (ended : Bool) (more : List ℕ)
    → cond ended (option_map (λ bytes. []) left) (prepend_known (open_line block) left) ≡ Some more
    → IsWhole (cond ended block (whole_lines block)) ⊎ (more ≡ [])
parts_apart block left true more is = inr (nothing_left left more is)
parts_apart block left false more is = inl (is_whole (whole_lines block) (handed_lines block false refl))

pub next_asked : (held : Held) (job : Job) (rest left : Option (List ℕ)) (block : List ℕ) (ended : Bool)
    → Consumes rest (cond ended (option_map (λ bytes. []) left) (prepend_known (open_line block) left))
    (cond ended block (whole_lines block)) → IsOfLogs held job rest
    → IsOfLogs held job (cond ended (option_map (λ bytes. []) left) (prepend_known (open_line block) left))
    × AreAmong (asked_by held job) (asked_for job (cond ended block (whole_lines block)))
next_asked held job rest left block ended taken all =
    goes_on job (asked_by held job) rest
    (cond ended (option_map (λ bytes. []) left) (prepend_known (open_line block) left))
    (cond ended block (whole_lines block)) (parts_apart block left ended) taken all

-- ---- names that are added

without_in : (anywhere : Bool) (known names : List (List ℕ))
    → AreIn (cond anywhere (without known names) []) (cond anywhere names [])
without_in true known names n has = All-contains (Contains names) (without known names) n
    (All-filter (λ name. not (list_any (bytes_eq name) known)) (Contains names) names
    (All-contains_itself names)) has
without_in false known names n has = has

pub lines_added : (anywhere : Bool) (asked : Option (List (List ℕ))) (before after : Names) (lines : List ℕ)
    → AreIn (frames_of after) (frames_of before ++ urls_of lines)
    → AreIn (others_of after) (others_of before ++ others_if anywhere (frames_of after) lines)
    → AreAmong asked (names_of before) → AreAmong asked (asked_in anywhere lines)
    → AreAmong asked (names_of after)
lines_added anywhere asked before after lines frames others old new n has =
    let known = frames_of after in
    let more = cond anywhere (others_in lines) [] in
    elim (Contains-append_cases known (others_of after) n has) [
      | inl frame ↦ elim (Contains-append_cases (frames_of before) (urls_of lines) n (frames n frame)) [
        | inl was ↦ old n (Contains-append_left (frames_of before) (others_of before) n was)
        | inr is ↦ new n (Contains-append_left (urls_of lines) more n is)
      ]
      | inr other ↦ elim (Contains-append_cases (others_of before) (others_if anywhere known lines) n
          (others n other)) [
            | inl was ↦ old n (Contains-append_right (frames_of before) (others_of before) n was)
            | inr is ↦ new n
                (Contains-append_right (urls_of lines) more n
                (without_in anywhere known (others_in lines) n is))
          ]
    ]

-- those of lines alone
pub names_of_lines : (anywhere : Bool) (asked : Option (List (List ℕ))) (names : Names) (lines : List ℕ)
    → AreIn (frames_of names) (urls_of lines)
    → AreIn (others_of names) (others_if anywhere (frames_of names) lines)
    → AreAmong asked (asked_in anywhere lines) → AreAmong asked (names_of names)
names_of_lines anywhere asked names lines frames others among n has =
    let known = frames_of names in
    among n (in_both known (others_of names) (urls_of lines) (cond anywhere (others_in lines) []) frames
    (λ m there. without_in anywhere known (others_in lines) m (others m there)) n has)

pub none_among : (asked : Option (List (List ℕ))) (names : List (List ℕ)) → names ≡ [] → AreAmong asked names
none_among asked names is n has =
    let there = subst (λ (ns : List (List ℕ)). Contains ns n) is has in absurd (omega (arith, there.1))

-- ---- what is asked of the logs of a run

is_held : (held : Held) (path : List ℕ) (left : Option (List ℕ)) (text : List ℕ) → GivesHeld held path left
    → IsAll left text → IsHeld held path text
is_held None path left text gives is = tt
is_held (Some held) path None text gives is = absurd gives.1
is_held (Some held) path (Some bytes) text gives is = gives.0 ∙ ap (λ (b : List ℕ). Some b) is

pub reads_log : (held : Held) (job : Job) (path : List ℕ) (left : Option (List ℕ)) → GivesHeld held path left
    → IsLog held job path → IsOfLogs held job left
reads_log held job path left gives log text is = log text (is_held held path left text gives is)

in_one : (f : List ℕ → List (List ℕ)) (paths : List (List ℕ)) (path name : List ℕ) → Contains paths path
    → Contains (f path) name → Contains (flat_map f paths) name
in_one f [] path name there has = absurd (omega (arith, there.1))
in_one f (p ∷ paths) path name there has = elim (Contains-append_cases (p ∷ []) paths path there) [
  | inl first ↦ Contains-append_left (f p) (flat_map f paths) name
      (subst (λ (q : List ℕ). Contains (f q) name) (sym (only p path first)) has)
  | inr later ↦ Contains-append_right (f p) (flat_map f paths) name (in_one f paths path name later has)
]
  where
    only : (p path : List ℕ) → Contains (p ∷ []) path → p ≡ path
    only p path first = elim (Contains-push_cases [] p path first) [
      | inl none ↦ absurd (omega (arith, none.1))
      | inr is ↦ is
    ]

path_asked : (held : Held) (job : Job) (paths : List (List ℕ)) (path text : List ℕ)
    → Contains paths path
    → IsHeld held path text → AreAmong (asked_of held job paths) (asked_for job text)
path_asked None job paths path text there is name has = tt
path_asked (Some held) job [] path text there is name has = tt
path_asked (Some held) job (p ∷ paths) path text there is name has =
    in_one (λ (q : List ℕ). asked_for job (unwrap_or (held q) [])) (p ∷ paths) path name there
    (subst (λ (o : Option (List ℕ)). Contains (asked_for job (unwrap_or o [])) name) (sym is) has)

pub own_logs : (held : Held) (job : Job) (paths : List (Bor (List ℕ))) → paths ≡ job.wanted.logs.items
    → AreLogs held job paths
own_logs held job paths is k d lt text holds =
    let now = λ (p : Bor (List ℕ)). p.now in
    path_asked held job (map now job.wanted.logs.items) (get_or paths k d).now text
    (subst (λ (ps : List (Bor (List ℕ))). Contains (map now ps) (get_or paths k d).now) is
    (mapped_among now paths k d lt)) holds

no_paths : (held : Held) (job : Job) (names : List (List ℕ)) → AreAmong (asked_of held job []) names
no_paths None job names n has = tt
no_paths (Some held) job names n has = tt

-- nothing is said of standard input
pub input_asked : (held : Held) (job : Job) (names : List (List ℕ)) → job.wanted.logs.items ≡ []
    → AreAmong (asked_by held job) names
input_asked held job names is = subst (λ (ps : List (Bor (List ℕ))). AreAmong (asked_of held job
    (map (λ (p : Bor (List ℕ)). p.now) ps)) names) (sym is) (no_paths held job names)

-- ---- files that are opened

pub ends_kept : (held : Held) (w : Wanted) (asked : Option (List (List ℕ))) (names : List (List ℕ))
    (old new : Choices) → KeepEnds held w names old new → AreAmong asked names → AreEndsAmong held w asked old
    → AreEndsAmong held w asked new
ends_kept held w None names old new keep among all = tt
ends_kept held w (Some asked) names old new keep among all = keep asked
    (All-weaker (Contains names) (Contains asked) among names (All-contains_itself names)) all

-- names that stand behind a list of references
pub names_kept : (held : Held) (w : Wanted) (names : List (List ℕ)) (old new : Choices)
    (slice items : List (Bor (List ℕ))) → slice ≡ items → map (λ n. n.now) items ≡ names
    → KeepEnds held w (map (λ n. n.now) slice) old new → KeepEnds held w names old new
names_kept held w names old new slice items same is keep =
    subst (λ (ns : List (List ℕ)). KeepEnds held w ns old new)
    (ap (map (λ (n : Bor (List ℕ)). n.now)) same ∙ is) keep

first_kept : (held : Held) (w : Wanted) (names others : List (List ℕ)) (old new : Choices)
    → KeepEnds held w names old new → KeepEnds held w (names ++ others) old new
first_kept held w names others old new keep asked all before = keep asked
    (All-weaker (Contains names) (Contains asked)
    (λ n has. All-contains (Contains asked) (names ++ others) n all (Contains-append_left names others n has))
    names (All-contains_itself names)) before

pub first_names_kept : (held : Held) (w : Wanted) (names others : List (List ℕ)) (old new : Choices)
    (slice items : List (Bor (List ℕ))) → slice ≡ items → map (λ n. n.now) items ≡ names
    → KeepEnds held w (map (λ n. n.now) slice) old new → KeepEnds held w (names ++ others) old new
first_names_kept held w names others old new slice items same is keep =
    first_kept held w names others old new (names_kept held w names old new slice items same is keep)

pub both_kept : (held : Held) (w : Wanted) (names others : List (List ℕ)) (old middle new : Choices)
    → KeepEnds held w names old middle → KeepEnds held w others middle new
    → KeepEnds held w (names ++ others) old new
both_kept held w names others old middle new keep then asked all before = then asked
    (All-weaker (Contains others) (Contains asked)
    (λ n has. All-contains (Contains asked) (names ++ others) n all
    (Contains-append_right names others n has)) others
    (All-contains_itself others)) (first_kept held w names others old middle keep asked all before)

-- not all of these names were looked for
pub fewer_kept : (held : Held) (w : Wanted) (sought : List ℕ → Bool) (names : List (List ℕ))
    (old new : Choices) → KeepEnds held w (filter sought names) old new → KeepEnds held w names old new
fewer_kept held w sought names old new keep asked all =
    keep asked (All-filter sought (Contains asked) names all)

pub same_ends : (held : Held) (w : Wanted) (asked : Option (List (List ℕ))) (old new : Choices)
    → new.ends ≡ old.ends → AreEndsAmong held w asked old → AreEndsAmong held w asked new
same_ends held w None old new is all = tt
same_ends held w (Some asked) old new is all = subst (AreEnds (IsEndOf held w (Contains asked))) (sym is) all

-- the maps of names of the logs were opened
pub names_opened : (held : Held) (job : Job) (names : List (List ℕ)) (old between new : Choices)
    → AreNamed held job old → between ≡ old → AreChosen held job.wanted new
    → KeepEnds held job.wanted names between new
    → AreAmong (asked_by held job) names → AreNamed held job new
names_opened held job names old between new was same named keep among = record {
  named = named;
  ends = ends_kept held job.wanted (asked_by held job) names old new
      (subst (λ (o : Choices). KeepEnds held job.wanted names o new) same keep) among
      was.ends;
}

-- nothing was opened
pub none_opened : (held : Held) (job : Job) (old new : Choices) → AreChosen held job.wanted new
    → new.ends ≡ old.ends → AreNamed held job old → AreNamed held job new
none_opened held job old new named is was = record {
  named = named;
  ends = same_ends held job.wanted (asked_by held job) old new is was.ends;
}

no_ends_among : (held : Held) (w : Wanted) (asked : Option (List (List ℕ)))
    → AreEndsAmong held w asked no_choices
no_ends_among held w None = tt
no_ends_among held w (Some asked) = none_ended (IsEndOf held w (Contains asked))

-- before any name
pub none_named : (held : Held) (job : Job) (chosen : Choices) → chosen ≡ no_choices
    → AreNamed held job chosen
none_named held job chosen is = record {
  named = none_chosen held job.wanted chosen is;
  ends = subst (AreEndsAmong held job.wanted (asked_by held job)) (sym is)
      (no_ends_among held job.wanted (asked_by held job));
}
