-- Logs that are looked through for names block by block.
use Rattle.std.proofs.Common.{◌≡◌, ◌∙◌, ap, sym, subst, ℕ, ◌+◌, ◌-◌, ◌<◌, Bool, false, List, [], ◌∷◌, ◌++◌}
use Rattle.std.proofs.Common.{length, take, get_or, Bor, Option, inl, inr, refl, arith, add-one}
use Rattle.std.specs.Io.{IsEmptyOrEndsWith}
use Rattle.std.specs.Io.KnownBytes.{Consumes, IsAtEnd}
use Rattle.std.proofs.KnownBytes.{Consumes-nil, Consumes-trans}
use Rattle.std.proofs.lemmas.Bool.{cases_lt}
use Rattle.std.proofs.lemmas.List.{get_or_append_left, get_or_default, take_more}
use Rattle.std.proofs.lemmas.List.Elements.{Contains-append_left, Contains-append_right}
use Rattle.std.proofs.Math.Seq.{get_or-append_seam, take-length}
use Rattle.smap_system.specs.Held.{GivesHeld, HasSize, Held}
use Rattle.smap_trace.specs.Naming.{urls_of}
use Rattle.smap_io.specs.Lines.{IsWhole}
use Rattle.smap_trace.proofs.NamingLemmas.{urls_of-append}
use Rattle.smap_io.proofs.LineLemmas.{both_whole}
use Rattle.smap_logs.specs.Naming.{AreSame, frames_of}
use Rattle.smap_logs.specs.declared.naming.Names.{Names}
use Rattle.smap_logs.proofs.NamingLemmas.{same_more, same_none}
use Rattle.smap_logs.proofs.LogLemmas.{all_taken}
use Rattle.smap_map_files.specs.declared.wanted.Wanted.{Wanted}
use Rattle.smap_trace_run.specs.Alone.{as_read}
use Rattle.smap_trace_run.specs.Named.{AddsNames, HasNamesOf}
use Rattle.smap_trace_run.proofs.AloneLemmas.{as_read-append, as_read-whole, no_lines}

pub is_whole : (text : List ℕ) → IsEmptyOrEndsWith text 10 → IsWhole text
is_whole [] ends = inl refl
is_whole (b ∷ bs) ends =
    let t = b ∷ bs in
    let n = length bs in
    let at : length t - 1 ≡ n = omega arith in
    let last : get_or t n 0 ≡ 10 = ap (λ k. get_or t k 0) (sym at) ∙ ends (omega arith) in
    inr (
      take n t,
      sym (take-length t) ∙ ap (λ k. take k t) (sym (add-one n)) ∙ take_more t n 0 (omega arith)
          ∙ ap (λ x. take n t ++ x ∷ []) last,
    )

-- the names of what was handed out of a log were added
pub record NamedSoFar (wanted : Wanted) (ended : Bool) (left rest : Option (List ℕ))
    (before now : List (List ℕ)) : Type 0 where
  pub text : List ℕ
  pub whole : ended ≡ false → IsWhole text
  pub taken : Consumes left rest text
  pub frames : AreSame now (before ++ urls_of (as_read wanted text))

pub none_named : (wanted : Wanted) (ended : Bool) (left rest : Option (List ℕ)) (before : List (List ℕ))
    → rest ≡ left → NamedSoFar wanted ended left rest before before
none_named wanted ended left rest before is = record {
  text = [];
  whole = λ going. inl refl;
  taken = subst (λ (r : Option (List ℕ)). Consumes left r []) (sym is) (Consumes-nil left);
  frames = rw (no_lines wanted) (same_none before);
}

pub more_named : (wanted : Wanted) (was ended : Bool) (left rest next : Option (List ℕ))
    (before middle after : List (List ℕ)) (part : List ℕ) → NamedSoFar wanted was left rest before middle
    → was ≡ false → (ended ≡ false → IsEmptyOrEndsWith part 10) → Consumes rest next part
    → AreSame after (middle ++ urls_of (as_read wanted part)) → NamedSoFar wanted ended left next before after
more_named wanted was ended left rest next before middle after part all going lines taken more = record {
  text = all.text ++ part;
  whole = λ still. both_whole all.text part (all.whole going) (is_whole part (lines still));
  taken = Consumes-trans left rest next all.text part all.taken taken;
  frames = let text = as_read wanted all.text in
      let last = as_read wanted part in
      rw (
        as_read-append wanted all.text part (all.whole going),
        urls_of-append text last (as_read-whole wanted all.text (all.whole going)),
      ) (same_more before middle after (urls_of text) (urls_of last) all.frames more);
}

pub all_named : (wanted : Wanted) (ended : Bool) (left rest : Option (List ℕ)) (before now : Names)
    → NamedSoFar wanted ended left rest (frames_of before) (frames_of now) → IsAtEnd rest
    → AddsNames wanted left before now
all_named wanted ended left rest before now all end = record {
  text = all.text;
  all = all_taken left rest all.text all.taken end;
  frames = all.frames;
}

-- ---- logs

still_named : (held : Held) (wanted : Wanted) (path : List ℕ) (left : Option (List ℕ)) (before after : Names)
    → AddsNames wanted left before after → HasNamesOf held wanted path before
    → HasNamesOf held wanted path after
still_named held wanted path left before after added has = record {
  left = has.left;
  text = has.text;
  gives = has.gives;
  all = has.all;
  frames = λ n there. added.frames.1 n
      (Contains-append_left (frames_of before) (urls_of (as_read wanted added.text)) n (has.frames n there));
}

now_named : (held : Held) (wanted : Wanted) (path : List ℕ) (left : Option (List ℕ)) (before after : Names)
    → AddsNames wanted left before after → GivesHeld held path left → HasNamesOf held wanted path after
now_named held wanted path left before after added gives = record {
  left = left;
  text = added.text;
  gives = gives;
  all = added.all;
  frames = λ n there. added.frames.1 n
      (Contains-append_right (frames_of before) (urls_of (as_read wanted added.text)) n there);
}

-- the names of the first of these logs
abbrev pub HaveNamesTo : Held → Wanted → List (Bor (List ℕ)) → ℕ → Names → Type 0
HaveNamesTo held wanted paths i names =
    (k : ℕ) (d : Bor (List ℕ)) → k < i → HasNamesOf held wanted (get_or paths k d).now names

pub one_more_log : (held : Held) (wanted : Wanted) (paths : List (Bor (List ℕ))) (i : ℕ) (d : Bor (List ℕ))
    → i < length paths → (left : Option (List ℕ)) (before after : Names) → AddsNames wanted left before after
    → GivesHeld held (get_or paths i d).now left → HaveNamesTo held wanted paths i before
    → HaveNamesTo held wanted paths (i + 1) after
one_more_log held wanted paths i d within left before after added gives all k e lt = elim (cases_lt k i) [
  | inl less ↦ still_named held wanted (get_or paths k e).now left before after added (all k e less)
  | inr more ↦ let same : i ≡ k = omega (arith, lt, more) in
      subst (λ (j : ℕ). HasNamesOf held wanted (get_or paths j e).now after) same
      (subst (λ (p : Bor (List ℕ)). HasNamesOf held wanted p.now after) (get_or_default paths i d e within)
      (now_named held wanted (get_or paths i d).now left before after added gives))
]

-- so long are the first of these files
abbrev pub HaveSizesTo : Held → List (Bor (List ℕ)) → ℕ → List ℕ → Type 0
HaveSizesTo held paths i sizes = (k : ℕ) (d : Bor (List ℕ)) → k < i
    → HasSize held (get_or paths k d).now (get_or sizes k 0)

pub one_more_size : (held : Held) (paths : List (Bor (List ℕ))) (i : ℕ) (d : Bor (List ℕ)) → i < length paths
    → (sizes : List ℕ) (size : ℕ) → length sizes ≡ i → HasSize held (get_or paths i d).now size
    → HaveSizesTo held paths i sizes → HaveSizesTo held paths (i + 1) (sizes ++ size ∷ [])
one_more_size held paths i d within sizes size long has all k e lt =
    let more = sizes ++ size ∷ [] in
    let last : get_or more i 0 ≡ size =
    ap (λ j. get_or more j 0) (sym long) ∙ get_or-append_seam sizes size [] 0 in
    elim (cases_lt k i) [
      | inl less ↦ subst (HasSize held (get_or paths k e).now)
          (sym (get_or_append_left sizes (size ∷ []) 0 k (omega (arith, less, long)))) (all k e less)
      | inr from ↦ let same : i ≡ k = omega (arith, lt, from) in
          subst (λ (j : ℕ). HasSize held (get_or paths j e).now (get_or more j 0)) same
          (subst (λ (p : Bor (List ℕ)). HasSize held p.now (get_or more i 0))
          (get_or_default paths i d e within) (subst (HasSize held (get_or paths i d).now) (sym last) has))
    ]
