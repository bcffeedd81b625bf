-- Logs that are translated part by part.
use Rattle.std.proofs.Common.{◌≡◌, ◌∙◌, ap, sym, subst, ℕ, ◌<◌, ◌≤◌, Bool, false, List, [], ◌∷◌, ◌++◌, length}
use Rattle.std.proofs.Common.{take, get_or, Bor, Option, Some, None, option_map, refl, append-nil, arith}
use Rattle.std.specs.List.{concat}
use Rattle.std.specs.Io.{IsEmptyOrEndsWith}
use Rattle.std.specs.Io.KnownBytes.{Consumes, IsAtEnd}
use Rattle.std.specs.Io.Take.{take_remaining}
use Rattle.std.specs.declared.io.traits.Take.{Take}
use Rattle.std.proofs.KnownBytes.{Consumes-nil, Consumes-trans}
use Rattle.std.proofs.lemmas.List.{get_or_default}
use Rattle.std.proofs.lemmas.List.Folds.{concat-append}
use Rattle.std.proofs.Math.Seq.{take-length}
use Rattle.smap_system.specs.Held.{GivesHeld, HasSize, Held}
use Rattle.smap_trace_run.specs.declared.tracing.Job.{Job}
use Rattle.smap_trace_run.specs.Written.{AreTraced, AreTracedParts, AreWhole, HaveSizes, IsBegun, IsTraced}
use Rattle.smap_trace_run.specs.Written.{IsTracedLog}
use Rattle.smap_trace_run.specs.Written.{IsTracedText, IsTracedTextIn, IsNameOf}
use Rattle.smap_logs.specs.Logs.{IsAll}
use Rattle.smap_logs.proofs.LogLemmas.{all_taken}

-- each of these parts is whole lines
abbrev pub AreLines : List (List ℕ) → Type 0
AreLines [] = Unit {0}
AreLines (part ∷ parts) = IsEmptyOrEndsWith part 10 × AreLines parts

more_lines : (parts : List (List ℕ)) (part : List ℕ) → AreLines parts → IsEmptyOrEndsWith part 10
    → AreLines (parts ++ part ∷ [])
more_lines [] part all one = (one, tt)
more_lines (p ∷ parts) part all one = (all.0, more_lines parts part all.1 one)

more_whole : (parts : List (List ℕ)) (part : List ℕ) → AreLines parts → AreWhole (parts ++ part ∷ [])
more_whole [] part all = tt
more_whole (p ∷ []) part all = (all.0, tt)
more_whole (p ∷ q ∷ parts) part all = (all.0, more_whole (q ∷ parts) part all.1)

-- what was handed out of a log was translated
pub record SoFar (held : Held) (job : Job) (worst : ℕ) (Sought : List ℕ → Type 0) (ended : Bool)
    (left rest before after : Option (List ℕ)) : Type 0 where
  pub parts : List (List ℕ)
  pub whole : AreWhole parts
  pub lines : ended ≡ false → AreLines parts
  pub taken : Consumes left rest (concat parts)
  pub traced : AreTracedParts held job worst Sought parts before after

pub none_so_far : (held : Held) (job : Job) (worst : ℕ) (Sought : List ℕ → Type 0) (ended : Bool)
    (left rest before : Option (List ℕ))
    → rest ≡ left → SoFar held job worst Sought ended left rest before before
none_so_far held job worst Sought ended left rest before is = record {
  parts = [];
  whole = tt;
  lines = λ going. tt;
  taken = subst (λ (r : Option (List ℕ)). Consumes left r []) (sym is) (Consumes-nil left);
  traced = refl;
}

more_parts : (held : Held) (job : Job) (worst : ℕ) (Sought : List ℕ → Type 0)
    (parts : List (List ℕ)) (part : List ℕ) (before middle after : Option (List ℕ))
    → AreTracedParts held job worst Sought parts before middle
    → IsTraced held job worst Sought (Some part) middle after
    → AreTracedParts held job worst Sought (parts ++ part ∷ []) before after
more_parts held job worst Sought [] part before middle after all one =
    (after, subst (λ (b : Option (List ℕ)). IsTraced held job worst Sought (Some part) b after) all one, refl)
more_parts held job worst Sought (p ∷ parts) part before middle after all one =
    (all.0, all.1, more_parts held job worst Sought parts part all.0 middle after all.2 one)

one_joined : (parts : List (List ℕ)) (part : List ℕ) → concat (parts ++ part ∷ []) ≡ concat parts ++ part
one_joined parts part = concat-append parts (part ∷ []) ∙ ap (λ l. concat parts ++ l) (append-nil part)

pub one_more_part : (held : Held) (job : Job) (worst : ℕ) (Sought : List ℕ → Type 0) (was ended : Bool)
    (left rest next before middle after : Option (List ℕ)) (part : List ℕ)
    → SoFar held job worst Sought was left rest before middle → was ≡ false
    → (ended ≡ false → IsEmptyOrEndsWith part 10) → Consumes rest next part
    → IsTraced held job worst Sought (Some part) middle after
    → SoFar held job worst Sought ended left next before after
one_more_part held job worst Sought was ended left rest next before middle after part all going lines taken
    one =
    record {
      parts = all.parts ++ part ∷ [];
      whole = more_whole all.parts part (all.lines going);
      lines = λ still. more_lines all.parts part (all.lines going) (lines still);
      taken = subst (Consumes left next) (sym (one_joined all.parts part))
          (Consumes-trans left rest next (concat all.parts) part all.taken taken);
      traced = more_parts held job worst Sought all.parts part before middle after all.traced one;
    }

pub all_parts : (held : Held) (job : Job) (worst : ℕ) (Sought : List ℕ → Type 0) (ended : Bool)
    (left rest before after : Option (List ℕ)) → SoFar held job worst Sought ended left rest before after
    → IsAtEnd rest
    → IsTracedText held job worst Sought left before after
all_parts held job worst Sought ended left rest before after all end = record {
  parts = all.parts;
  whole = all.whole;
  all = all_taken left rest (concat all.parts) all.taken end;
  traced = all.traced;
}

-- a text that is translated at once
pub one_part : (held : Held) (job : Job) (worst : ℕ) (Sought : List ℕ → Type 0)
    (left before after : Option (List ℕ))
    → IsTraced held job worst Sought left before after → IsTracedText held job worst Sought left before after
one_part held job worst Sought left before after one = record {
  parts = one.translated.text ∷ [];
  whole = tt;
  all = subst (IsAll left) (sym (append-nil one.translated.text)) one.translated.all;
  traced = (
    after,
    record {
      scripts = one.scripts;
      have_maps = one.have_maps;
      translated = record { text = one.translated.text; all = refl; written = one.translated.written };
      choices = one.choices;
      given = one.given;
      ends = one.ends;
      within = one.within;
    },
    refl,
  );
}

-- Less was looked for, and worse may be refused.
parts_weaker : (held : Held) (job : Job) (worst worse : ℕ) (Sought Other : List ℕ → Type 0)
    (parts : List (List ℕ)) (before after : Option (List ℕ)) → worst ≤ worse
    → ((name : List ℕ) → Other name → Sought name) → AreTracedParts held job worst Sought parts before after
    → AreTracedParts held job worse Other parts before after
parts_weaker held job worst worse Sought Other [] before after le less all = all
parts_weaker held job worst worse Sought Other (part ∷ parts) before after le less all =
    let within = all.1.within in (
      all.0,
      record {
        scripts = all.1.scripts;
        have_maps = all.1.have_maps;
        translated = all.1.translated;
        choices = all.1.choices;
        given = λ name of sought. all.1.given name of (less name sought);
        ends = all.1.ends;
        within = omega arith;
      },
      parts_weaker held job worst worse Sought Other parts all.0 after le less all.2,
    )

pub text_weaker : (held : Held) (job : Job) (worst worse : ℕ) (Sought Other : List ℕ → Type 0)
    (left before after : Option (List ℕ)) → worst ≤ worse → ((name : List ℕ) → Other name → Sought name)
    → IsTracedText held job worst Sought left before after
    → IsTracedText held job worse Other left before after
text_weaker held job worst worse Sought Other left before after le less all = record {
  parts = all.parts;
  whole = all.whole;
  all = all.all;
  traced = parts_weaker held job worst worse Sought Other all.parts before after le less all.traced;
}

pub so_far_worse : (held : Held) (job : Job) (worst worse : ℕ) (Sought : List ℕ → Type 0) (ended : Bool)
    (left rest before after : Option (List ℕ)) → worst ≤ worse
    → SoFar held job worst Sought ended left rest before after
    → SoFar held job worse Sought ended left rest before after
so_far_worse held job worst worse Sought ended left rest before after le all = record {
  parts = all.parts;
  whole = all.whole;
  lines = all.lines;
  taken = all.taken;
  traced = parts_weaker held job worst worse Sought Sought all.parts before after le (λ name sought. sought)
      all.traced;
}

pub logs_worse : (held : Held) (job : Job) (worst worse : ℕ) (paths : List (List ℕ))
    (before after : Option (List ℕ)) → worst ≤ worse → AreTraced held job worst paths before after
    → AreTraced held job worse paths before after
logs_worse held job worst worse [] before after le all = all
logs_worse held job worst worse (path ∷ paths) before after le all = (
  all.0,
  record {
    begun = all.1.begun;
    left = all.1.left;
    is_begun = all.1.is_begun;
    gives = all.1.gives;
    traced = λ plain. text_weaker held job worst worse (IsNameOf held job.wanted path)
        (IsNameOf held job.wanted path) all.1.left all.1.begun all.0 le (λ name of. of) (all.1.traced plain);
  },
  logs_worse held job worst worse paths all.0 after le all.2,
)

pub one_log : (held : Held) (job : Job) (worst : ℕ) (path : List ℕ)
    (left before begun after : Option (List ℕ))
    → IsBegun before begun → GivesHeld held path left
    → IsTracedTextIn held job worst (IsNameOf held job.wanted path) left begun after
    → IsTracedLog held job worst path before after
one_log held job worst path left before begun after is gives traced = record {
  begun = begun;
  left = left;
  is_begun = is;
  gives = gives;
  traced = traced;
}

same_length : (bytes : List ℕ) (size : ℕ) → ◌≡◌ {A = Option ℕ} (Some (length bytes)) (Some size)
    → length bytes ≡ size
same_length bytes size is = cc

-- so long as a file is, it is read whole
pub gives_all : (held : Held) (path : List ℕ) (size : ℕ) (left : Option (List ℕ)) → HasSize held path size
    → GivesHeld held path left → GivesHeld held path (option_map (take size) left)
gives_all None path size left has gives = tt
gives_all (Some held) path size None has gives = absurd gives.1
gives_all (Some held) path size (Some bytes) has gives =
    let long : length bytes ≡ size = same_length bytes size (ap (option_map length) (sym gives.0) ∙ has) in (
      gives.0 ∙ sym (ap (λ (n : ℕ). Some (take n bytes)) (sym long)
          ∙ ap (λ (l : List ℕ). Some l) (take-length bytes)),
      tt,
    )

pub taken_all : {R : Type 0} (remaining : R → Option (List ℕ)) (held : Held) (path : List ℕ) (size : ℕ)
    (reader : R) (log : Take R) → log.limit ≡ size → log.inner ≡ reader → HasSize held path size
    → GivesHeld held path (remaining reader) → GivesHeld held path (take_remaining remaining log)
taken_all remaining held path size reader log limit inner has gives =
    rw (limit, inner) (gives_all held path size (remaining reader) has gives)

pub first_size : (held : Held) (paths : List (Bor (List ℕ))) (path : Bor (List ℕ)) (sizes : List ℕ) (size : ℕ)
    → paths ≡ path ∷ [] → HaveSizes held paths sizes → size ≡ get_or sizes 0 size → HasSize held path.now size
first_size held paths path sizes size is have at =
    let one = subst (λ (ps : List (Bor (List ℕ))). HaveSizes held ps sizes) is have in
    let some : 0 < length sizes = omega (arith, one.0) in
    subst (HasSize held path.now) (get_or_default sizes 0 0 size some ∙ sym at) (one.1 0 path (omega arith))
