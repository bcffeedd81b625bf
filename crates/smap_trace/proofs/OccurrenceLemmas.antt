-- The longest of several occurrences.
use Rattle.std.proofs.Common.{◌≡◌, ◌∙◌, ◌⊎◌, ℕ, ◌+◌, ◌<◌, Bool, List, length, drop, get_or}
use Rattle.std.proofs.Common.{Option, IfSome, sym, ap, arith, inl, inr}
use Rattle.std.proofs.lemmas.Bool.Decides.{nat_tests}
use Rattle.std.proofs.lemmas.List.{at_drop_more}
use Rattle.smap_record.specs.Record.{Record, record_of}
use Rattle.smap_trace.specs.Anywhere.{longer, longest, occurrence_of}
use Rattle.smap_trace.specs.Anywhere as spec
use Rattle.smap_trace.specs.OccurrenceView.{IsWithin}
use Rattle.smap_trace.specs.Views.{script_in, scripts_in}
use Rattle.smap_trace.specs.declared.occurrences.Occurrence.{Occurrence}
use Rattle.smap_trace.proofs.ScriptLemmas.{Given}

pub longer-assoc : (p q r : Option spec.Occurrence) → longer (longer p q) r ≡ longer p (longer q r)
longer-assoc p q r = grind (arith, nat_tests)

-- one script more
pub next_script : (ignore : Bool) (text : List ℕ) (scripts : List Given) (i : ℕ) (s : Given)
    (best : Option spec.Occurrence) → i < length scripts
    → longer (longer best (occurrence_of ignore (script_in (get_or scripts i s)) text))
    (longest ignore (scripts_in (drop (i + 1) scripts)) text)
    ≡ longer best (longest ignore (scripts_in (drop i scripts)) text)
next_script ignore text scripts i s best lt =
    longer-assoc best (occurrence_of ignore (script_in (get_or scripts i s)) text)
    (longest ignore (scripts_in (drop (i + 1) scripts)) text)
    ∙ ap (longer best) (sym (at_drop_more (λ (ys : List Given). longest ignore (scripts_in ys) text) scripts i
    s lt))

-- the step of a loop over scripts
pub one_more_script : (ignore : Bool) (text : List ℕ) (scripts : List Given) (i : ℕ) (s : Given)
    (best found after whole : Option spec.Occurrence) (url : List ℕ) (map : Record) → i < length scripts
    → after ≡ longer best found → found ≡ occurrence_of ignore (url, map) text
    → url ≡ (get_or scripts i s).0.now → map ≡ record_of (get_or scripts i s).1.now
    → longer best (longest ignore (scripts_in (drop i scripts)) text) ≡ whole
    → longer after (longest ignore (scripts_in (drop (i + 1) scripts)) text) ≡ whole
one_more_script ignore text scripts i s best found after whole url map lt a f u m h =
    rw (a, f, u, m) (next_script ignore text scripts i s best lt ∙ h)

pub either_within : (n : ℕ) (p q r : Option Occurrence) → IfSome p (IsWithin n) → IfSome q (IsWithin n)
    → (r ≡ p) ⊎ (r ≡ q) → IfSome r (IsWithin n)
either_within n p q r a b (inl e) = rw e a
either_within n p q r a b (inr e) = rw e b
