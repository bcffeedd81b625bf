-- A bundle from its entries.
use Rattle.std.proofs.lemmas.List.{nil_from_length}
use Rattle.std.proofs.Common.{◌≡◌, ◌∙◌, ℕ, zero, suc, ◌<◌, ◌≤◌, List, [], ◌∷◌, ◌++◌, length, Option, Some}
use Rattle.std.specs.Option.{option_map_or}
use Rattle.std.proofs.Common.{None, Ok, Err, refl, sym, ap, arith, append_assoc}
use Rattle.std.proofs.Common.{append-nil, length-append}
use Rattle.smap_record.specs.Faults.{◌>>=◌}
use Rattle.smap_record.specs.Scripts.{Script}
use Rattle.smap_tool.specs.declared.fault.BundleFault.{BundleFault}
use Rattle.smap_tool.specs.Header.{after, header_in, trace_line}
use Rattle.smap_tool.specs.Bundle.{BeginsWithEntries, Checked, bundle_from, bundle_of, entry_in}
use Rattle.smap_tool.specs.Entries.{IsFaultAt}
use Rattle.smap_tool.proofs.EntryLemmas.{AreEntries, Taken, taken, trace_isnt}

-- what follows an entry is shorter
shorter : (text rest : List ℕ) → Taken text rest → length rest < length text
shorter text rest t =
    omega (arith, t.leaves, ap length t.begins.whole, length-append t.begins.line t.more)

-- what is done with what follows an entry
abbrev Next : ℕ → List Script → Script × List ℕ → Checked (List Script × List ℕ)
Next most seen entry = bundle_from most (seen ++ entry.0 ∷ []) entry.1

-- ---- how many entries there are at most

nothing : (n : ℕ) (seen : List Script) → bundle_from (suc n) seen [] ≡ bundle_from zero seen []
unfolding bundle_from entry_in header_in
nothing n seen = refl

-- Nothing is no bundle.
pub nothing_left : (n : ℕ) (seen : List Script) (bundle : List Script × List ℕ)
    → bundle_from n seen [] ≡ Ok bundle → ⊥
unfolding bundle_from entry_in header_in
nothing_left zero seen bundle e = cc
nothing_left (suc n) seen bundle e = cc

-- It doesn't matter how many entries are allowed, if there are no more than bytes.
pub same_from : (m n : ℕ) (seen : List Script) (text : List ℕ) → length text ≤ m → length text ≤ n
    → bundle_from m seen text ≡ bundle_from n seen text
unfolding bundle_from
same_from zero zero seen text le fits = refl
same_from zero (suc n) seen text le fits =
    rw (nil_from_length text (omega (arith, le))) (sym (nothing n seen))
same_from (suc m) zero seen text le fits = rw (nil_from_length text (omega (arith, fits))) (nothing m seen)
same_from (suc m) (suc n) seen text le fits = go (after trace_line text) (entry_in seen text) refl
    (λ ss rest less. same_from m n ss rest (omega (arith, le, less)) (omega (arith, fits, less)))
  where
    go : (o : Option (List ℕ)) (r : Checked (Script × List ℕ)) → entry_in seen text ≡ r
        → ((ss : List Script) (rest : List ℕ) → length rest < length text
        → bundle_from m ss rest ≡ bundle_from n ss rest)
        → option_map_or (λ trace. Ok (seen, trace)) o (r >>= Next m seen)
        ≡ option_map_or (λ trace. Ok (seen, trace)) o (r >>= Next n seen)
    go (Some trace) r e more = refl
    go None (Err fault) e more = refl
    go None (Ok entry) e more =
        more (seen ++ entry.0 ∷ []) entry.1 (shorter text entry.1 (taken seen text entry e))

-- ---- after some entries

-- The bundle is what follows its entries, after their scripts.
pub reached : (ss seen : List Script) (text rest : List ℕ) (m n : ℕ) → BeginsWithEntries seen text ss rest
    → length text ≤ m → length rest ≤ n → bundle_from m seen text ≡ bundle_from n (seen ++ ss) rest
unfolding bundle_from
reached [] seen text rest m n is le fits =
    rw (is, append-nil seen) (same_from m n seen rest (omega (arith, ap length is, le)) fits)
reached (s ∷ ss) seen text rest zero n (next, e, more) le fits =
    absurd (omega (arith, le, shorter text next (taken seen text (s, next) e)))
reached (s ∷ ss) seen text rest (suc m) n (next, e, more) le fits =
    let t = taken seen text (s, next) e in
    let trace = trace_isnt text t.header.script t.header.base t.header.bytes t.more t.begins in
    rw (trace, e, ← append_assoc seen (s ∷ []) ss)
    (reached ss (seen ++ s ∷ []) next rest m n more (omega (arith, le, shorter text next t)) fits)

pub of_entries : (ss : List Script) (text rest : List ℕ) (n : ℕ) → BeginsWithEntries [] text ss rest
    → length rest ≤ n → bundle_of text ≡ bundle_from n ss rest
unfolding bundle_of
of_entries ss text rest n is fits = reached ss [] text rest (length text) n is (omega arith) fits

-- with the line `trace`
pub whole_bundle : (ss : List Script) (entries trace : List ℕ) → AreEntries entries ss
    → bundle_of ((entries ++ trace_line) ++ trace) ≡ Ok (ss, trace)
unfolding bundle_from
whole_bundle ss entries trace are =
    ap bundle_of (append_assoc entries trace_line trace)
    ∙ of_entries ss (entries ++ (trace_line ++ trace)) (trace_line ++ trace)
    (suc (length (trace_line ++ trace))) (are (trace_line ++ trace)) (omega arith)

-- with a fault
pub faulty_bundle : (ss : List Script) (entries line text : List ℕ) (fault : BundleFault)
    → AreEntries entries ss → IsFaultAt ss (line ++ text) fault
    → bundle_of ((entries ++ line) ++ text) ≡ Err fault
unfolding bundle_from
faulty_bundle ss entries line text fault are is =
    ap bundle_of (append_assoc entries line text)
    ∙ of_entries ss (entries ++ (line ++ text)) (line ++ text) (suc (length (line ++ text)))
    (are (line ++ text)) (omega arith) ∙ rw (is.0, is.1) refl

-- ---- one entry more

one_more : (ss seen : List Script) (text next rest : List ℕ) (s : Script)
    → BeginsWithEntries seen text ss next → entry_in (seen ++ ss) next ≡ Ok (s, rest)
    → BeginsWithEntries seen text (ss ++ s ∷ []) rest
one_more [] seen text next rest s is e = (rest, rw is (rw (append-nil seen) at e), refl)
one_more (t ∷ ts) seen text next rest s (after_t, e, more) last = (
  after_t,
  e,
  one_more ts (seen ++ t ∷ []) after_t next rest s more (rw (append_assoc seen (t ∷ []) ts) last),
)

pub entries_more : (ss : List Script) (entries entry : List ℕ) (s : Script) → AreEntries entries ss
    → ((more : List ℕ) → entry_in ss (entry ++ more) ≡ Ok (s, more))
    → AreEntries (entries ++ entry) (ss ++ s ∷ [])
entries_more ss entries entry s are is rest = rw (append_assoc entries entry rest)
    (one_more ss [] (entries ++ (entry ++ rest)) (entry ++ rest) rest s (are (entry ++ rest)) (is rest))
