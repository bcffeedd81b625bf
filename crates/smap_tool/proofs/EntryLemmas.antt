-- What is wrong with an entry, and what an entry is.
use Rattle.std.proofs.lemmas.Bool.Decides.{nat_tests}
use Rattle.std.proofs.lemmas.List.Quantifiers.{all_pairs_push}
use Rattle.std.proofs.Common.{◌≡◌, ◌≢◌, ◌∙◌, inl, inr, ℕ, ◌+◌, ◌-◌, ◌^◌, ◌<◌, ◌≤◌, Bool, true}
use Rattle.std.proofs.Common.{false, List, [], ◌∷◌, ◌++◌, length, map, min, drop, get_or}
use Rattle.std.proofs.Common.{codes, Option, Some, None, Result, Ok, Err}
use Rattle.std.proofs.Common.{refl, sym, ap, subst}
use Rattle.std.proofs.Common.{arith, append_assoc, append-nil, length-append, length-drop, true≢false}
use Rattle.std.specs.Prelude.{IsErr, slice_get}
use Rattle.std.proofs.Math.ListN.{get_or-append}
use Rattle.std.proofs.Math.Seq.{drop-append_seam, take-append_seam}
use Rattle.std.proofs.NetLemmas.Options.{and_then_some, cond_some}
use Rattle.std.proofs.lemmas.Bool.{cases_lt, le-ltb, lt-ltb}
use Rattle.std.proofs.lemmas.Cmp.{nat_list_eq_equiv}
use Rattle.std.proofs.lemmas.List.{get_or-map, length-map}
use Rattle.std.proofs.lemmas.Map.Views.{list_any-from_Contains}
use Rattle.std.proofs.lemmas.Option.{get_or_from_slice_get, slice_get_past}
use Rattle.std.proofs.lemmas.Option.{slice_get_within}
use Rattle.url.specs.Parser.{Parsed, parse_url}
use Rattle.url.specs.Parts.{Parts}
use Rattle.smap_record.specs.Faults.{◌>>=◌}
use Rattle.smap_record.specs.declared.fault.Fault.{Fault}
use Rattle.smap_record.specs.Reading.{reading}
use Rattle.smap_record.specs.Record.{ReadMap, record_of}
use Rattle.smap_io.specs.Limits.{longest_input}
use Rattle.smap_record.specs.Scripts.{AreDistinct, Script, lacks}
use Rattle.smap_io.specs.declared.device.Device.{Device}
use Rattle.smap_io.specs.Device.{device_failures, has_ended}
use Rattle.smap_io.specs.Reading.{Gave, IsWithinLine, ReadsLine}
use Rattle.smap_tool.specs.declared.fault.BundleFault.{BundleFault}
use Rattle.smap_tool.specs.declared.fault.BundleFault.TheVariants.{TooLong}
use Rattle.smap_tool.specs.declared.fault.EntryFault.{EntryFault}
use Rattle.smap_tool.specs.declared.fault.EntryFault.TheVariants as wrong
use Rattle.smap_tool.specs.Header.{BeginsWithHeader, HeaderParts, IsHeader, after, header_in}
use Rattle.smap_tool.specs.Header.{longest_header, trace_line}
use Rattle.smap_tool.specs.Bundle.{BeginsWithEntries, Checked, base_url, entry_in, entry_with}
use Rattle.smap_tool.specs.Bundle.{fault_after, has_script, map_in}
use Rattle.smap_tool.specs.Bundle.{map_read, or_fault, refuse_if, sized, usual}
use Rattle.smap_tool.specs.Entries.{IsFaultAt, IsNew, TakesEntry, TakesMap, refusal}
use Rattle.smap_tool.specs.Reach.{EndsWithinEntry, IsWithinEntry, IsWithinMap, ReadsNoMore}
use Rattle.smap_tool.specs.Reading.{IsLine, MayFollow}
use Rattle.smap_tool.proofs.TextLemmas.{lacks_rest, no_end_within}
use Rattle.smap_tool.proofs.HeaderLemmas.{begun, inside, inside_lacks, line_is, no_header_of_trace}
use Rattle.smap_tool.proofs.ComputedLemmas.{after_is, header_is, header_there, one_cut}

-- ---- the map of an entry

-- the byte after this many, where the input ends before it
pub past_the_end : (bytes more : List ℕ) (n : ℕ) → length bytes ≤ n → more ≡ []
    → slice_get (bytes ++ more) n ≢ Some 10
past_the_end bytes more n short none is =
    let past = slice_get_past (bytes ++ more) n (omega (
      arith,
      short,
      length-append bytes more,
      ap length none,
    )) in cc

-- the byte after this many, where it isn't a line feed
pub no_feed_there : (bytes more : List ℕ) (n x : ℕ) → n < length bytes → x ≡ get_or bytes n x → x ≢ 10
    → slice_get (bytes ++ more) n ≢ Some 10
no_feed_there bytes more n x within at differs is = differs (at ∙ sym (get_or-append bytes more x n within)
    ∙ get_or_from_slice_get (bytes ++ more) n 10 x is)

-- the byte after a text
pub byte_after : (xs : List ℕ) (y : ℕ) (ys : List ℕ) → slice_get (xs ++ y ∷ ys) (length xs) ≡ Some y
byte_after [] y ys = refl
byte_after (x ∷ xs) y ys = byte_after xs y ys

pub map_there : (bytes more : List ℕ) (n : ℕ) → length bytes ≡ n
    → map_in n ((bytes ++ 10 ∷ []) ++ more) ≡ Some (bytes, more)
map_there bytes more n len =
    let text = append_assoc bytes (10 ∷ []) more in
    let rest = rw (length-append bytes (10 ∷ []), text) at (drop-append_seam (bytes ++ 10 ∷ []) more) in
    rw (text, ← len, byte_after bytes 10 more, take-append_seam bytes (10 ∷ more), rest) refl

pub no_map : (n : ℕ) (text : List ℕ) → slice_get text n ≢ Some 10 → map_in n text ≡ None
no_map n text none = grind (arith, nat_tests)

-- how much follows a map
map_leaves : (n : ℕ) (text : List ℕ) (parts : List ℕ × List ℕ) → map_in n text ≡ Some parts
    → length text ≡ n + 1 + length parts.1
map_leaves n text parts e = and_then_some _ (slice_get text n) parts e (λ b at kept.
    let c = cond_some _ _ _ kept in
    let rest : length parts.1 ≡ length (drop (n + 1) text) =
    ap (λ (p : List ℕ × List ℕ). length p.1) (sym c.1) in
    omega (arith, slice_get_within text n b at, rest, length-drop (n + 1) text))

-- ---- the faults of an entry

-- a fault of the entry after some scripts, told by its index
pub refused_at : {A : Type 0} {r : Checked A} (seen : List Script) (i : ℕ) (fault : EntryFault)
    (found : BundleFault) → i ≡ length seen → found ≡ refusal i fault → r ≡ Err (fault_after seen fault)
    → r ≡ Err found
refused_at seen i fault found at is e = rw (e, is, at) refl

not_url : (seen : List Script) (r : Parsed Parts) → IsErr r
    → base_url seen r ≡ Err (fault_after seen wrong.Base)
not_url seen (Ok url) bad = absurd (true≢false (sym bad))
not_url seen (Err e) bad = refl

module _ (seen : List Script) (script base : List ℕ) (n : ℕ) where
  abbrev told : HeaderParts
  told = record { script = script; base = base; bytes = n }

  pub too_long : (text : List ℕ) → longest_input < n → entry_with seen told text ≡ Err TooLong
  too_long text long = rw (lt-ltb longest_input n long) refl

  pub repeated : (text : List ℕ) → n ≤ longest_input → has_script seen script ≡ true
      → entry_with seen told text ≡ Err (fault_after seen wrong.Repeated)
  repeated text fits known = rw (le-ltb longest_input n fits, known) refl

  module _ (fits : n ≤ longest_input) (new : IsNew seen script) where
    pub no_base : (text : List ℕ) → IsErr (parse_url None base)
        → entry_with seen told text ≡ Err (fault_after seen wrong.Base)
    no_base text bad = rw (le-ltb longest_input n fits, new, not_url seen (parse_url None base) bad) refl

    module _ (url : Parts) (good : parse_url None base ≡ Ok url) where
      pub cut_entry : (text : List ℕ) → map_in n text ≡ None
          → entry_with seen told text ≡ Err (fault_after seen wrong.CutOff)
      cut_entry text none = rw (le-ltb longest_input n fits, new, good, none) refl

      pub bad_map : (bytes more : List ℕ) (fault : Fault) → length bytes ≡ n
          → reading url usual bytes ≡ Err fault
          → entry_with seen told ((bytes ++ 10 ∷ []) ++ more) ≡ Err (fault_after seen (wrong.Map fault))
      bad_map bytes more fault len bad =
          rw (le-ltb longest_input n fits, new, good, map_there bytes more n len, bad) refl

      pub good_map : (bytes more : List ℕ) (m : ReadMap) → length bytes ≡ n → reading url usual bytes ≡ Ok m
          → entry_with seen told ((bytes ++ 10 ∷ []) ++ more) ≡ Ok ((script, record_of m), more)
      good_map bytes more m len is =
          rw (le-ltb longest_input n fits, new, good, map_there bytes more n len, is) refl

-- ---- the next entry

pub entry_begun : (seen : List Script) (text script base : List ℕ) (n : ℕ) (more : List ℕ)
    → BeginsWithHeader text script base n more
    → entry_in seen text ≡ entry_with seen (record { script = script; base = base; bytes = n }) more
unfolding entry_in
entry_begun seen text script base n more b = rw (header_there text script base n more b) refl

is_none : {A : Type 0} (o : Option A) → ((x : A) → o ≡ Some x → ⊥) → o ≡ None
is_none None none = refl
is_none (Some x) none = absurd (none x refl)

-- no entry begins with the line `trace`
pub trace_isnt : (text script base : List ℕ) (n : ℕ) (more : List ℕ)
    → BeginsWithHeader text script base n more → after trace_line text ≡ None
trace_isnt text script base n more b = is_none (after trace_line text) (λ trace e.
    no_header_of_trace script base more trace n
    (subst (λ (xs : List ℕ). BeginsWithHeader xs script base n more)
    (after_is trace_line text trace e) b))

then_ok : {A B F P : Type 0} (r : Result A F) (f : A → Result B F) (y : B) → (r >>= f) ≡ Ok y
    → ((x : A) → r ≡ Ok x → f x ≡ Ok y → P) → P
then_ok (Ok x) f y e k = k x refl e
then_ok (Err d) f y e k = absurd cc

found : {A : Type 0} (seen : List Script) (fault : EntryFault) (o : Option A) (x : A)
    → or_fault seen fault o ≡ Ok x → o ≡ Some x
found seen fault None x e = absurd cc
found seen fault (Some y) x e = cc

-- what is known of a text that an entry was taken from
pub record Taken (text rest : List ℕ) : Type 0 where
  pub header : HeaderParts
  pub more : List ℕ
  pub begins : BeginsWithHeader text header.script header.base header.bytes more
  pub leaves : length more ≡ header.bytes + 1 + length rest

pub taken : (seen : List Script) (text : List ℕ) (e : Script × List ℕ) → entry_in seen text ≡ Ok e
    → Taken text e.1
unfolding entry_in
taken seen text e is =
    then_ok (or_fault seen wrong.Header (header_in text)) _ e is (λ start at e1.
    then_ok (sized start.0.bytes) _ e e1 (λ fits a e2.
    then_ok (refuse_if seen wrong.Repeated (has_script seen start.0.script)) _ e e2 (λ new b e3.
    then_ok (base_url seen (parse_url None start.0.base)) _ e e3 (λ url c e4.
    then_ok (or_fault seen wrong.CutOff (map_in start.0.bytes start.1)) _ e e4 (λ parts d e5.
    then_ok (map_read seen (reading url usual parts.0)) _ e e5 (λ m f e6.
    let rest : parts.1 ≡ e.1 = last parts.1 (start.0.script, record_of m) e6 in
    record {
      header = start.0;
      more = start.1;
      begins = header_is text start.0 start.1 (found seen wrong.Header (header_in text) start at);
      leaves = map_leaves start.0.bytes start.1 parts (found seen wrong.CutOff _ parts d)
          ∙ ap (λ (xs : List ℕ). start.0.bytes + 1 + length xs) rest;
    }))))))
  where
    last : (rest : List ℕ) (s : Script) → ◌≡◌ {A = Checked (Script × List ℕ)} (Ok (s, rest)) (Ok e)
        → rest ≡ e.1
    last rest s told = let pair : ◌≡◌ {A = Script × List ℕ} (s, rest) e = cc in
        ap (λ (p : Script × List ℕ). p.1) pair

-- ---- the line of an entry

-- The text begins neither with the line `trace` nor with a header.
record HasNoHeader (text : List ℕ) : Type 0 where
  pub no_trace : (trace : List ℕ) → text ≢ trace_line ++ trace
  pub no_header : (script base more : List ℕ) (n : ℕ) → BeginsWithHeader text script base n more → ⊥

-- Where the line is no header and isn't `trace`, none comes.
has_none : (ended : Bool) (line more : List ℕ) → IsLine ended line → MayFollow ended more
    → line ≢ trace_line
    → ((script base : List ℕ) (n : ℕ) → IsHeader line script base n → ⊥) → HasNoHeader (line ++ more)
has_none ended line more (inl w) may isnt none = record {
  no_trace = λ trace e.
      let cut = one_cut 10 w.0.front (codes "trace") more trace w.0.one_line refl (start ∙ e) in
      isnt (w.0.whole ∙ ap (λ (xs : List ℕ). xs ++ 10 ∷ []) cut.0);
  no_header = λ script base rest n b.
      let cut = one_cut 10 w.0.front (inside script base b.header.digits) more rest w.0.one_line
      (inside_lacks b.line script base n b.header)
      (start ∙ begun (line ++ more) script base rest n b) in
      let same : b.line ≡ line = line_is b.line script base n b.header
      ∙ ap (λ (xs : List ℕ). xs ++ 10 ∷ []) (sym cut.0) ∙ sym w.0.whole in
      none script base n (subst (λ (l : List ℕ). IsHeader l script base n) same b.header);
}
  where
    start : w.0.front ++ 10 ∷ more ≡ line ++ more
    start = sym (append_assoc w.0.front (10 ∷ []) more) ∙ ap (λ (xs : List ℕ). xs ++ more) (sym w.0.whole)
has_none ended line more (inr w) may isnt none = record {
  no_trace = λ trace e. no_end_within line more (codes "trace") trace w.0
      (reaches ended may w.2 6 (omega arith) (codes "trace" ++ 10 ∷ []) trace refl e) e;
  no_header = λ script base rest n b.
      let end : b.line ≡ inside script base b.header.digits ++ 10 ∷ [] =
      line_is b.line script base n b.header in
      let e : line ++ more ≡ (inside script base b.header.digits ++ 10 ∷ []) ++ rest = b.whole
      ∙ ap (λ (xs : List ℕ). xs ++ rest) end in
      no_end_within line more (inside script base b.header.digits) rest w.0
      (reaches ended may w.2 (length b.line) b.header.short (inside script base b.header.digits ++ 10 ∷ [])
      rest (ap length (sym end)) e) e;
}
  where
    -- so far the line was read
    reaches : (t : Bool) → MayFollow t more → (t ≡ false → longest_header ≤ length line) → (k : ℕ)
        → k ≤ longest_header → (xs rest : List ℕ)
        → length xs ≡ k → line ++ more ≡ xs ++ rest → length xs ≤ length line
    reaches false may long k short xs rest is e = omega (arith, long refl, short, is)
    reaches true may long k short xs rest is e =
        let all : length line ≡ length xs + length rest =
        sym (ap length (ap (λ (ys : List ℕ). line ++ ys) (may refl) ∙ append-nil line))
        ∙ ap length e ∙ length-append xs rest in
        omega (arith, all)

-- the fault of such a text
pub no_entry : (seen : List Script) (ended : Bool) (line more : List ℕ) → IsLine ended line
    → MayFollow ended more → line ≢ trace_line
    → ((script base : List ℕ) (n : ℕ) → IsHeader line script base n → ⊥)
    → IsFaultAt seen (line ++ more) (fault_after seen wrong.Header)
unfolding entry_in
no_entry seen ended line more is may isnt none =
    let neither = has_none ended line more is may isnt none in (
      is_none (after trace_line (line ++ more))
          (λ trace e. neither.no_trace trace (after_is trace_line (line ++ more) trace e)),
      rw (is_none (header_in (line ++ more)) (λ h e. neither.no_header h.0.script h.0.base h.1 h.0.bytes
          (header_is (line ++ more) h.0 h.1 e))) refl,
    )

-- a fault after a header is one of the text
pub fault_of_entry : (seen : List Script) (line script base : List ℕ) (n : ℕ) (more : List ℕ)
    (fault : BundleFault) → IsHeader line script base n
    → entry_with seen (record { script = script; base = base; bytes = n }) more ≡ Err fault
    → IsFaultAt seen (line ++ more) fault
fault_of_entry seen line script base n more fault h is =
    let b : BeginsWithHeader (line ++ more) script base n more = record {
      line = line;
      whole = refl;
      header = h;
    } in (
      trace_isnt (line ++ more) script base n more b,
      entry_begun seen (line ++ more) script base n more b ∙ is,
    )

-- ---- an entry that is taken

-- a line that is a header was read whole
pub open_still : (ended : Bool) (line script base : List ℕ) (n : ℕ) → IsLine ended line
    → IsHeader line script base n → ended ≡ false
open_still ended line script base n (inl w) h = w.1
open_still ended line script base n (inr w) h =
    let bad : lacks 10 (10 ∷ []) ≡ true = lacks_rest 10 (inside script base h.digits) (10 ∷ [])
    (ap (lacks 10) (sym (line_is line script base n h)) ∙ w.0) in
    absurd (true≢false (sym bad))

pub is_len : (n len : ℕ) → len ≡ min n (2 ^ 64 - 1) → len ≤ longest_input → n ≡ len
is_len n len is fits = omega (arith, is, fits)

-- an entry of a header and its map
pub entry_taken : {R : Type 0} (remaining : R → Option (List ℕ)) (a b : Device R) (before after : ℕ)
    (line script base : List ℕ) (n len : ℕ) (old new : List Script)
    → IsHeader line script base n → len ≡ min n (2 ^ 64 - 1)
    → TakesMap remaining a b before after script base len old new
    → TakesEntry remaining a b before after line old new
entry_taken remaining a b before after line script base n len old new h is t = record {
  script = (script, record_of t.map_text);
  bytes = t.bytes ++ 10 ∷ [];
  gave = t.gave;
  calls = t.calls;
  entry = λ more.
      entry_begun old (line ++ ((t.bytes ++ 10 ∷ []) ++ more)) script base n ((t.bytes ++ 10 ∷ []) ++ more)
      (record { line = line; whole = refl; header = h })
      ∙ good_map old script base n (omega (arith, same, t.fits)) t.new_script t.url t.is_base t.bytes more
      t.map_text (t.len_is ∙ sym same) t.is_map;
  new_script = t.new_script;
  added = t.added;
}
  where
    same : n ≡ len
    same = is_len n len is t.fits

-- ---- how far was read

-- These bytes are the entries of these scripts, whatever follows.
abbrev pub AreEntries : List ℕ → List Script → Type 0
AreEntries entries ss = (rest : List ℕ) → BeginsWithEntries [] (entries ++ rest) ss rest

-- a line as it is read is at most one line
is_within_line : (ended : Bool) (line : List ℕ) → IsLine ended line → IsWithinLine longest_header line
is_within_line ended line (inl w) = record {
  front = w.0.front;
  last = 10 ∷ [];
  whole = w.0.whole;
  one_line = w.0.one_line;
  one = omega arith;
  within = w.0.short;
}
is_within_line ended line (inr w) = record {
  front = line;
  last = [];
  whole = sym (append-nil line);
  one_line = w.0;
  one = omega arith;
  within = w.1;
}

-- what was read after entries and a line
pub no_more : (ended : Bool) (ss : List Script) (entries line text : List ℕ) (fault : BundleFault)
    → AreEntries entries ss → IsLine ended line → IsWithinEntry line text fault
    → ReadsNoMore ((entries ++ line) ++ text) fault
no_more ended ss entries line text fault are is_line within = record {
  scripts = ss;
  line = line;
  more = text;
  reads = subst (λ (xs : List ℕ). BeginsWithEntries [] xs ss (line ++ text))
      (sym (append_assoc entries line text)) (are (line ++ text));
  is_line = is_within_line ended line is_line;
  within = within;
}

-- entries, and part of a line or all of it
pub ends_within : (ss : List Script) (entries line : List ℕ) → AreEntries entries ss
    → IsWithinLine longest_header line → EndsWithinEntry (entries ++ line)
ends_within ss entries line are is_line = (
  TooLong,
  record {
    scripts = ss;
    line = line;
    more = [];
    reads = subst (λ (xs : List ℕ). BeginsWithEntries [] (entries ++ xs) ss (line ++ []))
        (append-nil line) (are (line ++ []));
    is_line = is_line;
    within = inl refl;
  },
)

-- a map and its line feed, where no fault was found
pub within_map : (n : ℕ) (bytes : List ℕ) → length bytes ≡ n
    → (fault : BundleFault) × IsWithinMap n (bytes ++ 10 ∷ []) fault
within_map n bytes len =
    (fault_after [] wrong.CutOff, inr (tt, omega (arith, length-append bytes (10 ∷ []), len)))

-- part of a map
pub within_part : (n : ℕ) (bytes : List ℕ) → length bytes < n + 1
    → (fault : BundleFault) × IsWithinMap n bytes fault
within_part n bytes few = (fault_after [] wrong.CutOff, inr (tt, omega (arith, few)))

-- ---- scripts one after another

-- a script with a new URL after others
pub distinct_more : (ss : List Script) (s : Script) → AreDistinct ss → IsNew ss s.0
    → AreDistinct (ss ++ s ∷ [])
distinct_more ss s distinct new = all_pairs_push (λ (a b : Script). a.0 ≢ b.0) ss s distinct (λ k d lt same.
    true≢false (sym (list_any-from_Contains nat_list_eq_equiv s.0 (map (λ (t : Script). t.0) ss) (
      k,
      omega (arith, lt, length-map ss (λ (t : Script). t.0)),
      get_or-map (λ (t : Script). t.0) ss k d s.0 lt ∙ same,
    )) ∙ new))

-- ---- lines as they are read

pub line_read : {R : Type 0} (remaining : R → Option (List ℕ)) (a b : Device R) (line : List ℕ)
    → has_ended a ≡ false → ReadsLine remaining a b longest_header line
    → IsLine (has_ended b) line × Gave remaining a b line × (device_failures b ≡ device_failures a)
line_read remaining a b line still (inl w) = (
  inl (
    record {
      front = w.is_line.front;
      whole = w.is_line.whole;
      one_line = w.is_line.one_line;
      short = w.within;
    },
    w.ended ∙ still,
  ),
  w.gave,
  w.failures,
)
line_read remaining a b line still (inr u) = (
  inr (
    u.1,
    u.0.within,
    λ still_open. elim (cases_lt (length line) longest_header) [
      | inl lt ↦ absurd (true≢false (sym (u.0.short lt).0 ∙ still_open))
      | inr le ↦ le
    ],
  ),
  u.0.gave,
  u.0.failures,
)
