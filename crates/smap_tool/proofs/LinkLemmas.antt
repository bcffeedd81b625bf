-- A chain from its entries.
use Rattle.std.proofs.Common.{◌≡◌, ◌≢◌, ◌∙◌, ℕ, zero, suc, ◌+◌, ◌-◌, ◌<◌, ◌≤◌, ◌==◌, true, false, List, []}
use Rattle.std.proofs.Common.{◌∷◌, ◌++◌, Option, Some, None, Result, Ok, Err, ap, append-nil, append_assoc}
use Rattle.std.proofs.Common.{arith, codes, drop, get_or, length, length-append, length-drop, refl, slice_get}
use Rattle.std.proofs.Common.{filter, inl, inr, not, subst, sym, take, true≢false}
use Rattle.std.proofs.Math.Seq.{take-length}
use Rattle.std.specs.Prelude.{bytes_eq}
use Rattle.std.specs.List.{list_any}
use Rattle.std.proofs.lemmas.Bool.{cases_Bool}
use Rattle.std.proofs.lemmas.Bool.Decides.{Decides-eqb}
use Rattle.std.proofs.lemmas.List.{get_or-take, length-take, nil_from_length, take-append-drop, take_more}
use Rattle.std.proofs.lemmas.Option.{slice_get-get_or, slice_get_past}
use Rattle.memchr.specs.Find.{NoneBefore, Nowhere, Passes, is_byte}
use Rattle.url.specs.Parser.{parse_url}
use Rattle.url.specs.Parts.{Parts}
use Rattle.smap_record.specs.Faults.{◌>>=◌}
use Rattle.smap_record.specs.Reading.{reading}
use Rattle.smap_record.specs.Record.{Entry, ReadMap, Record, record_of, usual}
use Rattle.smap_record.specs.Scripts.{lacks}
use Rattle.smap_compose.specs.Chain.{Link, chain_is_too_many, chained, is_of, unled, unled_from}
use Rattle.smap_canon.specs.Canonical.{canonical_text_in}
use Rattle.smap_canon.specs.Layout.{form_asked}
use Rattle.smap_tool.specs.Compose.{asked, chain_output, compose_output, read_output}
use Rattle.smap_tool.specs.declared.commands.compose.ComposeOptions.{ComposeOptions}
use Rattle.smap_tool.specs.declared.outcome.Outcome.TheVariants.{Done}
use Rattle.smap_tool.specs.declared.fault.EntryFault.TheVariants as wrong
use Rattle.smap_tool.specs.declared.fault.Refusal.{Refusal}
use Rattle.smap_tool.specs.declared.links.ChainFault.{ChainFault}
use Rattle.smap_tool.specs.declared.links.ChainFault.TheVariants as chain
use Rattle.smap_tool.specs.Bundle.{map_in}
use Rattle.smap_tool.specs.Header.{HeaderParts, IsHeader, header_in}
use Rattle.smap_tool.specs.Links.{ChainParts, Checked, EntryParts, IsFirst, LinksSoFar, base_url, behind}
use Rattle.smap_tool.specs.Links.{chain_in}
use Rattle.smap_tool.specs.Links.{end_line, entry_in, fault_at, links_from, map_read}
use Rattle.smap_tool.proofs.TextLemmas.{at_lacks, lacks_rest}
use Rattle.smap_tool.proofs.HeaderLemmas.{begun, inside, inside_lacks, line_is}
use Rattle.smap_tool.proofs.ComputedLemmas.{header_is, header_there, one_cut}
use Rattle.smap_tool.proofs.EntryLemmas.{no_map}

-- ---- the header of an entry

is_none : {A : Type 0} (o : Option A) → ((x : A) → o ≡ Some x → ⊥) → o ≡ None
is_none None none = refl
is_none (Some x) none = absurd (none x refl)

pub no_feed : (text : List ℕ) → Nowhere (Passes (is_byte 10) text) 0 (length text) → header_in text ≡ None
no_feed text none =
    let free : lacks 10 text ≡ true =
    at_lacks 10 text (λ i lt e. none i (omega arith) lt ((Decides-eqb (get_or text i 0) 10).1 e)) in
    is_none (header_in text) (λ h e.
    let b = header_is text h.0 h.1 e in
    let front = inside h.0.script h.0.base b.header.digits in
    let bad : lacks 10 (10 ∷ h.1) ≡ true = lacks_rest 10 front (10 ∷ h.1)
    (ap (lacks 10) (sym (begun text h.0.script h.0.base h.1 h.0.bytes b)) ∙ free) in
    true≢false (sym bad))

module _ (text : List ℕ) (n : ℕ) (first : NoneBefore (Passes (is_byte 10) text) 0 (length text) n)
    (feed : Passes (is_byte 10) text n) where
  is_feed : get_or text n 0 ≡ 10
  is_feed = (Decides-eqb (get_or text n 0) 10).0 feed

  line : take (n + 1) text ≡ take n text ++ 10 ∷ []
  line = take_more text n 10 first.high
      ∙ ap (λ (b : ℕ). take n text ++ b ∷ []) (feed_at text n first.high is_feed)
    where
      feed_at : (xs : List ℕ) (k : ℕ) → k < length xs → get_or xs k 0 ≡ 10 → get_or xs k 10 ≡ 10
      feed_at [] k below e = absurd (omega (arith, below))
      feed_at (x ∷ xs) zero below e = e
      feed_at (x ∷ xs) (suc k) below e = feed_at xs k (omega (arith, below)) e

  split : text ≡ take n text ++ 10 ∷ drop (n + 1) text
  split = sym (take-append-drop (n + 1) text) ∙ ap (λ (xs : List ℕ). xs ++ drop (n + 1) text) line
      ∙ append_assoc (take n text) (10 ∷ []) (drop (n + 1) text)

  free : lacks 10 (take n text) ≡ true
  free = at_lacks 10 (take n text) (λ i lt e. first.before i (omega arith) (within i lt)
      ((Decides-eqb (get_or text i 0) 10).1 (sym (get_or-take n text i 0 (within i lt)) ∙ e)))
    where
      within : (i : ℕ) → i < length (take n text) → i < n
      within i lt = omega (arith, lt, length-take n text)

  pub no_header : ((script base : List ℕ) (k : ℕ) → IsHeader (take (n + 1) text) script base k → ⊥)
      → header_in text ≡ None
  no_header none = is_none (header_in text) (λ h e.
      let b = header_is text h.0 h.1 e in
      let front = inside h.0.script h.0.base b.header.digits in
      let cut = one_cut 10 (take n text) front (drop (n + 1) text) h.1 free
      (inside_lacks b.line h.0.script h.0.base h.0.bytes b.header)
      (sym split ∙ begun text h.0.script h.0.base h.1 h.0.bytes b) in
      let same : b.line ≡ take (n + 1) text = line_is b.line h.0.script h.0.base h.0.bytes b.header
      ∙ ap (λ (xs : List ℕ). xs ++ 10 ∷ []) (sym cut.0) ∙ sym line in
      none h.0.script h.0.base h.0.bytes
      (subst (λ (l : List ℕ). IsHeader l h.0.script h.0.base h.0.bytes) same b.header))

pub a_header : (text script base : List ℕ) (n k : ℕ) → IsHeader (take n text) script base k
    → header_in text ≡ Some (record { script = script; base = base; bytes = k }, drop n text)
a_header text script base n k h = header_there text script base k (drop n text)
    (record { line = take n text; whole = sym (take-append-drop n text); header = h })

-- ---- the map of an entry

pub map_here : (text : List ℕ) (n : ℕ) → n < length text → get_or text n 0 ≡ 10
    → map_in n text ≡ Some (take n text, drop (n + 1) text)
map_here text n below feed = rw (slice_get-get_or text n 0 below, feed) refl

pub map_past : (text : List ℕ) (n : ℕ) → length text ≤ n → map_in n text ≡ None
map_past text n past = rw (slice_get_past text n past) refl

pub map_without : (text : List ℕ) (n b : ℕ) → n < length text → get_or text n 0 ≡ b → b ≢ 10
    → map_in n text ≡ None
map_without text n b below is differs =
    no_map n text (λ e. differs (sym is ∙ same (get_or text n 0) 10
    (sym (slice_get-get_or text n 0 below) ∙ e)))
  where
    same : (x y : ℕ) → ◌≡◌ {A = Option ℕ} (Some x) (Some y) → x ≡ y
    same x y e = cc

-- ---- an entry

module _ (i : ℕ) (text : List ℕ) where
  pub without_header : header_in text ≡ None → entry_in i text ≡ Err (fault_at i wrong.Header)
  unfolding entry_in
  without_header none = rw none refl

  module _ (h : HeaderParts) (more : List ℕ) (begins : header_in text ≡ Some (h, more)) where
    pub without_base : (fault : Refusal) → base_url i (parse_url None h.base) ≡ Err fault
        → entry_in i text ≡ Err fault
    unfolding entry_in
    without_base fault bad = rw (begins, bad) refl

    module _ (url : Parts) (good : base_url i (parse_url None h.base) ≡ Ok url) where
      pub cut_off : map_in h.bytes more ≡ None → entry_in i text ≡ Err (fault_at i wrong.CutOff)
      unfolding entry_in
      cut_off none = rw (begins, good, none) refl

      module _ (bytes rest : List ℕ) (has : map_in h.bytes more ≡ Some (bytes, rest)) where
        pub bad_map : (fault : Refusal) → map_read i (reading url usual bytes) ≡ Err fault
            → entry_in i text ≡ Err fault
        unfolding entry_in
        bad_map fault bad = rw (begins, good, has, bad) refl

        pub good_map : (m : ReadMap) → map_read i (reading url usual bytes) ≡ Ok m
            → entry_in i text
            ≡ Ok (record { script = h.script; base = url; map = record_of m; rest = rest })
        unfolding entry_in
        good_map m is = rw (begins, good, has, is) refl

-- a first fault of one is one of another
pub first_of : {A B : Type 0} (r : Checked A) (s : Checked B) (fault : ChainFault)
    → ((f : Refusal) → r ≡ Err f → s ≡ Err f) → IsFirst r fault → IsFirst s fault
first_of r s (chain.Refused f) k h = k f h
first_of r s chain.Memory k h = tt

-- ---- links one after another

pub behind_none : (r : Checked (List Link)) → behind [] r ≡ r
behind_none (Ok ls) = refl
behind_none (Err f) = refl

behind_one : (links : List Link) (l : Link) (r : Checked (List Link))
    → behind links (r >>= λ more. Ok (l ∷ more)) ≡ behind (links ++ l ∷ []) r
behind_one links l (Ok ls) = rw (append_assoc links (l ∷ []) ls) refl
behind_one links l (Err f) = refl

nothing_in : (i : ℕ) (f : Refusal) → entry_in i [] ≡ Err f → f ≡ fault_at i wrong.Header
unfolding entry_in header_in
nothing_in i f e = cc

module _ (text : List ℕ) (links : List Link) (rest : List ℕ) (so_far : LinksSoFar text links rest) where
  pub ends_here : rest ≡ end_line → links_from (length text) 1 text ≡ Ok links
  unfolding links_from
  ends_here e = go so_far.most so_far.fits so_far.whole
    where
      go : (most : ℕ) → length rest ≤ most
          → behind links (links_from most (length links + 1) rest) ≡ links_from (length text) 1 text
          → links_from (length text) 1 text ≡ Ok links
      go zero fits whole = absurd (omega (arith, fits, ap length e))
      go (suc k) fits whole = sym whole ∙ rw e (ap Ok (append-nil links))

  pub stops_here : bytes_eq rest end_line ≡ false → (f : Refusal) → entry_in (length links + 1) rest ≡ Err f
      → links_from (length text) 1 text ≡ Err f
  unfolding links_from
  stops_here isnt f bad = go so_far.most so_far.fits so_far.whole
    where
      go : (most : ℕ) → length rest ≤ most
          → behind links (links_from most (length links + 1) rest) ≡ links_from (length text) 1 text
          → links_from (length text) 1 text ≡ Err f
      go zero fits whole =
          let nil = nil_from_length rest (omega (arith, fits)) in
          sym whole ∙ ap Err (sym (nothing_in (length links + 1) f (rw nil at bad)))
      go (suc k) fits whole = sym whole ∙ rw (isnt, bad) refl

  pub goes_on : bytes_eq rest end_line ≡ false → (e : EntryParts) → entry_in (length links + 1) rest ≡ Ok e
      → length e.rest < length rest → LinksSoFar text (links ++ (e.script, e.map) ∷ []) e.rest
  unfolding links_from
  goes_on isnt e good less = go so_far.most so_far.fits so_far.whole
    where
      long : length (links ++ (e.script, e.map) ∷ []) + 1 ≡ length links + 1 + 1
      long = omega (arith, length-append links ((e.script, e.map) ∷ []))

      go : (most : ℕ) → length rest ≤ most
          → behind links (links_from most (length links + 1) rest) ≡ links_from (length text) 1 text
          → LinksSoFar text (links ++ (e.script, e.map) ∷ []) e.rest
      go zero fits whole = absurd (omega (arith, fits, less))
      go (suc k) fits so =
          let later = links_from k (length links + 1 + 1) e.rest in
          let taken : behind links (links_from (suc k) (length links + 1) rest)
          ≡ behind links (later >>= λ more. Ok ((e.script, e.map) ∷ more)) = rw (isnt, good) refl in
          record {
            most = k;
            fits = omega (arith, fits, less);
            whole = rw long (sym (behind_one links (e.script, e.map) later) ∙ sym taken ∙ so);
          }

-- ---- the whole

module _ (input : List ℕ) where
  pub no_maps : bytes_eq input end_line ≡ true → chain_in input ≡ Ok None
  unfolding chain_in
  no_maps is = rw is refl

  module _ (isnt : bytes_eq input end_line ≡ false) where
    pub first_refused : (f : Refusal) → entry_in 0 input ≡ Err f → chain_in input ≡ Err f
    unfolding chain_in
    first_refused f bad = rw (isnt, bad) refl

    module _ (first : EntryParts) (good : entry_in 0 input ≡ Ok first) where
      pub links_refused : (f : Refusal) → links_from (length first.rest) 1 first.rest ≡ Err f
          → chain_in input ≡ Err f
      unfolding chain_in
      links_refused f bad = rw (isnt, good, bad) refl

      pub chain_read : (links : List Link) → links_from (length first.rest) 1 first.rest ≡ Ok links
          → chain_in input
          ≡ Ok (Some (record { base = first.base; outer = first.map; links = links }))
      unfolding chain_in
      chain_read links is = rw (isnt, good, is) refl

-- what follows a place, as it is cut
pub rest_of : (text : List ℕ) (n : ℕ) → take (length text - n) (drop n text) ≡ drop n text
rest_of text n = rw (← length-drop n text) (take-length (drop n text))

-- ---- what is written

unled_within : (n : ℕ) (es : List Entry) (links : List Link) (i : ℕ) → unled_from n es links ≡ Some i
    → i < n + length links
unled_within n es [] i e = absurd cc
unled_within n es (link ∷ later) i e = elim (cases_Bool (list_any (is_of link.0) es)) [
  | inl led ↦
      let less = unled_within (n + 1) (filter (λ x. not (is_of link.0 x)) es ++ link.1.sources) later i
      (rw led at e) in
      omega (arith, less)
  | inr none ↦
      let here : ◌≡◌ {A = Option ℕ} (Some n) (Some i) = rw none at e in
      let same : n ≡ i = cc in
      omega (arith, same)
]

pub is_link : (r : Record) (links : List Link) (i : ℕ) → unled r links ≡ Some i → i < length links
is_link r links i e = let less = unled_within 0 r.sources links i e in omega (arith, less)

pub composed_is : (options : ComposeOptions) (ch : ChainParts) (text : List ℕ) (r : Record)
    → unled ch.outer ch.links ≡ None → chain_is_too_many usual ch.outer ch.links ≡ false
    → r ≡ chained ch.outer ch.links
    → text ≡ canonical_text_in (form_asked options.relative) ch.base (asked options r)
    → (text, Done) ≡ chain_output options ch
composed_is options ch text r none few is same = rw (none, few, same, is) refl

pub written_for : (options : ComposeOptions) (input : List ℕ) (found : Checked (Option ChainParts))
    → chain_in input ≡ found → compose_output options input ≡ read_output options found
unfolding compose_output
written_for options input found is = ap (read_output options) is
