-- Sources that wait for their maps.
use Rattle.std.proofs.Common.{◌≡◌, ◌∙◌, ℕ, Bool, true, false, cond, not, List, [], ◌∷◌, ◌++◌, Option, Some}
use Rattle.std.proofs.Common.{None}
use Rattle.std.proofs.Common.{arith, filter, refl, sym, take, unwrap_or}
use Rattle.std.specs.Prelude.{◌||◌, bytes_eq}
use Rattle.std.specs.List.{list_any}
use Rattle.std.proofs.lemmas.List.Folds.{list_any-append}
use Rattle.std.proofs.lemmas.Slice.Eq.{bytes_eq-Decides}
use Rattle.indexmap.specs.IndexMap.{insert_entry}
use denote.Ref.{Bor}
use Rattle.std.proofs.Common.{◌+◌, ap, append_assoc, slice_get}
use Rattle.std.specs.Prelude.{option_map}
use Rattle.std.proofs.lemmas.Option.{slice_get-map}
use Rattle.smap_record.specs.Record.{Entry, ReadMap, Record, record_of}
use Rattle.smap_record.proofs.ListLemmas.{drop_next, take_next}
use Rattle.smap_compose.specs.Chain.{Link, is_of, links_of, unled}
use Rattle.smap_compose.specs.Closed.{AreOpen, LeadsSoFar, found_in, is_open}
use Rattle.smap_compose.proofs.ClosingLemmas.{found_more}

abbrev with_text : List (Bor (List ℕ) × Bool) → Bor (List ℕ) → Bool → List (Bor (List ℕ) × Bool)
with_text rows k b = insert_entry (λ (a b : Bor (List ℕ)). bytes_eq a.now b.now) rows k b

opened : (found : Option Bool) (waiting : Bool) (text url : List ℕ) → unwrap_or found false ≡ waiting
    → unwrap_or (cond (bytes_eq text url) (Some true) found) false ≡ (waiting || (bytes_eq url text || false))
opened found waiting text url e =
    grind (arith, bytes_eq-Decides text url, bytes_eq-Decides url text)

-- one source more, with a URL
pub open_more : (rows : List (Bor (List ℕ) × Bool)) (k : Bor (List ℕ)) (es : List Entry) (e : Entry)
    → e.url ≡ Some k.now → AreOpen rows es → AreOpen (with_text rows k true) (es ++ e ∷ [])
open_more rows k es e url are text = rw (
  found_more rows k true text,
  list_any-append (is_of text) es (e ∷ []),
  url,
) (opened (found_in rows text) (list_any (is_of text) es) text k.now (are text))

or_false : (b : Bool) → (b || false) ≡ b
or_false true = refl
or_false false = refl

-- one source more, without a URL
pub open_still : (rows : List (Bor (List ℕ) × Bool)) (es : List Entry) (e : Entry) → e.url ≡ None
    → AreOpen rows es → AreOpen rows (es ++ e ∷ [])
open_still rows es e url are text = are text
    ∙ sym (rw (list_any-append (is_of text) es (e ∷ []), url) (or_false (list_any (is_of text) es)))

any_cond : {A : Type 0} (p : A → Bool) (b : Bool) (x : A) (xs : List A)
    → list_any p (cond b (x ∷ xs) xs) ≡ cond b (p x || list_any p xs) (list_any p xs)
any_cond p true x xs = refl
any_cond p false x xs = refl

shut_at : (u script text : List ℕ) (few all : Bool) → few ≡ cond (bytes_eq text script) false all
    → cond (not (bytes_eq u script)) (bytes_eq u text || few) few
    ≡ cond (bytes_eq text script) false (bytes_eq u text || all)
shut_at u script text few all e =
    grind (arith, bytes_eq-Decides u text, bytes_eq-Decides u script, bytes_eq-Decides text script)

shut_step : (url : Option (List ℕ)) (e : Entry) (es : List Entry) (script text : List ℕ) → e.url ≡ url
    → list_any (is_of text) (filter (λ x. not (is_of script x)) es)
    ≡ cond (bytes_eq text script) false (list_any (is_of text) es)
    → list_any (is_of text) (filter (λ x. not (is_of script x)) (e ∷ es))
    ≡ cond (bytes_eq text script) false (list_any (is_of text) (e ∷ es))
shut_step None e es script text is rest = rw is rest
shut_step (Some u) e es script text is rest =
    any_cond (is_of text) (not (is_of script e)) e (filter (λ x. not (is_of script x)) es)
    ∙ rw is (shut_at u script text (list_any (is_of text) (filter (λ x. not (is_of script x)) es))
    (list_any (is_of text) es) rest)

shut : (es : List Entry) (script text : List ℕ)
    → list_any (is_of text) (filter (λ x. not (is_of script x)) es)
    ≡ cond (bytes_eq text script) false (list_any (is_of text) es)
shut [] script text = grind arith
shut (e ∷ es) script text = shut_step e.url e es script text refl (shut es script text)

closed_at : (found : Option Bool) (waiting same : Bool) → unwrap_or found false ≡ waiting
    → unwrap_or (cond same (Some false) found) false ≡ cond same false waiting
closed_at found waiting same e = grind arith

-- the sources that wait once a script has its map
pub open_less : (rows : List (Bor (List ℕ) × Bool)) (k : Bor (List ℕ)) (es : List Entry)
    → AreOpen rows es → AreOpen (with_text rows k false) (filter (λ e. not (is_of k.now e)) es)
open_less rows k es are text = rw (found_more rows k false text, shut es k.now text)
    (closed_at (found_in rows text) (list_any (is_of text) es) (bytes_eq text k.now) (are text))

-- ---- one after another

pub one_taken : (es rs : List Entry) (i : ℕ) (e : Entry) → slice_get rs i ≡ Some e
    → ((es ++ take i rs) ++ e ∷ []) ≡ es ++ take (i + 1) rs
one_taken es rs i e at = append_assoc es (take i rs) (e ∷ [])
    ∙ ap (λ (xs : List Entry). es ++ xs) (sym (take_next rs i e at))

-- what is left, once the next link was looked at
module _ (r : Record) (links : List Link) (n : ℕ) (link : Link) (rows : List (Bor (List ℕ) × Bool))
    (so_far : LeadsSoFar r links n rows) (at : slice_get links n ≡ Some link) where
  waiting : is_open rows link.0 ≡ list_any (is_of link.0) so_far.waiting
  waiting = so_far.are link.0

  pub stops_here : is_open rows link.0 ≡ false → Some n ≡ unled r links
  stops_here isnt =
      let none : list_any (is_of link.0) so_far.waiting ≡ false = sym waiting ∙ isnt in
      sym (rw (drop_next links n link at, none) refl) ∙ so_far.left

  pub leads_on : is_open rows link.0 ≡ true → (new : List (Bor (List ℕ) × Bool))
      → AreOpen new (filter (λ e. not (is_of link.0 e)) so_far.waiting ++ link.1.sources)
      → LeadsSoFar r links (n + 1) new
  leads_on is new are =
      let some : list_any (is_of link.0) so_far.waiting ≡ true = sym waiting ∙ is in
      record {
        waiting = filter (λ e. not (is_of link.0 e)) so_far.waiting ++ link.1.sources;
        are = are;
        left = sym (rw (drop_next links n link at, some) refl) ∙ so_far.left;
      }

-- the link of a script with its map
pub link_at : (links : List (Bor (List ℕ) × ReadMap)) (n : ℕ) (link : Bor (List ℕ) × ReadMap)
    → slice_get links n ≡ Some link → slice_get (links_of links) n ≡ Some (link.0.now, record_of link.1)
link_at links n link at = slice_get-map (λ (l : Bor (List ℕ) × ReadMap). (l.0.now, record_of l.1)) links n
    ∙ ap (option_map (λ (l : Bor (List ℕ) × ReadMap). (l.0.now, record_of l.1))) at
