-- How many bytes the URLs of sources take: one source after the other, and the URLs of what is listed.
use Rattle.std.proofs.Common.{◌≡◌, ◌∙◌, ◌+◌, ◌++◌, ◌≤◌, ◌<◌, ℕ, max, true, false, List, []}
use Rattle.std.proofs.Common.{map, Option, Some, None, Ok, Err, ap, arith, get_or, length, nat_le, refl}
use Rattle.std.proofs.Common.{slice_get, subst, sym, take}
use Rattle.std.proofs.Common.{if◌then◌else◌}
use Rattle.std.specs.Prelude.{option_map, unwrap_or, sum_by}
use Rattle.std.proofs.lemmas.Bool.{cond-true, cond-false}
use Rattle.std.proofs.lemmas.Bool.Decides.{nat_tests}
use Rattle.std.proofs.lemmas.Option.{slice_get-get_or}
use Rattle.std.proofs.lemmas.List.Recursion.{is_sum_by}
use Rattle.std.proofs.lemmas.List.Sums.{sum_by_more, sum_by_more_le, sum_by-cons, sum_by-le-sum_by}
use Rattle.url.specs.Parts.{Parts}
use Rattle.url.specs.Parser.{parse_url}
use Rattle.serde_json.specs.Data.{Data}
use Rattle.smap_record.specs.declared.fault.ReadError.{ReadError}
use Rattle.smap_record.specs.declared.fault.ReadError.TheVariants as errors
use Rattle.smap_record.specs.Faults.{Checked, ◌>>=◌}
use Rattle.smap_record.specs.Results.{Fails}
use Rattle.smap_record.specs.Reading.{map_tree, tree_map, reading}
use Rattle.smap_record.specs.Record.{Entry, Allowed, ReadMap}
use Rattle.smap_record.specs.SourceUrls.{prefix_of, text_of, if_stable, resolve}
use Rattle.smap_record.specs.Written.{Spelling, if_read, of_tree, url_if, url_of}
use Rattle.smap_record.specs.UrlBytes.{source_bytes, url_bytes, are_within, listed_bytes}
use Rattle.smap_record.specs.UrlBytes.{tree_map_within, reading_within}
use Rattle.smap_record.proofs.StepLemmas.{first_fails}

-- stands in for a source where there is none
abbrev no_source : Spelling
no_source = record { source = None; root = None }

-- too little is left, so all take too much
pub none_left : (left so_far most taken all : ℕ) → left + so_far ≡ most → so_far + taken ≤ all
    → (taken ≤ left → ⊥) → false ≡ nat_le all most
none_left left so_far most taken all before least beyond = grind (arith, nat_tests)

module _ (base : Parts) where
  module _ (ws : List Spelling) (i : ℕ) (root source : Option (List ℕ)) (within : i < length ws)
      (at_root : option_map (λ (s : Spelling). s.root) (slice_get ws i) ≡ Some root)
      (at_source : option_map (λ (s : Spelling). s.source) (slice_get ws i) ≡ Some source) where
    is_next : source_bytes base (get_or ws i no_source).root (get_or ws i no_source).source
        ≡ source_bytes base root source
    is_next =
        let at = slice_get-get_or ws i no_source within in
        let root_is : Some (get_or ws i no_source).root ≡ Some root = rw at at at_root in
        let source_is : Some (get_or ws i no_source).source ≡ Some source = rw at at at_source in
        cc

    -- with the next source
    pub url_bytes_more : url_bytes base (take (i + 1) ws)
        ≡ url_bytes base (take i ws) + source_bytes base root source
    url_bytes_more =
        let more = sum_by_more (λ (s : Spelling). source_bytes base s.root s.source) ws i no_source within in
        rw (more, is_next) refl

    -- as many as all take
    pub url_bytes_at_least : url_bytes base (take i ws) + source_bytes base root source ≤ url_bytes base ws
    url_bytes_at_least =
        let least =
        sum_by_more_le (λ (s : Spelling). source_bytes base s.root s.source) ws i no_source within in
        omega (arith, least, is_next)

-- ---- the URLs of what is listed

abbrev url_bytes_of : Option (List ℕ) → ℕ
url_bytes_of url = length (unwrap_or url [])

sum_by-map : {A B : Type 0} (f : B → ℕ) (g : A → B) (xs : List A)
    → sum_by f (map g xs) ≡ sum_by (λ x. f (g x)) xs
sum_by-map f g xs =
    is_sum_by (λ xs. sum_by f (map g xs)) (λ x. f (g x)) refl (λ x xs. sum_by-cons f (g x) (map g xs)) xs

module _ (base : Parts) where
  stable_within : (o : Option (List ℕ)) (n : ℕ)
      → url_bytes_of (url_if (if_stable base o)) ≤ max n (url_bytes_of o)
  stable_within o n = grind arith

  -- a URL is among the bytes that its source takes
  own_within : (root source : Option (List ℕ))
      → url_bytes_of (url_of base (record { source = source; root = root })) ≤ source_bytes base root source
  unfolding resolve
  own_within root None = omega arith
  own_within root (Some source) = stable_within (text_of (parse_url (Some base) (prefix_of root ++ source)))
      (length (prefix_of root ++ source))

  -- the URLs of a listing take no more than its sources as they are written
  pub listed_within : (es : List Entry) (ws : List Spelling) (most : ℕ)
      → map (λ e. e.url) es ≡ map (url_of base) ws → are_within base most ws ≡ true → listed_bytes es ≤ most
  listed_within es ws most same few =
      let urls : listed_bytes es ≡ sum_by (λ s. url_bytes_of (url_of base s)) ws =
      sym (sum_by-map url_bytes_of (λ (e : Entry). e.url) es) ∙ ap (sum_by url_bytes_of) same
      ∙ sum_by-map url_bytes_of (url_of base) ws in
      let all = sum_by-le-sum_by (λ (s : Spelling). url_bytes_of (url_of base s))
      (λ s. source_bytes base s.root s.source) ws (λ s. own_within s.root s.source) in
      grind (arith, nat_tests, urls, all, few)

-- ---- a map within its bytes

module _ (base : Parts) (limits : Allowed) (most : ℕ) where
  module _ (tree : Data) (ws : List Spelling) (written : ws ≡ of_tree tree) where
    pub tree_beyond : are_within base most ws ≡ false → tree_map_within base limits most tree ≡ Ok None
    tree_beyond beyond = cond-false _ _ _ (ap (are_within base most) (sym written) ∙ beyond)

    within : are_within base most ws ≡ true
        → tree_map_within base limits most tree ≡ (tree_map base limits tree >>= λ m. Ok (Some m))
    within few = cond-true _ _ _ (ap (are_within base most) (sym written) ∙ few)

    pub tree_within : (m : ReadMap) → are_within base most ws ≡ true → tree_map base limits tree ≡ Ok m
        → tree_map_within base limits most tree ≡ Ok (Some m)
    tree_within m few read = within few ∙ ap (λ (r : Checked ReadMap). r >>= λ m. Ok (Some m)) read

    pub tree_refused : (e : ReadError) → are_within base most ws ≡ true → Fails e (tree_map base limits tree)
        → Fails e (tree_map_within base limits most tree)
    tree_refused e few fails =
        subst (Fails e) (sym (within few)) (first_fails e (tree_map base limits tree) _ fails)

  -- the map of a tree, if there is one
  abbrev at : Checked Data → Checked (Option ReadMap)
  at r = if are_within base most (if_read of_tree r) then ((r >>= tree_map base limits) >>= λ m. Ok (Some m))
      else Ok None

  pub read_within : (bytes : List ℕ) (tree : Data) → map_tree bytes ≡ Ok tree
      → reading_within base limits most bytes ≡ tree_map_within base limits most tree
  unfolding reading
  read_within bytes tree same = ap at same

  pub not_read : (bytes : List ℕ) (e : ReadError) → Fails e (map_tree bytes)
      → Fails e (reading_within base limits most bytes)
  unfolding reading
  not_read bytes errors.Memory fails = tt
  not_read bytes (errors.Refused f) fails =
      let none : nat_le 0 most ≡ true = grind (arith, nat_tests) in
      ap at fails ∙ cond-true (nat_le 0 most) (Err f) (Ok None) none
