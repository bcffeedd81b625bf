-- Each listed source has the URL that what is written resolves to.
use Rattle.std.proofs.Common.{◌≡◌, ℕ, zero, suc, ◌+◌, ◌-◌, List, [], ◌∷◌, ◌++◌, length, replicate, codes}
use Rattle.std.proofs.Common.{Option, Some, None, Ok, Err, ap, refl, sym, arith, subst, length-append}
use Rattle.std.proofs.Common.{map, append-nil, Bool}
use Rattle.std.specs.Prelude.{Result, flat_map, ◌&&◌, option_and_then, is_none}
use Rattle.std.proofs.lemmas.List.{map-append, append_assoc, length-map, length-take-le, length-replicate}
use Rattle.url.specs.Parts.{Parts}
use Rattle.serde_json.specs.Data.{Data}
use Rattle.serde_json.specs.Find.{as_object, as_str}
use Rattle.smap_mappings.specs.declared.position.Position.{Position}
use Rattle.smap_mappings.specs.Decoded.{decoded}
use Rattle.smap_shape.specs.declared.fault.ShapeFault.{ShapeFault}
use Rattle.smap_shape.specs.declared.fault.ShapeFault.TheVariants.{NotObject, Both, Names, SourcesContent}
use Rattle.smap_shape.specs.declared.fault.ShapeFault.TheVariants.{SourceRoot, Sources, Mappings, IgnoreList}
use Rattle.smap_shape.specs.Members.{Flat, MapMembers, flat, index, fitted, is_listed}
use Rattle.smap_shape.specs.Reading.{shape_of, section_of, labels_of, flat_of, index_of, flat_or_index}
use Rattle.smap_shape.specs.Reading.{list_member, text_or_null, optional, number_below, ignored_member}
use Rattle.smap_shape.specs.Reading.{or_fault as or_shape_fault, refuse_if as refuse_shape_if, member_of, has}
use Rattle.smap_record.specs.declared.fault.Kind.TheVariants.{TooMany, Offset, Order, Overlap}
use Rattle.smap_record.specs.Record.{Labels, Entry, Listing, ReadMap, Allowed}
use Rattle.smap_record.specs.SourceUrls.{Resolved, no_url, unstable, resolved, resolve}
use Rattle.smap_record.specs.Faults.{Checked, ◌>>=◌, refuse_if, or_fault, of_shape, of_segments, in_section}
use Rattle.smap_record.specs.Flat.{start, nothing, source_entry, entries_from, listed_flat, bounds_of}
use Rattle.smap_record.specs.Flat.{is_too_many, source_at, source_url}
use Rattle.smap_record.specs.Sections.{Inner, own_offset, combined, falls, overlaps, listed_section}
use Rattle.smap_record.specs.Sections.{listed_sections, section_map}
use Rattle.smap_record.specs.Reading.{map_of, tree_map}
use Rattle.smap_record.specs.Written.{Spelling, of_flat, of_section, of_members, of_tree, url_if, url_of}

-- ---- one step after the other

-- this holds of the value, if there is one
abbrev Gives : {A F : Type 0} → Result A F → (A → Type 0) → Type 0
Gives {A} r P = (x : A) → r ≡ Ok x → P x

gives : {A F : Type 0} (P : A → Type 0) (x : A) → P x → Gives {A = A} {F = F} (Ok x) P
gives P x holds y same = let is : x ≡ y = cc in subst P is holds

then : {A B F : Type 0} (P : B → Type 0) (r : Result A F) (f : A → Result B F)
    → ((x : A) → r ≡ Ok x → Gives (f x) P) → Gives (r >>= f) P
then P (Ok x) f next y same = next x refl y same
then P (Err e) f next y same = absurd cc

-- the same after what is read of a tree
then_read : {A B : Type 0} (P : B → Type 0) (r : Result A ShapeFault) (f : A → Checked B)
    → ((x : A) → r ≡ Ok x → Gives (f x) P) → Gives (of_shape r >>= f) P
then_read P (Ok x) f next y same = next x refl y same
then_read P (Err e) f next y same = absurd cc

-- the same after a section
then_in : {A B : Type 0} (P : B → Type 0) (k : ℕ) (r : Checked A) (f : A → Checked B)
    → ((x : A) → r ≡ Ok x → Gives (f x) P) → Gives (in_section k r >>= f) P
then_in P k (Ok x) f next y same = next x refl y same
then_in P k (Err e) f next y same = absurd cc

-- ---- one content for each source

abbrev HasContents : Flat → Type 0
HasContents m = length m.contents ≡ length m.sources

abbrev FlatHasContents : MapMembers Data → Type 0
FlatHasContents (flat m) = HasContents m
FlatHasContents (index i) = Unit {0}

length-fitted : {A : Type 0} (n : ℕ) (xs : List (Option A)) → length (fitted n xs) ≡ n
length-fitted {A} n xs =
    let none : Option A = None in
    let all = length-append xs (replicate (n - length xs) none) in
    let more = length-replicate (n - length xs) none in
    length-take-le n (xs ++ replicate (n - length xs) none) (omega (arith, all, more))

flat_fits : (labels : Labels) (tree : Data) → Gives (flat_of labels tree) HasContents
flat_fits labels tree =
    then _ (or_shape_fault SourceRoot (optional as_str (member_of (codes "sourceRoot") tree))) _ (λ root _.
    then _ (or_shape_fault Sources (list_member text_or_null (member_of (codes "sources") tree))) _
    (λ sources _.
    then _
    (or_shape_fault SourcesContent (list_member text_or_null (member_of (codes "sourcesContent") tree))) _
    (λ contents _.
    then _ (or_shape_fault Names (list_member as_str (member_of (codes "names") tree))) _ (λ names _.
    then _ (or_shape_fault IgnoreList (list_member (number_below (length sources)) (ignored_member tree))) _
    (λ ignored _.
    then _ (or_shape_fault Mappings (option_and_then as_str (member_of (codes "mappings") tree))) _
    (λ mappings _.
    gives HasContents _ (length-fitted (length sources) contents)))))))

shape_fits : (tree : Data) → Gives (shape_of tree) FlatHasContents
unfolding shape_of
shape_fits tree =
    then _ (refuse_shape_if NotObject (is_none (as_object tree))) _ (λ _ _.
    then _ (labels_of tree) _ (λ labels _.
    then _ (refuse_shape_if Both (has (codes "sections") tree && has (codes "mappings") tree)) _ (λ _ _.
    by labels (member_of (codes "sections") tree))))
  where
    by : (labels : Labels) (o : Option Data) → Gives (flat_or_index labels o tree) FlatHasContents
    by labels None = then _ (flat_of labels tree) _
        (λ m ok. gives FlatHasContents (flat m) (flat_fits labels tree m ok))
    by labels (Some sections) =
        then _ (index_of labels sections) _ (λ i _. gives FlatHasContents (index i) tt)

-- ---- a flat map

abbrev urls : List Entry → List (Option (List ℕ))
urls es = map (λ e. e.url) es

-- the sources of one map with this root
abbrev rooted : Option (List ℕ) → List (Option (List ℕ)) → List Spelling
rooted root ss = map (λ source. record { source = source; root = root }) ss

module _ (base : Parts) where
  module _ (root : Option (List ℕ)) (ignored : List ℕ) where
    source_has : (i : ℕ) (s : Option (List ℕ))
        → Gives (source_url base root i s) (λ url. url ≡ url_of base (record { source = s; root = root }))
    unfolding source_url
    source_has i None url same = cc
    source_has i (Some source) url same = by (resolve base root source) same
      where
        by : (r : Resolved) → (source_at i r >>= λ text. Ok (Some text)) ≡ Ok url → url ≡ url_if r
        by no_url same = cc
        by unstable same = cc
        by (resolved text) same = cc

    entry_has : (i : ℕ) (s c : Option (List ℕ)) (flag : Bool) → Gives (source_entry base root i s c flag)
        (λ e. e.url ≡ url_of base (record { source = s; root = root }))
    entry_has i s c flag = then _ (source_url base root i s) _ (λ url ok.
        gives (λ (e : Entry). e.url ≡ url_of base (record { source = s; root = root })) _
        (source_has i s url ok))

    entries_have : (i : ℕ) (ss cs : List (Option (List ℕ))) → length cs ≡ length ss
        → Gives (entries_from base root ignored i ss cs) (λ es. urls es ≡ map (url_of base) (rooted root ss))
    unfolding entries_from
    entries_have i [] cs as_many = gives _ [] refl
    entries_have i (s ∷ ss) [] as_many = absurd (omega (arith, as_many))
    entries_have i (s ∷ ss) (c ∷ cs) as_many =
        let rest = entries_have (i + 1) ss cs (omega (arith, as_many)) in
        then _ (source_entry base root i s c (is_listed i ignored)) _ (λ e first.
        then _ (entries_from base root ignored (i + 1) ss cs) _ (λ es ok.
        gives (λ es. urls es ≡ map (url_of base) (rooted root (s ∷ ss))) (e ∷ es)
        (λ j. entry_has i s c (is_listed i ignored) e first j ∷ rest es ok j)))

  -- these sources are listed after those before
  abbrev Adds : Listing → List Spelling → Listing → Type 0
  Adds before ws now = urls now.sources ≡ urls before.sources ++ map (url_of base) ws

  flat_adds : (limits : Allowed) (offset : Position) (before : Listing) (m : Flat) → HasContents m
      → Gives (listed_flat base limits offset before m) (Adds before (of_flat m))
  unfolding listed_flat
  flat_adds limits offset before m as_many =
      then _ (refuse_if TooMany (is_too_many limits before m)) _ (λ _ _.
      then _ (entries_from base m.root m.ignored 0 m.sources m.contents) _ (λ es ok.
      then _ (of_segments (decoded (bounds_of limits offset m) m.mappings)) _ (λ ts _.
      gives (Adds before (of_flat m)) _ (rw (
        map-append (λ (e : Entry). e.url) before.sources es,
        entries_have m.root m.ignored 0 m.sources m.contents as_many es ok,
      ) refl))))

  -- ---- sections

  module _ (level : ℕ) (inner : Inner) (own : MapMembers Data → List Spelling)
      (each : (offset : Position) (before : Listing) (m : MapMembers Data) → FlatHasContents m
      → Gives (inner offset before m) (Adds before (own m))) where
    section_adds : (outer : Position) (last : Option Position) (before : Listing) (tree : Data)
        → Gives (listed_section level inner outer last before tree)
        (λ now. Adds before (of_section level own tree) now.1)
    section_adds outer last before tree =
        then_read _ (section_of level tree) _ (λ s section.
        then _ (or_fault Offset (combined outer (own_offset s))) _ (λ o _.
        then _ (refuse_if Order (falls last (own_offset s))) _ (λ _ _.
        then _ (refuse_if Overlap (overlaps before o)) _ (λ _ _.
        then_read _ (shape_of s.map) _ (λ m read.
        then _ (inner o before m) _ (λ now listed.
        gives (λ (now : Position × Listing). Adds before (of_section level own tree) now.1)
        (own_offset s, now)
        (rw (section, read) (each o before m (shape_fits s.map m read) now listed))))))))

    sections_add : (outer : Position) (k : ℕ) (last : Option Position) (before : Listing) (trees : List Data)
        → Gives (listed_sections level inner outer k last before trees)
        (Adds before (flat_map (of_section level own) trees))
    unfolding listed_sections
    sections_add outer k last before [] = gives _ before (sym (append-nil (urls before.sources)))
    sections_add outer k last before (t ∷ ts) = then_in _ k (listed_section level inner outer last before t) _
        (λ now listed all others.
        let one = section_adds outer last before t now listed in
        let rest = sections_add outer (k + 1) (Some now.0) now.1 ts all others in
        let first = map (url_of base) (of_section level own t) in
        let more = map (url_of base) (flat_map (of_section level own) ts) in
        let both = map-append (url_of base) (of_section level own t) (flat_map (of_section level own) ts) in
        rw (rest, one, both) (append_assoc (urls before.sources) first more))

  map_adds : (limits : Allowed) (n : ℕ) (offset : Position) (before : Listing) (m : MapMembers Data)
      → FlatHasContents m → Gives (section_map base limits n offset before m) (Adds before (of_members n m))
  unfolding section_map of_members
  map_adds limits zero offset before (flat m) as_many = flat_adds limits offset before m as_many
  map_adds limits zero offset before (index i) as_many = λ now same. absurd cc
  map_adds limits (suc n) offset before (flat m) as_many = flat_adds limits offset before m as_many
  map_adds limits (suc n) offset before (index i) as_many =
      sections_add (8 - n) (section_map base limits n) (of_members n) (map_adds limits n) offset 0 None before
      i.sections

  -- ---- the whole

  abbrev Lists : List Spelling → ReadMap → Type 0
  Lists ws m = urls m.listing.sources ≡ map (url_of base) ws

  members_listed : (limits : Allowed) (m : MapMembers Data) → FlatHasContents m
      → Gives (map_of base limits m) (Lists (of_members 8 m))
  unfolding of_members
  members_listed limits (flat m) as_many = then _ (listed_flat base limits start nothing m) _ (λ listing ok.
      gives (Lists (of_flat m)) _ (flat_adds limits start nothing m as_many listing ok))
  members_listed limits (index i) as_many =
      then _ (listed_sections 1 (section_map base limits 7) start 0 None nothing i.sections) _ (λ listing ok.
      gives (Lists (flat_map (of_section 1 (of_members 7)) i.sections)) _
      (sections_add 1 (section_map base limits 7) (of_members 7) (map_adds limits 7) start 0 None nothing
      i.sections listing ok))

  module _ (limits : Allowed) (tree : Data) (m : ReadMap) (reads : tree_map base limits tree ≡ Ok m)
      (ws : List Spelling) (written : ws ≡ of_tree tree) where
    -- the map of a tree lists the sources that the tree writes
    pub listed_urls : urls m.listing.sources ≡ map (url_of base) ws
    listed_urls = then_read (λ m. urls m.listing.sources ≡ map (url_of base) ws) (shape_of tree)
        (map_of base limits) (λ members read m ok.
        rw (written, read) (members_listed limits members (shape_fits tree members read) m ok)) m reads

    pub listed_count : length ws ≡ length m.listing.sources
    listed_count =
        let same = ap length listed_urls in
        omega (arith, same, length-map ws (url_of base), length-map m.listing.sources (λ (e : Entry). e.url))
