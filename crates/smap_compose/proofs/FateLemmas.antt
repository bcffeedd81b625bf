-- What becomes of a line that is translated by a map, and then by those of its sources.
use Rattle.std.proofs.Common.{◌≡◌, ◌∙◌, ◌⊎◌, inl, inr, ℕ, ◌+◌, ◌-◌, Bool, true, false, List, [], ◌∷◌, ◌++◌}
use Rattle.std.proofs.Common.{Option, Some, None, refl, sym, ap, subst, arith, append_assoc, bytes_eq, cond}
use Rattle.std.specs.Prelude.{◌&&◌, ◌||◌, IfSome, option_map, option_and_then}
use Rattle.std.specs.List.{AllByRecursion}
use Rattle.std.specs.Option.{option_map_or}
use Rattle.std.proofs.lemmas.Bool.{cases_Bool, cond_both}
use Rattle.std.proofs.lemmas.Slice.Eq.{bytes_eq-Decides}
use Rattle.smap_frames.specs.Frame.{BeginsWithAt, FrameParts, IsFirefox, IsFrame, IsV8, lacks, position_text}
use Rattle.smap_frames.specs.Reading.{frame_of}
use Rattle.smap_frames.proofs.CompleteLemmas.{complete}
use Rattle.smap_frames.proofs.SoundLemmas.{sound}
use Rattle.smap_record.specs.Record.{Entry, Mapping, Origin, Record, same_text}
use Rattle.smap_record.proofs.EqualLemmas.{same_bytes}
use Rattle.smap_trace.specs.Lookup.{mapping_at}
use Rattle.smap_trace.specs.RenamedFrame.{IsPut, text_of}
use Rattle.smap_trace.specs.Scripts.{map_of}
use Rattle.smap_trace.specs.Translation.{Fate, dropped, fate_at, fate_in, fate_of, kept, origin_at}
use Rattle.smap_trace.specs.Translation.{origin_text, translated}
use Rattle.smap_trace.proofs.LackLemmas.{both_lack, each_lacks, position_lacks}
use Rattle.smap_trace.proofs.RenamedFrameLemmas.{begins_alike, end_lacks}
use Rattle.smap_compose.specs.Chain.{Link, led_to}
use Rattle.smap_compose.specs.Composing.{composition, followed, led_on, origin_in}
use Rattle.smap_compose.specs.TraceLaws.{AllStand, CanStand, EndsBetween, at_once}
use Rattle.smap_compose.proofs.FitLemmas.{found_has}
use Rattle.smap_compose.proofs.LookupLemmas.{origin_found}

-- ---- a frame at another position

abbrev moved : FrameParts → List ℕ → ℕ → ℕ → FrameParts
moved f url line column = record f { url = url; line = line; column = column }

module _ (text : List ℕ) (f : FrameParts) (url : List ℕ) (line column : ℕ) (is : IsFrame text f)
    (put : IsPut url line column) where
  moved_v8 : IsV8 f → IsV8 (moved f url line column)
  moved_v8 v = record {
    spaces = v.spaces;
    lead = v.lead;
    close = v.close;
    line_end = v.line_end;
    are_spaces = v.are_spaces;
    form = v.form;
    ends = v.ends;
    before_is = v.before_is;
    after_is = v.after_is;
  }

  moved_firefox : IsFirefox f → IsFirefox (moved f url line column)
  moved_firefox x = record { name = x.name; no_at = x.no_at; before_is = x.before_is; ends = x.ends }

  still_firefox : IsFirefox f → BeginsWithAt (text_of (moved f url line column)) → BeginsWithAt text
  still_firefox x b =
      let put_there = position_text url line column in
      let was = position_text f.url f.line f.column in
      let free : lacks 32 (put_there ++ f.after) ≡ true = both_lack 32 put_there f.after
      (position_lacks 32 url line column (λ d low high e. omega arith) refl put.no_space put.line_place
      put.column_place) (end_lacks f.after x.ends) in
      rw (is.whole, append_assoc f.before was f.after)
      (begins_alike f.before (put_there ++ f.after) (was ++ f.after)
      (rw (append_assoc f.before put_there f.after) at b) free)

  moved_form : IsV8 f ⊎ ((BeginsWithAt text → ⊥) × IsFirefox f) → IsV8 (moved f url line column)
      ⊎ ((BeginsWithAt (text_of (moved f url line column)) → ⊥) × IsFirefox (moved f url line column))
  moved_form (inl v) = inl (moved_v8 v)
  moved_form (inr x) = inr (λ b. x.0 (still_firefox x.1 b), moved_firefox x.1)

  frame_moved : IsFrame (text_of (moved f url line column)) (moved f url line column)
  frame_moved =
      let there = position_text f.url f.line f.column in
      let outer = each_lacks 10 (f.before ++ there) f.after (rw is.whole at is.one_line) in
      let inner = (each_lacks 10 f.before there outer.0).0 in
      let free = both_lack 10 f.before (position_text url line column) inner
      (position_lacks 10 url line column (λ d low high e. omega arith) refl put.one_line put.line_place
      put.column_place) in
      record {
        whole = refl;
        one_line = both_lack 10 (f.before ++ position_text url line column) f.after free outer.1;
        some_url = put.some_url;
        no_space = put.no_space;
        line_place = put.line_place;
        column_place = put.column_place;
        form = moved_form is.form;
      }

-- ---- the map of a source

bytes_turned : (a b : List ℕ) → bytes_eq a b ≡ bytes_eq b a
bytes_turned a b = grind (arith, bytes_eq-Decides a b, bytes_eq-Decides b a)

-- where a source leads whose URL is this
url_is : (link : Link) (later : List Link) (e : Entry) (url : Option (List ℕ)) → e.url ≡ url
    → led_to (link ∷ later) e ≡ cond (same_text url (Some link.0)) (Some link.1) (led_to later e)
url_is link later e url is = ap (λ u. cond (same_text u (Some link.0)) (Some link.1) (led_to later e)) is

led_none : (links : List Link) (e : Entry) → e.url ≡ None → led_to links e ≡ None
led_none [] e is = refl
led_none (link ∷ later) e is = url_is link later e None is ∙ led_none later e is

led_url : (links : List Link) (e : Entry) (url : List ℕ) → e.url ≡ Some url
    → led_to links e ≡ map_of links url
led_url [] e url is = refl
led_url (link ∷ later) e url is =
    url_is link later e (Some url) is ∙ elim (cases_Bool (bytes_eq link.0 url)) [
      | inl same ↦ rw (bytes_turned url link.0, same) refl
      | inr other ↦ rw (bytes_turned url link.0, other) (led_url later e url is)
    ]

-- ---- one position

-- what a line becomes at last that was translated to a text
abbrev pub at_last : List ℕ → Fate → Fate
at_last text kept = translated text
at_last text (translated more) = translated more
at_last text dropped = dropped

-- What becomes of a line that has become this: if it was kept, what it becomes itself, and if it was
-- translated, what that text does.
abbrev pub twice : Fate → (List ℕ → Fate) → Fate → Fate
twice own next kept = own
twice own next (translated text) = at_last text (next text)
twice own next dropped = dropped

back : (n : ℕ) → n + 1 - 1 ≡ n
back n = omega arith

there_again : (s : Record) (o : Origin)
    → origin_at s (o.line + 1) (o.column + 1) ≡ origin_in s o.line o.column
there_again s o = rw (back o.line, back o.column) refl

hidden_both : (hide a b : Bool) → (hide && a) ≡ true → (hide && (a || b)) ≡ true
hidden_both hide a b h = grind arith

shown_both : (hide a b : Bool) → (hide && a) ≡ false → (hide && (a || b)) ≡ (hide && b)
shown_both hide a b h = grind arith

module _ (later : List Link) (hide : Bool) (f : FrameParts) (o : Origin) where
  -- with its position at the original
  abbrev at_original : List ℕ → FrameParts
  at_original url = moved f url (o.line + 1) (o.column + 1)

  -- what the next map gives, if it gives something
  abbrev LeadsFurther : Option Origin → Type 0
  LeadsFurther found = option_and_then origin_text found ≡ None → ⊥

  by_found : (text url : List ℕ) (found : Option Origin) → (hide && o.source.ignored) ≡ false
      → LeadsFurther found
      → at_last text (option_map_or (fate_at hide (at_original url)) found kept)
      ≡ option_map_or (fate_at hide f) (option_map (led_on o) found) kept
  by_found text url found shown on = grind arith

  hidden_found : (found : Option Origin) → (hide && o.source.ignored) ≡ true → LeadsFurther found
      → option_map_or (fate_at hide f) (option_map (led_on o) found) kept ≡ dropped
  hidden_found found h on = grind arith

  -- where the original leads, if its source has this map or none
  abbrev leads : Option Record → Option Origin
  leads next = option_map_or (λ s. option_map (led_on o) (origin_in s o.line o.column)) next (Some o)

  abbrev AllFurther : Option Record → Type 0
  AllFurther next = (s : Record) → next ≡ Some s → LeadsFurther (origin_in s o.line o.column)

  is_hidden : (hide && o.source.ignored) ≡ true → fate_at hide f o ≡ dropped
  is_hidden h = rw h refl

  hidden_next : (next : Option Record) → (hide && o.source.ignored) ≡ true → AllFurther next
      → option_map_or (fate_at hide f) (leads next) kept ≡ dropped
  hidden_next None h on = is_hidden h
  hidden_next (Some s) h on = hidden_found (origin_in s o.line o.column) h (on s refl)

  is_kept : (hide && o.source.ignored) ≡ false → o.source.url ≡ None → fate_at hide f o ≡ kept
  is_kept h is = rw (h, is) refl

  is_shown : (url : List ℕ) → (hide && o.source.ignored) ≡ false → o.source.url ≡ Some url
      → fate_at hide f o ≡ translated (text_of (at_original url))
  is_shown url h is = rw (h, is) refl

  shown_next : (url : List ℕ) (next : Option Record) → (hide && o.source.ignored) ≡ false
      → o.source.url ≡ Some url → AllFurther next
      → at_last (text_of (at_original url)) (option_map_or (fate_in hide (at_original url)) next kept)
      ≡ option_map_or (fate_at hide f) (leads next) kept
  shown_next url None h is on = sym (is_shown url h is)
  shown_next url (Some s) h is on =
      ap (λ found. at_last (text_of (at_original url))
      (option_map_or (fate_at hide (at_original url)) found kept)) (there_again s o)
      ∙ by_found (text_of (at_original url)) url (origin_in s o.line o.column) h (on s refl)

  module _ (text : List ℕ) (is : IsFrame text f) (stands : CanStand o) where
    put_at : (url : List ℕ) → o.source.url ≡ Some url → IsPut url (o.line + 1) (o.column + 1)
    put_at url at =
        subst (λ to. IfSome to (λ u. IsPut u (o.line + 1) (o.column + 1))) at stands

    next_fate : (url : List ℕ) → o.source.url ≡ Some url → fate_of later hide (text_of (at_original url))
        ≡ option_map_or (fate_in hide (at_original url)) (led_to later o.source) kept
    next_fate url at =
        let read = complete (text_of (at_original url)) (at_original url)
        (frame_moved text f url (o.line + 1) (o.column + 1) is (put_at url at)) in
        rw (read, led_url later o.source url at) refl

    shown_on : (url : Option (List ℕ)) → (hide && o.source.ignored) ≡ false → o.source.url ≡ url
        → AllFurther (led_to later o.source)
        → twice kept (fate_of later hide) (fate_at hide f o)
        ≡ option_map_or (fate_at hide f) (leads (led_to later o.source)) kept
    shown_on None h at on =
        let same = is_kept h at in
        ap (twice kept (fate_of later hide)) same ∙ sym same
        ∙ sym (ap (λ next. option_map_or (fate_at hide f) (leads next) kept) (led_none later o.source at))
    shown_on (Some url) h at on =
        ap (twice kept (fate_of later hide)) (is_shown url h at)
        ∙ ap (at_last (text_of (at_original url))) (next_fate url at)
        ∙ shown_next url (led_to later o.source) h at on

    pub both_steps : AllFurther (led_to later o.source)
        → twice kept (fate_of later hide) (fate_at hide f o)
        ≡ option_map_or (fate_at hide f) (leads (led_to later o.source)) kept
    both_steps on = elim (cases_Bool (hide && o.source.ignored)) [
      | inl h ↦ ap (twice kept (fate_of later hide)) (is_hidden h)
          ∙ sym (hidden_next (led_to later o.source) h on)
      | inr h ↦ shown_on o.source.url h refl on
    ]

-- ---- one line

-- nothing is said of a line but where it was translated: the text is a frame
abbrev pub Framed : Fate → Type 0
Framed kept = Unit
Framed (translated text) = (f : FrameParts) × IsFrame text f
Framed dropped = Unit

module _ (P : Origin → Type 0) where
  origin_has : (found : Option Mapping) → IfSome found (λ m. IfSome m.origin P)
      → IfSome (option_and_then (λ (m : Mapping). m.origin) found) P
  origin_has None h = tt
  origin_has (Some m) h = h

  pub found_origin : (r : Record) (line column : ℕ) → AllByRecursion (λ m. IfSome m.origin P) r.mappings
      → IfSome (origin_at r line column) P
  found_origin r line column all = origin_has (mapping_at r.mappings (line - 1) (column - 1))
      (found_has (λ m. IfSome m.origin P) r.mappings (line - 1) (column - 1) all)

framed_url : (text : List ℕ) (f : FrameParts) (line column : ℕ) (url : Option (List ℕ)) → IsFrame text f
    → IfSome url (λ u. IsPut u line column)
    → Framed (option_map_or (λ u. translated (f.before ++ position_text u line column ++ f.after)) url kept)
framed_url text f line column None is put = tt
framed_url text f line column (Some url) is put =
    (moved f url line column, frame_moved text f url line column is put)

framed_in : (hide : Bool) (text : List ℕ) (f : FrameParts) (found : Option Origin) → IsFrame text f
    → IfSome found CanStand → Framed (option_map_or (fate_at hide f) found kept)
framed_in hide text f None is stands = tt
framed_in hide text f (Some o) is stands = cond_both (hide && o.source.ignored) dropped
    (option_map_or (λ u. translated (f.before ++ position_text u (o.line + 1) (o.column + 1) ++ f.after))
    o.source.url kept) Framed (λ _. tt)
    (λ _. framed_url text f (o.line + 1) (o.column + 1) o.source.url is stands)

module _ (link : Link) (later : List Link) (hide : Bool) (text : List ℕ)
    (stand : AllStand link.1) where
  -- of a line that is this frame or none
  abbrev fate_by : List Link → Option FrameParts → Fate
  fate_by scripts read =
      option_map_or (λ f. option_map_or (fate_in hide f) (map_of scripts f.url) kept) read kept

  framed_by : (read : Option FrameParts) → frame_of text ≡ read → Framed (fate_by (link ∷ []) read)
  framed_by None e = tt
  framed_by (Some f) e = elim (cases_Bool (bytes_eq link.0 f.url)) [
    | inl same ↦ rw same (framed_in hide text f (origin_at link.1 f.line f.column) (sound text f e)
        (found_origin CanStand link.1 f.line f.column stand))
    | inr other ↦ rw other tt
  ]

  pub first_framed : Framed (fate_of (link ∷ []) hide text)
  first_framed = framed_by (frame_of text) refl

  module _ (apart : map_of later link.0 ≡ None) (none : EndsBetween link later text → ⊥) where
    by_origin : (f : FrameParts) (found : Option Origin) → IsFrame text f → f.url ≡ link.0
        → origin_at link.1 f.line f.column ≡ found → IfSome found CanStand
        → twice kept (fate_of later hide) (option_map_or (fate_at hide f) found kept)
        ≡ option_map_or (fate_at hide f) (option_and_then (followed (led_to later)) found) kept
    by_origin f None is own e stands = refl
    by_origin f (Some o) is own e stands =
        both_steps later hide f o text is stands (λ s at nothing. none (record {
          frame = f;
          between = o;
          next = s;
          is_frame = is;
          of_script = own;
          found = e;
          leads = at;
          nothing = nothing;
        }))

    in_script : (f : FrameParts) → IsFrame text f → f.url ≡ link.0
        → twice kept (fate_of later hide) (fate_in hide f link.1)
        ≡ fate_in hide f (composition link.1 (led_to later))
    in_script f is own =
        by_origin f (origin_at link.1 f.line f.column) is own refl
        (found_origin CanStand link.1 f.line f.column stand)
        ∙ ap (λ found. option_map_or (fate_at hide f) found kept)
        (sym (origin_found link.1 (led_to later) (f.line - 1) (f.column - 1)))

    by_read : (read : Option FrameParts) → frame_of text ≡ read
        → twice (fate_by later read) (fate_of later hide) (fate_by (link ∷ []) read)
        ≡ fate_by (at_once link later) read
    by_read None e = refl
    by_read (Some f) e = elim (cases_Bool (bytes_eq link.0 f.url)) [
      | inl same ↦
          let own = same_bytes link.0 f.url same in
          let other : map_of later f.url ≡ None = rw own at apart in
          rw (same, other) (in_script f (sound text f e) (sym own))
      | inr other ↦ rw other refl
    ]

    pub same_fate : twice (fate_of later hide text) (fate_of later hide) (fate_of (link ∷ []) hide text)
        ≡ fate_of (at_once link later) hide text
    same_fate = by_read (frame_of text) refl

-- ---- a line that ends between

left_at : (f : FrameParts) (found : Option Origin) → option_and_then origin_text found ≡ None
    → option_map_or (fate_at false f) found kept ≡ kept
left_at f found nothing = grind arith

left_led : (f : FrameParts) (o : Origin) (found : Option Origin) → option_and_then origin_text found ≡ None
    → option_map_or (fate_at false f) (option_map (led_on o) found) kept ≡ kept
left_led f o found nothing = grind arith

module _ (link : Link) (later : List Link) (text : List ℕ)
    (stand : AllStand link.1) (b : EndsBetween link later text)
  where
    -- what becomes of the frame by scripts of which the first is its own, with this map
    own_fate : (r : Record) (scripts : List Link)
        → fate_of ((link.0, r) ∷ scripts) false text ≡ fate_in false b.frame r
    own_fate r scripts =
        let own : bytes_eq link.0 b.frame.url ≡ true =
        (bytes_eq-Decides link.0 b.frame.url).1 (sym b.of_script) in
        rw (complete text b.frame b.is_frame, own) refl

    between_stands : CanStand b.between
    between_stands = subst (λ o. IfSome o CanStand) b.found
        (found_origin CanStand link.1 b.frame.line b.frame.column stand)

    frame_left : fate_of (at_once link later) false text ≡ kept
    frame_left = own_fate (composition link.1 (led_to later)) later
        ∙ ap (λ o. option_map_or (fate_at false b.frame) o kept)
        (origin_found link.1 (led_to later) (b.frame.line - 1) (b.frame.column - 1)
        ∙ ap (option_and_then (followed (led_to later))) b.found
        ∙ ap (leads later false b.frame b.between) b.leads)
        ∙ left_led b.frame b.between (origin_in b.next b.between.line b.between.column) b.nothing

    left_between : (url : Option (List ℕ)) → b.between.source.url ≡ url
        → (t : List ℕ) × (fate_of (link ∷ []) false text ≡ translated t) × (fate_of later false t ≡ kept)
    left_between None is = absurd (never (sym b.leads ∙ led_none later b.between.source is))
      where
        never : Some b.next ≡ None → ⊥
        never e = cc
    left_between (Some url) is =
        let g = at_original later false b.frame b.between url in (
          text_of g,
          own_fate link.1 [] ∙ ap (λ o. option_map_or (fate_at false b.frame) o kept) b.found
              ∙ is_shown later false b.frame b.between url refl is,
          next_fate later false b.frame b.between text b.is_frame between_stands url is
              ∙ ap (λ next. option_map_or (fate_in false g) next kept) b.leads
              ∙ ap (λ found. option_map_or (fate_at false g) found kept) (there_again b.next b.between)
              ∙ left_at g (origin_in b.next b.between.line b.between.column) b.nothing,
        )

    pub is_left : (fate_of (at_once link later) false text ≡ kept)
        × ((t : List ℕ) × (fate_of (link ∷ []) false text ≡ translated t) × (fate_of later false t ≡ kept))
    is_left = (frame_left, left_between b.between.source.url refl)
