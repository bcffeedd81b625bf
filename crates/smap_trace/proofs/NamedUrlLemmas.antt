-- The URLs that a trace names are those of its frames.
use Rattle.std.proofs.Common.{◌≡◌, ◌∙◌, ℕ, List, [], ◌∷◌, map, bytes_eq}
use Rattle.std.proofs.Common.{Option, Some, None, option_map, refl, ap, arith, inl, inr}
use Rattle.std.specs.Prelude.{Contains}
use Rattle.std.specs.List.{cons_option, filter_map}
use Rattle.std.specs.Map.{keys_of}
use Rattle.std.proofs.lemmas.List.Elements.{All-contains, All-contains_itself, All-from_recursion}
use Rattle.std.proofs.lemmas.List.Elements.{recursion_from_All}
use Rattle.std.proofs.lemmas.Option.{slice_get-get_or}
use Rattle.smap_frames.specs.Frame.{FrameParts}
use Rattle.smap_frames.specs.Reading.{frame_of}
use Rattle.smap_frames.proofs.CompleteLemmas.{complete}
use Rattle.smap_frames.proofs.SoundLemmas.{some_is, sound}
use Rattle.smap_record.specs.Record.{distinct}
use Rattle.smap_record.proofs.EqualLemmas.{same_bytes}
use Rattle.smap_record.proofs.OnceLemmas.{Contains-distinct, all_distinct}
use Rattle.smap_trace.specs.Naming.{named_in, url_of, urls_of}
use Rattle.smap_trace.specs.TraceLaws.{NamedAreOfFrames, Names}
use Rattle.smap_trace.specs.Translation.{lines_of, without_line_feed}
use Rattle.smap_trace.proofs.MemberLemmas.{contains_first, contains_later, first_or_later}

-- ---- each URL once

keys_paired : (f : List ℕ → ℕ) (us : List (List ℕ)) → keys_of (map (λ url. (url, f url)) us) ≡ us
keys_paired f [] = refl
keys_paired f (u ∷ us) = rw (keys_paired f us) refl

listed_once : (us : List (List ℕ)) (url : List ℕ) → Contains us url → Contains (distinct bytes_eq us) url
listed_once us url c =
    Contains-distinct bytes_eq same_bytes us c.0 url (slice_get-get_or us c.0 url c.1 ∙ ap Some c.2)

listed_ever : (us : List (List ℕ)) (url : List ℕ) → Contains (distinct bytes_eq us) url → Contains us url
listed_ever us url c =
    let own = recursion_from_All (Contains us) us (All-contains_itself us) in
    All-contains (Contains us) (distinct bytes_eq us) url
    (All-from_recursion (Contains us) (distinct bytes_eq us) (all_distinct (Contains us) bytes_eq us own)) c

-- ---- the lines that have a URL

abbrev HasLine : List (List ℕ) → List ℕ → Type 0
HasLine ls url = (line : List ℕ) × Contains ls line × (url_of line ≡ Some url)

with_url : (ls : List (List ℕ)) (url : List ℕ) → Contains (filter_map url_of ls) url → HasLine ls url
with_url [] url h = absurd (omega (arith, h.1))
with_url (l ∷ ls) url h = go (url_of l) refl h (with_url ls url)
  where
    later : HasLine ls url → HasLine (l ∷ ls) url
    later p = (p.0, contains_later l p.0 ls p.1, p.2)

    go : (o : Option (List ℕ)) → url_of l ≡ o → Contains (cons_option o (filter_map url_of ls)) url
        → (Contains (filter_map url_of ls) url → HasLine ls url) → HasLine (l ∷ ls) url
    go None e k more = later (more k)
    go (Some u) e k more = elim (first_or_later u url (filter_map url_of ls) k) [
      | inl same ↦ (l, contains_first l ls, e ∙ ap Some same)
      | inr there ↦ later (more there)
    ]

of_line : (ls : List (List ℕ)) (line url : List ℕ) → Contains ls line → url_of line ≡ Some url
    → Contains (filter_map url_of ls) url
of_line [] line url c is = absurd (omega (arith, c.1))
of_line (l ∷ ls) line url c is = elim (first_or_later l line ls c) [
  | inl same ↦ here (ap url_of same ∙ is)
  | inr there ↦ later (url_of l) (of_line ls line url there is)
]
  where
    here : url_of l ≡ Some url → Contains (filter_map url_of (l ∷ ls)) url
    here e = rw e (contains_first url (filter_map url_of ls))

    later : (o : Option (List ℕ)) → Contains (filter_map url_of ls) url
        → Contains (cons_option o (filter_map url_of ls)) url
    later None there = there
    later (Some u) there = contains_later u url (filter_map url_of ls) there

-- ---- their frames

framed : (text url : List ℕ) (o : Option FrameParts) → frame_of text ≡ o
    → option_map (λ (f : FrameParts). f.url) o ≡ Some url
    → (f : FrameParts) × (frame_of text ≡ Some f) × (f.url ≡ url)
framed text url (Some f) e h = (f, e, some_is f.url url h)
framed text url None e h = cc

pub named_of_frames : NamedAreOfFrames
named_of_frames trace url = (there, back)
  where
    keys : keys_of (named_in trace) ≡ distinct bytes_eq (urls_of trace)
    keys = keys_paired _ (distinct bytes_eq (urls_of trace))

    there : Contains (keys_of (named_in trace)) url → Names trace url
    there c =
        let p = with_url (lines_of trace) url (listed_ever (urls_of trace) url (rw keys at c)) in
        let text = without_line_feed p.0 in
        let f = framed text url (frame_of text) refl p.2 in
        record {
          line = p.0;
          frame = f.0;
          of_trace = p.1;
          is_frame = sound text f.0 f.1;
          is_url = f.2;
        }

    back : Names trace url → Contains (keys_of (named_in trace)) url
    back n =
        let is : url_of n.line ≡ Some url =
        ap (option_map (λ (f : FrameParts). f.url)) (complete (without_line_feed n.line) n.frame n.is_frame)
        ∙ ap (λ (u : List ℕ). Some u) n.is_url in
        rw keys (listed_once (urls_of trace) url (of_line (lines_of trace) n.line url n.of_trace is))
