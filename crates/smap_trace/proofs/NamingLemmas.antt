-- The URLs of a trace that comes in pieces.
use Rattle.std.proofs.Common.{◌≡◌, ◌∙◌, ℕ, zero, suc, ◌+◌, ◌<◌, true, false, List, [], ◌∷◌, ◌++◌, length}
use Rattle.std.proofs.Common.{bytes_eq, refl, sym, ap, Option, None, Some}
use Rattle.std.specs.Global.{Vec}
use Rattle.std.specs.Prelude.{slice_get, unwrap_or}
use Rattle.std.specs.List.{AllByRecursion, cons_option, filter_map}
use Rattle.std.specs.Map.{keys_of, values_of}
use Rattle.std.proofs.lemmas.List.Elements.{filter_map-append}
use Rattle.indexmap.specs.IndexMap.{insert_entry}
use Rattle.indexmap.specs.Layout.{set_value_at}
use Rattle.smap_io.specs.declared.device.Device.{Device}
use Rattle.smap_io.specs.Lines.{HasNoFeed, IsWhole, TakesAll, TakesPiece}
use Rattle.smap_io.specs.Reading.{Gave}
use Rattle.smap_io.proofs.LineLemmas.{ReadsLines, ReadsLines-more, lines_of-append}
use Rattle.smap_io.proofs.ReadingLemmas.{Gave-no_more}
use Rattle.smap_trace.specs.Counting.{CountsLine, named_of, with_url, with_urls}
use Rattle.smap_trace.specs.Naming.{named_in, url_of, urls_of}
use Rattle.smap_trace.specs.Translation.{lines_of}
use Rattle.smap_trace.specs.Views.{at_most_u64}
use Rattle.smap_trace.proofs.TallyLemmas.{all_tallied, with_urls-append}

-- ---- lines

pub urls_of-append : (whole more : List ℕ) → IsWhole whole
    → urls_of (whole ++ more) ≡ urls_of whole ++ urls_of more
urls_of-append whole more is =
    rw (lines_of-append whole more is) (filter_map-append url_of (lines_of whole) (lines_of more))

-- ---- lines that are counted

urls_then : (o : Option (List ℕ)) (urls : List (List ℕ)) (named : List (List ℕ × ℕ))
    → with_urls (cons_option o urls) named ≡ with_urls urls (with_urls (cons_option o []) named)
urls_then None urls named = refl
urls_then (Some url) urls named = refl

urls_counted : (lines : List (List ℕ)) (old new : List (List ℕ × ℕ)) → TakesAll CountsLine old lines new
    → new ≡ with_urls (filter_map url_of lines) old
urls_counted [] old new t = t
urls_counted (line ∷ lines) old new t = urls_counted lines t.0 new t.2
    ∙ ap (with_urls (filter_map url_of lines)) t.1
    ∙ sym (urls_then (url_of line) (filter_map url_of lines) old)

-- At least as many bytes as calls were read. The URLs of their whole lines are counted; the rest waits for
-- the end of its line.
pub record SoFar {R : Type 0} (remaining : R → Option (List ℕ)) (old new : Device R) (calls : ℕ)
    (line : List ℕ) (named : List (List ℕ × ℕ)) : Type 0 where
  pub whole : List ℕ
  pub lines : ReadsLines remaining old new calls line whole
  pub counted : named ≡ with_urls (urls_of whole) []

module _ {R : Type 0} (remaining : R → Option (List ℕ)) (ro rm rn : Device R) (calls : ℕ) (line : List ℕ)
    (named new : List (List ℕ × ℕ)) (s : SoFar remaining ro rm calls line named) where
  -- the URLs of further lines were counted
  counted_with : (more : List ℕ) → TakesAll CountsLine named (lines_of more) new
      → new ≡ with_urls (urls_of (s.whole ++ more)) []
  counted_with more t = rw (
    urls_of-append s.whole more s.lines.is_whole,
    with_urls-append (urls_of s.whole) (urls_of more) [],
    ← s.counted,
  ) (urls_counted (lines_of more) named new t)

  -- a piece was read
  pub after_piece : (piece rest : List ℕ) → Gave remaining rm rn piece → 0 < length piece → HasNoFeed rest
      → TakesPiece CountsLine line piece rest named new → SoFar remaining ro rn (calls + 1) rest new
  after_piece piece rest read some free t = record {
    whole = s.whole ++ t.whole;
    lines = ReadsLines-more remaining CountsLine ro rm rn calls line s.whole piece rest named new s.lines
        read some free t;
    counted = counted_with t.whole t.taken;
  }

  -- nothing more was read, and the last line was counted
  pub at_the_end : Gave remaining rm rn [] → TakesAll CountsLine named (lines_of line) new
      → Gave remaining ro rn (s.whole ++ line) × (new ≡ named_in (s.whole ++ line))
  at_the_end none t = (
    Gave-no_more remaining ro rm rn (s.whole ++ line) s.lines.gave none,
    rw (← all_tallied (urls_of (s.whole ++ line))) (counted_with line t),
  )

-- ---- the table

-- the i-th key is the first that is the URL
abbrev IsFirst : List ℕ → List (Vec ℕ × ℕ) → ℕ → Type 0
IsFirst url [] i = ⊥
IsFirst url (e ∷ es) zero = bytes_eq url e.0.items ≡ true
IsFirst url (e ∷ es) (suc i) = (bytes_eq url e.0.items ≡ false) × IsFirst url es i

pub set_first : (url : List ℕ) (es : List (Vec ℕ × ℕ)) (i v w : ℕ) → IsFirst url es i
    → slice_get (values_of es) i ≡ Some v → w ≡ at_most_u64 (v + 1)
    → named_of (set_value_at es i w) ≡ with_url url (named_of es)
set_first url [] i v w first at next = absurd first
set_first url (e ∷ es) zero v w first at next =
    let old : v ≡ e.1 = ap (λ (o : Option ℕ). unwrap_or o v) (sym at) in
    rw (first, next, old) refl
set_first url (e ∷ es) (suc i) v w first at next =
    rw (first.0, set_first url es i v w first.1 at next) refl

pub insert_absent : (url : List ℕ) (es : List (Vec ℕ × ℕ)) (k : Vec ℕ) → k.items ≡ url
    → AllByRecursion (λ (x : Vec ℕ). bytes_eq url x.items ≡ false) (keys_of es)
    → named_of (insert_entry (λ (a b : Vec ℕ). bytes_eq a.items b.items) es k 1)
    ≡ with_url url (named_of es)
insert_absent url [] k is none = ap (λ (u : List ℕ). (u, 1) ∷ []) is
insert_absent url (e ∷ es) k is none =
    let other : bytes_eq k.items e.0.items ≡ false = rw is none.0 in
    rw (other, none.0, insert_absent url es k is none.1) refl
