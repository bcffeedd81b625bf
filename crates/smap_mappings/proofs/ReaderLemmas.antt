-- What the reader of a mappings text in pieces stands for, and what it returns.
use Rattle.std.proofs.Common.{◌≡◌, ◌≢◌, ℕ, ◌+◌, ◌<◌, ◌≤◌, false, List, [], ◌∷◌, ◌++◌, length, take, get_or}
use Rattle.std.proofs.Common.{map, Option, None, Some, Result, Ok, Err, refl, sym, ap, subst, ◌∙◌, arith}
use Rattle.std.proofs.Common.{length-append}
use Rattle.std.specs.Prelude.{IsOk, vec_capacity, IfOk}
use Rattle.std.specs.List.{AllByRecursion}
use Rattle.std.proofs.lemmas.Bool.{ltb-false}
use Rattle.std.proofs.lemmas.List.{append-nil, nil_from_length}
use Rattle.smap_mappings.specs.declared.cursor.Cursor.{Cursor}
use Rattle.smap_mappings.specs.declared.error.MappingsError.{MappingsError}
use Rattle.smap_mappings.specs.declared.error.MappingsError.TheVariants as errors
use Rattle.smap_mappings.specs.declared.running.Running.{Running}
use Rattle.smap_mappings.specs.declared.token.Bounds.{Bounds}
use Rattle.smap_mappings.specs.declared.token.Token.{Token}
use Rattle.smap_mappings.specs.Lines.{SegmentText, segments_of}
use Rattle.smap_mappings.specs.Tokens.{tokens_after}
use Rattle.smap_mappings.specs.Steps.{Continues, ending}
use Rattle.smap_mappings.specs.Pieces.{ended_segments, ReturnsFirstFault, IsReadTo, IsRead, Fits, Overflows}
use Rattle.smap_mappings.specs.Pieces.{HasFailed, Fails, StandsUnder, StandsFor}
use Rattle.smap_mappings.specs.declared.reader.MappingsReader.{MappingsReader}
use Rattle.smap_mappings.specs.declared.token_list.TokenList.{TokenList}
use Rattle.smap_mappings.specs.Decoded.{ReturnsTokens, AreBounds, IsWithin, IsFromStart, decoded}
use Rattle.std.specs.Global.{Vec}
use Rattle.smap_mappings.specs.Text.{IsEncodable}
use Rattle.smap_mappings.proofs.DecodedLemmas.{decoded-encodable, decoded-within, decoded-from_start, good_is}
use Rattle.smap_mappings.specs.Arrangement.{arranged}
use Rattle.smap_mappings.specs.Position.{NeverFalls, position_of}
use Rattle.smap_mappings.proofs.LinesLemmas.{segments_of-walk}
use Rattle.smap_mappings.proofs.PiecesLemmas.{Walks, behind, walks, ended_are, all_ended, overflows, one_byte}

-- ---- the end of the text

module _ {bounds : Bounds} {text : List ℕ} {tokens : List Token} {cursor : Cursor} {current : List ℕ}
    (p : IsReadTo bounds text tokens cursor current)
  where
    all_are : segments_of text ≡ p.ended ++ ending p.line p.index current
    all_are = rw append-nil at (p.segments [])

    pub all_read : (room : ℕ) (new : List Token) (x : Running)
        → Continues bounds p.before p.line (ending p.line p.index current) room tokens new (Ok x)
        → tokens_after bounds [] (segments_of text) ≡ Ok new
    all_read room new x c = rw all_are (p.read (ending p.line p.index current)
        ∙ rw (append-nil (ending p.line p.index current), append-nil new) at (c.2 []))

    pub gives_last : (room : ℕ) (new : List Token) (error : MappingsError)
        → Continues bounds p.before p.line (ending p.line p.index current) room tokens new (Err error)
        → ReturnsTokens (Err error) (decoded bounds text)
    unfolding decoded
    gives_last room new errors.Memory c = tt
    gives_last room new (errors.Fault place k) c =
        let e = rw append-nil at (c []) in
        rw (all_are, p.read (ending p.line p.index current), e) refl

    pub decoded_all : (room : ℕ) (new : List Token) (x : Running)
        → Continues bounds p.before p.line (ending p.line p.index current) room tokens new (Ok x)
        → decoded bounds text ≡ Ok (arranged new)
    unfolding decoded
    decoded_all room new x c = rw (all_read room new x c) refl

-- ---- the reader

pub read_of : (r : MappingsReader) (bounds : Bounds) (text : List ℕ)
    → ((e : MappingsError) → r.failed ≢ Some e) → StandsFor r bounds text → IsRead r bounds text
read_of r bounds text none h = by_failure r.failed refl
  where
    by_failure : (o : Option MappingsError) → r.failed ≡ o → IsRead r bounds text
    by_failure None is = subst (λ (f : Option MappingsError). StandsUnder r f bounds text) is h
    by_failure (Some e) is = absurd (none e is)

pub failed_of : (r : MappingsReader) (bounds : Bounds) (text : List ℕ) (error : MappingsError)
    → r.failed ≡ Some error → StandsFor r bounds text → HasFailed bounds text error
failed_of r bounds text error is h = rw is at h

pub tells_failed : (bounds : Bounds) (text : List ℕ) (most : ℕ) (error : MappingsError)
    → Fails bounds text most error
    → ReturnsFirstFault (Err error) (tokens_after bounds [] (ended_segments text))
tells_failed bounds text most errors.Memory h = tt
tells_failed bounds text most (errors.Fault place k) h = rw append-nil at (h []).0

pub tells_read : {r : MappingsReader} {bounds : Bounds} {text : List ℕ}
    → IsRead r bounds text → IsOk (tokens_after bounds [] (ended_segments text))
tells_read h =
    let e = rw (append-nil h.reads.ended, append-nil) at (h.reads.read []) in
    rw (all_ended h.reads, e) refl

pub gives_failed : (bounds : Bounds) (text : List ℕ) (error : MappingsError)
    → HasFailed bounds text error → ReturnsTokens (Err error) (decoded bounds text)
unfolding decoded
gives_failed bounds text errors.Memory h = tt
gives_failed bounds text (errors.Fault place k) h =
    let e = rw append-nil at (h []).1 in rw e refl

pub reads_here : {r : MappingsReader} {bounds : Bounds} {text : List ℕ} (h : IsRead r bounds text)
    → IsReadTo r.bounds text r.tokens.list.items r.cursor h.current
reads_here h = rw h.same h.reads

-- between segments
between : {r : MappingsReader} {bounds : Bounds} {text : List ℕ} (h : IsRead r bounds text)
    → r.begun ≡ false → h.current ≡ []
between h e = nil_from_length h.current (omega (arith, ltb-false 0 _ (sym h.begun ∙ e)))

pub here : {r : MappingsReader} {bounds : Bounds} {text : List ℕ} (h : IsRead r bounds text)
    → r.begun ≡ false → IsReadTo r.bounds text r.tokens.list.items r.cursor []
here h e = rw (between h e) at (reads_here h)

-- What a reader keeps up to an index of a piece: its room, its failure, and that all bytes so far were read.
pub record Follows (first now : MappingsReader) (piece : List ℕ) (place : ℕ) : Type 0 where
  pub room : vec_capacity first.tokens.list ≤ vec_capacity now.tokens.list
  pub same : now.failed ≡ first.failed
  pub reads : (bounds : Bounds) (text : List ℕ) → IsRead first bounds text
      → IsRead now bounds (text ++ take place piece)

pub whole_follows : {first now : MappingsReader} {piece : List ℕ} {place : ℕ} → Follows first now piece place
    → now.begun ≡ false → (tokens : TokenList) (cursor : Cursor) (after : ℕ)
    → vec_capacity now.tokens.list ≤ vec_capacity tokens.list
    → ((text : List ℕ)
    → IsReadTo now.bounds (text ++ take place piece) now.tokens.list.items now.cursor []
    → IsReadTo now.bounds (text ++ take after piece) tokens.list.items cursor [])
    → Follows first (record now { tokens = tokens; cursor = cursor }) piece after
whole_follows f e tokens cursor after more reads = record {
  room = (let a = f.room in omega arith);
  same = f.same;
  reads = λ bounds text k.
      let h = f.reads bounds text k in
      record {
        fine = h.fine;
        same = h.same;
        current = [];
        begun = e;
        segment = rw (between h e) at h.segment;
        reads = rw h.same at (reads text (here h e));
      };
}

pub byte_follows : {first now : MappingsReader} {piece : List ℕ} {place : ℕ} → Follows first now piece place
    → place < length piece → (next : MappingsReader) → vec_capacity now.tokens.list
    ≤ vec_capacity next.tokens.list → next.failed ≡ now.failed
    → ((bounds : Bounds) (text : List ℕ) → IsRead now bounds text
    → IsRead next bounds (text ++ get_or piece place 0 ∷ []))
    → Follows first next piece (place + 1)
byte_follows {piece} {place} f lt next more same reads = record {
  room = (let a = f.room in omega arith);
  same = same ∙ f.same;
  reads = λ bounds text k. rw (← one_byte text piece place lt)
      (reads bounds (text ++ take place piece) (f.reads bounds text k));
}

-- ---- what is decoded

pub gives_encodable : (bounds : Bounds) → AreBounds bounds
    → (text : List ℕ) (r : Result (Vec Token) MappingsError) → ReturnsTokens r (decoded bounds text)
    → IfOk r (λ v. IsEncodable v.items)
gives_encodable bounds are text (Ok v) e = decoded-encodable bounds are text v.items e
gives_encodable bounds are text (Err f) e = tt

pub gives_within : (bounds : Bounds) (text : List ℕ) (r : Result (Vec Token) MappingsError)
    → ReturnsTokens r (decoded bounds text) → IfOk r (λ v. AllByRecursion (IsWithin bounds) v.items)
gives_within bounds text (Ok v) e = decoded-within bounds text v.items e
gives_within bounds text (Err f) e = tt

pub gives_from_start : (bounds : Bounds) (text : List ℕ) (r : Result (Vec Token) MappingsError)
    → ReturnsTokens r (decoded bounds text) → IfOk r (λ v. AllByRecursion (IsFromStart bounds) v.items)
gives_from_start bounds text (Ok v) e = decoded-from_start bounds text v.items e
gives_from_start bounds text (Err f) e = tt

-- ---- memory

abbrev pub refused_by : MappingsError → Result (Unit {0}) MappingsError
refused_by e = Err e

abbrev no_tokens : MappingsError → Result (Vec Token) MappingsError
no_tokens e = Err e

pub same_refusal : (d e : MappingsError) → no_tokens d ≡ no_tokens e → d ≡ e
same_refusal d e is = cc

no_overflow : (bounds : Bounds) (texts : List SegmentText) (most : ℕ)
    → Fits bounds texts most → Overflows bounds texts most → ⊥
no_overflow bounds texts most fits o = absurd (let le = fits o.0 o.1 in let lt = o.2 in omega arith)

pub fits_memory : (bounds : Bounds) (text : List ℕ) (most : ℕ) (error : MappingsError)
    → Fails bounds text most error → Fits bounds (ended_segments text) most → error ≢ errors.Memory
fits_memory bounds text most error h fits e = no_overflow bounds (ended_segments text) most fits
    (rw append-nil at ((rw e at h) []))

pub fits_last : {bounds : Bounds} {text : List ℕ} {tokens : List Token} {cursor : Cursor}
    {current : List ℕ} (p : IsReadTo bounds text tokens cursor current) (room : ℕ) (new : List Token)
    (error : MappingsError)
    → Continues bounds p.before p.line (ending p.line p.index current) room tokens new (Err error)
    → Fits bounds (segments_of text) room → error ≢ errors.Memory
fits_last {bounds} {text} {current} p room new error c fits e =
    let d = rw e at c in
    no_overflow bounds (segments_of text) room fits (overflows p room (ending p.line p.index current) []
    (all_are p ∙ sym (append-nil (p.ended ++ ending p.line p.index current))) d.0 d.1 d.2)

-- a text without a segment
pub none_fits : (bounds : Bounds) (texts : List SegmentText) (room : ℕ) → texts ≡ [] → Fits bounds texts room
none_fits bounds texts room none tokens r =
    let front : r.front ≡ [] =
    nil_from_length r.front (omega (arith, length-append r.front r.rest, ap length (sym r.whole ∙ none))) in
    let e = good_is [] tokens (rw front at r.read) in
    rw (← e) (omega arith)

pub none_ended : (text : List ℕ) → segments_of text ≡ [] → ended_segments text ≡ []
none_ended text none =
    let w : Walks (λ rest. segments_of (text ++ rest)) =
    behind [] (walks 0 0 [] text) (λ rest. segments_of-walk (text ++ rest)) in
    let e = rw (append-nil text, none) at (w.is []) in
    ended_are text w ∙ nil_from_length w.ended
    (omega (arith, length-append w.ended (ending w.line w.index w.current), ap length e))

pub not_memory : (o : Option MappingsError) → o ≡ None → o ≢ Some errors.Memory
not_memory o none is = absurd cc

pub none_falls : (bounds : Bounds) (texts : List SegmentText) → texts ≡ [] → (tokens : List Token)
    → tokens_after bounds [] texts ≡ Ok tokens → NeverFalls (map position_of tokens)
none_falls bounds texts none tokens e = rw (← good_is [] tokens (rw none at e)) tt
