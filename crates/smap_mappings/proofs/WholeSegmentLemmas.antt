-- A segment that lies whole in a text.
use Rattle.std.proofs.Common.{◌≡◌, ℕ, ◌+◌, ◌-◌, ◌<◌, ◌≤◌, ◌⊎◌, true, List, [], ◌∷◌, ◌++◌, length, take, drop}
use Rattle.std.proofs.Common.{get_or, Ok, ℤ, refl, sym, ap, ◌∙◌, arith, length-append}
use Rattle.std.specs.Prelude.{slice_range, IsTrue}
use Rattle.std.proofs.lemmas.List.{drop-drop}
use Rattle.std.proofs.Math.Seq.{take-add}
use Rattle.smap_vlq.specs.declared.segment.Fields.{Fields}
use Rattle.smap_vlq.specs.Number.{number_at}
use Rattle.smap_vlq.specs.Segment.{SpellsAll, is_field_count, fields_in, fields_of}
use Rattle.smap_vlq.proofs.NumberLemmas.{number_is_spelled}
use Rattle.smap_vlq.proofs.SpelledLemmas.{segment_spelled, SpellsAll-bytes, Spells-some}
use Rattle.smap_vlq.proofs.PiecesLemmas.{SpellsAll-push}
use Rattle.smap_mappings.specs.Pieces.{IsWhole}
use Rattle.smap_mappings.proofs.RunningTextLemmas.{IsClean, clean_bytes}

slice_joined : (text : List ℕ) (start place end : ℕ) → start ≤ place → place ≤ end
    → slice_range text start end ≡ slice_range text start place ++ slice_range text place end
slice_joined text start place end a b =
    let n : end - start ≡ (place - start) + (end - place) = omega arith in
    let m : start + (place - start) ≡ place = omega arith in
    ap (λ (k : ℕ). take k (drop start text)) n ∙ take-add (place - start) (end - place) (drop start text)
    ∙ rw (drop-drop (place - start) start text, m) refl

-- Numbers that stand one after another.
pub record Stretch (text : List ℕ) (start end : ℕ) (ns : List ℤ) : Type 0 where
  pub le : start ≤ end
  pub spelled : SpellsAll (slice_range text start end) ns

pub no_number : (text : List ℕ) (start : ℕ) → Stretch text start start []
no_number text start =
    record { le = omega arith; spelled = (let e : start - start ≡ 0 = omega arith in rw e refl) }

pub one_more : {text : List ℕ} {start place : ℕ} {ns : List ℤ} → Stretch text start place ns
    → (n : ℤ) (end : ℕ) → Ok (n, end) ≡ number_at text place → Stretch text start end (ns ++ n ∷ [])
one_more {text} {start} {place} {ns} p n end e =
    let s = (number_is_spelled text place n end).0 (sym e) in
    record {
      le = (let a = p.le in let b = s.0 in omega arith);
      spelled = rw (slice_joined text start place end p.le s.0)
          (SpellsAll-push (slice_range text start place) (slice_range text place end) ns n p.spelled s.2);
    }

pub whole : {text : List ℕ} {start end : ℕ} {ns : List ℤ} → Stretch text start end ns
    → IsTrue (is_field_count (length ns)) → (fields : Fields) → fields ≡ fields_of ns → end < length text
    → (get_or text end 0 ≡ 44) ⊎ (get_or text end 0 ≡ 59) → IsWhole text start fields end
whole {ns} p count fields is within ended = record {
  le = p.le;
  within = within;
  ns = ns;
  spelled = p.spelled;
  count = count;
  fields_are = is;
  ended = ended;
}

pub whole_fields : {text : List ℕ} {start end : ℕ} {fields : Fields}
    → IsWhole text start fields end → fields_in (slice_range text start end) ≡ Ok fields
whole_fields w = rw (segment_spelled _ w.ns w.spelled w.count, w.fields_are) refl

pub whole_clean : {text : List ℕ} {start end : ℕ} {fields : Fields} → IsWhole text start fields end
    → IsClean (slice_range text start end)
whole_clean w = clean_bytes _ (SpellsAll-bytes _ w.ns w.spelled)

pub some_spelled : (text : List ℕ) (ns : List ℤ) → SpellsAll text ns → is_field_count (length ns) ≡ true
    → 0 < length text
some_spelled text [] h e = absurd cc
some_spelled text (n ∷ ns) h e = omega (arith, ap length h.2, length-append h.0 h.1, Spells-some h.0 n h.3)
