-- what is known of sources is of the maps with which frames are named
use Rattle.std.proofs.Common.{◌≡◌, ◌∙◌, ℕ, Bool, List, Option, None, Some, sym, ap, slice_get, true, false}
use Rattle.std.proofs.Common.{inl}
use Rattle.std.proofs.Common.{inr, ◌-◌}
use Rattle.std.specs.Prelude.{option_and_then, option_map}
use Rattle.std.proofs.lemmas.Option.{none-some, option_and_then_some, same_Some}
use Rattle.smap_frames.specs.Frame.{FrameParts, IsPlace, position_text}
use Rattle.smap_frames.proofs.SoundLemmas.{position_there, sound}
use Rattle.smap_frames.specs.Reading.{frame_of}
use Rattle.smap_record.specs.Record.{Entry, Mapping, Origin, Record}
use Rattle.smap_trace.specs.Known.{AreKnown, IsFor, Known, KnowsOf, OneMapEach}
use Rattle.smap_trace.specs.Names.{Mapped, index_at, mapped, mapped_at, mapped_in}
use Rattle.smap_trace.specs.Scripts.{Script, map_of}
use Rattle.smap_trace.specs.Translation.{map_for}
use Rattle.smap_trace.proofs.OneMapLemmas.{one_whole_map, whole_map}

-- the position of a frame whose script has this map
record IsAt (scripts : List Script) (url : List ℕ) (r : Record) : Type 0 where
  line : ℕ
  column : ℕ
  line_place : IsPlace line
  column_place : IsPlace column
  finds : whole_map scripts (position_text url line column) ≡ Some r

is_at : (scripts : List Script) (url : List ℕ) (r : Record) → IsFor true scripts url r → IsAt scripts url r
is_at scripts url r x =
    let is = sound x.text x.frame x.reads in
    record {
      line = x.frame.line;
      column = x.frame.column;
      line_place = is.line_place;
      column_place = is.column_place;
      finds = ap (λ u. whole_map scripts (position_text u x.frame.line x.frame.column)) (sym x.names)
          ∙ ap (whole_map scripts) (sym (position_there x.text x.frame is)) ∙ x.finds;
    }

-- frames with one URL are in the script of one map
pub one_map_each : (ignore : Bool) (scripts : List Script) → OneMapEach ignore scripts
one_map_each false scripts url r q x y =
    let a = ap (map_of scripts) (sym x.names) ∙ x.finds in
    let b = ap (map_of scripts) (sym y.names) ∙ y.finds in
    same_Some r q (sym a ∙ b)
one_map_each true scripts url r q x y =
    let a = is_at scripts url r x in
    let b = is_at scripts url q y in
    same_Some r q (sym a.finds ∙ one_whole_map scripts url a.line a.column b.line b.column a.line_place
    a.column_place b.line_place b.column_place ∙ b.finds)

at_one : (f : FrameParts) (r : Record) (i : ℕ) (p : Mapped) → mapped_at f r i ≡ Some p
    → (f ≡ p.frame) × (r ≡ p.map)
at_one f r i p is = option_and_then_some (λ (m : Mapping). option_map
    (λ o. record { frame = f; map = r; index = i; column = m.column; origin = o }) m.origin)
    (slice_get r.mappings i) p is (λ m at made. go m m.origin made)
  where
    go : (m : Mapping) (o : Option Origin) → ◌≡◌ {A = Option Mapped}
        (option_map (λ o. record { frame = f; map = r; index = i; column = m.column; origin = o }) o) (Some p)
        → (f ≡ p.frame) × (r ≡ p.map)
    go m None made = absurd (none-some p made)
    go m (Some o) made =
        let e = same_Some (record { frame = f; map = r; index = i; column = m.column; origin = o }) p made in
        (ap (λ (q : Mapped). q.frame) e, ap (λ (q : Mapped). q.map) e)

pub is_for : (ignore : Bool) (scripts : List Script) (text : List ℕ) (p : Mapped)
    → mapped ignore scripts text ≡ Some p → IsFor ignore scripts p.frame.url p.map
is_for ignore scripts text p is = option_and_then_some
    (λ f. option_and_then (mapped_in f) (map_for ignore scripts text f)) (frame_of text) p is
    (λ f reads found. option_and_then_some (mapped_in f) (map_for ignore scripts text f) p found
    (λ r finds falls. option_and_then_some (mapped_at f r)
    (index_at r.mappings (f.line - 1) (f.column - 1)) p falls
    (λ i at made. let same = at_one f r i p made in record {
      text = text;
      frame = f;
      reads = reads;
      names = ap (λ (g : FrameParts). g.url) same.0;
      finds = finds ∙ ap Some same.1;
    })))

-- a source's functions are read when a frame needs them
pub known_on : (ignore : Bool) (scripts : List Script) (text : List ℕ) (p : Mapped) (old new : Known) (n : ℕ)
    → Some p ≡ mapped ignore scripts text → slice_get p.map.sources n ≡ Some p.origin.source
    → KnowsOf old new p.frame.url n p.origin → AreKnown ignore scripts old
    → AreKnown ignore scripts new
known_on ignore scripts text p old new n is source reads are url number s r e known for at =
    elim (reads url number s known) [
      | inl was ↦ are url number s r e was for at
      | inr this ↦
          let here = is_for ignore scripts text p (sym is) in
          let for_it = rw this.0 at for in
          let map_is : r ≡ p.map = one_map_each ignore scripts p.frame.url r p.map for_it here in
          let entry : e ≡ p.origin.source = same_Some e p.origin.source
          (sym (rw (map_is, this.1) at at) ∙ source) in
          let text_of = this.2 in
          (text_of.0, ap (λ (x : Entry). x.content) entry ∙ text_of.1, text_of.2)
    ]
