-- Index maps end at the last level.
use Rattle.std.proofs.Common.{◌≡◌, Option, Some, None, Ok, refl, Bool, true, false, subst}
use Rattle.std.specs.Prelude.{◌≢◌, Result, ◌&&◌, codes, is_none, is_some}
use Rattle.serde_json.specs.Data.{Data}
use Rattle.serde_json.specs.Find.{as_object}
use Rattle.smap_vlq.specs.Number.{◌>>=◌}
use Rattle.smap_shape.specs.declared.fault.ShapeFault.{ShapeFault}
use Rattle.smap_shape.specs.declared.fault.ShapeFault.TheVariants.{NotObject, Both, Nested}
use Rattle.smap_shape.specs.Limits.{max_level}
use Rattle.smap_shape.specs.Labels.{Labels}
use Rattle.smap_shape.specs.Members.{Index, Section, MapMembers, index}
use Rattle.smap_shape.specs.Reading.{shape_of, section_of, offset_and_map, labels_of, flat_of, flat_or_index}
use Rattle.smap_shape.specs.Reading.{member_of, has, refuse_if}
use Rattle.smap_record.proofs.StepLemmas.{bound}

abbrev pub section : Section Data → Result (Section Data) ShapeFault
section s = Ok s

pub same : (a b : Section Data) → section a ≡ section b → a ≡ b
same a b h = cc

abbrev members : MapMembers Data → Result (MapMembers Data) ShapeFault
members m = Ok m

-- at the last level a section that is accepted has a map without sections
no_sections : (tree : Data) (s : Section Data) → section_of 8 tree ≡ Ok s
    → has (codes "sections") s.map ≡ false
unfolding section_of
no_sections tree s h =
    let parts = bound (offset_and_map tree) _ s h in
    by parts.0 (has (codes "sections") parts.0.map) refl parts.2
  where
    by : (t : Section Data) (b : Bool) → has (codes "sections") t.map ≡ b
        → (refuse_if Nested b >>= λ (u : Unit {0}). section t) ≡ section s
        → has (codes "sections") s.map ≡ false
    by t true is e = absurd cc
    by t false is e = subst (λ (s : Section Data). has (codes "sections") s.map ≡ false) (same t s e) is

-- a map without sections is no index map
flat_only : (labels : Labels) (o : Option Data) (tree : Data) (i : Index Data) → is_some o ≡ false
    → flat_or_index labels o tree ≢ members (index i)
flat_only labels (Some d) tree i none e = absurd cc
flat_only labels None tree i none e =
    let m = bound (flat_of labels tree) _ (index i) e in let is = m.2 in cc

pub none_below : (tree : Data) (s : Section Data) (i : Index Data) → section_of max_level tree ≡ Ok s
    → shape_of s.map ≢ Ok (index i)
unfolding shape_of
none_below tree s i h e =
    let object = bound (refuse_if NotObject (is_none (as_object s.map))) _ (index i) e in
    let labels = bound (labels_of s.map) _ (index i) object.2 in
    let both = bound (refuse_if Both (has (codes "sections") s.map && has (codes "mappings") s.map)) _
    (index i) labels.2 in
    flat_only labels.0 (member_of (codes "sections") s.map) s.map i (no_sections tree s h) both.2
