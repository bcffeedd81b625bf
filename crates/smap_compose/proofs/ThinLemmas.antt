-- Lookups in a map that is thinned.
use Rattle.std.proofs.Common.{◌≡◌, ◌≢◌, ℕ, ◌≤◌, ◌<◌, List, [], ◌∷◌, Option, Some, None, refl, ap}
use Rattle.std.proofs.Common.{Bool, true, false, ◌∙◌, sym, arith}
use Rattle.std.specs.Prelude.{◌==◌, ◌||◌, option_and_then, IfSome, if◌then◌else◌}
use Rattle.std.specs.Option.{option_or, option_eq}
use Rattle.std.proofs.lemmas.Bool.{and_parts}
use Rattle.std.proofs.lemmas.Bool.Decides.{nat_tests}
use Rattle.smap_record.specs.Record.{Mapping, Origin, Record}
use Rattle.smap_trace.specs.Lookup.{is_within, mapping_at}
use Rattle.smap_compose.specs.Composing.{origin_in}
use Rattle.smap_compose.specs.Thinning.{Follows, Rises, is_overtaken, is_spare, original_before}
use Rattle.smap_compose.specs.Thinning.{same_origin, thin_after, thinned}
use Rattle.smap_record.proofs.EqualLemmas.{same_entries, same_texts}

-- ---- equal originals

equal_nat : (a b : ℕ) → (a == b) ≡ true → a ≡ b
equal_nat a b e = grind (arith, nat_tests)

same_origins : (a b : Origin) → same_origin a b ≡ true → a ≡ b
same_origins a b e =
    let first = and_parts _ _ e in
    let second = and_parts _ _ first.1 in
    let third = and_parts _ _ second.1 in
    let source = same_entries a.source b.source first.0 in
    let line = equal_nat a.line b.line second.0 in
    let column = equal_nat a.column b.column third.0 in
    let name = same_texts a.name b.name third.1 in
    (λ i. record { source = source i; line = line i; column = column i; name = name i })

same_originals : (a b : Option Origin) → option_eq same_origin a b ≡ true → a ≡ b
same_originals None None e = refl
same_originals None (Some b) e = cc
same_originals (Some a) None e = cc
same_originals (Some a) (Some b) e = ap Some (same_origins a b e)

-- ---- order

rises_on : (last : Option Mapping) (m : Mapping) (ms : List Mapping) → IfSome last (λ p. Follows p m)
    → Rises (Some m) ms → Rises last ms
rises_on None m [] f r = tt
rises_on (Some p) m [] f r = tt
rises_on None m (n ∷ ns) f r = (tt, r.1)
rises_on (Some p) m (n ∷ ns) f r =
    let a = f.0 in let b = f.1 in let c = r.0.0 in let d = r.0.1 in
    ((omega (arith, a, c), (λ e. grind (arith, a, b, c, d, e))), r.1)

abbrev original : Option Mapping → Option Origin
original found = option_and_then (λ (m : Mapping). m.origin) found

pub or_or : (a b c : Option Mapping) → option_or (option_or a b) c ≡ option_or a (option_or b c)
or_or None b c = refl
or_or (Some a) b c = refl

module _ (line column : ℕ) where
  abbrev here : Mapping → Option Mapping
  here m = if is_within line column m then Some m else None

  -- what the mappings up to the last one that stayed have to do with what is found among them
  abbrev Settles : Option Mapping → Option Mapping → Type 0
  Settles None found = found ≡ None
  Settles (Some p) found = (p.line ≡ line → p.column ≤ column → found ≡ Some p)
      × (p.line < line → found ≡ None)

  within : (m : Mapping) → m.line ≡ line → m.column ≤ column → is_within line column m ≡ true
  within m e le = grind (arith, nat_tests)

  without : (m : Mapping) → m.line < line → is_within line column m ≡ false
  without m lt = grind (arith, nat_tests)

  on_line : (m : Mapping) → is_within line column m ≡ true → (m.line ≡ line) × (m.column ≤ column)
  on_line m e = let both = and_parts _ _ e in
      (equal_nat m.line line both.0, (let le = both.1 in grind (arith, nat_tests)))

  settles_on : (last found : Option Mapping) (m : Mapping) → IfSome last (λ p. Follows p m)
      → Settles last found
      → Settles (Some m) (option_or (here m) found)
  settles_on None found m f s =
      ((λ e le. rw (within m e le) refl), (λ lt. rw (without m lt) s))
  settles_on (Some p) found m f s = let a = f.0 in
      ((λ e le. rw (within m e le) refl), (λ lt. rw (without m lt) (s.1 (omega (arith, a, lt)))))

  -- a mapping that the next one overtakes isn't found
  overtaken : (m : Mapping) (ms : List Mapping) → is_overtaken m ms ≡ true → is_within line column m ≡ true
      → mapping_at ms line column ≢ None
  overtaken m [] e w none = cc
  overtaken m (n ∷ ns) e w none =
      let both = and_parts _ _ e in
      let at = on_line m w in
      let a = equal_nat n.line m.line both.0 in
      let b = equal_nat n.column m.column both.1 in
      let h = within n (a ∙ at.0) (let c = at.1 in omega (arith, b, c)) in
      overtaken_here (mapping_at ns line column) n (rw h at none)
    where
      overtaken_here : (o : Option Mapping) (x : Mapping) → option_or o (Some x) ≡ None → ⊥
      overtaken_here None x e = cc
      overtaken_here (Some y) x e = cc

  -- what is found up to the last one that stayed is what stands on the line before
  before : (last found : Option Mapping) (m : Mapping) → IfSome last (λ p. Follows p m) → Settles last found
      → is_within line column m ≡ true → original found ≡ original_before last m.line
  before None found m f s w = ap original s
  before (Some p) found m f s w = on_its_line (p.line == m.line) refl
    where
      at : (m.line ≡ line) × (m.column ≤ column)
      at = on_line m w

      on_its_line : (b : Bool) → (p.line == m.line) ≡ b → original found ≡ (if b then p.origin else None)
      on_its_line true e =
          let same = equal_nat p.line m.line e in
          let le = f.1 same in
          let le_m = at.1 in
          ap original (s.0 (same ∙ at.0) (omega (arith, le, le_m)))
      on_its_line false e = ap original (s.1 (less (p.line) (m.line) e f.0 at.0))
        where
          less : (a b : ℕ) → (a == b) ≡ false → a ≤ b → b ≡ line → a < line
          less a b e le same = grind (arith, nat_tests)

  spare_within : (last found : Option Mapping) (m : Mapping) (ms : List Mapping) (b : Bool)
      → is_overtaken m ms ≡ b → IfSome last (λ p. Follows p m) → Settles last found
      → (b || option_eq same_origin (original_before last m.line) m.origin) ≡ true
      → mapping_at ms line column ≡ None → is_within line column m ≡ true → original found ≡ m.origin
  spare_within last found m ms true e f s h none w = absurd (overtaken m ms e w none)
  spare_within last found m ms false e f s h none w = before last found m f s w
      ∙ same_originals (original_before last m.line) m.origin h

  spare_step : (last found : Option Mapping) (m : Mapping) (ms : List Mapping) (later : Option Mapping)
      (b : Bool)
      → mapping_at ms line column ≡ later → is_within line column m ≡ b
      → IfSome last (λ p. Follows p m) → Settles last found → is_spare last m ms ≡ true
      → original (option_or later found)
      ≡ original (option_or (option_or later (if b then Some m else None)) found)
  spare_step last found m ms (Some x) b e w f s h = refl
  spare_step last found m ms None false e w f s h = refl
  spare_step last found m ms None true e w f s h =
      spare_within last found m ms (is_overtaken m ms) refl f s h e w

  -- what is to be shown of these mappings, behind all that may stand before them
  abbrev Alike : List Mapping → Type 0
  Alike ms = (last found : Option Mapping) → Rises last ms → Settles last found
      → original (option_or (mapping_at (thin_after last ms) line column) found)
      ≡ original (option_or (mapping_at ms line column) found)

  thin_step : (last found : Option Mapping) (m : Mapping) (ms : List Mapping) (b : Bool) → Alike ms
      → is_spare last m ms ≡ b → IfSome last (λ p. Follows p m) → Rises (Some m) ms → Settles last found
      → original (option_or (mapping_at (if b then thin_after last ms
      else m ∷ thin_after (Some m) ms) line column) found)
      ≡ original (option_or (mapping_at (m ∷ ms) line column) found)
  thin_step last found m ms true h e f r s = h last found (rises_on last m ms f r) s
      ∙ spare_step last found m ms (mapping_at ms line column) (is_within line column m) refl refl f s e
  thin_step last found m ms false h e f r s =
      ap original (or_or (mapping_at (thin_after (Some m) ms) line column) (here m) found)
      ∙ h (Some m) (option_or (here m) found) r (settles_on last found m f s)
      ∙ ap original (sym (or_or (mapping_at ms line column) (here m) found))

  thin_found : (ms : List Mapping) → Alike ms
  thin_found [] last found r s = refl
  thin_found (m ∷ ms) last found r s =
      thin_step last found m ms (is_spare last m ms) (thin_found ms) refl r.0 r.1 s

pub or_none : {A : Type 0} (a : Option A) → option_or a None ≡ a
or_none None = refl
or_none (Some a) = refl

pub found_alike : (r : Record) (line column : ℕ) → Rises None r.mappings
    → origin_in (thinned r) line column ≡ origin_in r line column
found_alike r line column rises =
    ap original (sym (or_none (mapping_at (thin_after None r.mappings) line column)))
    ∙ thin_found line column r.mappings None None rises refl
    ∙ ap original (or_none (mapping_at r.mappings line column))
