-- An occurrence is of the script with its URL.
use Rattle.std.proofs.Common.{◌≡◌, ◌∙◌, inl, inr, ℕ, suc, ◌<◌, Bool, List, [], ◌∷◌, length, Some, bytes_eq}
use Rattle.std.proofs.Common.{refl, sym, arith}
use Rattle.std.specs.Prelude.{slice_index_or}
use Rattle.std.proofs.lemmas.Bool.{cases_Bool}
use Rattle.std.proofs.lemmas.Slice.Eq.{bytes_eq-Decides}
use Rattle.smap_record.specs.Record.{Record}
use Rattle.smap_trace.specs.Anywhere.{Occurrence, longest, occurrence_between, occurrence_of}
use Rattle.smap_trace.specs.Scripts.{AreDistinct, Script, map_of}
use Rattle.smap_trace.proofs.PieceLemmas.{either}

pub names_script : (ignore : Bool) (s : Script) (text : List ℕ) (o : Occurrence)
    → occurrence_of ignore s text ≡ Some o → (s.0 ≡ o.url) × (s.1 ≡ o.map)
names_script ignore s text o h = grind arith

-- where the script with a URL is
place_of_script : (scripts : List Script) (url : List ℕ) (r : Record) → map_of scripts url ≡ Some r
    → (j : ℕ) × (j < length scripts) × ((d : Script) → (slice_index_or scripts j d).0 ≡ url)
place_of_script [] url r h = cc
place_of_script (s ∷ ss) url r h = elim (cases_Bool (bytes_eq s.0 url)) [
  | inl e ↦ (0, omega arith, λ d. (bytes_eq-Decides s.0 url).0 e)
  | inr e ↦ let there = place_of_script ss url r (rw e at h) in (suc there.0, omega (arith, there.1), there.2)
]

later : (s : Script) (ss : List Script) → AreDistinct (s ∷ ss) → AreDistinct ss
later s ss distinct i j d lt within = distinct (suc i) (suc j) d (omega (arith, lt)) (omega (arith, within))

further : (s : Script) (ss : List Script) (o : Occurrence) → AreDistinct (s ∷ ss)
    → map_of ss o.url ≡ Some o.map → map_of (s ∷ ss) o.url ≡ Some o.map
further s ss o distinct k = elim (cases_Bool (bytes_eq s.0 o.url)) [
  | inl e ↦
      let there = place_of_script ss o.url o.map k in
      absurd (distinct 0 (suc there.0) s (omega arith) (omega (arith, there.1))
      ((bytes_eq-Decides s.0 o.url).0 e ∙ sym (there.2 s)))
  | inr e ↦ rw e k
]

pub known_longest : (ignore : Bool) (scripts : List Script) (text : List ℕ) (o : Occurrence)
    → AreDistinct scripts
    → longest ignore scripts text ≡ Some o → map_of scripts o.url ≡ Some o.map
known_longest ignore [] text o distinct h = cc
known_longest ignore (s ∷ ss) text o distinct h =
    elim (either (occurrence_of ignore s text) (longest ignore ss text) o h) [
      | inl e ↦
          let is = names_script ignore s text o e in
          rw ((bytes_eq-Decides s.0 o.url).1 is.0, is.1) refl
      | inr e ↦ further s ss o distinct (known_longest ignore ss text o (later s ss distinct) e)
    ]

pub known_between : (ignore : Bool) (scripts : List Script) (before text : List ℕ) (o : Occurrence)
    → AreDistinct scripts → occurrence_between ignore scripts before text ≡ Some o
    → map_of scripts o.url ≡ Some o.map
known_between ignore scripts before text o distinct h =
    let is : longest ignore scripts text ≡ Some o = grind arith in
    known_longest ignore scripts text o distinct is
