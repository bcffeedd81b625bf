-- The position of one script at the beginning of a text: what is computed is what the relation says.
use Rattle.std.proofs.Common.{◌≡◌, ◌∙◌, ℕ, ◌+◌, ◌<◌, Bool, true, false, List, ◌∷◌, ◌++◌, length, take, drop}
use Rattle.std.proofs.Common.{Some, option_map, decimal, nat_eq, nat_lt, refl, subst, arith}
use Rattle.std.specs.Char.{is_ascii_digit}
use Rattle.std.specs.List.{list_any, starts_with}
use Rattle.std.proofs.Math.Seq.{drop-append_seam}
use Rattle.std.proofs.lemmas.Bool.{lt-ltb}
use Rattle.std.proofs.lemmas.Bool.Decides.{nat_tests}
use Rattle.smap_frames.specs.Places.{place_after, IsIgnored}
use Rattle.smap_frames.specs.Frame.{IsPlace, position_text}
use Rattle.smap_frames.specs.declared.places.Place.{Place}
use Rattle.smap_frames.proofs.CutLemmas.{begins, begins_with}
use Rattle.smap_frames.proofs.PositionLemmas.{parts_counted, parts_joined, placed_found, placed_here, some_of}
use Rattle.smap_trace.specs.Anywhere.{Occurrence, occurrence_of}
use Rattle.smap_trace.specs.Scripts.{Script}

-- ---- a position of a script

-- The text begins with this position of the script with its URL, and no digit follows.
pub record BeginsWithPosition (ignore : Bool) (o : Occurrence) (text : List ℕ) : Type 0 where
  pub query : List ℕ
  pub rest : List ℕ
  pub some_url : 0 < length o.url
  pub ignored : IsIgnored ignore query
  pub line_place : IsPlace o.line
  pub column_place : IsPlace o.column
  pub stops : list_any is_ascii_digit (take 1 rest) ≡ false
  pub whole : text ≡ position_text (o.url ++ query) o.line o.column ++ rest
  pub width_is : o.width ≡ length (position_text (o.url ++ query) o.line o.column)

at_script : (ignore : Bool) (s : Script) (text : List ℕ) (o : Occurrence)
    → occurrence_of ignore s text ≡ Some o
    → (0 < length s.0) × ((starts_with nat_eq text s.0 ≡ true) × (option_map (λ p. record {
      url = s.0;
      map = s.1;
      line = p.line;
      column = p.column;
      width = length s.0 + p.width;
    }) (place_after ignore (drop (length s.0) text)) ≡ Some o))
at_script ignore s text o h = grind (arith, nat_tests)

pub position_found : (ignore : Bool) (s : Script) (text : List ℕ) (o : Occurrence)
    → occurrence_of ignore s text ≡ Some o → BeginsWithPosition ignore o text
position_found ignore s text o h =
    let is = at_script ignore s text o h in
    let p = some_of made (place_after ignore (drop (length s.0) text)) o is.1.1 in
    let there = placed_found ignore (drop (length s.0) text) p.0 p.1 in
    subst (λ (x : Occurrence). BeginsWithPosition ignore x text) p.2 (record {
      query = there.query;
      rest = there.rest;
      some_url = is.0;
      ignored = there.ignored;
      line_place = there.line_place;
      column_place = there.column_place;
      stops = there.stops;
      whole = begins text s.0 is.1.0
          ∙ rw (parts_joined s.0 there.query there.rest p.0.line p.0.column, ← there.whole) refl;
      width_is = rw (parts_counted s.0 there.query p.0.line p.0.column, there.width_is) refl;
    })
  where
    made : Place → Occurrence
    made p = record { url = s.0; map = s.1; line = p.line; column = p.column; width = length s.0 + p.width }

pub position_here : (ignore : Bool) (text : List ℕ) (o : Occurrence) → BeginsWithPosition ignore o text
    → occurrence_of ignore (o.url, o.map) text ≡ Some o
position_here ignore text o h =
    let rest = h.query ++ (58 ∷ (decimal o.line ++ (58 ∷ (decimal o.column ++ h.rest)))) in
    let whole : text ≡ o.url ++ rest = h.whole ∙ parts_joined o.url h.query h.rest o.line o.column in
    let width : ℕ = length h.query + (length (decimal o.line) + 1 + (length (decimal o.column) + 1)) in
    let p : Place = record { line = o.line; column = o.column; width = width } in
    let there : place_after ignore rest ≡ Some p = placed_here ignore rest p (record {
      query = h.query;
      rest = h.rest;
      ignored = h.ignored;
      line_place = h.line_place;
      column_place = h.column_place;
      stops = h.stops;
      whole = refl;
      width_is = refl;
    }) in
    let some : nat_lt 0 (length o.url) ≡ true = lt-ltb 0 (length o.url) h.some_url in
    let starts : starts_with nat_eq (o.url ++ rest) o.url ≡ true = begins_with o.url rest in
    let behind : drop (length o.url) (o.url ++ rest) ≡ rest = drop-append_seam o.url rest in
    let wide = h.width_is ∙ parts_counted o.url h.query o.line o.column in
    rw (whole, some, starts, behind, there, ← wide) refl
