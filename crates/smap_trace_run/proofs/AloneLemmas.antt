-- Lines in which frames that name no script have the name of one.
use Rattle.std.proofs.Common.{◌≡◌, ◌∙◌, ap, sym, refl, inl, inr, arith, ℕ, ◌<◌, ◌==◌, List, [], ◌∷◌, ◌++◌}
use Rattle.std.proofs.Common.{length, Option, Some, None, append_assoc, append-nil, flat_map}
use Rattle.std.specs.Global.{Vec}
use Rattle.std.specs.List.{onto_first}
use Rattle.std.specs.Option.{option_map_or}
use Rattle.std.proofs.lemmas.Bool.{cases_Bool}
use Rattle.std.proofs.lemmas.Bool.Decides.{Decides-eqb}
use Rattle.std.proofs.lemmas.Grind.{flat_map-append}
use Rattle.std.proofs.lemmas.Slice.Eq.{ends_is}
use Rattle.smap_io.specs.Lines.{IsWhole, TakesAll, TakesPiece, feed_of, has_line_feed, lines_of}
use Rattle.smap_io.specs.Lines.{without_line_feed}
use Rattle.smap_io.proofs.LineLemmas.{both_whole, lines_of-append}
use Rattle.smap_map_files.specs.declared.wanted.Wanted.{Wanted}
use Rattle.smap_trace.specs.Unnamed.{named_frame}
use Rattle.smap_trace_run.specs.Alone.{TakesLine, as_read, line_with, lines_with, script_alone}

-- ---- whole lines stay whole

-- each of these lines has its line feed
abbrev AreEnded : List (List ℕ) → Type 0
AreEnded [] = Unit {0}
AreEnded (line ∷ lines) = ((front : List ℕ) × (line ≡ front ++ 10 ∷ [])) × AreEnded lines

still_ended : (b : ℕ) (lines : List (List ℕ)) → 0 < length lines → AreEnded lines
    → (0 < length (onto_first b lines)) × AreEnded (onto_first b lines)
still_ended b [] some all = absurd (omega arith)
still_ended b (line ∷ lines) some all =
    (omega arith, ((b ∷ all.0.0, ap (λ (l : List ℕ). b ∷ l) all.0.1), all.1))

lines_ended : (front : List ℕ)
    → (0 < length (lines_of (front ++ 10 ∷ []))) × AreEnded (lines_of (front ++ 10 ∷ []))
lines_ended [] = (omega arith, (([], refl), tt))
lines_ended (b ∷ bs) = let all = lines_ended bs in elim (cases_Bool (b == 10)) [
  | inl e ↦ rw e (omega arith, (([], refl), all.1))
  | inr e ↦ rw e (still_ended b (lines_of (bs ++ 10 ∷ [])) all.0 all.1)
]

named_ended : (named : Option (List ℕ)) (line front : List ℕ) → line ≡ front ++ 10 ∷ []
    → (rest : List ℕ) × (option_map_or (λ n. n ++ feed_of line) named line ≡ rest ++ 10 ∷ [])
named_ended None line front is = (front, is)
named_ended (Some n) line front is =
    (n, rw ((ends_is Decides-eqb line (10 ∷ []) (has_line_feed line) refl).1 front is) refl)

ended_whole : (script : List ℕ) (lines : List (List ℕ)) → AreEnded lines
    → IsWhole (flat_map (line_with script) lines)
ended_whole script [] all = inl refl
ended_whole script (line ∷ lines) all = both_whole (line_with script line) (flat_map (line_with script) lines)
    (inr (named_ended (named_frame script (without_line_feed line)) line all.0.0 all.0.1))
    (ended_whole script lines all.1)

lines_with-whole : (script : Option (List ℕ)) (whole : List ℕ) → IsWhole whole
    → IsWhole (lines_with script whole)
lines_with-whole None whole is = is
lines_with-whole (Some script) whole (inl e) = rw e (inl refl)
lines_with-whole (Some script) whole (inr p) =
    rw p.1 (ended_whole script (lines_of (p.0 ++ 10 ∷ [])) (lines_ended p.0).1)

pub as_read-whole : (wanted : Wanted) (whole : List ℕ) → IsWhole whole → IsWhole (as_read wanted whole)
as_read-whole wanted whole is = lines_with-whole (script_alone wanted) whole is

nothing_with : (script : Option (List ℕ)) → lines_with script [] ≡ []
nothing_with None = refl
nothing_with (Some script) = refl

pub no_lines : (wanted : Wanted) → as_read wanted [] ≡ []
no_lines wanted = nothing_with (script_alone wanted)

-- ---- lines that are put together

lines_with-append : (script : Option (List ℕ)) (whole more : List ℕ) → IsWhole whole
    → lines_with script (whole ++ more) ≡ lines_with script whole ++ lines_with script more
lines_with-append None whole more is = refl
lines_with-append (Some script) whole more is = rw (lines_of-append whole more is)
    (flat_map-append (line_with script) (lines_of whole) (lines_of more))

pub as_read-append : (wanted : Wanted) (whole more : List ℕ) → IsWhole whole
    → as_read wanted (whole ++ more) ≡ as_read wanted whole ++ as_read wanted more
as_read-append wanted whole more is = lines_with-append (script_alone wanted) whole more is

-- ---- lines that are taken one after another

module _ (script : List ℕ) where
  lines_taken : (lines : List (List ℕ)) (old new : Vec ℕ) → TakesAll (TakesLine script) old lines new
      → new.items ≡ old.items ++ flat_map (line_with script) lines
  lines_taken [] old new t = ap (λ (v : Vec ℕ). v.items) t ∙ sym (append-nil old.items)
  lines_taken (line ∷ lines) old new t = lines_taken lines t.0 new t.2
      ∙ rw t.1 (append_assoc old.items (line_with script line) (flat_map (line_with script) lines))

  pub text_taken : (text none rest : List ℕ) (first middle last : Vec ℕ) → first.items ≡ [] → none ≡ []
      → TakesPiece (TakesLine script) none text rest first middle
      → TakesAll (TakesLine script) middle (lines_of rest) last → last.items ≡ lines_with (Some script) text
  text_taken text none rest first middle last empty is piece end =
      let all : text ≡ piece.whole ++ rest = rw is at piece.bytes in
      let front : middle.items ≡ flat_map (line_with script) (lines_of piece.whole) =
      rw empty at (lines_taken (lines_of piece.whole) first middle piece.taken) in
      rw (all, lines_with-append (Some script) piece.whole rest piece.is_whole, ← front)
      (lines_taken (lines_of rest) middle last end)
