-- The last line of a text.
use Rattle.std.proofs.Common.{◌≡◌, ◌∙◌, ℕ, suc, ◌+◌, ◌-◌, ◌<◌, ◌≤◌, ◌==◌, Bool, true, false, List, [], ◌∷◌}
use Rattle.std.proofs.Common.{◌++◌, length, take, drop, get_or, cond, Option, Some, None, ap, sym}
use Rattle.std.proofs.Common.{subst, append_assoc, append-nil, arith, ◌||◌, ◌&&◌, ◌⊎◌, ⊎_elim}
use Rattle.std.proofs.Common.{length-append, length-drop, length-take-le}
use Rattle.std.proofs.lemmas.Bool.{cond-true, cond-false}
use Rattle.std.proofs.Math.Seq.{take-append_seam}
use Rattle.std.proofs.lemmas.List.{drop-take, drop_more, get_or-append-add, get_or-drop, take-append-drop}
use Rattle.std.proofs.lemmas.List.{take-take}
use Rattle.smap_link.specs.Comment.{Effect, cut, effect_of, ends_line, ends_separator, is_newline, later}
use Rattle.smap_link.specs.Comment.{said_in, settled}
use Rattle.smap_link.specs.CommentView.{IsSeparatorAt, StartsLastLine}

-- no terminator ends within the text, behind this line
abbrev OneLine : List ℕ → List ℕ → Type 0
OneLine line last = (k : ℕ) → k < length last → ends_line (line ++ take k last) (get_or last k 0) ≡ false

one_more : (line rest : List ℕ) (b : ℕ) → OneLine line (b ∷ rest) → OneLine (line ++ b ∷ []) rest
one_more line rest b none k lt =
    ap (λ l. ends_line l (get_or rest k 0)) (append_assoc line (b ∷ []) (take k rest))
    ∙ none (suc k) (omega (arith, lt))

-- a line to its end
on_one_line : (two : Bool) (last line : List ℕ) (e : Effect) → OneLine line last
    → settled two e line last ≡ later e (effect_of two (line ++ last))
on_one_line two [] line e none = ap (λ l. later e (effect_of two l)) (sym (append-nil line))
on_one_line two (b ∷ rest) line e none =
    cond-false (ends_line line b) _ _ (ap (λ l. ends_line l b) (sym (append-nil line)) ∙ none 0 (omega arith))
    ∙ on_one_line two rest (line ++ b ∷ []) e (one_more line rest b none)
    ∙ ap (λ l. later e (effect_of two l)) (append_assoc line (b ∷ []) rest)

or_true : (a b : Bool) → a ≡ true → (a || b) ≡ true
or_true a b e = grind arith

behind_newline : (two : Bool) (front last line : List ℕ) (b : ℕ) (e : Effect) → is_newline b ≡ true
    → OneLine [] last
    → settled two e line (front ++ b ∷ last) ≡ later (settled two e line front) (effect_of two last)
behind_newline two [] last line b e ends none =
    cond-true (ends_line line b) _ _ (or_true (is_newline b) (ends_separator line b) ends)
    ∙ on_one_line two last [] (later e (effect_of two (cut line b))) none
    ∙ ap (λ l. later (later e (effect_of two l)) (effect_of two last)) (cond-true (is_newline b) line _ ends)
behind_newline two (c ∷ front) last line b e ends none =
    elim (ends_line line c) as
    (λ t. cond t (settled two (later e (effect_of two (cut line c))) [] (front ++ b ∷ last))
    (settled two e (line ++ c ∷ []) (front ++ b ∷ last))
    ≡ later (cond t (settled two (later e (effect_of two (cut line c))) [] front)
    (settled two e (line ++ c ∷ []) front)) (effect_of two last)) [
      | true ↦ behind_newline two front last [] b (later e (effect_of two (cut line c))) ends none
      | false ↦ behind_newline two front last (line ++ c ∷ []) b e ends none
    ]

-- the first two bytes of a separator, behind a line
abbrev begun : List ℕ → List ℕ
begun line = (line ++ 226 ∷ []) ++ 128 ∷ []

begun_is : (line : List ℕ) → begun line ≡ line ++ 226 ∷ 128 ∷ []
begun_is line = append_assoc line (226 ∷ []) (128 ∷ [])

begun_length : (line : List ℕ) → length (begun line) ≡ length line + 2
begun_length line = ap length (begun_is line) ∙ length-append line (226 ∷ 128 ∷ [])

begun_first : (line : List ℕ) → get_or (begun line) (length (begun line) - 2) 0 ≡ 226
begun_first line =
    ap (λ i. get_or (begun line) i 0)
    (let to : length (begun line) - 2 ≡ length line + 0 = omega (arith, begun_length line) in to)
    ∙ ap (λ l. get_or l (length line + 0) 0) (begun_is line) ∙ get_or-append-add line (226 ∷ 128 ∷ []) 0 0

begun_second : (line : List ℕ) → get_or (begun line) (length (begun line) - 1) 0 ≡ 128
begun_second line =
    ap (λ i. get_or (begun line) i 0)
    (let to : length (begun line) - 1 ≡ length line + 1 = omega (arith, begun_length line) in to)
    ∙ ap (λ l. get_or l (length line + 1) 0) (begun_is line) ∙ get_or-append-add line (226 ∷ 128 ∷ []) 1 0

begun_cut : (line : List ℕ) → take (length (begun line) - 2) (begun line) ≡ line
begun_cut line =
    ap (λ n. take n (begun line))
    (let to : length (begun line) - 2 ≡ length line = omega (arith, begun_length line) in to)
    ∙ ap (take (length line)) (begun_is line) ∙ take-append_seam line (226 ∷ 128 ∷ [])

both_true : (x y : ℕ) → x ≡ 226 → y ≡ 128 → (x == 226 && y == 128) ≡ true
both_true x y e f = grind arith

begun_ends : (line : List ℕ) (b : ℕ) → (b ≡ 168) ⊎ (b ≡ 169) → ends_line (begun line) b ≡ true
begun_ends line b is =
    let both = both_true _ _ (begun_first line) (begun_second line) in
    ⊎_elim (λ e. subst (λ c. ends_line (begun line) c ≡ true) (sym e) both)
    (λ e. subst (λ c. ends_line (begun line) c ≡ true) (sym e) both) is

not_newline : (b : ℕ) → (b ≡ 168) ⊎ (b ≡ 169) → is_newline b ≡ false
not_newline b is = grind arith

cut_begun : (line : List ℕ) (b : ℕ) → (b ≡ 168) ⊎ (b ≡ 169) → cut (begun line) b ≡ line
cut_begun line b is = cond-false (is_newline b) _ _ (not_newline b is) ∙ begun_cut line

behind_separator : (two : Bool) (front last line : List ℕ) (b : ℕ) (e : Effect) → (b ≡ 168) ⊎ (b ≡ 169)
    → OneLine [] last
    → settled two e line (front ++ 226 ∷ 128 ∷ b ∷ last)
    ≡ later (settled two e line front) (effect_of two last)
behind_separator two [] last line b e ends none =
    cond-true (ends_line (begun line) b) _ _ (begun_ends line b ends)
    ∙ on_one_line two last [] (later e (effect_of two (cut (begun line) b))) none
    ∙ ap (λ l. later (later e (effect_of two l)) (effect_of two last)) (cut_begun line b ends)
behind_separator two (c ∷ front) last line b e ends none =
    elim (ends_line line c) as
    (λ t. cond t (settled two (later e (effect_of two (cut line c))) [] (front ++ 226 ∷ 128 ∷ b ∷ last))
    (settled two e (line ++ c ∷ []) (front ++ 226 ∷ 128 ∷ b ∷ last))
    ≡ later (cond t (settled two (later e (effect_of two (cut line c))) [] front)
    (settled two e (line ++ c ∷ []) front)) (effect_of two last)) [
      | true ↦ behind_separator two front last [] b (later e (effect_of two (cut line c))) ends none
      | false ↦ behind_separator two front last (line ++ c ∷ []) b e ends none
    ]

-- ---- a text cut before the terminator of its last line

of_newline : (text : List ℕ) (start : ℕ) → 0 < start → start ≤ length text
    → text ≡ take (start - 1) text ++ get_or text (start - 1) 0 ∷ drop start text
of_newline text start some within =
    sym (take-append-drop (start - 1) text)
    ∙ ap (λ l. take (start - 1) text ++ l) (drop_more text (start - 1) 0 (omega arith))
    ∙ ap (λ k. take (start - 1) text ++ get_or text (start - 1) 0 ∷ drop k text) (omega arith)

three_more : (text : List ℕ) (at : ℕ) → at + 3 ≤ length text
    → drop at text ≡ get_or text at 0 ∷ get_or text (at + 1) 0 ∷ get_or text (at + 2) 0 ∷ drop (at + 3) text
three_more text at fits =
    drop_more text at 0 (omega (arith, fits))
    ∙ ap (λ l. get_or text at 0 ∷ l) (drop_more text (at + 1) 0 (omega (arith, fits))
    ∙ ap (λ l. get_or text (at + 1) 0 ∷ l)
    (ap (λ k. drop k text) (let to : at + 1 + 1 ≡ at + 2 = omega arith in to)
    ∙ drop_more text (at + 2) 0 (omega (arith, fits))
    ∙ ap (λ k. get_or text (at + 2) 0 ∷ drop k text) (let to : at + 2 + 1 ≡ at + 3 = omega arith in to)))

of_separator : (text : List ℕ) (start : ℕ) → 3 ≤ start → start ≤ length text → IsSeparatorAt text (start - 3)
    → text ≡ take (start - 3) text ++ 226 ∷ 128 ∷ get_or text (start - 3 + 2) 0 ∷ drop start text
of_separator text start some within is =
    sym (take-append-drop (start - 3) text)
    ∙ ap (λ l. take (start - 3) text ++ l) (three_more text (start - 3) (omega (arith, some, within))
    ∙ ap (λ b. b ∷ get_or text (start - 3 + 1) 0 ∷ get_or text (start - 3 + 2) 0
    ∷ drop (start - 3 + 3) text) is.0
    ∙ ap (λ b. 226 ∷ b ∷ get_or text (start - 3 + 2) 0 ∷ drop (start - 3 + 3) text) is.1
    ∙ ap (λ k. 226 ∷ 128 ∷ get_or text (start - 3 + 2) 0 ∷ drop k text)
    (let to : start - 3 + 3 ≡ start = omega (arith, some) in to))

one_line_of : (text : List ℕ) (start size : ℕ) → StartsLastLine text start size → OneLine [] (drop start text)
one_line_of text start size s k lt =
    ap (ends_line (take k (drop start text))) (get_or-drop start text k 0)
    ∙ s.one_line k (omega (arith, length-drop start text, lt))

-- what the lines of a text say: those before the last one, and the last one
in_two : (two : Bool) (text : List ℕ) (start size : ℕ) → StartsLastLine text start size → 0 < start
    → settled two None [] text
    ≡ later (settled two None [] (take (start - size) text)) (effect_of two (drop start text))
in_two two text start size s some =
    let one = one_line_of text start size s in
    ⊎_elim
    (λ newline.
    let is : is_newline (get_or text (start - 1) 0) ≡ true = newline.1 in
    ap (settled two None []) (of_newline text start some s.within)
    ∙ behind_newline two (take (start - 1) text) (drop start text) [] (get_or text (start - 1) 0) None is one
    ∙ ap (λ n. later (settled two None [] (take (start - n) text)) (effect_of two (drop start text)))
    (sym newline.0))
    (λ separator.
    let fits : 3 ≤ start = omega (arith, s.fits, separator.0) in
    let is : IsSeparatorAt text (start - 3) = separator.1 in
    ap (settled two None []) (of_separator text start fits s.within is)
    ∙ behind_separator two (take (start - 3) text) (drop start text) []
    (get_or text (start - 3 + 2) 0) None separator.1.2 one
    ∙ ap (λ n. later (settled two None [] (take (start - n) text)) (effect_of two (drop start text)))
    (sym separator.0))
    (s.behind some)

in_one : (two : Bool) (text : List ℕ) (start size : ℕ) → StartsLastLine text start size → start ≡ 0
    → settled two None [] text ≡ later None (effect_of two (drop start text))
in_one two text start size s none =
    let whole : drop start text ≡ text = ap (λ k. drop k text) none in
    on_one_line two text [] None (subst (OneLine []) whole (one_line_of text start size s))
    ∙ ap (λ l. later None (effect_of two l)) (sym whole)

-- Where the last line says something, that is it.
said_last : (two : Bool) (text : List ℕ) (start size : ℕ) (link : Option (List ℕ))
    → StartsLastLine text start size
    → effect_of two (drop start text) ≡ Some link → said_in two text ≡ Some link
said_last two text start size link s is =
    let cases : (start ≡ 0) ⊎ (0 < start) = grind arith in
    ⊎_elim
    (λ none. in_one two text start size s none ∙ ap (later None) is)
    (λ some. in_two two text start size s some
    ∙ ap (later (said_in two (take (start - size) text))) is)
    cases

-- Where it says nothing, the lines before it do.
nothing_last : (two : Bool) (text : List ℕ) (start size : ℕ) → StartsLastLine text start size → 0 < start
    → effect_of two (drop start text) ≡ None → said_in two text ≡ said_in two (take (start - size) text)
nothing_last two text start size s some is =
    in_two two text start size s some ∙ ap (later (said_in two (take (start - size) text))) is

nothing_at_all : (two : Bool) (text : List ℕ) (start size : ℕ) → StartsLastLine text start size → start ≡ 0
    → effect_of two (drop start text) ≡ None → said_in two text ≡ None
nothing_at_all two text start size s none is = in_one two text start size s none ∙ ap (later None) is

-- ---- a line of a longer text

cut_at : (text : List ℕ) (end start size : ℕ) → end ≤ length text → StartsLastLine (take end text) start size
    → (start ≤ end) × (drop start (take end text) ≡ take (end - start) (drop start text))
cut_at text end start size le s =
    let long : length (take end text) ≡ end = length-take-le end text le in
    let low : start ≤ end = omega (arith, s.within, long) in (
      low,
      ap (λ n. drop start (take n text)) (let e : end ≡ start + (end - start) = omega (arith, low) in e)
          ∙ drop-take start (end - start) text,
    )

pub link_here : (two : Bool) (text : List ℕ) (end start size : ℕ) (link : Option (List ℕ)) → end ≤ length text
    → said_in two text ≡ said_in two (take end text) → StartsLastLine (take end text) start size
    → Some link ≡ effect_of two (take (end - start) (drop start text)) → Some link ≡ said_in two text
link_here two text end start size link le was s is =
    sym (was ∙ said_last two (take end text) start size link s
    (ap (effect_of two) (cut_at text end start size le s).1 ∙ sym is))

pub no_link : (two : Bool) (text : List ℕ) (end start size : ℕ) → end ≤ length text
    → said_in two text ≡ said_in two (take end text) → StartsLastLine (take end text) start size
    → start ≡ 0
    → None ≡ effect_of two (take (end - start) (drop start text)) → None ≡ said_in two text
no_link two text end start size le was s none is =
    sym (was ∙ nothing_at_all two (take end text) start size s none
    (ap (effect_of two) (cut_at text end start size le s).1 ∙ sym is))

pub earlier : (two : Bool) (text : List ℕ) (end start size : ℕ) → end ≤ length text
    → said_in two text ≡ said_in two (take end text) → StartsLastLine (take end text) start size
    → 0 < start
    → None ≡ effect_of two (take (end - start) (drop start text))
    → (start - size ≤ length text) × (said_in two text ≡ said_in two (take (start - size) text))
earlier two text end start size le was s some is =
    let low : start ≤ end = (cut_at text end start size le s).0 in (
      omega (arith, low, le),
      was ∙ nothing_last two (take end text) start size s some
          (ap (effect_of two) (cut_at text end start size le s).1 ∙ sym is)
          ∙ ap (said_in two) (take-take (start - size) end text (omega (arith, low))),
    )
