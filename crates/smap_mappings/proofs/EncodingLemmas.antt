-- A loop that writes the text of tokens.
use Rattle.std.proofs.Common.{◌≡◌, ℕ, ◌+◌, ◌<◌, ◌≤◌, Bool, false, eqb, List, [], ◌∷◌, ◌++◌, length, take}
use Rattle.std.proofs.Common.{drop, map, filter, refl, ap, ◌∙◌, arith, append_assoc, Option, None, Some}
use Rattle.std.proofs.Common.{rules}
use Rattle.std.specs.Prelude.{unwrap_or, IfSome}
use Rattle.std.proofs.lemmas.Bool.Decides.{nat_tests}
use Rattle.smap_mappings.specs.Position.{POSITIONS, NeverFalls, is_before, position_of}
use Rattle.std.specs.List.{AllByRecursion, filter_map, cons_option}
use Rattle.std.proofs.lemmas.Bool.{eq-eqb, ne_eqb, eqb-true, eqb-false, cond_both}
use Rattle.std.proofs.lemmas.List.{append-nil, map-append, take-append-le, take-append-drop}
use Rattle.std.proofs.Math.Seq.{take-length}
use Rattle.std.proofs.lemmas.List.Elements.{filter-append, filter_map-append}
use Rattle.smap_mappings.specs.declared.token.Token.{Token}
use Rattle.smap_mappings.specs.declared.token.Original.{Original}
use Rattle.smap_mappings.specs.declared.running.Running.{Running}
use Rattle.smap_mappings.specs.Text.{last_or, segment_text, original_before, column_before, no_original}
use Rattle.smap_mappings.specs.Text.{line_count, mappings_text, IsPlaced, IsOriginal, IsEncodable}
use Rattle.smap_mappings.specs.Feeding.{Remembers, Encoded}
use Rattle.smap_mappings.specs.Writing.{segment_from, running_after, original_after, IsRunning, separator}
use Rattle.smap_mappings.specs.Writing.{at_line}
use Rattle.smap_mappings.proofs.TextLemmas.{last_or-push, line_count-push, mappings_text-push}

segment_text-from : (r : Running) (ts : List Token) (t : Token) → column_before ts t.line ≡ r.column
    → Remembers r ts → segment_text ts t ≡ segment_from r t
segment_text-from r ts t c h =
    grind (arith, c, h.source, h.original_line, h.original_column, h.name)

column_before-push : (ts : List Token) (t : Token) → column_before (ts ++ t ∷ []) t.line ≡ t.column
column_before-push ts t =
    let on_line : Token → Bool = λ u. eqb u.line t.line in
    rw (
      filter-append on_line ts (t ∷ []),
      eq-eqb t.line t.line refl,
      map-append (λ (u : Token). u.column) (filter on_line ts) (t ∷ []),
    ) (last_or-push 0 (map (λ (u : Token). u.column) (filter on_line ts)) t.column)

column_before-none : (ts : List Token) (n line : ℕ) → AllByRecursion (λ u. u.line < n) ts → n ≤ line
    → column_before ts line ≡ 0
column_before-none [] n line all le = refl
column_before-none (t ∷ ts) n line all le =
    rw (ne_eqb t.line line (λ e. let h = all.0 in omega arith)) (column_before-none ts n line all.1 le)

last_or-option : {A : Type 0} (d : A) (xs : List A) (o : Option A)
    → last_or d (xs ++ cons_option o []) ≡ unwrap_or o (last_or d xs)
last_or-option d [] None = refl
last_or-option d [] (Some x) = refl
last_or-option d (y ∷ ys) o = last_or-option y ys o

last_name : (r : Running) (os : List Original) (o : Option Original)
    → last_or 0 (filter_map (λ p. p.name) os) ≡ r.name
    → last_or 0 (filter_map (λ p. p.name) (os ++ cons_option o [])) ≡ (original_after r o).name
last_name r os None h = rw (append-nil os) h
last_name r os (Some o) h = rw (filter_map-append (λ (p : Original). p.name) os (o ∷ []), ← h)
    (last_or-option 0 (filter_map (λ (p : Original). p.name) os) o.name)

Remembers-column : (r : Running) (ts : List Token) (n : ℕ)
    → Remembers r ts → Remembers (record r { column = n }) ts
Remembers-column r ts n h = search rules

Remembers-push : (r : Running) (ts : List Token) (t : Token)
    → Remembers r ts → Remembers (running_after r t) (ts ++ t ∷ [])
Remembers-push r ts t h =
    let os : List Original = filter_map (λ u. u.original) ts in
    let more = filter_map-append (λ (u : Token). u.original) ts (t ∷ []) in
    let last : original_before (ts ++ t ∷ []) ≡ unwrap_or t.original (original_before ts) =
    rw more (last_or-option no_original os t.original) in
    record {
      source = grind (arith, last, h.source);
      original_line = grind (arith, last, h.original_line);
      original_column = grind (arith, last, h.original_column);
      name = rw more (last_name (record r { column = t.column }) os t.original h.name);
    }

-- ---- the loop

pub starts : (out : List ℕ) (r : Running) → out ≡ [] → r
    ≡ record { column = 0; source = 0; original_line = 0; original_column = 0; name = 0 } → Encoded [] out r 0
unfolding mappings_text
starts out r none zeros = rw (none, zeros) (search (rules, arith))

pub is_before-line : (x t : Token) → is_before (position_of t) (position_of x) ≡ false → x.line ≤ t.line
is_before-line x t e = grind (arith, nat_tests)

-- the last token isn't before the line of the one in front of it
pub never_falls_last : (ts : List Token) (t : Token) → NeverFalls (map position_of (ts ++ t ∷ []))
    → line_count ts ≤ t.line + 1
never_falls_last [] t h = omega arith
never_falls_last (x ∷ []) t h = omega (arith, is_before-line x t h.0)
never_falls_last (x ∷ y ∷ ys) t h = never_falls_last (y ∷ ys) t h.1

pub placed_last : (ts : List Token) (t : Token) → AllByRecursion IsPlaced (ts ++ t ∷ []) → IsPlaced t
placed_last [] t h = h.0
placed_last (x ∷ xs) t h = placed_last xs t h.1

-- the first ones of tokens that have a text have one
never_falls_front : (xs ys : List Token) → NeverFalls (map position_of (xs ++ ys))
    → NeverFalls (map position_of xs)
never_falls_front [] ys h = tt
never_falls_front (x ∷ []) ys h = tt
never_falls_front (x ∷ y ∷ xs) ys h = (h.0, never_falls_front (y ∷ xs) ys h.1)

placed_front : (xs ys : List Token) → AllByRecursion IsPlaced (xs ++ ys) → AllByRecursion IsPlaced xs
placed_front [] ys h = tt
placed_front (x ∷ xs) ys h = (h.0, placed_front xs ys h.1)

pub encodable-front : (xs ys : List Token) → IsEncodable (xs ++ ys) → IsEncodable xs
encodable-front xs ys h = (never_falls_front xs ys h.0, placed_front xs ys h.1)

pub encodable-take : (ts : List Token) (n : ℕ) → IsEncodable ts → IsEncodable (take n ts)
encodable-take ts n h = encodable-front (take n ts) (drop n ts) (rw (take-append-drop n ts) h)

still_below : (ts : List Token) (n m : ℕ) (t : Token) → n ≤ m → t.line < m
    → AllByRecursion (λ u. u.line < n) ts → AllByRecursion (λ u. u.line < m) (ts ++ t ∷ [])
still_below [] n m t le lt all = (lt, tt)
still_below (u ∷ us) n m t le lt all = ((let h = all.0 in omega arith), still_below us n m t le lt all.1)

column_running : (r : Running) (n : ℕ) → n < POSITIONS → IsRunning r → IsRunning (record r { column = n })
column_running r n lt h = search rules

name_running : (last : ℕ) (n : Option ℕ) → last < POSITIONS → IfSome n (λ m. m < POSITIONS)
    → unwrap_or n last < POSITIONS
name_running last n lt h = grind arith

original_running : (r : Running) (o : Option Original) → IsRunning r → IfSome o IsOriginal
    → IsRunning (original_after r o)
original_running r None h k = h
original_running r (Some o) h k = search (rules, name_running r.name o.name h.name k.name)

pub IsRunning-after : (r : Running) (t : Token) → IsRunning r → IsPlaced t → IsRunning (running_after r t)
IsRunning-after r t h p =
    original_running (record r { column = t.column }) t.original (column_running r t.column p.column h)
    p.original

pub at_line-running : (r : Running) (lines line : ℕ) → IsRunning r → IsRunning (at_line r lines line)
at_line-running r lines line h = cond_both (eqb lines (line + 1)) r (record r { column = 0 }) IsRunning
    (λ _. h) (λ _. column_running r 0 (omega arith) h)

column_after : (r : Running) (t : Token) → t.column ≡ (running_after r t).column
column_after r t = grind arith

-- on the line of the next token
on_next : (ts : List Token) (r : Running) (lines line : ℕ) → AllByRecursion (λ u. u.line < lines) ts
    → lines ≤ line + 1 → (lines ≡ line + 1 → column_before ts line ≡ r.column) → Remembers r ts
    → (column_before ts line ≡ (at_line r lines line).column) × Remembers (at_line r lines line) ts
on_next ts r lines line below le column h =
    cond_both (eqb lines (line + 1)) r (record r { column = 0 })
    (λ s. (column_before ts line ≡ s.column) × Remembers s ts) (λ e. (column (eqb-true _ _ e), h))
    (λ e.
    (column_before-none ts lines line below (omega (arith, eqb-false _ _ e)), Remembers-column r ts 0 h))

-- a token more
pub goes_on : (ts : List Token) (out next : List ℕ) (r : Running) (lines : ℕ) (t : Token)
    → Encoded ts out r lines → IsEncodable (ts ++ t ∷ [])
    → next ≡ (out ++ separator lines t.line) ++ segment_from (at_line r lines t.line) t
    → Encoded (ts ++ t ∷ []) next (running_after (at_line r lines t.line) t) (t.line + 1)
goes_on ts out next r lines t p h e =
    let rises : lines ≤ t.line + 1 = omega (arith, p.lines_are, never_falls_last ts t h.0) in
    let here : Running = at_line r lines t.line in
    let at = on_next ts r lines t.line p.lines_below rises (p.column t.line) p.remembers in
    record {
      text = rw (
        mappings_text-push ts t (rw p.lines_are p.lines_below) (omega (arith, p.lines_are)),
        p.lines_are,
        segment_text-from here ts t at.0 at.1,
        ← p.text,
      ) (e ∙ append_assoc out (separator lines t.line) (segment_from here t));
      lines_are = line_count-push ts t;
      lines_below = still_below ts lines (t.line + 1) t rises (omega arith) p.lines_below;
      column = λ line same. ap (column_before (ts ++ t ∷ [])) (omega arith) ∙ column_before-push ts t
          ∙ column_after here t;
      remembers = Remembers-push here ts t at.1;
    }

-- the front of what a slice was left as, inside of its vector
pub front_kept : (n r : ℕ) (out rest : List ℕ) → length out ≡ n → r ≤ length out
    → take r (take n (out ++ rest)) ≡ take r out
front_kept n r out rest e le =
    rw (take-append-le n out rest (omega (arith, e))) (rw (← e) (ap (take r) (take-length out)))
