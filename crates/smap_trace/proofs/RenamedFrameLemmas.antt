-- A frame that gets the name of a function stays one.
use Rattle.std.proofs.Common.{◌≡◌, ◌∙◌, ◌⊎◌, inl, inr, ℕ, ◌+◌, ◌-◌, ◌≤◌, ◌==◌, true, false, List}
use Rattle.std.proofs.Common.{[], ◌∷◌, ◌++◌, length, take, drop, min, refl, sym, ap, arith, append_assoc}
use Rattle.std.proofs.Common.{codes}
use Rattle.std.proofs.Common.{append-nil, length-append, length-drop, nat_eq, not, Option}
use Rattle.std.specs.Prelude.{IsTrue, IfSome}
use Rattle.std.specs.List.{ends_with, list_all, prefix_len, suffix_len}
use Rattle.std.proofs.Math.Seq.{drop-append-add, drop-append_seam, drop-length, take-append-add}
use Rattle.std.proofs.Math.Seq.{take-append_seam}
use Rattle.std.proofs.Math.Seq.{take-length}
use Rattle.std.proofs.lemmas.Bool.{and_parts, cases_lt, cond_both}
use Rattle.std.proofs.lemmas.List.{drop-append-le, take-append-drop, take-append-le}
use Rattle.smap_frames.specs.Frame.{AreSpaces, BeginsWithAt, FrameParts, InParentheses, IsFirefox, IsFrame}
use Rattle.smap_frames.specs.Frame.{AfterAsync, Alone, IsLineEnd, IsV8, lacks, position_text}
use Rattle.smap_functions.specs.Renaming.{closing, ends_in_at, ends_in_parenthesis, full_name, is_space}
use Rattle.smap_functions.specs.Renaming.{logged_name, marks_len, name_place, opening, place_in_lead}
use Rattle.smap_functions.specs.Renaming.{renamed_after}
use Rattle.smap_functions.specs.Renaming.{renamed_before, without_end, written_name}
use Rattle.smap_functions.specs.Words.{is_word}
use Rattle.smap_trace.specs.RenamedFrame.{IsPut, RenamedStaysAFrame, renamed_frame, text_of}
use Rattle.smap_trace.proofs.LackLemmas.{both_lack, each_lacks, front_lacks, name_lacks, part_lacks}
use Rattle.smap_trace.proofs.LackLemmas.{position_lacks}
use Rattle.smap_trace.proofs.LackLemmas.{rest_lacks, written_lacks}

-- ---- how a text ends

end_of : (front last : List ℕ) (n : ℕ) → n ≤ length last
    → drop (length (front ++ last) - n) (front ++ last) ≡ drop (length last - n) last
end_of front last n le =
    let place : length (front ++ last) - n ≡ length front + (length last - n) =
    omega (arith, le, length-append front last) in
    ap (λ k. drop k (front ++ last)) place ∙ drop-append-add front last (length last - n)

ends_so : (front last needle : List ℕ) → length needle ≤ length last
    → ends_with nat_eq (front ++ last) needle ≡ ends_with nat_eq last needle
ends_so front last needle le = rw (end_of front last (length needle) le) refl

without : (front last : List ℕ) → without_end (length last) (front ++ last) ≡ front
without front last =
    let place : length (front ++ last) - length last ≡ length front =
    omega (arith, length-append front last) in
    ap (λ k. take k (front ++ last)) place ∙ take-append_seam front last

-- ---- a frame without a name

abbrev written : List ℕ → Option (List ℕ) → List ℕ → List ℕ
written before class word = written_name (logged_name before) class word

alone : (before : List ℕ) (class : Option (List ℕ)) (word : List ℕ) → ends_in_at before ≡ false
    → ends_in_parenthesis before ≡ false
    → renamed_before before class word ≡ before ++ (written before class word ++ codes " (")
alone before class word e d = rw (e, d, take-length before, drop-length before) refl

regroup : (a b c d : List ℕ) → a ++ b ++ (c ++ d) ≡ a ++ (b ++ c ++ d)
regroup a b c d = simp append_assoc

-- what a frame of V8 has before and after its position, once it has a name
record IsNamed (f : FrameParts) (class : Option (List ℕ)) (word spaces line_end : List ℕ) : Type 0 where
  name : List ℕ
  before_is : renamed_before f.before class word ≡ spaces ++ codes "at " ++ (name ++ codes " (")
  after_is : renamed_after f.before f.after ≡ codes ")" ++ line_end

alone_v8 : (f : FrameParts) (class : Option (List ℕ)) (word spaces lead line_end : List ℕ)
    → ends_in_at f.before ≡ false → ends_in_parenthesis f.before ≡ false
    → f.before ≡ spaces ++ codes "at " ++ lead → f.after ≡ line_end
    → IsNamed f class word spaces line_end
alone_v8 f class word spaces lead line_end e d before after = record {
  name = lead ++ written f.before class word;
  before_is = alone f.before class word e d
      ∙ ap (λ (xs : List ℕ). xs ++ (written f.before class word ++ codes " (")) before
      ∙ regroup (spaces ++ codes "at ") lead (written f.before class word) (codes " (");
  after_is = rw (e, d, after) refl;
}

-- ---- a frame with a name

behind_spaces : (spaces rest : List ℕ) → AreSpaces spaces
    → prefix_len is_space (spaces ++ 97 ∷ rest) ≡ length spaces
behind_spaces [] rest are = refl
behind_spaces (x ∷ xs) rest are =
    let parts = and_parts (x == 32) (list_all (λ b. b == 32) xs) are in
    rw (parts.0, behind_spaces xs rest parts.1) (omega arith)

abbrev start_in : List ℕ → ℕ
start_in head = min (prefix_len is_space head + 3) (length head)

start_is : (spaces name : List ℕ) → AreSpaces spaces
    → start_in (spaces ++ codes "at " ++ name) ≡ length (spaces ++ codes "at ")
start_is spaces name are =
    let head = spaces ++ codes "at " ++ name in
    let some : prefix_len is_space head ≡ length spaces =
    ap (prefix_len is_space) (append_assoc spaces (codes "at ") name)
    ∙ behind_spaces spaces (116 ∷ 32 ∷ name) are in
    omega (arith, some, length-append (spaces ++ codes "at ") name, length-append spaces (codes "at "))

named_before : (spaces name : List ℕ) (class : Option (List ℕ)) (word before : List ℕ) → AreSpaces spaces
    → before ≡ spaces ++ codes "at " ++ (name ++ codes " (")
    → (n : List ℕ) × (renamed_before before class word ≡ spaces ++ codes "at " ++ (n ++ codes " ("))
named_before spaces name class word before are is =
    let lead = spaces ++ codes "at " in
    let head = lead ++ name in
    let k = marks_len (drop (start_in head) head) in
    let x = take k (name ++ codes " (") in
    let y = drop (place_in_lead head).1 head in
    let w = written before class word in
    let whole : before ≡ head ++ codes " (" = is ∙ sym (append_assoc lead name (codes " (")) in
    let at : ends_in_at before ≡ false =
    ap ends_in_at whole ∙ ends_so head (codes " (") (codes "@") (omega arith) in
    let par : ends_in_parenthesis before ≡ true =
    ap ends_in_parenthesis whole ∙ ends_so head (codes " (") (codes " (") (omega arith) in
    let cut : without_end 2 before ≡ head = ap (without_end 2) whole ∙ without head (codes " (") in
    let place : name_place before ≡ place_in_lead head = rw (at, par, cut) refl in
    let start : (name_place before).0 ≡ length lead + k =
    ap (λ (p : ℕ × ℕ). p.0) place ∙ ap (λ n. n + k) (start_is spaces name are) in
    let front : take (name_place before).0 before ≡ lead ++ x =
    rw (start, is) (take-append-add lead (name ++ codes " (") k) in
    let back : drop (name_place before).1 before ≡ y ++ codes " (" =
    rw (ap (λ (p : ℕ × ℕ). p.1) place, whole) (drop-append-le (place_in_lead head).1 head (codes " (")
    (omega arith)) in
    let none : opening before ≡ [] = rw (at, par) refl in (
      x ++ (w ++ y),
      ap (λ (xs : List ℕ). xs ++ (w ++ (drop (name_place before).1 before ++ opening before))) front
          ∙ ap (λ (xs : List ℕ). lead ++ x ++ (w ++ (xs ++ opening before))) back
          ∙ ap (λ (xs : List ℕ). lead ++ x ++ (w ++ (y ++ codes " (" ++ xs))) none
          ∙ in_place lead x w y (codes " ("),
    )
  where
    in_place : (a x w y o : List ℕ) → a ++ x ++ (w ++ (y ++ o ++ [])) ≡ a ++ (x ++ (w ++ y) ++ o)
    in_place a x w y o = simp (append_assoc, append-nil)

named_v8 : (f : FrameParts) (class : Option (List ℕ)) (word spaces name line_end : List ℕ) → AreSpaces spaces
    → f.before ≡ spaces ++ codes "at " ++ (name ++ codes " (") → f.after ≡ codes ")" ++ line_end
    → IsNamed f class word spaces line_end
named_v8 f class word spaces name line_end are before after =
    let n = named_before spaces name class word f.before are before in
    let whole : f.before ≡ spaces ++ codes "at " ++ name ++ codes " (" =
    before ∙ sym (append_assoc (spaces ++ codes "at ") name (codes " (")) in
    let at : ends_in_at f.before ≡ false =
    ap ends_in_at whole ∙ ends_so (spaces ++ codes "at " ++ name) (codes " (") (codes "@") (omega arith) in
    let par : ends_in_parenthesis f.before ≡ true =
    ap ends_in_parenthesis whole
    ∙ ends_so (spaces ++ codes "at " ++ name) (codes " (") (codes " (") (omega arith) in
    record {
      name = n.0;
      before_is = n.1;
      after_is = rw (at, par) after;
    }

v8_named : (f : FrameParts) (class : Option (List ℕ)) (word : List ℕ) (v : IsV8 f)
    → IsNamed f class word v.spaces v.line_end
v8_named f class word v = by_form v.form
  where
    by_form : InParentheses v.lead v.close ⊎ (Alone v.lead v.close ⊎ AfterAsync v.lead v.close)
        → IsNamed f class word v.spaces v.line_end
    by_form (inl (name, e, d)) = named_v8 f class word v.spaces name v.line_end v.are_spaces
        (v.before_is ∙ ap (λ (xs : List ℕ). v.spaces ++ codes "at " ++ xs) e)
        (v.after_is ∙ ap (λ (xs : List ℕ). xs ++ v.line_end) d)
    by_form (inr (inl (e, d))) =
        let before : f.before ≡ v.spaces ++ codes "at " =
        v.before_is ∙ ap (λ (xs : List ℕ). v.spaces ++ codes "at " ++ xs) e
        ∙ append-nil (v.spaces ++ codes "at ") in
        alone_v8 f class word v.spaces v.lead v.line_end
        (ap ends_in_at before ∙ ends_so v.spaces (codes "at ") (codes "@") (omega arith))
        (ap ends_in_parenthesis before ∙ ends_so v.spaces (codes "at ") (codes " (") (omega arith))
        v.before_is (v.after_is ∙ ap (λ (xs : List ℕ). xs ++ v.line_end) d)
    by_form (inr (inr (e, d))) =
        let before : f.before ≡ v.spaces ++ codes "at " ++ codes "async " =
        v.before_is ∙ ap (λ (xs : List ℕ). v.spaces ++ codes "at " ++ xs) e in
        alone_v8 f class word v.spaces v.lead v.line_end
        (ap ends_in_at before ∙ ends_so (v.spaces ++ codes "at ") (codes "async ") (codes "@") (omega arith))
        (ap ends_in_parenthesis before
        ∙ ends_so (v.spaces ++ codes "at ") (codes "async ") (codes " (") (omega arith))
        v.before_is (v.after_is ∙ ap (λ (xs : List ℕ). xs ++ v.line_end) d)

stays_v8 : (f : FrameParts) (class : Option (List ℕ)) (word url : List ℕ) (line column : ℕ) → IsV8 f
    → IsV8 (renamed_frame f class word url line column)
stays_v8 f class word url line column v =
    let n = v8_named f class word v in
    record {
      spaces = v.spaces;
      lead = n.name ++ codes " (";
      close = codes ")";
      line_end = v.line_end;
      are_spaces = v.are_spaces;
      form = inl (n.name, refl, refl);
      ends = v.ends;
      before_is = n.before_is;
      after_is = n.after_is;
    }

-- ---- Firefox

abbrev star_place : List ℕ → ℕ
star_place name = length name - suffix_len (λ b. not (b == 42)) name

-- what is before the position of a frame of Firefox, once it has a name
firefox_before : (name : List ℕ) (class : Option (List ℕ)) (word : List ℕ)
    → renamed_before (name ++ codes "@") class word
    ≡ take (star_place name) name ++ written_name (drop (star_place name) name) class word ++ codes "@"
firefox_before name class word =
    let before = name ++ codes "@" in
    let s = star_place name in
    let le : s ≤ length name = omega arith in
    let at : ends_in_at before ≡ true = ends_so name (codes "@") (codes "@") (omega arith) in
    let cut : without_end 1 before ≡ name = without name (codes "@") in
    let place : name_place before ≡ (s, length name) = rw (at, cut) refl in
    let first : (name_place before).0 ≡ s = ap (λ (p : ℕ × ℕ). p.0) place in
    let last : (name_place before).1 ≡ length name = ap (λ (p : ℕ × ℕ). p.1) place in
    let front : take (name_place before).0 before ≡ take s name =
    rw first (take-append-le s name (codes "@") le) in
    let back : drop (name_place before).1 before ≡ codes "@" = rw last (drop-append_seam name (codes "@")) in
    let logged : logged_name before ≡ drop s name =
    rw (first, last, drop-append-le s name (codes "@") le, ← length-drop s name)
    (take-append_seam (drop s name) (codes "@")) in
    let none : opening before ≡ [] = rw at refl in
    ap (λ (xs : List ℕ). xs ++ (written before class word ++ (drop (name_place before).1 before
    ++ opening before))) front
    ∙ ap (λ (xs : List ℕ). take s name ++ (written before class word ++ (xs ++ opening before))) back
    ∙ ap (λ (xs : List ℕ). take s name ++ (written before class word ++ (codes "@" ++ xs))) none
    ∙ ap (λ (xs : List ℕ). take s name ++ (written_name xs class word ++ codes "@")) logged
    ∙ sym (append_assoc (take s name) (written_name (drop s name) class word) (codes "@"))

stays_firefox : (f : FrameParts) (class : Option (List ℕ)) (word url : List ℕ) (line column : ℕ)
    → IsTrue (is_word word) → IfSome class (λ c. IsTrue (is_word c)) → IsFirefox f
    → IsFirefox (renamed_frame f class word url line column)
stays_firefox f class word url line column is_a is_class x =
    let s = star_place x.name in
    let at : ends_in_at f.before ≡ true =
    ap ends_in_at x.before_is ∙ ends_so x.name (codes "@") (codes "@") (omega arith) in
    record {
      name = take s x.name ++ written_name (drop s x.name) class word;
      no_at = both_lack 64 (take s x.name) (written_name (drop s x.name) class word)
          (front_lacks 64 s x.name x.no_at)
          (written_lacks 64 refl refl (drop s x.name) class word is_a is_class
          (rest_lacks 64 s x.name x.no_at));
      before_is = ap (λ (xs : List ℕ). renamed_before xs class word) x.before_is
          ∙ firefox_before x.name class word;
      ends = rw at x.ends;
    }

-- What begins as those of V8, and has no space behind its first part, does so with any other behind it.
pub begins_alike : (p q z : List ℕ) → BeginsWithAt (p ++ q) → lacks 32 q ≡ true → BeginsWithAt (p ++ z)
begins_alike p q z b free = elim (cases_lt (length p) (length (b.spaces ++ codes "at "))) [
  | inl lt ↦
      let lead = b.spaces ++ codes "at" in
      let at = b.spaces ++ codes "at " in
      let at_is : at ≡ lead ++ codes " " = sym (append_assoc b.spaces (codes "at") (codes " ")) in
      let short : length p ≤ length lead =
      omega (arith, lt, length-append b.spaces (codes "at "), length-append b.spaces (codes "at")) in
      let rest : q ≡ drop (length p) lead ++ codes " " ++ b.rest =
      sym (drop-append_seam p q) ∙ ap (λ (xs : List ℕ). drop (length p) xs) b.whole
      ∙ drop-append-le (length p) at b.rest (omega (arith, lt))
      ∙ ap (λ (xs : List ℕ). drop (length p) xs ++ b.rest) at_is
      ∙ ap (λ (xs : List ℕ). xs ++ b.rest) (drop-append-le (length p) lead (codes " ") short) in
      let none = (each_lacks 32 (drop (length p) lead ++ codes " ") b.rest (rw rest at free)).0 in
      absurd (never (each_lacks 32 (drop (length p) lead) (codes " ") none).1)
  | inr le ↦
      let at = b.spaces ++ codes "at " in
      let front : take (length at) p ≡ at =
      sym (take-append-le (length at) p q le) ∙ ap (λ (xs : List ℕ). take (length at) xs) b.whole
      ∙ take-append_seam at b.rest in
      record {
        spaces = b.spaces;
        rest = drop (length at) p ++ z;
        are_spaces = b.are_spaces;
        whole = ap (λ (xs : List ℕ). xs ++ z) (sym (take-append-drop (length at) p)
            ∙ ap (λ (xs : List ℕ). xs ++ drop (length at) p) front)
            ∙ append_assoc at (drop (length at) p) z;
      }
]
  where
    never : lacks 32 (codes " ") ≡ true → ⊥
    never e = cc

-- How the old name and what a frame of Firefox has with the new one go on from what they share.
record AreAlike (name before : List ℕ) : Type 0 where
  shared : ℕ
  rest : List ℕ
  before_is : before ≡ take shared name ++ rest
  no_space : lacks 32 rest ≡ true

alike : (name : List ℕ) (class : Option (List ℕ)) (word : List ℕ) → IsTrue (is_word word)
    → IfSome class (λ c. IsTrue (is_word c))
    → AreAlike name (renamed_before (name ++ codes "@") class word)
alike name class word is is_class =
    let s = star_place name in
    let by : AreAlike name (take s name ++ written_name (drop s name) class word ++ codes "@") =
    cond_both _ (drop s name) (full_name class word) (λ w. AreAlike name (take s name ++ w ++ codes "@"))
    (λ _. record {
      shared = length name;
      rest = codes "@";
      before_is = rw (take-append-drop s name, take-length name) refl;
      no_space = refl;
    })
    (λ _. record {
      shared = s;
      rest = full_name class word ++ codes "@";
      before_is = append_assoc (take s name) (full_name class word) (codes "@");
      no_space = both_lack 32 (full_name class word) (codes "@")
          (name_lacks 32 refl refl class word is is_class) refl;
    }) in
    record {
      shared = by.shared;
      rest = by.rest;
      before_is = firefox_before name class word ∙ by.before_is;
      no_space = by.no_space;
    }

pub end_lacks : (text : List ℕ) → IsLineEnd text → lacks 32 text ≡ true
end_lacks text (inl e) = rw e refl
end_lacks text (inr e) = rw e refl

not_v8 : (text : List ℕ) (f : FrameParts) (class : Option (List ℕ)) (word url : List ℕ) (line column : ℕ)
    → IsFrame text f → IsTrue (is_word word) → IfSome class (λ c. IsTrue (is_word c)) → IsPut url line column
    → IsFirefox f → BeginsWithAt (text_of (renamed_frame f class word url line column)) → BeginsWithAt text
not_v8 text f class word url line column is is_a is_class put x b =
    let a = alike x.name class word is_a is_class in
    let p = take a.shared x.name in
    let pos = position_text url line column in
    let at : ends_in_at f.before ≡ true =
    ap ends_in_at x.before_is ∙ ends_so x.name (codes "@") (codes "@") (omega arith) in
    let after : renamed_after f.before f.after ≡ f.after = rw at refl in
    let before : renamed_before f.before class word ≡ p ++ a.rest =
    ap (λ (xs : List ℕ). renamed_before xs class word) x.before_is ∙ a.before_is in
    let new : text_of (renamed_frame f class word url line column) ≡ p ++ (a.rest ++ (pos ++ f.after)) =
    ap (λ (xs : List ℕ). xs ++ pos ++ renamed_after f.before f.after) before
    ∙ ap (λ (xs : List ℕ). p ++ a.rest ++ pos ++ xs) after ∙ in_two p a.rest pos f.after in
    let old : text
    ≡ p ++ (drop a.shared x.name ++ codes "@" ++ (position_text f.url f.line f.column ++ f.after)) =
    is.whole ∙ ap (λ (xs : List ℕ). xs ++ position_text f.url f.line f.column ++ f.after)
    (x.before_is ∙ ap (λ (xs : List ℕ). xs ++ codes "@") (sym (take-append-drop a.shared x.name)))
    ∙ in_three p (drop a.shared x.name) (codes "@") (position_text f.url f.line f.column) f.after in
    let free : lacks 32 (a.rest ++ (pos ++ f.after)) ≡ true =
    both_lack 32 a.rest (pos ++ f.after) a.no_space (both_lack 32 pos f.after
    (position_lacks 32 url line column (λ d low high e. omega arith) refl put.no_space put.line_place
    put.column_place) (end_lacks f.after x.ends)) in
    rw old (begins_alike p (a.rest ++ (pos ++ f.after)) _ (rw new at b) free)
  where
    in_two : (a b c d : List ℕ) → a ++ b ++ c ++ d ≡ a ++ (b ++ (c ++ d))
    in_two a b c d = simp append_assoc

    in_three : (a b c d e : List ℕ) → a ++ b ++ c ++ d ++ e ≡ a ++ (b ++ c ++ (d ++ e))
    in_three a b c d e = simp append_assoc

one_line : (f : FrameParts) (class : Option (List ℕ)) (word url : List ℕ) (line column : ℕ)
    → lacks 10 f.before ≡ true → lacks 10 f.after ≡ true → IsTrue (is_word word)
    → IfSome class (λ c. IsTrue (is_word c)) → IsPut url line column
    → lacks 10 (text_of (renamed_frame f class word url line column)) ≡ true
one_line f class word url line column before after is is_class put =
    let place = name_place f.before in
    let w = written f.before class word in
    let pos = position_text url line column in
    let opens : lacks 10 (opening f.before) ≡ true =
    cond_both _ (codes " (") [] (λ text. lacks 10 text ≡ true) (λ _. refl) (λ _. refl) in
    let closes : lacks 10 (closing f.before) ≡ true =
    cond_both _ (codes ")") [] (λ text. lacks 10 text ≡ true) (λ _. refl) (λ _. refl) in
    let name : lacks 10 w ≡ true = written_lacks 10 refl refl (logged_name f.before) class word is is_class
    (part_lacks 10 place.0 place.1 f.before before) in
    let front = both_lack 10 (take place.0 f.before) (w ++ (drop place.1 f.before ++ opening f.before))
    (front_lacks 10 place.0 f.before before) (both_lack 10 w (drop place.1 f.before ++ opening f.before) name
    (both_lack 10 (drop place.1 f.before) (opening f.before) (rest_lacks 10 place.1 f.before before)
    opens)) in
    let middle = position_lacks 10 url line column (λ d low high e. omega arith) refl put.one_line
    put.line_place put.column_place in
    both_lack 10 (renamed_before f.before class word ++ pos) (renamed_after f.before f.after)
    (both_lack 10 (renamed_before f.before class word) pos front middle)
    (both_lack 10 (closing f.before) f.after closes after)

pub stays : RenamedStaysAFrame
stays text f class word url line column is is_a is_class put = record {
  is_frame = record {
    whole = refl;
    one_line = one_line f class word url line column parts.0 parts.1 is_a is_class put;
    some_url = put.some_url;
    no_space = put.no_space;
    line_place = put.line_place;
    column_place = put.column_place;
    form = by_form is.form;
  };
  v8 = stays_v8 f class word url line column;
  firefox = stays_firefox f class word url line column is_a is_class;
}
  where
    parts : (lacks 10 f.before ≡ true) × (lacks 10 f.after ≡ true)
    parts =
        let all : lacks 10 (f.before ++ position_text f.url f.line f.column ++ f.after) ≡ true =
        rw is.whole at is.one_line in
        let two = each_lacks 10 (f.before ++ position_text f.url f.line f.column) f.after all in
        ((each_lacks 10 f.before (position_text f.url f.line f.column) two.0).0, two.1)

    by_form : IsV8 f ⊎ ((BeginsWithAt text → ⊥) × IsFirefox f)
        → IsV8 (renamed_frame f class word url line column)
        ⊎ ((BeginsWithAt (text_of (renamed_frame f class word url line column)) → ⊥)
        × IsFirefox (renamed_frame f class word url line column))
    by_form (inl v) = inl (stays_v8 f class word url line column v)
    by_form (inr x) = inr (
      λ b. x.0 (not_v8 text f class word url line column is is_a is_class put x.1 b),
      stays_firefox f class word url line column is_a is_class x.1,
    )
