-- The text of a child in place of another, in the text of an array or an object.
use Rattle.std.proofs.Common.{◌≡◌, ℕ, suc, ◌+◌, ◌≤◌, Bool, true, false, ◌||◌, ◌==◌, List, []}
use Rattle.std.proofs.Common.{◌∷◌, ◌++◌}
use Rattle.std.proofs.Common.{◌-◌, length, take, drop}
use Rattle.std.proofs.Common.{Some, ◌⊎◌, inl, inr}
use Rattle.std.proofs.Common.{refl, sym, ap, ap₂, ◌∙◌, subst, arith, append_assoc, append-nil}
use Rattle.std.proofs.lemmas.Bool.{eqb-true, or_cases, and_parts}
use Rattle.std.proofs.lemmas.List.{take-append-drop}
use Rattle.std.proofs.lemmas.Slice.Eq.{bytes_eq-Decides}
use Rattle.std.specs.Bool.{OnTrue}
use Rattle.std.specs.List.{list_all, starts_with}
use Rattle.std.specs.Prelude.{nat_eq, IfOk, Result, Ok, Err}
use Rattle.std.specs.Str.{bytes_eq}
use Rattle.json.specs.Token.{begin_object, begin_array, key, string}
use Rattle.json.specs.Word.{is_operator, is_space, ends_word}
use Rattle.json.specs.Lex.{comma, colon, space, class, between, lex_byte, lex}
use Rattle.json.specs.Lex.{Lexeme, fresh, after_value, begins_colon, punctuate, tokens}
use Rattle.json.specs.Json.{Json, array, object, no_items, item, member, value}
use Rattle.json.specs.Tree.{json_tokens, items_tokens, members_tokens, depth, items_depth, members_depth}
use Rattle.json.proofs.Nesting.{value-depth}
use Rattle.json.proofs.Printed.Trees.{value-json_tokens}
use Rattle.json.proofs.Unique.Spelling.{value-json_tokens_back}
use Rattle.smap_fault_places.specs.Contexts.{members_before, begins_first, IsText}
use Rattle.smap_fault_places.specs.Contexts.{IsBeforeMember}
use Rattle.smap_fault_places.specs.Contexts.{IsAfterMember, IsBeforeItem, IsAfterItem, IsAround, IsPart}
use Rattle.smap_fault_places.specs.Contexts.{PassesMembers, PassesItems}
use Rattle.smap_fault_places.specs.declared.range.TextRange.{TextRange}
use Rattle.smap_fault_places.specs.Ranges.{IsRangeOf, bytes_in, replaced}
use Rattle.serde_json.specs.Find.{get, at}
use Rattle.smap_fault_places.proofs.TreeLemmas.{around-member, around-item}
use Rattle.smap_fault_places.proofs.LexLemmas.{AreGood, lex-append}
use Rattle.smap_fault_places.proofs.PunctuationLemmas.{AreSound, ends_from, lexemes-good, punctuate-append}
use Rattle.smap_fault_places.proofs.PunctuationLemmas.{punctuate-name, punctuate-begin, no_colon}
use Rattle.smap_fault_places.proofs.TreeLemmas.{append_items, append_members, items-append, members-append}
use Rattle.smap_fault_places.proofs.TreeLemmas.{items_depth-append}
use Rattle.smap_fault_places.proofs.TreeLemmas.{members_depth-append, sound-append, sound-json, sound-items}
use Rattle.smap_fault_places.proofs.TreeLemmas.{sound-members}
use Rattle.smap_fault_places.proofs.TreeLemmas.{sound-items_before, sound-members_before, ends-json}
use Rattle.smap_fault_places.proofs.TreeLemmas.{ends-some_items, begins-json}

-- ---- white space

space_class : (x : ℕ) → is_space x ≡ true → class x ≡ space
space_class x h = first (or_cases _ _ h)
  where
    third : ((x == 32) ≡ true) ⊎ ((x == 9) ≡ true) → class x ≡ space
    third (inl e) = ap class (eqb-true x 32 e)
    third (inr e) = ap class (eqb-true x 9 e)

    second : (((x == 32) || (x == 9)) ≡ true) ⊎ ((x == 10) ≡ true) → class x ≡ space
    second (inl e) = third (or_cases _ _ e)
    second (inr e) = ap class (eqb-true x 10 e)

    first : (((x == 32) || (x == 9) || (x == 10)) ≡ true) ⊎ ((x == 13) ≡ true) → class x ≡ space
    first (inl e) = second (or_cases _ _ e)
    first (inr e) = ap class (eqb-true x 13 e)

pub lex-blank : (gap text : List ℕ) → list_all is_space gap ≡ true → lex between (gap ++ text)
    ≡ lex between text
unfolding lex
lex-blank [] text h = refl
lex-blank (x ∷ xs) text h =
    let both = and_parts (is_space x) (list_all is_space xs) h in
    ap (λ c. lex_byte between c x (xs ++ text) (λ m. lex m (xs ++ text))) (space_class x both.0)
    ∙ lex-blank xs text both.1

-- ---- the text of a value

pub text-tokens : (d : ℕ) (text : List ℕ) (j : Json) → IsText d text j → tokens text ≡ json_tokens j
text-tokens d text j is = value-json_tokens_back d (tokens text) [] j is ∙ append-nil (json_tokens j)

pub tokens-text : (d : ℕ) (text : List ℕ) (j : Json) → tokens text ≡ json_tokens j → depth j ≤ d
    → IsText d text j
tokens-text d text j is shallow =
    ap (value d) (is ∙ sym (append-nil (json_tokens j))) ∙ value-json_tokens j d [] shallow

pub deeper : (d e : ℕ) (text : List ℕ) (j : Json) → d ≤ e → IsText d text j → IsText e text j
deeper d e text j less is =
    tokens-text e text j (text-tokens d text j is) (omega (arith, value-depth d (tokens text) [] j is, less))

good : (d : ℕ) (text : List ℕ) (j : Json) → IsText d text j → AreGood (lex between text)
good d text j is =
    lexemes-good (lex between text) fresh (subst AreSound (sym (text-tokens d text j is)) (sound-json j))

-- the lexemes of a value's text, and others behind it
value-then : (d : ℕ) (text : List ℕ) (j : Json) → IsText d text j → (more : List Lexeme)
    → begins_colon more ≡ false
    → punctuate fresh (lex between text ++ more) ≡ json_tokens j ++ punctuate after_value more
value-then d text j is more apart =
    let same = text-tokens d text j is in
    punctuate-append (lex between text) fresh false (λ e. e) (subst AreSound (sym same) (sound-json j))
    (ap (ends_from false) same ∙ ends-json false j) more apart
    ∙ ap (λ l. l ++ punctuate after_value more) same

-- ---- a member

pub member-text : (d : ℕ) (k front gap back : List ℕ) → (f : IsBeforeMember d k front)
    → (b : IsAfterMember d k back)
    → list_all is_space gap ≡ true → (text : List ℕ) (j : Json) → IsText d text j
    → IsText (suc d) (front ++ 58 ∷ (gap ++ (text ++ back))) (object (append_members f.before (member k j
    b.after)))
unfolding lex
member-text d k front gap back f b blank text j is =
    let ms = append_members f.before (member k j b.after) in
    let sound : AreSound (tokens front) =
    subst AreSound (sym f.is) (
      refl,
      sound-append (members_before f.before) (string k ∷ [])
          (sound-members_before f.before) (refl, tt),
    ) in
    let apart : begins_colon (lex between back) ≡ false =
    no_colon (lex between back) (subst AreSound (sym b.is) (sound-members b.after)) in
    let lexemes : lex between (front ++ 58 ∷ (gap ++ (text ++ back)))
    ≡ lex between front ++ colon ∷ (lex between text ++ lex between back) =
    lex-append (58 ∷ (gap ++ (text ++ back))) refl front (lexemes-good (lex between front) fresh sound)
    ∙ ap (λ l. lex between front ++ colon ∷ l) (lex-blank gap (text ++ back) blank
    ∙ lex-append back b.ended text (good d text j is)) in
    let all : tokens (front ++ 58 ∷ (gap ++ (text ++ back))) ≡ json_tokens (object ms) =
    ap (punctuate fresh) lexemes
    ∙ punctuate-name (lex between front) fresh (begin_object ∷ members_before f.before) k sound f.is
    (lex between text ++ lex between back)
    ∙ ap (λ l. begin_object ∷ (members_before f.before ++ key k ∷ l))
    (value-then d text j is (lex between back) apart ∙ ap (λ l. json_tokens j ++ l) b.is)
    ∙ ap (λ l. begin_object ∷ l) (sym (members-append f.before (member k j b.after))) in
    let shallow : members_depth ms ≤ d =
    members_depth-append d f.before (member k j b.after) f.shallow
    (omega (arith, b.shallow, value-depth d (tokens text) [] j is)) in
    tokens-text (suc d) (front ++ 58 ∷ (gap ++ (text ++ back))) (object ms) all (omega (arith, shallow))

-- ---- an entry

pub first_item-text : (d : ℕ) (lead gap back : List ℕ) → (b : IsAfterItem d back)
    → list_all is_space lead ≡ true
    → list_all is_space gap ≡ true → (text : List ℕ) (j : Json) → IsText d text j
    → IsText (suc d) (lead ++ 91 ∷ (gap ++ (text ++ back))) (array (item j b.after))
unfolding lex punctuate
first_item-text d lead gap back b blank_lead blank text j is =
    let apart : begins_colon (lex between back) ≡ false =
    no_colon (lex between back) (subst AreSound (sym b.is) (sound-items b.after)) in
    let all : tokens (lead ++ 91 ∷ (gap ++ (text ++ back))) ≡ json_tokens (array (item j b.after)) =
    ap (punctuate fresh) (lex-blank lead (91 ∷ (gap ++ (text ++ back))) blank_lead)
    ∙ ap (λ l. begin_array ∷ punctuate fresh l) (lex-blank gap (text ++ back) blank
    ∙ lex-append back b.ended text (good d text j is))
    ∙ ap (λ l. begin_array ∷ l) (value-then d text j is (lex between back) apart
    ∙ ap (λ l. json_tokens j ++ l) b.is) in
    tokens-text (suc d) (lead ++ 91 ∷ (gap ++ (text ++ back))) (array (item j b.after)) all
    (omega (arith, b.shallow, value-depth d (tokens text) [] j is))

pub item-text : (d n : ℕ) (front gap back : List ℕ) → (f : IsBeforeItem d n front) → (b : IsAfterItem d back)
    → list_all is_space gap ≡ true → (text : List ℕ) (j : Json) → IsText d text j
    → IsText (suc d) (front ++ 44 ∷ (gap ++ (text ++ back)))
    (array (append_items (item f.first f.before) (item j b.after)))
unfolding lex punctuate
item-text d n front gap back f b blank text j is =
    let js = item f.first f.before in
    let sound : AreSound (tokens front) = subst AreSound (sym f.is) (refl, sound-items_before js) in
    let apart : begins_colon (lex between back) ≡ false =
    no_colon (lex between back) (subst AreSound (sym b.is) (sound-items b.after)) in
    let lexemes : lex between (front ++ 44 ∷ (gap ++ (text ++ back)))
    ≡ lex between front ++ comma ∷ (lex between text ++ lex between back) =
    lex-append (44 ∷ (gap ++ (text ++ back))) refl front (lexemes-good (lex between front) fresh sound)
    ∙ ap (λ l. lex between front ++ comma ∷ l) (lex-blank gap (text ++ back) blank
    ∙ lex-append back b.ended text (good d text j is)) in
    let inner : punctuate fresh (lex between text ++ lex between back)
    ≡ json_tokens j ++ items_tokens b.after =
    value-then d text j is (lex between back) apart ∙ ap (λ l. json_tokens j ++ l) b.is in
    let begins : begins_first (punctuate fresh (lex between text ++ lex between back)) ≡ true =
    ap begins_first inner ∙ begins-json j (items_tokens b.after) in
    let all : tokens (front ++ 44 ∷ (gap ++ (text ++ back)))
    ≡ json_tokens (array (append_items js (item j b.after))) =
    ap (punctuate fresh) lexemes
    ∙ punctuate-append (lex between front) fresh false (λ e. e) sound
    (ap (ends_from false) f.is ∙ ends-some_items false f.first f.before)
    (comma ∷ (lex between text ++ lex between back)) refl
    ∙ ap₂ (λ l m. l ++ m) f.is (punctuate-begin (lex between text ++ lex between back) begins ∙ inner)
    ∙ ap (λ l. begin_array ∷ l) (sym (items-append js (item j b.after))) in
    let shallow : items_depth (append_items js (item j b.after)) ≤ d =
    items_depth-append d js (item j b.after) f.shallow
    (omega (arith, b.shallow, value-depth d (tokens text) [] j is)) in
    tokens-text (suc d) (front ++ 44 ∷ (gap ++ (text ++ back))) (array (append_items js (item j
    b.after))) all (omega (arith, shallow))

-- ---- white space around the whole text

blank_end : (gap : List ℕ) → list_all is_space gap ≡ true → ends_word gap ≡ true
blank_end [] h = refl
blank_end (x ∷ xs) h = or_last (is_operator x) (is_space x) (and_parts (is_space x) (list_all is_space
    xs) h).0
  where
    or_last : (a b : Bool) → b ≡ true → (a || b) ≡ true
    or_last true b e = refl
    or_last false b e = e

pub root-text : (d : ℕ) (gap back : List ℕ) → list_all is_space gap ≡ true → list_all is_space back ≡ true
    → (text : List ℕ) (j : Json) → IsText d text j → IsText d (gap ++ (text ++ back)) j
unfolding lex
root-text d gap back blank blank_back text j is =
    let none : lex between back ≡ [] =
    ap (lex between) (sym (append-nil back)) ∙ lex-blank back [] blank_back in
    let all : lex between (gap ++ (text ++ back)) ≡ lex between text =
    lex-blank gap (text ++ back) blank ∙ lex-append back (blank_end back blank_back) text (good d text j is)
    ∙ ap (λ l. lex between text ++ l) none ∙ append-nil (lex between text) in
    ap (λ l. value d (punctuate fresh l)) all ∙ is

-- ---- what is behind a child

comma-then : (gap after : List ℕ) → list_all is_space gap ≡ true → begins_first (tokens after) ≡ true
    → punctuate after_value (lex between (gap ++ 44 ∷ after)) ≡ tokens after
unfolding lex punctuate
comma-then gap after blank begins =
    ap (punctuate after_value) (lex-blank gap (44 ∷ after) blank) ∙ punctuate-begin (lex between after) begins

brace-then : (gap after : List ℕ) → list_all is_space gap ≡ true
    → punctuate after_value (lex between (gap ++ 125 ∷ after)) ≡ tokens (125 ∷ after)
unfolding lex punctuate
brace-then gap after blank = ap (punctuate after_value) (lex-blank gap (125 ∷ after) blank)

bracket-then : (gap after : List ℕ) → list_all is_space gap ≡ true
    → punctuate after_value (lex between (gap ++ 93 ∷ after)) ≡ tokens (93 ∷ after)
unfolding lex punctuate
bracket-then gap after blank = ap (punctuate after_value) (lex-blank gap (93 ∷ after) blank)

-- the first byte of what is left, and the last one
pub starts-with : (c : ℕ) (text : List ℕ) → starts_with nat_eq text (c ∷ []) ≡ true → text ≡ c ∷ drop 1 text
starts-with c text h =
    let first : c ∷ [] ≡ take 1 text = (bytes_eq-Decides (c ∷ []) (take 1 text)).0 h in
    sym (take-append-drop 1 text) ∙ ap (λ l. l ++ drop 1 text) (sym first)

pub first-byte : (c : ℕ) (text : List ℕ) → bytes_eq (take 1 text) (c ∷ []) ≡ true → text ≡ c ∷ drop 1 text
first-byte c text h =
    sym (take-append-drop 1 text) ∙ ap (λ l. l ++ drop 1 text) ((bytes_eq-Decides (take 1 text) (c ∷ [])).0 h)

pub last-byte : (c : ℕ) (text front : List ℕ) → bytes_eq (drop (length text - 1) text) (c ∷ []) ≡ true
    → front ≡ take (length text - 1) text → text ≡ front ++ c ∷ []
last-byte c text front h e =
    sym (take-append-drop (length text - 1) text)
    ∙ ap₂ (λ l m. l ++ m) (sym e) ((bytes_eq-Decides (drop (length text - 1) text) (c ∷ [])).0 h)

pub members-behind : (d : ℕ) (k text : List ℕ) (len : ℕ) (rest after : List ℕ) (some : Bool)
    → ends_word text ≡ true
    → list_all is_space (take len text) ≡ true → rest ≡ drop len text → rest ≡ 44 ∷ after → some ≡ true
    → PassesMembers d k some (tokens after) [] → IsAfterMember d k text
members-behind d k text len rest after some ended blank is first any p =
    let same = p.is ∙ append-nil (members_tokens p.after) in
    let whole : text ≡ take len text ++ 44 ∷ after =
    sym (take-append-drop len text) ∙ ap (λ l. take len text ++ l) (sym is ∙ first) in
    record {
      after = p.after;
      ended = ended;
      is = ap (λ l. punctuate after_value (lex between l)) whole
          ∙ comma-then (take len text) after blank (ap begins_first same ∙ p.begins any) ∙ same;
      shallow = p.shallow;
      lacks = p.lacks;
    }

pub object-behind : (d : ℕ) (k text : List ℕ) (len : ℕ) (rest : List ℕ) (some : Bool) → ends_word text ≡ true
    → list_all is_space (take len text) ≡ true → rest ≡ drop len text → rest ≡ 125 ∷ drop 1 rest
    → PassesMembers d k some (tokens rest) [] → IsAfterMember d k text
object-behind d k text len rest some ended blank is first p =
    let whole : text ≡ take len text ++ 125 ∷ drop 1 rest =
    sym (take-append-drop len text) ∙ ap (λ l. take len text ++ l) (sym is ∙ first) in
    record {
      after = p.after;
      ended = ended;
      is = ap (λ l. punctuate after_value (lex between l)) whole
          ∙ brace-then (take len text) (drop 1 rest) blank ∙ ap tokens (sym first)
          ∙ p.is ∙ append-nil (members_tokens p.after);
      shallow = p.shallow;
      lacks = p.lacks;
    }

pub items-behind : (d : ℕ) (text : List ℕ) (len : ℕ) (rest after : List ℕ) (some : Bool)
    → ends_word text ≡ true
    → list_all is_space (take len text) ≡ true → rest ≡ drop len text → rest ≡ 44 ∷ after → some ≡ true
    → PassesItems d some (tokens after) [] → IsAfterItem d text
items-behind d text len rest after some ended blank is first any p =
    let same = p.is ∙ append-nil (items_tokens p.after) in
    let whole : text ≡ take len text ++ 44 ∷ after =
    sym (take-append-drop len text) ∙ ap (λ l. take len text ++ l) (sym is ∙ first) in
    record {
      after = p.after;
      ended = ended;
      is = ap (λ l. punctuate after_value (lex between l)) whole
          ∙ comma-then (take len text) after blank (ap begins_first same ∙ p.begins any) ∙ same;
      shallow = p.shallow;
    }

pub array-behind : (d : ℕ) (text : List ℕ) (len : ℕ) (rest : List ℕ) (some : Bool) → ends_word text ≡ true
    → list_all is_space (take len text) ≡ true → rest ≡ drop len text → rest ≡ 93 ∷ drop 1 rest
    → PassesItems d some (tokens rest) [] → IsAfterItem d text
array-behind d text len rest some ended blank is first p =
    let whole : text ≡ take len text ++ 93 ∷ drop 1 rest =
    sym (take-append-drop len text) ∙ ap (λ l. take len text ++ l) (sym is ∙ first) in
    record {
      after = p.after;
      ended = ended;
      is = ap (λ l. punctuate after_value (lex between l)) whole
          ∙ bracket-then (take len text) (drop 1 rest) blank ∙ ap tokens (sym first)
          ∙ p.is ∙ append-nil (items_tokens p.after);
      shallow = p.shallow;
    }

-- ---- parts

around-gap : (c : ℕ) (front before : List ℕ) (len : ℕ) (more : List ℕ) → take len before ≡ front ++ c ∷ []
    → front ++ c ∷ (drop len before ++ more) ≡ before ++ more
around-gap c front before len more last =
    sym (append_assoc front (c ∷ []) (drop len before ++ more))
    ∙ sym (append_assoc (front ++ c ∷ []) (drop len before) more)
    ∙ ap (λ l. (l ++ drop len before) ++ more) (sym last) ∙ ap (λ l. l ++ more) (take-append-drop len before)

one_more : (d : ℕ) → suc d ≡ d + 1
one_more d = omega arith

pub part-member : (d : ℕ) (k text front : List ℕ) (len : ℕ) (r : TextRange) → IsRangeOf (length text) r
    → take len (take r.start text) ≡ front ++ 58 ∷ []
    → list_all is_space (drop len (take r.start text)) ≡ true
    → (j : Json) × IsText d (bytes_in r text) j → IsBeforeMember d k front
    → IsAfterMember d k (drop r.end text)
    → IsPart (d + 1) d (get k) text r
part-member d k text front len r within last blank inner f b = record {
  within = within;
  part = inner.0;
  is = inner.1;
  around = λ x. object (append_members f.before (member k x b.after));
  replaces = λ other x is. subst (λ e. IsText e (replaced r other text)
      (object (append_members f.before (member k x b.after)))) (one_more d)
      (subst (λ l. IsText (suc d) l (object (append_members f.before (member k x b.after))))
      (around-gap 58 front (take r.start text) len (other ++ drop r.end text) last)
      (member-text d k front (drop len (take r.start text)) (drop r.end text) f b blank other x is));
  finds = around-member k f.before b.after inner.0 b.lacks;
}

pub part-first : (d : ℕ) (text front : List ℕ) (len : ℕ) (r : TextRange) → IsRangeOf (length text) r
    → take len (take r.start text) ≡ front ++ 91 ∷ []
    → list_all is_space (drop len (take r.start text)) ≡ true
    → (j : Json) × IsText d (bytes_in r text) j → list_all is_space front ≡ true
    → IsAfterItem d (drop r.end text)
    → (n : ℕ) → n ≡ 0 → IsPart (d + 1) d (at n) text r
part-first d text front len r within last blank inner lead b n zero_is = record {
  within = within;
  part = inner.0;
  is = inner.1;
  around = λ x. array (item x b.after);
  replaces = λ other x is. subst (λ e. IsText e (replaced r other text) (array (item x b.after))) (one_more d)
      (subst (λ l. IsText (suc d) l (array (item x b.after)))
      (around-gap 91 front (take r.start text) len (other ++ drop r.end text) last)
      (first_item-text d front (drop len (take r.start text)) (drop r.end text) b lead blank other x is));
  finds = subst (λ m. IsAround (at m) (λ x. array (item x b.after)) inner.0) (sym zero_is)
      (around-item no_items b.after inner.0);
}

pub part-item : (d n : ℕ) (text front : List ℕ) (len : ℕ) (r : TextRange) → IsRangeOf (length text) r
    → take len (take r.start text) ≡ front ++ 44 ∷ []
    → list_all is_space (drop len (take r.start text)) ≡ true
    → (j : Json) × IsText d (bytes_in r text) j → IsBeforeItem d n front → IsAfterItem d (drop r.end text)
    → IsPart (d + 1) d (at n) text r
part-item d n text front len r within last blank inner f b = record {
  within = within;
  part = inner.0;
  is = inner.1;
  around = λ x. array (append_items (item f.first f.before) (item x b.after));
  replaces = λ other x is. subst (λ e. IsText e (replaced r other text)
      (array (append_items (item f.first f.before) (item x b.after)))) (one_more d)
      (subst (λ l. IsText (suc d) l (array (append_items (item f.first f.before) (item x b.after))))
      (around-gap 44 front (take r.start text) len (other ++ drop r.end text) last)
      (item-text d n front (drop len (take r.start text)) (drop r.end text) f b blank other x is));
  finds = subst (λ m. IsAround (at m) (λ x. array (append_items (item f.first f.before) (item x
      b.after))) inner.0)
      f.len (around-item (item f.first f.before) b.after inner.0);
}

-- ---- the whole text

pub part-root : (d : ℕ) (text : List ℕ) (r : TextRange) → IsRangeOf (length text) r
    → list_all is_space (take r.start text) ≡ true → list_all is_space (drop r.end text) ≡ true
    → (j : Json) × IsText d (bytes_in r text) j → IsPart d d Some text r
part-root d text r within blank blank_back inner = record {
  within = within;
  part = inner.0;
  is = inner.1;
  around = λ x. x;
  replaces = λ other x is. root-text d (take r.start text) (drop r.end text) blank blank_back other x is;
  finds = λ whole e. ((whole, e), λ new y is. (y, is, refl));
}

pub on-true : {E : Type 0} (r : Result Bool E) (P Q : Type 0) → (P → Q) → IfOk r (λ b. OnTrue b P)
    → IfOk r (λ b. OnTrue b Q)
on-true (Ok true) P Q f h = f h
on-true (Ok false) P Q f h = tt
on-true (Err e) P Q f h = tt
