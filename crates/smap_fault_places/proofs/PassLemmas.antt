-- Members and items that a reader has passed, and one more.
use Rattle.std.proofs.Common.{◌≡◌, ◌≤◌, ◌<◌, ℕ, ◌+◌, Bool, true, false, List, [], ◌∷◌, ◌++◌}
use Rattle.std.proofs.Common.{Some, None}
use Rattle.std.proofs.Common.{refl, sym, ap, ◌∙◌, arith, append_assoc, append-nil}
use Rattle.std.proofs.lemmas.Bool.{false≢true}
use Rattle.json.specs.Token.{Token, begin_array, begin_object, end_array, end_object, key, string}
use Rattle.json.specs.Lex.{tokens}
use Rattle.json.specs.Json.{Json, Items, no_items, item, Members, no_members, member, after_end_array}
use Rattle.json.specs.Json.{read_key}
use Rattle.json.specs.Json.{skip_value, value}
use Rattle.json.specs.Tree.{json_tokens, items_tokens, members_tokens, items_depth}
use Rattle.json.proofs.Grammar.{left_some, closed_array, read_key_is}
use Rattle.json.proofs.Nesting.{value-depth}
use Rattle.json.proofs.Unique.Spelling.{value-json_tokens_back}
use Rattle.smap_fault_places.specs.Contexts.{items_before, members_before, items_len, Lacks, begins_first}
use Rattle.smap_fault_places.specs.Contexts.{PassesMembers, PassedMembers, PassesItems, PassedItems}
use Rattle.smap_fault_places.specs.Contexts.{OpensObject}
use Rattle.smap_fault_places.specs.Contexts.{IsBeforeMember, IsBeforeItem, IsText}
use Rattle.smap_fault_places.proofs.TreeLemmas.{append_items, append_members, members_depth-append}
use Rattle.smap_fault_places.proofs.TreeLemmas.{begins-json}
use Rattle.smap_fault_places.proofs.TreeLemmas.{items_depth-append}

-- ---- members

members_before-push : (ms : Members) (k : List ℕ) (j : Json) (ts : List Token)
    → members_before (append_members ms (member k j no_members)) ++ ts
    ≡ members_before ms ++ key k ∷ (json_tokens j ++ ts)
members_before-push no_members k j ts =
    ap (λ l. key k ∷ (l ++ ts)) (append-nil (json_tokens j))
members_before-push (member l i ms) k j ts =
    ap (λ m. key l ∷ m) (append_assoc (json_tokens i) (members_before (append_members ms (member k j
    no_members))) ts
    ∙ ap (λ m. json_tokens i ++ m) (members_before-push ms k j ts)
    ∙ sym (append_assoc (json_tokens i) (members_before ms) (key k ∷ (json_tokens j ++ ts))))

members-end : (ms : Members) (ts : List Token) → members_before ms ++ end_object ∷ ts
    ≡ members_tokens ms ++ ts
members-end no_members ts = refl
members-end (member k j ms) ts =
    ap (λ m. key k ∷ m) (append_assoc (json_tokens j) (members_before ms) (end_object ∷ ts)
    ∙ ap (λ m. json_tokens j ++ m) (members-end ms ts)
    ∙ sym (append_assoc (json_tokens j) (members_tokens ms) ts))

lacks-push : (k : List ℕ) (ms : Members) (l : List ℕ) (j : Json) → Lacks k ms → (k ≡ l → ⊥)
    → Lacks k (append_members ms (member l j no_members))
lacks-push k no_members l j h apart = (apart, tt)
lacks-push k (member m i ms) l j h apart = (h.0, lacks-push k ms l j h.1 apart)

begins-push : (ms : Members) (l : List ℕ) (j : Json)
    → begins_first (members_tokens (append_members ms (member l j no_members))) ≡ true
begins-push no_members l j = refl
begins-push (member m i ms) l j = refl

pub members-start : (d : ℕ) (k : List ℕ) (old : List Token) → PassedMembers d k false old old
members-start d k old = record {
  passed = no_members;
  is = refl;
  shallow = omega arith;
  lacks = tt;
  begins = λ e. absurd (false≢true e);
}

pub members-more : (d : ℕ) (k : List ℕ) (some : Bool) (old now inner new : List Token) (l : List ℕ)
    → PassedMembers d k some old now → read_key now ≡ Some (Some l, inner) → (k ≡ l → ⊥)
    → skip_value d inner ≡ Some new → PassedMembers d k true old new
members-more d k some old now inner new l p name apart skip =
    let j = left_some (value d inner) new skip in
    record {
      passed = append_members p.passed (member l j.0 no_members);
      is = p.is ∙ ap (λ m. members_before p.passed ++ m) (read_key_is now (Some l) inner name
          ∙ ap (λ m. key l ∷ m) (value-json_tokens_back d inner new j.0 j.1))
          ∙ sym (members_before-push p.passed l j.0 new);
      shallow = members_depth-append d p.passed (member l j.0 no_members) p.shallow
          (omega (arith, value-depth d inner new j.0 j.1));
      lacks = lacks-push k p.passed l j.0 p.lacks apart;
      begins = λ e. begins-push p.passed l j.0;
    }

pub members-over : (d : ℕ) (k : List ℕ) (some : Bool) (old now new : List Token)
    → PassedMembers d k some old now → read_key now ≡ Some (None, new) → PassesMembers d k some old new
members-over d k some old now new p name = record {
  after = p.passed;
  is = p.is ∙ ap (λ m. members_before p.passed ++ m) (read_key_is now None new name)
      ∙ members-end p.passed new;
  shallow = p.shallow;
  lacks = p.lacks;
  begins = p.begins;
}

pub object-start : (d : ℕ) (old now : List Token) → old ≡ begin_object ∷ now → OpensObject d old now
object-start d old now e = record { before = no_members; is = e; shallow = omega arith }

pub object-more : (d : ℕ) (old now inner new : List Token) (l : List ℕ) → OpensObject d old now
    → now ≡ key l ∷ inner → skip_value d inner ≡ Some new → OpensObject d old new
object-more d old now inner new l p name skip =
    let j = left_some (value d inner) new skip in
    record {
      before = append_members p.before (member l j.0 no_members);
      is = p.is ∙ ap (λ m. begin_object ∷ (members_before p.before ++ m)) (name
          ∙ ap (λ m. key l ∷ m) (value-json_tokens_back d inner new j.0 j.1))
          ∙ ap (λ m. begin_object ∷ m) (sym (members_before-push p.before l j.0 new));
      shallow = members_depth-append d p.before (member l j.0 no_members) p.shallow
          (omega (arith, value-depth d inner new j.0 j.1));
    }

pub object-name : (d : ℕ) (text now : List ℕ) (k : List ℕ) (rest : List Token)
    → OpensObject d (tokens text) rest
    → rest ≡ string k ∷ [] → IsBeforeMember d k text
object-name d text now k rest p e = record {
  before = p.before;
  is = p.is ∙ ap (λ m. begin_object ∷ (members_before p.before ++ m)) e;
  shallow = p.shallow;
}

-- ---- items

items_before-push : (js : Items) (j : Json) (ts : List Token)
    → items_before (append_items js (item j no_items)) ++ ts ≡ items_before js ++ (json_tokens j ++ ts)
items_before-push no_items j ts = ap (λ l. l ++ ts) (append-nil (json_tokens j))
items_before-push (item i js) j ts =
    append_assoc (json_tokens i) (items_before (append_items js (item j no_items))) ts
    ∙ ap (λ m. json_tokens i ++ m) (items_before-push js j ts)
    ∙ sym (append_assoc (json_tokens i) (items_before js) (json_tokens j ++ ts))

items-end : (js : Items) (ts : List Token) → items_before js ++ end_array ∷ ts ≡ items_tokens js ++ ts
items-end no_items ts = refl
items-end (item j js) ts =
    append_assoc (json_tokens j) (items_before js) (end_array ∷ ts)
    ∙ ap (λ m. json_tokens j ++ m) (items-end js ts) ∙ sym (append_assoc (json_tokens j) (items_tokens js) ts)

items_len-push : (js : Items) (j : Json) → items_len (append_items js (item j no_items)) ≡ items_len js + 1
items_len-push no_items j = omega arith
items_len-push (item i js) j = omega (arith, items_len-push js j)

pub items-start : (d : ℕ) (old : List Token) → PassedItems d 0 old old
items-start d old = record { passed = no_items; len = refl; is = refl; shallow = omega arith }

pub items-more : (d n : ℕ) (old now new : List Token) → PassedItems d n old now → skip_value d now ≡ Some new
    → PassedItems d (n + 1) old new
items-more d n old now new p skip =
    let j = left_some (value d now) new skip in
    record {
      passed = append_items p.passed (item j.0 no_items);
      len = items_len-push p.passed j.0 ∙ ap (λ m. m + 1) p.len;
      is = p.is ∙ ap (λ m. items_before p.passed ++ m) (value-json_tokens_back d now new j.0 j.1)
          ∙ sym (items_before-push p.passed j.0 new);
      shallow = items_depth-append d p.passed (item j.0 no_items) p.shallow
          (omega (arith, value-depth d now new j.0 j.1));
    }

items-begin : (js : Items) → 0 < items_len js → begins_first (items_tokens js) ≡ true
items-begin no_items h = let never : ⊥ = omega arith in absurd never
items-begin (item j js) h = begins-json j (items_tokens js)

pub items-over : (d n : ℕ) (old now new : List Token) → PassedItems d n old now → after_end_array now
    ≡ Some new
    → (some : Bool) → (some ≡ true → 0 < n) → PassesItems d some old new
items-over d n old now new p end some begins = record {
  after = p.passed;
  is = p.is ∙ ap (λ m. items_before p.passed ++ m) (closed_array now new end) ∙ items-end p.passed new;
  shallow = p.shallow;
  begins = λ e. items-begin p.passed (omega (arith, begins e, p.len));
}

pub array-open : (d n : ℕ) (text : List ℕ) (first : List Token) → 0 < n → tokens text ≡ begin_array ∷ first
    → PassedItems d n first [] → IsBeforeItem d n text
array-open d n text first some e p = go p.passed p.len p.is p.shallow
  where
    go : (js : Items) → items_len js ≡ n → first ≡ items_before js ++ [] → items_depth js ≤ d
        → IsBeforeItem d n text
    go no_items len is shallow = let never : ⊥ = omega (arith, len, some) in absurd never
    go (item j js) len is shallow = record {
      first = j;
      before = js;
      len = len;
      is = e ∙ ap (λ m. begin_array ∷ m) (is ∙ append-nil (items_before (item j js)));
      shallow = shallow;
    }

-- ---- a value alone

pub alone : (d : ℕ) (text : List ℕ) (old new : List Token) → old ≡ tokens text → new ≡ []
    → skip_value d old ≡ Some new → (j : Json) × IsText d text j
alone d text old new same none e =
    left_some (value d (tokens text)) [] (ap (skip_value d) (sym same) ∙ e ∙ ap Some none)
