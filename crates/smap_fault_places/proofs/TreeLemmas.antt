-- A child of an array or an object in place of another.
use Rattle.std.proofs.Common.{◌≡◌, ℕ, ◌≤◌, Bool, true, false, List, [], ◌∷◌, ◌++◌}
use Rattle.std.proofs.Common.{Option, Some, None, option_map, option_and_then}
use Rattle.std.proofs.Common.{refl, sym, ap, ◌∙◌, arith, append_assoc}
use Rattle.json.specs.Token.{Token}
use Rattle.json.specs.Json as json
use Rattle.json.specs.Json.{Json}
use Rattle.json.specs.Tree.{json_tokens, items_tokens, members_tokens, items_depth, members_depth}
use Rattle.json.proofs.Found.{not_found}
use Rattle.serde_json.specs.Data.{Data, array, object, Items, item, Members, no_members}
use Rattle.serde_json.specs.Data.{put}
use Rattle.serde_json.specs.Find.{get, at, get_member, get_item}
use Rattle.serde_json.specs.Read.{of_json, of_items, of_members}
use Rattle.serde_json.proofs.Views.{get_member-put, get_member-put_other}
use Rattle.smap_fault_places.specs.Contexts.{items_before, members_before, items_len, Lacks, begins_first}
use Rattle.smap_fault_places.specs.Contexts.{IsAround}
use Rattle.smap_fault_places.proofs.PunctuationLemmas.{AreSound, ends_from}

-- ---- a list of items or members, and then another

abbrev pub append_items : json.Items → json.Items → json.Items
append_items json.no_items ks = ks
append_items (json.item j js) ks = json.item j (append_items js ks)

abbrev pub append_members : json.Members → json.Members → json.Members
append_members json.no_members ns = ns
append_members (json.member k j ms) ns = json.member k j (append_members ms ns)

pub items-append : (js ks : json.Items) → items_tokens (append_items js ks)
    ≡ items_before js ++ items_tokens ks
items-append json.no_items ks = refl
items-append (json.item j js) ks = ap (λ l. json_tokens j ++ l) (items-append js ks)
    ∙ sym (append_assoc (json_tokens j) (items_before js) (items_tokens ks))

pub members-append : (ms ns : json.Members)
    → members_tokens (append_members ms ns) ≡ members_before ms ++ members_tokens ns
members-append json.no_members ns = refl
members-append (json.member k j ms) ns = ap (λ l. Token.key k ∷ (json_tokens j ++ l)) (members-append ms ns)
    ∙ ap (λ l. Token.key k ∷ l) (sym (append_assoc (json_tokens j) (members_before ms) (members_tokens ns)))

pub items_depth-append : (d : ℕ) (js ks : json.Items) → items_depth js ≤ d → items_depth ks ≤ d
    → items_depth (append_items js ks) ≤ d
items_depth-append d json.no_items ks a b = b
items_depth-append d (json.item j js) ks a b =
    omega (arith, a, items_depth-append d js ks (omega (arith, a)) b)

pub members_depth-append : (d : ℕ) (ms ns : json.Members) → members_depth ms ≤ d → members_depth ns ≤ d
    → members_depth (append_members ms ns) ≤ d
members_depth-append d json.no_members ns a b = b
members_depth-append d (json.member k j ms) ns a b =
    omega (arith, a, members_depth-append d ms ns (omega (arith, a)) b)

-- ---- tokens of values

pub sound-append : (ts us : List Token) → AreSound ts → AreSound us → AreSound (ts ++ us)
sound-append [] us h k = k
sound-append (t ∷ ts) us h k = (h.0, sound-append ts us h.1 k)

mutual
  pub sound-json : (j : Json) → AreSound (json_tokens j)
  sound-json json.null = (refl, tt)
  sound-json (json.boolean b) = (refl, tt)
  sound-json (json.number s) = (refl, tt)
  sound-json (json.string s) = (refl, tt)
  sound-json (json.array js) = (refl, sound-items js)
  sound-json (json.object ms) = (refl, sound-members ms)

  pub sound-items : (js : json.Items) → AreSound (items_tokens js)
  sound-items json.no_items = (refl, tt)
  sound-items (json.item j js) = sound-append (json_tokens j) (items_tokens js) (sound-json j)
      (sound-items js)

  pub sound-members : (ms : json.Members) → AreSound (members_tokens ms)
  sound-members json.no_members = (refl, tt)
  sound-members (json.member k j ms) =
      (refl, sound-append (json_tokens j) (members_tokens ms) (sound-json j) (sound-members ms))

pub sound-items_before : (js : json.Items) → AreSound (items_before js)
sound-items_before json.no_items = tt
sound-items_before (json.item j js) =
    sound-append (json_tokens j) (items_before js) (sound-json j) (sound-items_before js)

pub sound-members_before : (ms : json.Members) → AreSound (members_before ms)
sound-members_before json.no_members = tt
sound-members_before (json.member k j ms) =
    (refl, sound-append (json_tokens j) (members_before ms) (sound-json j) (sound-members_before ms))

ends-append : (c : Bool) (ts us : List Token) → ends_from c (ts ++ us) ≡ ends_from (ends_from c ts) us
ends-append c [] us = refl
ends-append c (t ∷ ts) us = ends-append _ ts us

mutual
  pub ends-json : (c : Bool) (j : Json) → ends_from c (json_tokens j) ≡ true
  ends-json c json.null = refl
  ends-json c (json.boolean b) = refl
  ends-json c (json.number s) = refl
  ends-json c (json.string s) = refl
  ends-json c (json.array js) = ends-items false js
  ends-json c (json.object ms) = ends-members false ms

  ends-items : (c : Bool) (js : json.Items) → ends_from c (items_tokens js) ≡ true
  ends-items c json.no_items = refl
  ends-items c (json.item j js) = ends-append c (json_tokens j) (items_tokens js) ∙ ends-items _ js

  ends-members : (c : Bool) (ms : json.Members) → ends_from c (members_tokens ms) ≡ true
  ends-members c json.no_members = refl
  ends-members c (json.member k j ms) = ends-append _ (json_tokens j) (members_tokens ms) ∙ ends-members _ ms

ends-items_before : (js : json.Items) → ends_from true (items_before js) ≡ true
ends-items_before json.no_items = refl
ends-items_before (json.item j js) = ends-append true (json_tokens j) (items_before js)
    ∙ ap (λ c. ends_from c (items_before js)) (ends-json true j) ∙ ends-items_before js

pub ends-some_items : (c : Bool) (j : Json) (js : json.Items)
    → ends_from c (items_before (json.item j js)) ≡ true
ends-some_items c j js = ends-append c (json_tokens j) (items_before js)
    ∙ ap (λ e. ends_from e (items_before js)) (ends-json c j) ∙ ends-items_before js

pub begins-json : (j : Json) (ts : List Token) → begins_first (json_tokens j ++ ts) ≡ true
begins-json json.null ts = refl
begins-json (json.boolean b) ts = refl
begins-json (json.number s) ts = refl
begins-json (json.string s) ts = refl
begins-json (json.array js) ts = refl
begins-json (json.object ms) ts = refl

-- ---- the data of a child, and of what it is in

mapped : {A B : Type 0} (f : A → B) (o : Option A) (b : B) → option_map f o ≡ Some b → (a : A) × (o ≡ Some a)
mapped f None b e = not_found b e
mapped f (Some a) b e = (a, refl)

after_some : {A B : Type 0} (f : A → Option B) (o : Option A) (b : B) → option_and_then f o ≡ Some b
    → (a : A) × (o ≡ Some a) × (f a ≡ Some b)
after_some f None b e = not_found b e
after_some f (Some a) b e = (a, refl, e)

then_same : {A B C : Type 0} (f : A → Option C) (g : A → Option B) (h : B → Option C) (o : Option A)
    → ((a : A) → f a ≡ option_and_then h (g a)) → option_and_then f o
    ≡ option_and_then h (option_and_then g o)
then_same f g h None same = refl
then_same f g h (Some a) same = same a

of_members-append : (ms ns : json.Members) (found : Members)
    → of_members (append_members ms ns) found ≡ option_and_then (of_members ns) (of_members ms found)
of_members-append json.no_members ns found = refl
of_members-append (json.member k j ms) ns found = then_same _ _ _ (of_json j)
    (λ d. of_members-append ms ns (put k d found))

-- members with other names
others : (k : List ℕ) (ms : json.Members) (f g h : Members) → Lacks k ms → of_members ms f ≡ Some g
    → (r : Members) × (of_members ms h ≡ Some r) × (get_member k r ≡ get_member k h)
others k json.no_members f g h lacks e = (h, refl, refl)
others k (json.member l j ms) f g h lacks e =
    let x = after_some (λ d. of_members ms (put l d f)) (of_json j) g e in
    let y = others k ms (put l x.0 f) g (put l x.0 h) lacks.1 x.2 in (
      y.0,
      ap (option_and_then (λ d. of_members ms (put l d h))) x.1 ∙ y.1,
      y.2 ∙ get_member-put_other k l x.0 h lacks.0,
    )

pub around-member : (k : List ℕ) (before after : json.Members) (old : Json) → Lacks k after
    → IsAround (get k) (λ j. json.object (append_members before (json.member k j after))) old
around-member k before after old lacks whole e =
    let all = mapped object (of_members (append_members before (json.member k old after)) no_members)
    whole e in
    let split = sym (of_members-append before (json.member k old after) no_members) ∙ all.1 in
    let front = after_some (of_members (json.member k old after)) (of_members before no_members) all.0
    split in
    let f = front.0 in
    let x = after_some (λ d. of_members after (put k d f)) (of_json old) all.0 front.2 in (
      (x.0, x.1),
      λ new d is. (
          let y = others k after (put k x.0 f) all.0 (put k d f) lacks x.2 in
          let made : of_members (append_members before (json.member k new after)) no_members ≡ Some y.0 =
          of_members-append before (json.member k new after) no_members
          ∙ ap (option_and_then (of_members (json.member k new after))) front.1
          ∙ ap (option_and_then (λ z. of_members after (put k z f))) is ∙ y.1 in
          (object y.0, ap (option_map object) made, y.2 ∙ get_member-put k d f)
          ),
    )

in_items : (before after : json.Items) (old : Json) (whole : Items)
    → of_items (append_items before (json.item old after)) ≡ Some whole
    → ((d : Data) × (of_json old ≡ Some d))
    × ((new : Json) (d : Data) → of_json new ≡ Some d
    → (made : Items) × (of_items (append_items before (json.item new after)) ≡ Some made)
    × (get_item (items_len before) made ≡ Some d))
in_items json.no_items after old whole e =
    let x = after_some (λ d. option_map (item d) (of_items after)) (of_json old) whole e in
    let rest = mapped (item x.0) (of_items after) whole x.2 in (
      (x.0, x.1),
      λ new d is. (
        item d rest.0,
        ap (option_and_then (λ z. option_map (item z) (of_items after))) is ∙ ap (option_map (item d)) rest.1,
        refl,
      ),
    )
in_items (json.item j js) after old whole e =
    let all = λ (k : Json). of_items (append_items js (json.item k after)) in
    let x = after_some (λ d. option_map (item d) (all old)) (of_json j) whole e in
    let rest = mapped (item x.0) (all old) whole x.2 in
    let inner = in_items js after old rest.0 rest.1 in (
      inner.0,
      λ new d is. (
          let made = inner.1 new d is in (
            item x.0 made.0,
            ap (option_and_then (λ z. option_map (item z) (all new))) x.1 ∙ ap (option_map (item x.0)) made.1,
            made.2,
          )
          ),
    )

pub around-item : (before after : json.Items) (old : Json)
    → IsAround (at (items_len before)) (λ j. json.array (append_items before (json.item j after))) old
around-item before after old whole e =
    let all = mapped array (of_items (append_items before (json.item old after))) whole e in
    let inner = in_items before after old all.0 all.1 in (
      inner.0,
      λ new d is. (
          let made = inner.1 new d is in (array made.0, ap (option_map array) made.1, made.2)
          ),
    )
