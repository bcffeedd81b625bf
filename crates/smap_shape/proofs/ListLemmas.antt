use Rattle.std.proofs.Common.{◌≡◌, ℕ, ◌<◌, List, [], ◌∷◌, length, map, get_or, Option, Some, None, ap, refl}
use Rattle.std.proofs.Common.{◌∙◌, Bool, true, false, cond, ◌||◌, ◌&&◌}
use Rattle.std.specs.Prelude.{option_map, option_and_then, is_some}
use Rattle.std.specs.List.{list_any, list_all}
use Rattle.serde_json.specs.Data.{Data, null, boolean, number, string, array, object}
use Rattle.serde_json.specs.Find.{as_null, as_str, as_array}
use Rattle.serde_json.specs.View.{view, items_view}
use Rattle.serde_json.specs.declared.value.Value.{Value}
use Rattle.smap_shape.specs.Reading.{each_item, list_member, text_or_null, number_below, whole}
use Rattle.smap_shape.specs.Inside.{sure_texts, numbers}
use Rattle.std.specs.Prelude.{unwrap_or, nat_lt, All}
use Rattle.std.proofs.Common.{arith, subst}
use Rattle.std.proofs.lemmas.Bool.{and_parts}
use Rattle.std.proofs.lemmas.Bool.Decides.{nat_tests}
use Rattle.std.proofs.lemmas.List.{get_or-map, length-map}
use Rattle.std.proofs.lemmas.List.Elements.{All-nil, All-cons, All-get_or}

pub list_any-map : {A B : Type 0} (f : A → B) (p : B → Bool) (xs : List A)
    → list_any p (map f xs) ≡ list_any (λ x. p (f x)) xs
list_any-map f p [] = refl
list_any-map f p (x ∷ xs) = ap (λ b. p (f x) || b) (list_any-map f p xs)

-- a list in which each entry passes is read whole, and any other isn't read
pub each_item-items_of : {A : Type 0} (read : Data → Option A) (p : Data → Bool) (f : Data → A)
    → ((d : Data) → read d ≡ cond (p d) (Some (f d)) None)
    → (vs : List Value) → each_item read (items_view vs)
    ≡ cond (list_all (λ v. p (view v)) vs) (Some (map (λ v. f (view v)) vs)) None
each_item-items_of read p f reads [] = refl
each_item-items_of read p f reads (v ∷ vs) =
    grind (arith, reads (view v), each_item-items_of read p f reads vs)

pub text_or_null-cases : (d : Data)
    → text_or_null d ≡ cond (is_some (as_null d) || is_some (as_str d)) (Some (as_str d)) None
text_or_null-cases null = refl
text_or_null-cases (boolean b) = refl
text_or_null-cases (number n) = refl
text_or_null-cases (string s) = refl
text_or_null-cases (array ds) = refl
text_or_null-cases (object ms) = refl

-- the texts and nulls of a list
pub texts_read : (vs : List Value) → each_item text_or_null (items_view vs)
    ≡ cond (list_all (λ v. is_some (as_null (view v)) || is_some (as_str (view v))) vs)
    (Some (map (λ v. as_str (view v)) vs)) None
texts_read vs = each_item-items_of text_or_null (λ d. is_some (as_null d) || is_some (as_str d)) as_str
    text_or_null-cases vs

sure_text_cases : (d : Data) → as_str d ≡ cond (is_some (as_str d)) (Some (unwrap_or (as_str d) [])) None
sure_text_cases d = grind arith

number_below-cases : (count : ℕ) (d : Data)
    → number_below count d ≡ cond (is_some (number_below count d)) (Some (unwrap_or (whole d) 0)) None
unfolding number_below
number_below-cases count d = grind arith

pub sure_texts_read : (vs : List Value) → each_item as_str (items_view vs)
    ≡ cond (list_all (λ v. is_some (as_str (view v))) vs) (Some (sure_texts vs)) None
sure_texts_read vs =
    each_item-items_of as_str (λ d. is_some (as_str d)) (λ d. unwrap_or (as_str d) []) sure_text_cases vs

pub numbers_read : (count : ℕ) (vs : List Value) → each_item (number_below count) (items_view vs)
    ≡ cond (list_all (λ v. is_some (number_below count (view v))) vs) (Some (numbers vs)) None
numbers_read count vs = each_item-items_of (number_below count) (λ d. is_some (number_below count d))
    (λ d. unwrap_or (whole d) 0) (number_below-cases count) vs

pub ruleset list_steps = (list_any-map, texts_read, sure_texts_read, numbers_read)

-- the list of the member is read as numbers, or not at all
pub numbers_listed : (count : ℕ) (m : Option Data) (d : Data) (vs : List Value) (b : Bool)
    → m ≡ Some d → as_array d ≡ Some (items_view vs)
    → list_all (λ v. is_some (number_below count (view v))) vs ≡ b
    → list_member (number_below count) m ≡ cond b (Some (numbers vs)) None
numbers_listed count m d vs b at lists all = rw (at, lists, numbers_read count vs, all) refl

-- any list is read as its items
pub each_item-any : (vs : List Value) → each_item Some (items_view vs) ≡ Some (map view vs)
each_item-any [] = refl
each_item-any (v ∷ vs) = ap (option_map (λ xs. view v ∷ xs)) (each_item-any vs)

pub ruleset any_list = (each_item-any, refl)

-- a number that is_some of number_below says to be there is below the count
number_below-within : (count : ℕ) (d : Data) → is_some (number_below count d) ≡ true
    → unwrap_or (whole d) 0 < count
unfolding number_below
number_below-within count d h = grind (arith, nat_tests)

-- the numbers of a list in which each entry is a whole number below the count are below the count
pub numbers-within : (count : ℕ) (vs : List Value)
    → list_all (λ v. is_some (number_below count (view v))) vs ≡ true → All (λ n. n < count) (numbers vs)
numbers-within count [] h = All-nil (λ n. n < count)
numbers-within count (v ∷ vs) h =
    let p = and_parts (is_some (number_below count (view v)))
    (list_all (λ v. is_some (number_below count (view v))) vs) h in
    All-cons (λ n. n < count) (unwrap_or (whole (view v)) 0) (numbers vs)
    (number_below-within count (view v) p.0) (numbers-within count vs p.1)

-- one number of a list in which each is below the count
pub numbers-at : (count : ℕ) (vs : List Value) (i : ℕ) (d : Value)
    → i < length vs → All (λ n. n < count) (numbers vs) → unwrap_or (whole (view (get_or vs i d))) 0 < count
numbers-at count vs i d h all =
    let P : ℕ → Type 0 = λ n. n < count in
    subst P (get_or-map (λ v. unwrap_or (whole (view v)) 0) vs i d 0 h)
    (All-get_or P (numbers vs) i 0 (omega (arith, length-map vs (λ v. unwrap_or (whole (view v)) 0))) all)
