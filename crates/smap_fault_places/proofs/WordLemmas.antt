-- A word is read the same before any text that ends it (RFC 8259, sections 3 and 6).
use Rattle.std.proofs.Common.{◌≡◌, ℕ, ◌+◌, ◌-◌, ◌<◌, min, Bool, true, false, cond, ◌&&◌, ◌||◌}
use Rattle.std.proofs.Common.{◌==◌}
use Rattle.std.proofs.Common.{List, [], ◌∷◌, ◌++◌, length, take, drop, Option, Some, None, option_and_then}
use Rattle.std.proofs.Common.{refl, sym, ap, ap₂, ◌∙◌, arith}
use Rattle.std.proofs.lemmas.Bool.{false≢true, eqb-true, and_parts}
use Rattle.std.proofs.lemmas.List.{drop-drop, drop_min, length-drop, take-append-drop}
use Rattle.std.specs.Prelude.{⊤, nat_eq}
use Rattle.std.specs.List.{prefix_len, starts_with}
use Rattle.std.specs.Char.{is_ascii_digit}
use Rattle.json.specs.Token.{Token, number, boolean, null, bad}
use Rattle.json.specs.Word.{head, ends_word, after_digits, after_minus, after_sign}
use Rattle.json.specs.Word.{after_fraction}
use Rattle.json.specs.Word.{after_exponent, after_number, number_before, literal, word}
use Rattle.json.specs.Ascii as ascii
use Rattle.json.specs.Lex.{token, lex, between}
use Rattle.json.specs.Align.{is_good}
use Rattle.json.specs.Print.{IsNumber}
use Rattle.json.proofs.Printed.Numbers.{number_alone, lex-number, in_word-ended}
use Rattle.json.proofs.Found.{not_found}

-- ---- what a part of a number leaves is an end of the text

abbrev EndOf : List ℕ → List ℕ → Type 0
EndOf t r = (k : ℕ) × (r ≡ drop k t)

abbrev Leaves : List ℕ → Option (List ℕ) → Type 0
Leaves t None = ⊤
Leaves t (Some r) = EndOf t r

further : (t u : List ℕ) (o : Option (List ℕ)) → EndOf t u → Leaves u o → Leaves t o
further t u None e h = tt
further t u (Some r) e h = (e.0 + h.0, h.1 ∙ ap (drop h.0) e.1 ∙ drop-drop h.0 e.0 t)

either : (t : List ℕ) (b : Bool) (x y : Option (List ℕ)) → Leaves t x → Leaves t y → Leaves t (cond b x y)
either t true x y p q = p
either t false x y p q = q

optional : (t : List ℕ) (b : Bool) → EndOf t (cond b (drop 1 t) t)
optional t true = (1, refl)
optional t false = (0, refl)

digits : (t : List ℕ) → Leaves t (after_digits t)
digits t = either t (prefix_len is_ascii_digit t == 0) None _ tt (prefix_len is_ascii_digit t, refl)

then : (t : List ℕ) (f : List ℕ → Option (List ℕ)) → ((u : List ℕ) → Leaves u (f u)) → (o : Option (List ℕ))
    → Leaves t o → Leaves t (option_and_then f o)
then t f g None h = tt
then t f g (Some r) h = further t r (f r) h (g r)

fraction : (t : List ℕ) → Leaves t (after_fraction t)
fraction t = either t (head t == 46) _ (Some t) (further t (drop 1 t) _ (1, refl) (digits (drop 1 t)))
    (0, refl)

exponent : (t : List ℕ) → Leaves t (after_exponent t)
exponent t =
    let u = drop 1 t in
    let signed = further u (after_sign u) _ (optional u _) (digits (after_sign u)) in
    either t ((head t == 101) || (head t == 69)) _ (Some t) (further t u _ (1, refl) signed) (0, refl)

number_end : (t : List ℕ) → Leaves t (after_number t)
unfolding after_number
number_end t =
    let u = after_minus t in
    let whole = either u (head u == 48) (Some (drop 1 u)) _ (1, refl) (digits u) in
    then t after_exponent exponent _ (then t after_fraction fraction _ (further t u _ (optional t _) whole))

front_and_rest : (t r : List ℕ) → EndOf t r → take (length t - length r) t ++ r ≡ t
front_and_rest t r e =
    let n : length t - length r ≡ min e.0 (length t) = omega (arith, ap length e.1, length-drop e.0 t) in
    ap (λ x. take (length t - length r) t ++ x) (e.1 ∙ sym (drop_min e.0 t) ∙ ap (λ k. drop k t) (sym n))
    ∙ take-append-drop _ t

-- ---- words

-- The text begins with a word that is this token, and so does the word before any text that ends it.
pub record IsWord (t : List ℕ) (w : Token) : Type 0 where
  pub word : List ℕ
  pub rest : List ℕ
  pub some : 0 < length word
  pub parts : word ++ rest ≡ t
  pub ended : ends_word rest ≡ true
  pub reads : (more : List ℕ) → ends_word more ≡ true → lex between (word ++ more)
      ≡ token w ∷ lex between more

abbrev IfGood : List ℕ → Token → Type 0
IfGood t w = is_good w ≡ true → IsWord t w

one_of : (t : List ℕ) (b : Bool) (x y : Token) → (b ≡ true → IfGood t x) → IfGood t y → IfGood t (cond b x y)
one_of t true x y p q = p refl
one_of t false x y p q = q

no_number : IsNumber [] → ⊥
unfolding after_number
no_number h = not_found [] h

some_number : (s : List ℕ) → IsNumber s → 0 < length s
some_number [] h = absurd (no_number h)
some_number (x ∷ xs) h = omega arith

of_number : (t : List ℕ) (o : Option (List ℕ)) → after_number t ≡ o → Leaves t o
    → IfGood t (number_before t o)
of_number t None e h = λ good. absurd (false≢true good)
of_number t (Some r) e h = one_of t (ends_word r) _ bad is (λ good. absurd (false≢true good))
  where
    alone : ends_word r ≡ true → IsNumber (take (length t - length r) t)
    alone ended = number_alone _ r ended (ap after_number (front_and_rest t r h) ∙ e)

    is : ends_word r ≡ true → IfGood t (number (take (length t - length r) t))
    is ended good = record {
      word = take (length t - length r) t;
      rest = r;
      some = some_number _ (alone ended);
      parts = front_and_rest t r h;
      ended = ended;
      reads = λ more stop. lex-number _ more (alone ended) stop;
    }

starts : (name t : List ℕ) → starts_with nat_eq t name ≡ true → name ++ drop (length name) t ≡ t
starts [] t h = refl
starts (n ∷ ns) [] h = absurd (false≢true h)
starts (n ∷ ns) (x ∷ xs) h =
    let parts = and_parts (nat_eq n x) (starts_with nat_eq xs ns) h in
    ap₂ (λ a l. a ∷ l) (eqb-true n x parts.0) (starts ns xs parts.1)

literal_word : (name t : List ℕ) (w : Token) → 0 < length name
    → ((more : List ℕ) → ends_word more ≡ true → lex between (name ++ more) ≡ token w ∷ lex between more)
    → IfGood t (literal name w t)
literal_word name t w some reads = one_of t _ w bad is (λ good. absurd (false≢true good))
  where
    is : (starts_with nat_eq t name && ends_word (drop (length name) t)) ≡ true → IfGood t w
    is both good =
        let parts = and_parts (starts_with nat_eq t name) (ends_word (drop (length name) t)) both in
        record {
          word = name;
          rest = drop (length name) t;
          some = some;
          parts = starts name t parts.0;
          ended = parts.1;
          reads = reads;
        }

true_reads : (more : List ℕ) → ends_word more ≡ true
    → lex between (ascii.true_text ++ more) ≡ token (boolean true) ∷ lex between more
unfolding lex word
true_reads more ended = ap₂ (λ b l. token (cond b (boolean true) bad) ∷ l) ended (in_word-ended more ended)

false_reads : (more : List ℕ) → ends_word more ≡ true
    → lex between (ascii.false_text ++ more) ≡ token (boolean false) ∷ lex between more
unfolding lex word
false_reads more ended = ap₂ (λ b l. token (cond b (boolean false) bad) ∷ l) ended (in_word-ended more ended)

null_reads : (more : List ℕ) → ends_word more ≡ true
    → lex between (ascii.null_text ++ more) ≡ token null ∷ lex between more
unfolding lex word
null_reads more ended = ap₂ (λ b l. token (cond b null bad) ∷ l) ended (in_word-ended more ended)

pub is_word : (t : List ℕ) → is_good (word t) ≡ true → IsWord t (word t)
unfolding word
is_word t =
    one_of t (head t == 116) _ _ (λ e. literal_word ascii.true_text t (boolean true) (omega arith) true_reads)
    (one_of t (head t == 102) _ _ (λ e. literal_word ascii.false_text t (boolean false) (omega arith)
    false_reads)
    (one_of t (head t == 110) _ _ (λ e. literal_word ascii.null_text t null (omega arith) null_reads)
    (of_number t (after_number t) refl (number_end t))))
