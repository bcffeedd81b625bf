-- A text of good lexemes is read the same before any text that ends a word.
use Rattle.std.proofs.Common.{◌≡◌, ℕ, zero, suc, ◌≤◌, true}
use Rattle.std.proofs.Common.{List, [], ◌∷◌, ◌++◌, length, Option, Some, None}
use Rattle.std.proofs.Common.{refl, sym, ap, ap₂, ◌∙◌, subst, arith, append_assoc, append-nil, length-append}
use Rattle.std.proofs.lemmas.Bool.{false≢true}
use Rattle.std.specs.Prelude.{⊤}
use Rattle.json.specs.Text.{content, plain}
use Rattle.json.specs.Word.{ends_word, word}
use Rattle.json.specs.Lex.{Lexeme, token, comma, colon, Class, quote, backslash, operator, space, other}
use Rattle.json.specs.Lex.{class}
use Rattle.json.specs.Lex.{operator_lexeme, string_token, between, in_string}
use Rattle.json.specs.Lex.{lex_byte, lex}
use Rattle.json.specs.Align.{is_good}
use Rattle.smap_fault_places.proofs.WordLemmas.{is_word}
use Rattle.smap_fault_places.proofs.StringLemmas.{is_closed}

abbrev pub AreGood : List Lexeme → Type 0
AreGood [] = ⊤
AreGood (token t ∷ ls) = (is_good t ≡ true) × AreGood ls
AreGood (comma ∷ ls) = AreGood ls
AreGood (colon ∷ ls) = AreGood ls

rest_good : (l : Lexeme) (ls : List Lexeme) → AreGood (l ∷ ls) → AreGood ls
rest_good (token t) ls h = h.1
rest_good comma ls h = h
rest_good colon ls h = h

still_ended : (rest more : List ℕ) → ends_word rest ≡ true → ends_word more ≡ true
    → ends_word (rest ++ more) ≡ true
still_ended [] more e f = f
still_ended (x ∷ xs) more e f = e

found : (o : Option (List ℕ)) → is_good (string_token o) ≡ true → (s : List ℕ) × (o ≡ Some s)
found None e = absurd (false≢true e)
found (Some s) e = (s, refl)

abbrev Appends : List ℕ → List ℕ → Type 0
Appends xs more = AreGood (lex between xs) → lex between (xs ++ more) ≡ lex between xs ++ lex between more

module _ (more : List ℕ) (ended : ends_word more ≡ true) where
  at_word : (t : List ℕ) (n : ℕ) → length t ≤ suc n → ((xs : List ℕ) → length xs ≤ n → Appends xs more)
      → is_good (word t) ≡ true → Appends t more
  at_word t n long ih good h =
      let w = is_word t good in
      let whole : lex between t ≡ token (word t) ∷ lex between w.rest =
      ap (lex between) (sym w.parts) ∙ w.reads w.rest w.ended in
      let shorter : length w.rest ≤ n =
      omega (arith, long, w.some, ap length w.parts, length-append w.word w.rest) in
      let after : AreGood (lex between w.rest) = (subst AreGood whole h).1 in
      ap (λ l. lex between (l ++ more)) (sym w.parts) ∙ ap (lex between) (append_assoc w.word w.rest more)
      ∙ w.reads (w.rest ++ more) (still_ended w.rest more w.ended ended)
      ∙ ap (λ l. token (word t) ∷ l) (ih w.rest shorter after) ∙ ap (λ l. l ++ lex between more) (sym whole)

  at_string : (x : ℕ) (xs : List ℕ) (n : ℕ) → length xs ≤ n → ((ys : List ℕ) → length ys ≤ n
      → Appends ys more)
      → AreGood (token (string_token (content plain xs)) ∷ lex in_string xs)
      → token (string_token (content plain (xs ++ more))) ∷ lex in_string (xs ++ more)
      ≡ token (string_token (content plain xs)) ∷ (lex in_string xs ++ lex between more)
  at_string x xs n long ih h =
      let s = found (content plain xs) h.0 in
      let c = is_closed plain xs s.0 s.1 in
      let alone : lex in_string xs ≡ lex between c.after =
      ap (lex in_string) (sym (append-nil xs)) ∙ c.lexes [] ∙ ap (lex between) (append-nil c.after) in
      let good : AreGood (lex between c.after) = subst AreGood alone h.1 in
      ap₂ (λ o l. token (string_token o) ∷ l) (c.reads more ∙ sym s.1)
      (c.lexes more ∙ ih c.after (omega (arith, long, c.shorter)) good
      ∙ ap (λ l. l ++ lex between more) (sym alone))

  abbrev ByClass : Class → ℕ → List ℕ → Type 0
  ByClass c x xs = AreGood (lex_byte between c x xs (λ m. lex m xs))
      → lex_byte between c x (xs ++ more) (λ m. lex m (xs ++ more))
      ≡ lex_byte between c x xs (λ m. lex m xs) ++ lex between more

  by_class : (c : Class) (x : ℕ) (xs : List ℕ) (n : ℕ) → class x ≡ c → length xs ≤ n
      → ((ys : List ℕ) → length ys ≤ n → Appends ys more) → ByClass c x xs
  unfolding lex
  by_class quote x xs n is long ih h = at_string x xs n long ih h
  by_class backslash x xs n is long ih h = absurd (false≢true h.0)
  by_class operator x xs n is long ih h =
      ap (λ l. operator_lexeme x ∷ l) (ih xs long (rest_good (operator_lexeme x) (lex between xs) h))
  by_class space x xs n is long ih h = ih xs long h
  by_class other x xs n is long ih h =
      let same : (ys : List ℕ) → lex between (x ∷ ys) ≡ lex_byte between other x ys (λ m. lex m ys) =
      λ ys. ap (λ c. lex_byte between c x ys (λ m. lex m ys)) is in
      sym (same (xs ++ more)) ∙ at_word (x ∷ xs) n (omega (arith, long)) ih h.0 (subst AreGood (sym (same
      xs)) h)
      ∙ ap (λ l. l ++ lex between more) (same xs)

  up_to : (n : ℕ) (xs : List ℕ) → length xs ≤ n → Appends xs more
  unfolding lex
  up_to n [] long h = refl
  up_to zero (x ∷ xs) long h = let never : ⊥ = omega (arith, long) in absurd never
  up_to (suc n) (x ∷ xs) long h = by_class (class x) x xs n refl (omega (arith, long)) (up_to n) h

  pub lex-append : (xs : List ℕ) → AreGood (lex between xs)
      → lex between (xs ++ more) ≡ lex between xs ++ lex between more
  lex-append xs h = up_to (length xs) xs (omega arith) h
