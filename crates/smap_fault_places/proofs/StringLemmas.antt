-- A string is read the same whatever follows its closing quote (RFC 8259, section 7).
use Rattle.std.proofs.Common.{◌≡◌, ℕ, ◌<◌, Bool, true, false, cond, ◌&&◌, ◌==◌, nat_lt}
use Rattle.std.proofs.Common.{List, [], ◌∷◌, ◌++◌, length, Option, Some, None, option_map, option_and_then}
use Rattle.std.proofs.Common.{refl, sym, ap, ap₂, ◌∙◌, arith}
use Rattle.std.proofs.lemmas.Bool.{true≢false, eqb-true, and_parts, ne_eqb}
use Rattle.std.specs.Char.{is_digit, encode_utf8}
use Rattle.json.specs.Word.{is_operator, is_space}
use Rattle.json.specs.Text.{code_unit, short_escape, is_high_surrogate, is_low_surrogate, surrogate_pair}
use Rattle.json.specs.Text.{Within, plain, after_backslash, after_u, after_high, prepend, content}
use Rattle.json.specs.Lex.{Lexeme, Class, quote, backslash, operator, space, other}
use Rattle.json.specs.Lex.{Mode, between, in_string, in_escape, lex_byte, lex}
use Rattle.json.proofs.Found.{not_found}

abbrev mode : Within → Mode
mode plain = in_string
mode after_backslash = in_escape
mode after_u = in_string
mode (after_high h) = in_string

-- From within a string the text goes on to its closing quote; what it spells, and where it is read on, do not
-- depend on what follows the text.
pub record IsClosed (w : Within) (text s : List ℕ) : Type 0 where
  pub after : List ℕ
  pub shorter : length after < length text
  pub lexes : (more : List ℕ) → lex (mode w) (text ++ more) ≡ lex between (after ++ more)
  pub reads : (more : List ℕ) → content w (text ++ more) ≡ Some s

mapped : {A B : Type 0} (f : A → B) (o : Option A) (b : B) → option_map f o ≡ Some b → (a : A) × (o ≡ Some a)
mapped f None b e = not_found b e
mapped f (Some a) b e = (a, refl)

after_some : {A B : Type 0} (f : A → Option B) (o : Option A) (b : B) → option_and_then f o ≡ Some b
    → (a : A) × (o ≡ Some a) × (f a ≡ Some b)
after_some f None b e = not_found b e
after_some f (Some a) b e = (a, refl, e)

abbrev byte_class : Bool → Bool → Bool → Bool → Class
byte_class q b o p = cond q quote (cond b backslash (cond o operator (cond p space other)))

stays : (q b o p : Bool) (x : ℕ) (xs : List ℕ) (k : Mode → List Lexeme) → q ≡ false → b ≡ false
    → lex_byte in_string (byte_class q b o p) x xs k ≡ k in_string
stays true b o p x xs k e f = absurd (true≢false e)
stays false true o p x xs k e f = absurd (true≢false f)
stays false false true p x xs k e f = refl
stays false false false true x xs k e f = refl
stays false false false false x xs k e f = refl

stays_at : (x : ℕ) (xs : List ℕ) → (x == 34) ≡ false → (x == 92) ≡ false
    → lex in_string (x ∷ xs) ≡ lex in_string xs
unfolding lex
stays_at x xs e f = stays (x == 34) (x == 92) (is_operator x) (is_space x) x xs (λ m. lex m xs) e f

stays_at_hex : (x : ℕ) (xs : List ℕ) → is_digit x 16 ≡ true → lex in_string (x ∷ xs) ≡ lex in_string xs
stays_at_hex x xs h = stays_at x xs (ne_eqb x 34 (λ e. true≢false (sym h ∙ ap (λ y. is_digit y 16) e)))
    (ne_eqb x 92 (λ e. true≢false (sym h ∙ ap (λ y. is_digit y 16) e)))

four_hex : (a b c d u : ℕ) (xs : List ℕ) → code_unit a b c d ≡ Some u
    → lex in_string (a ∷ b ∷ c ∷ d ∷ xs) ≡ lex in_string xs
unfolding code_unit
four_hex a b c d u xs e =
    let all = holds _ _ e in
    let first = and_parts (is_digit a 16 && is_digit b 16 && is_digit c 16) (is_digit d 16) all in
    let second = and_parts (is_digit a 16 && is_digit b 16) (is_digit c 16) first.0 in
    let third = and_parts (is_digit a 16) (is_digit b 16) second.0 in
    stays_at_hex a _ third.0 ∙ stays_at_hex b _ third.1 ∙ stays_at_hex c _ second.1 ∙ stays_at_hex d _ first.1
  where
    holds : (b : Bool) (n : ℕ) → cond b (Some n) None ≡ Some u → b ≡ true
    holds true n e = refl
    holds false n e = not_found u e

-- one byte in front
plain_byte : (q b l o p : Bool) (x : ℕ) (xs s : List ℕ)
    → cond q (Some []) (cond b (content after_backslash xs) (cond l None (prepend (x ∷ []) (content plain
    xs))))
    ≡ Some s
    → ((r : List ℕ) → content after_backslash xs ≡ Some r → IsClosed after_backslash xs r)
    → ((r : List ℕ) → content plain xs ≡ Some r → IsClosed plain xs r)
    → (after : List ℕ) × (length after < length (x ∷ xs))
    × ((more : List ℕ) → lex_byte in_string (byte_class q b o p) x (xs ++ more) (λ m. lex m (xs ++ more))
    ≡ lex between (after ++ more))
    × ((more : List ℕ) → cond q (Some []) (cond b (content after_backslash (xs ++ more))
    (cond l None (prepend (x ∷ []) (content plain (xs ++ more))))) ≡ Some s)
plain_byte true b l o p x xs s e f g = (xs, omega arith, λ more. refl, λ more. e)
plain_byte false true l o p x xs s e f g =
    let h = f s e in (h.after, omega (arith, h.shorter), h.lexes, h.reads)
plain_byte false false true o p x xs s e f g = not_found s e
plain_byte false false false o p x xs s e f g =
    let inner = mapped _ (content plain xs) s e in
    let h = g inner.0 inner.1 in (
      h.after,
      omega (arith, h.shorter),
      λ more. stays false false o p x (xs ++ more) (λ m. lex m (xs ++ more)) refl refl ∙ h.lexes more,
      λ more. ap (prepend (x ∷ [])) (h.reads more ∙ sym inner.1) ∙ e,
    )

escaped_byte : (u : Bool) (x : ℕ) (xs s : List ℕ)
    → cond u (content after_u xs) (option_and_then (λ c. prepend (c ∷ []) (content plain xs))
    (short_escape x)) ≡ Some s
    → ((r : List ℕ) → content after_u xs ≡ Some r → IsClosed after_u xs r)
    → ((r : List ℕ) → content plain xs ≡ Some r → IsClosed plain xs r)
    → (after : List ℕ) × (length after < length xs)
    × ((more : List ℕ) → lex in_string (xs ++ more) ≡ lex between (after ++ more))
    × ((more : List ℕ) → cond u (content after_u (xs ++ more))
    (option_and_then (λ c. prepend (c ∷ []) (content plain (xs ++ more))) (short_escape x)) ≡ Some s)
escaped_byte true x xs s e f g = let h = f s e in (h.after, h.shorter, h.lexes, h.reads)
escaped_byte false x xs s e f g =
    let short = after_some (λ c. prepend (c ∷ []) (content plain xs)) (short_escape x) s e in
    let inner = mapped _ (content plain xs) s short.2 in
    let h = g inner.0 inner.1 in (
      h.after,
      h.shorter,
      h.lexes,
      λ more. ap (option_and_then (λ c. prepend (c ∷ []) (content plain (xs ++ more)))) short.1
          ∙ ap (prepend (short.0 ∷ [])) (h.reads more ∙ sym inner.1) ∙ short.2,
    )

unit_high : (high low : Bool) (u : ℕ) (xs s : List ℕ)
    → cond high (content (after_high u) xs) (cond low None (prepend (encode_utf8 u) (content plain xs)))
    ≡ Some s
    → ((r : List ℕ) → content (after_high u) xs ≡ Some r → IsClosed (after_high u) xs r)
    → ((r : List ℕ) → content plain xs ≡ Some r → IsClosed plain xs r)
    → (after : List ℕ) × (length after < length xs)
    × ((more : List ℕ) → lex in_string (xs ++ more) ≡ lex between (after ++ more))
    × ((more : List ℕ) → cond high (content (after_high u) (xs ++ more))
    (cond low None (prepend (encode_utf8 u) (content plain (xs ++ more)))) ≡ Some s)
unit_high true low u xs s e f g = let h = f s e in (h.after, h.shorter, h.lexes, h.reads)
unit_high false true u xs s e f g = not_found s e
unit_high false false u xs s e f g =
    let inner = mapped _ (content plain xs) s e in
    let h = g inner.0 inner.1 in
    (h.after, h.shorter, h.lexes, λ more. ap (prepend (encode_utf8 u)) (h.reads more ∙ sym inner.1) ∙ e)

unit_low : (low : Bool) (bytes xs s : List ℕ) → cond low (prepend bytes (content plain xs)) None ≡ Some s
    → ((r : List ℕ) → content plain xs ≡ Some r → IsClosed plain xs r)
    → (after : List ℕ) × (length after < length xs)
    × ((more : List ℕ) → lex in_string (xs ++ more) ≡ lex between (after ++ more))
    × ((more : List ℕ) → cond low (prepend bytes (content plain (xs ++ more))) None ≡ Some s)
unit_low false bytes xs s e g = not_found s e
unit_low true bytes xs s e g =
    let inner = mapped _ (content plain xs) s e in
    let h = g inner.0 inner.1 in
    (h.after, h.shorter, h.lexes, λ more. ap (prepend bytes) (h.reads more ∙ sym inner.1) ∙ e)

second_unit : (b : Bool) (v : ℕ → Option (List ℕ)) (o : Option ℕ) (s : List ℕ)
    → cond b (option_and_then v o) None ≡ Some s → (b ≡ true) × (l : ℕ) × (o ≡ Some l) × (v l ≡ Some s)
second_unit true v o s e = let x = after_some v o s e in (refl, x.0, x.1, x.2)
second_unit false v o s e = not_found s e

escape_u : (x y : ℕ) (xs : List ℕ) → ((x == 92) && (y == 117)) ≡ true → lex in_string (x ∷ y ∷ xs)
    ≡ lex in_string xs
unfolding lex
escape_u x y xs h =
    let both = and_parts (x == 92) (y == 117) h in
    ap₂ (λ a b. lex in_string (a ∷ b ∷ xs)) (eqb-true x 92 both.0) (eqb-true y 117 both.1)

-- the second code unit of a pair, and what follows it
abbrev low : ℕ → List ℕ → ℕ → Option (List ℕ)
low high xs l = cond (is_low_surrogate l) (prepend (encode_utf8 (surrogate_pair high l)) (content plain
    xs)) None

pub is_closed : (w : Within) (xs s : List ℕ) → content w xs ≡ Some s → IsClosed w xs s
unfolding content lex
is_closed plain [] s e = not_found s e
is_closed plain (x ∷ xs) s e =
    let h = plain_byte (x == 34) (x == 92) (nat_lt x 32) (is_operator x) (is_space x) x xs s e
    (is_closed after_backslash xs) (is_closed plain xs) in
    record { after = h.0; shorter = h.1; lexes = h.2; reads = h.3 }
is_closed after_backslash [] s e = not_found s e
is_closed after_backslash (x ∷ xs) s e =
    let h = escaped_byte (x == 117) x xs s e (is_closed after_u xs) (is_closed plain xs) in
    record { after = h.0; shorter = omega (arith, h.1); lexes = h.2; reads = h.3 }
is_closed after_u [] s e = not_found s e
is_closed after_u (a ∷ []) s e = not_found s e
is_closed after_u (a ∷ b ∷ []) s e = not_found s e
is_closed after_u (a ∷ b ∷ c ∷ []) s e = not_found s e
is_closed after_u (a ∷ b ∷ c ∷ d ∷ xs) s e =
    let unit = after_some _ (code_unit a b c d) s e in
    let u = unit.0 in
    let h = unit_high (is_high_surrogate u) (is_low_surrogate u) u xs s unit.2 (is_closed (after_high u) xs)
    (is_closed plain xs) in
    record {
      after = h.0;
      shorter = omega (arith, h.1);
      lexes = λ more. four_hex a b c d u (xs ++ more) unit.1 ∙ h.2 more;
      reads = λ more. ap (option_and_then _) unit.1 ∙ h.3 more;
    }
is_closed (after_high v) [] s e = not_found s e
is_closed (after_high v) (x ∷ []) s e = not_found s e
is_closed (after_high v) (x ∷ y ∷ []) s e = not_found s e
is_closed (after_high v) (x ∷ y ∷ a ∷ []) s e = not_found s e
is_closed (after_high v) (x ∷ y ∷ a ∷ b ∷ []) s e = not_found s e
is_closed (after_high v) (x ∷ y ∷ a ∷ b ∷ c ∷ []) s e = not_found s e
is_closed (after_high v) (x ∷ y ∷ a ∷ b ∷ c ∷ d ∷ xs) s e =
    let unit = second_unit ((x == 92) && (y == 117)) _ (code_unit a b c d) s e in
    let l = unit.1 in
    let h = unit_low (is_low_surrogate l) (encode_utf8 (surrogate_pair v l)) xs s unit.3 (is_closed plain
    xs) in
    record {
      after = h.0;
      shorter = omega (arith, h.1);
      lexes = λ more. escape_u x y _ unit.0 ∙ four_hex a b c d l (xs ++ more) unit.2 ∙ h.2 more;
      reads = λ more. ap₂ (λ b o. cond b (option_and_then (low v (xs ++ more)) o) None) unit.0 unit.2
          ∙ h.3 more;
    }
