-- Where a text of lexemes goes on, its tokens go on (RFC 8259, section 2).
use Rattle.std.proofs.Common.{◌≡◌, ℕ, Bool, true, false, List, [], ◌∷◌, ◌++◌, length, fold}
use Rattle.std.proofs.Common.{refl, sym, ap, ap₂, ◌∙◌, subst, arith, length-append}
use Rattle.std.proofs.lemmas.Bool.{false≢true}
use Rattle.std.specs.Prelude.{⊤}
use Rattle.json.specs.Token.{Token, begin_object, end_object, begin_array, end_array, key, string, number}
use Rattle.json.specs.Token.{boolean}
use Rattle.json.specs.Token.{null, bad}
use Rattle.json.specs.Lex.{Lexeme, token, comma, colon}
use Rattle.json.specs.Lex.{Place, fresh, after_value, after_comma, after_key, begins_colon, may_begin}
use Rattle.json.specs.Lex.{may_close}
use Rattle.json.specs.Lex.{if_allowed, place_token, punctuate}
use Rattle.json.specs.Print.{ends}
use Rattle.json.specs.Align.{is_good}
use Rattle.smap_fault_places.specs.Contexts.{begins_first}
use Rattle.smap_fault_places.proofs.LexLemmas.{AreGood}

abbrev pub AreSound : List Token → Type 0
AreSound [] = ⊤
AreSound (t ∷ ts) = (is_good t ≡ true) × AreSound ts

-- whether a value ends at the end of these tokens; before them one has ended, or not
abbrev pub ends_from : Bool → List Token → Bool
ends_from c ts = fold (λ _ t. ends t) c ts

-- whether a value has ended here, and maybe a comma stands behind it
abbrev is_ended : Place → Bool
is_ended fresh = false
is_ended after_value = true
is_ended after_comma = true
is_ended after_key = false

never : {P : Type 0} → AreSound (bad ∷ []) → P
never h = absurd (false≢true h.0)

-- ---- one token

allowed : (b : Bool) (t : Token) (k : Place → List Token) (next : Place)
    → AreSound (if_allowed b t k next) → b ≡ true
allowed true t k next h = refl
allowed false t k next h = never h

passed : (b : Bool) (t : Token) (next : Place) → b ≡ true → (k : Place → List Token)
    → if_allowed b t k next ≡ t ∷ k next
passed b t next e k = ap (λ c. if_allowed c t k next) e

-- A lexeme that is a token gives a token, and it is known what follows it.
record IsStep (p : Place) (t : Token) (b : Bool) : Type 0 where
  good : is_good t ≡ true
  given : Token
  next : Place
  is : (k : Place → List Token) → place_token p t b k ≡ given ∷ k next
  ended : ends given ≡ true → is_ended next ≡ true
  name : (s : List ℕ) → given ≡ string s → (b ≡ false) × (next ≡ after_value)
      × ((k : Place → List Token) → place_token p t true k ≡ key s ∷ k after_key)

abbrev is_string : Token → Bool
is_string begin_object = false
is_string end_object = false
is_string begin_array = false
is_string end_array = false
is_string (key s) = false
is_string (string s) = true
is_string (number s) = false
is_string (boolean b) = false
is_string null = false
is_string bad = false

abbrev spelled : Token → List ℕ
spelled begin_object = []
spelled end_object = []
spelled begin_array = []
spelled end_array = []
spelled (key s) = s
spelled (string s) = s
spelled (number s) = s
spelled (boolean b) = []
spelled null = []
spelled bad = []

no_string : {P : Type 0} (t : Token) (s : List ℕ) → is_string t ≡ false → t ≡ string s → P
no_string t s h e = absurd (false≢true (sym h ∙ ap is_string e))

step_of : (p : Place) (t : Token) (b : Bool) (k : Place → List Token) → AreSound (place_token p t b k)
    → IsStep p t b
step_of p begin_object b k h = record {
  good = refl;
  given = begin_object;
  next = fresh;
  is = passed (may_begin p) begin_object fresh (allowed (may_begin p) begin_object k fresh h);
  ended = λ e. absurd (false≢true e);
  name = λ s e. no_string begin_object s refl e;
}
step_of p end_object b k h = record {
  good = refl;
  given = end_object;
  next = after_value;
  is = passed (may_close p) end_object after_value (allowed (may_close p) end_object k after_value h);
  ended = λ e. refl;
  name = λ s e. no_string end_object s refl e;
}
step_of p begin_array b k h = record {
  good = refl;
  given = begin_array;
  next = fresh;
  is = passed (may_begin p) begin_array fresh (allowed (may_begin p) begin_array k fresh h);
  ended = λ e. absurd (false≢true e);
  name = λ s e. no_string begin_array s refl e;
}
step_of p end_array b k h = record {
  good = refl;
  given = end_array;
  next = after_value;
  is = passed (may_close p) end_array after_value (allowed (may_close p) end_array k after_value h);
  ended = λ e. refl;
  name = λ s e. no_string end_array s refl e;
}
step_of p (key s) b k h = never h
step_of p (string s) true k h = record {
  good = refl;
  given = key s;
  next = after_key;
  is = passed (may_begin p) (key s) after_key (allowed (may_begin p) (key s) k after_key h);
  ended = λ e. absurd (false≢true e);
  name = λ r e. no_string (key s) r refl e;
}
step_of p (string s) false k h = record {
  good = refl;
  given = string s;
  next = after_value;
  is = passed (may_begin p) (string s) after_value (allowed (may_begin p) (string s) k after_value h);
  ended = λ e. refl;
  name = λ r e. (
    refl,
    refl,
    λ m. passed (may_begin p) (key s) after_key (allowed (may_begin p) (string s) k after_value h) m
        ∙ ap (λ x. key x ∷ m after_key) (ap spelled e),
  );
}
step_of p (number s) b k h = record {
  good = refl;
  given = number s;
  next = after_value;
  is = passed (may_begin p) (number s) after_value (allowed (may_begin p) (number s) k after_value h);
  ended = λ e. refl;
  name = λ r e. no_string (number s) r refl e;
}
step_of p (boolean v) b k h = record {
  good = refl;
  given = boolean v;
  next = after_value;
  is = passed (may_begin p) (boolean v) after_value (allowed (may_begin p) (boolean v) k after_value h);
  ended = λ e. refl;
  name = λ r e. no_string (boolean v) r refl e;
}
step_of p null b k h = record {
  good = refl;
  given = null;
  next = after_value;
  is = passed (may_begin p) null after_value (allowed (may_begin p) null k after_value h);
  ended = λ e. refl;
  name = λ r e. no_string null r refl e;
}
step_of p bad b k h = never h

-- ---- where the tokens are sound, the lexemes are good

pub lexemes-good : (ls : List Lexeme) (p : Place) → AreSound (punctuate p ls) → AreGood ls
unfolding punctuate
lexemes-good [] p h = tt
lexemes-good (token t ∷ ls) p h =
    let s = step_of p t (begins_colon ls) (λ n. punctuate n ls) h in
    (s.good, lexemes-good ls s.next (subst AreSound (s.is (λ n. punctuate n ls)) h).1)
lexemes-good (comma ∷ ls) fresh h = never h
lexemes-good (comma ∷ ls) after_value h = lexemes-good ls after_comma h
lexemes-good (comma ∷ ls) after_comma h = never h
lexemes-good (comma ∷ ls) after_key h = never h
lexemes-good (colon ∷ ls) fresh h = never h
lexemes-good (colon ∷ ls) after_value h = never h
lexemes-good (colon ∷ ls) after_comma h = never h
lexemes-good (colon ∷ ls) after_key h = lexemes-good ls fresh h

-- ---- behind a value

same_colon : (ls more : List Lexeme) → begins_colon more ≡ false → begins_colon (ls ++ more) ≡ begins_colon ls
same_colon [] more e = e
same_colon (token t ∷ ls) more e = refl
same_colon (comma ∷ ls) more e = refl
same_colon (colon ∷ ls) more e = refl

pub punctuate-append : (ls : List Lexeme) (p : Place) (c : Bool) → (c ≡ true → is_ended p ≡ true)
    → AreSound (punctuate p ls) → ends_from c (punctuate p ls) ≡ true
    → (more : List Lexeme) → begins_colon more ≡ false
    → punctuate p (ls ++ more) ≡ punctuate p ls ++ punctuate after_value more
unfolding punctuate
punctuate-append [] fresh c seed h e more apart = absurd (false≢true (seed e))
punctuate-append [] after_value c seed h e more apart = refl
punctuate-append [] after_comma c seed h e more apart = never h
punctuate-append [] after_key c seed h e more apart = never h
punctuate-append (token t ∷ ls) p c seed h e more apart =
    let s = step_of p t (begins_colon ls) (λ n. punctuate n ls) h in
    let whole = s.is (λ n. punctuate n ls) in
    let last : ends_from (ends s.given) (punctuate s.next ls) ≡ true = ap (ends_from c) (sym whole) ∙ e in
    ap (λ b. place_token p t b (λ n. punctuate n (ls ++ more))) (same_colon ls more apart)
    ∙ s.is (λ n. punctuate n (ls ++ more))
    ∙ ap (λ l. s.given ∷ l) (punctuate-append ls s.next (ends s.given) s.ended (subst AreSound whole h).1
    last more apart)
    ∙ ap (λ l. l ++ punctuate after_value more) (sym whole)
punctuate-append (comma ∷ ls) fresh c seed h e more apart = never h
punctuate-append (comma ∷ ls) after_value c seed h e more apart =
    punctuate-append ls after_comma c (λ x. refl) h e more apart
punctuate-append (comma ∷ ls) after_comma c seed h e more apart = never h
punctuate-append (comma ∷ ls) after_key c seed h e more apart = never h
punctuate-append (colon ∷ ls) fresh c seed h e more apart = never h
punctuate-append (colon ∷ ls) after_value c seed h e more apart = never h
punctuate-append (colon ∷ ls) after_comma c seed h e more apart = never h
punctuate-append (colon ∷ ls) after_key c seed h e more apart = punctuate-append ls fresh c seed h e more
    apart

-- ---- behind the name of a member

no_end : {P : Type 0} (ts : List Token) (t : Token) → [] ≡ ts ++ t ∷ [] → P
no_end ts t e = let no : ⊥ = omega (arith, ap length e, length-append ts (t ∷ [])) in absurd no

if_some : (b : Bool) (t : Token) (k : Place → List Token) (next : Place) → if_allowed b t k next ≡ [] → ⊥
if_some true t k next e = let no : ⊥ = omega (arith, ap length e) in no
if_some false t k next e = let no : ⊥ = omega (arith, ap length e) in no

token_some : (p : Place) (t : Token) (b : Bool) (k : Place → List Token) → place_token p t b k ≡ [] → ⊥
token_some p begin_object b k e = if_some (may_begin p) begin_object k fresh e
token_some p end_object b k e = if_some (may_close p) end_object k after_value e
token_some p begin_array b k e = if_some (may_begin p) begin_array k fresh e
token_some p end_array b k e = if_some (may_close p) end_array k after_value e
token_some p (key s) b k e = let no : ⊥ = omega (arith, ap length e) in no
token_some p (string s) true k e = if_some (may_begin p) (key s) k after_key e
token_some p (string s) false k e = if_some (may_begin p) (string s) k after_value e
token_some p (number s) b k e = if_some (may_begin p) (number s) k after_value e
token_some p (boolean v) b k e = if_some (may_begin p) (boolean v) k after_value e
token_some p null b k e = if_some (may_begin p) null k after_value e
token_some p bad b k e = let no : ⊥ = omega (arith, ap length e) in no

comma_some : (ls : List Lexeme) → punctuate after_comma ls ≡ [] → ⊥
unfolding punctuate
comma_some [] e = let no : ⊥ = omega (arith, ap length e) in no
comma_some (token t ∷ ls) e = token_some after_comma t (begins_colon ls) (λ n. punctuate n ls) e
comma_some (comma ∷ ls) e = let no : ⊥ = omega (arith, ap length e) in no
comma_some (colon ∷ ls) e = let no : ⊥ = omega (arith, ap length e) in no

no_lexemes : (ls : List Lexeme) → punctuate after_value ls ≡ [] → ls ≡ []
unfolding punctuate
no_lexemes [] e = refl
no_lexemes (token t ∷ ls) e = absurd (token_some after_value t (begins_colon ls) (λ n. punctuate n ls) e)
no_lexemes (comma ∷ ls) e = absurd (comma_some ls e)
no_lexemes (colon ∷ ls) e = let no : ⊥ = omega (arith, ap length e) in absurd no

-- some lexemes are left where a token is
colon_behind : (ls : List Lexeme) (p : Place) (ts : List Token) (t : Token) → AreSound (punctuate p ls)
    → punctuate p ls ≡ ts ++ t ∷ [] → (more : List Lexeme) → begins_colon (ls ++ colon ∷ more)
    ≡ begins_colon ls
unfolding punctuate
colon_behind [] fresh ts t h e more = no_end ts t e
colon_behind [] after_value ts t h e more = no_end ts t e
colon_behind [] after_comma ts t h e more = never h
colon_behind [] after_key ts t h e more = never h
colon_behind (token s ∷ ls) p ts t h e more = refl
colon_behind (comma ∷ ls) p ts t h e more = refl
colon_behind (colon ∷ ls) p ts t h e more = refl

abbrev tail : List Token → List Token
tail [] = []
tail (t ∷ ts) = ts

abbrev head : List Token → Token
head [] = bad
head (t ∷ ts) = t

pub punctuate-name : (ls : List Lexeme) (p : Place) (ts : List Token) (s : List ℕ) → AreSound (punctuate p ls)
    → punctuate p ls ≡ ts ++ string s ∷ [] → (more : List Lexeme)
    → punctuate p (ls ++ colon ∷ more) ≡ ts ++ key s ∷ punctuate fresh more
unfolding punctuate
punctuate-name [] fresh ts s h e more = no_end ts (string s) e
punctuate-name [] after_value ts s h e more = no_end ts (string s) e
punctuate-name [] after_comma ts s h e more = never h
punctuate-name [] after_key ts s h e more = never h
punctuate-name (token t ∷ ls) p [] s h e more =
    let x = step_of p t (begins_colon ls) (λ n. punctuate n ls) h in
    let both = sym (x.is (λ n. punctuate n ls)) ∙ e in
    let it = x.name s (ap head both) in
    let none : ls ≡ [] = no_lexemes ls (ap (λ n. punctuate n ls) (sym it.1) ∙ ap tail both) in
    ap (λ l. punctuate p (token t ∷ (l ++ colon ∷ more))) none ∙ it.2 (λ n. punctuate n (colon ∷ more))
punctuate-name (token t ∷ ls) p (u ∷ ts) s h e more =
    let x = step_of p t (begins_colon ls) (λ n. punctuate n ls) h in
    let whole = x.is (λ n. punctuate n ls) in
    let both = sym whole ∙ e in
    let sound = (subst AreSound whole h).1 in
    ap (λ b. place_token p t b (λ n. punctuate n (ls ++ colon ∷ more)))
    (colon_behind ls x.next ts (string s) sound (ap tail both) more)
    ∙ x.is (λ n. punctuate n (ls ++ colon ∷ more))
    ∙ ap₂ (λ a l. a ∷ l) (ap head both) (punctuate-name ls x.next ts s sound (ap tail both) more)
punctuate-name (comma ∷ ls) fresh ts s h e more = never h
punctuate-name (comma ∷ ls) after_value ts s h e more = punctuate-name ls after_comma ts s h e more
punctuate-name (comma ∷ ls) after_comma ts s h e more = never h
punctuate-name (comma ∷ ls) after_key ts s h e more = never h
punctuate-name (colon ∷ ls) fresh ts s h e more = never h
punctuate-name (colon ∷ ls) after_value ts s h e more = never h
punctuate-name (colon ∷ ls) after_comma ts s h e more = never h
punctuate-name (colon ∷ ls) after_key ts s h e more = punctuate-name ls fresh ts s h e more

-- ---- behind a comma, and before a closing bracket

begin_same : (t : Token) (b : Bool) (k : Place → List Token) → begins_first (place_token fresh t b k) ≡ true
    → place_token after_comma t b k ≡ place_token fresh t b k
begin_same begin_object b k e = refl
begin_same end_object b k e = absurd (false≢true e)
begin_same begin_array b k e = refl
begin_same end_array b k e = absurd (false≢true e)
begin_same (key s) b k e = refl
begin_same (string s) true k e = refl
begin_same (string s) false k e = refl
begin_same (number s) b k e = refl
begin_same (boolean v) b k e = refl
begin_same null b k e = refl
begin_same bad b k e = refl

pub punctuate-begin : (ls : List Lexeme) → begins_first (punctuate fresh ls) ≡ true
    → punctuate after_comma ls ≡ punctuate fresh ls
unfolding punctuate
punctuate-begin [] e = absurd (false≢true e)
punctuate-begin (token t ∷ ls) e = begin_same t (begins_colon ls) (λ n. punctuate n ls) e
punctuate-begin (comma ∷ ls) e = refl
punctuate-begin (colon ∷ ls) e = refl

pub no_colon : (ls : List Lexeme) → AreSound (punctuate after_value ls) → begins_colon ls ≡ false
unfolding punctuate
no_colon [] h = refl
no_colon (token t ∷ ls) h = refl
no_colon (comma ∷ ls) h = refl
no_colon (colon ∷ ls) h = never h
