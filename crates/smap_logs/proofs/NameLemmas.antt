-- The name of a file, read byte for byte.
use Rattle.std.proofs.Common.{◌≡◌, ℕ, ◌+◌, ◌<◌, ◌==◌, ◌&&◌, ◌||◌, Bool, true, false, cond, List, [], ◌∷◌}
use Rattle.std.proofs.Common.{◌++◌, length, drop, get_or, refl, ap, sym, ◌∙◌, arith, add-one, drop-cons}
use Rattle.std.specs.Char.{is_ascii_alphabetic}
use Rattle.std.specs.List.{list_any}
use Rattle.std.proofs.lemmas.Bool.Decides.{nat_tests}
use Rattle.std.proofs.lemmas.List.Folds.{list_any-append}
use Rattle.smap_logs.specs.Looking.{begins_with_place, ends_name, holds_position, holds_position_behind}
use Rattle.smap_logs.specs.Looking.{is_mark, name_in, name_with, names_file, with_letter, with_mark}
use Rattle.smap_logs.specs.declared.looking.Name.{Name}
use Rattle.smap_logs.specs.declared.looking.Name.TheVariants.{Nothing, Mark, Letter}

or-false : (a : Bool) → (a || false) ≡ a
or-false true = refl
or-false false = refl

cond-false : (m : Bool) → cond m false false ≡ false
cond-false true = refl
cond-false false = refl

one_byte_more : (m la nf mk al la' nf' : Bool) → la' ≡ (la || (al || false)) → nf' ≡ (nf || (mk && al))
    → cond m la' nf' ≡ (cond m la nf || ((m || mk) && al))
one_byte_more true la nf mk al la' nf' e f = e ∙ ap (λ (x : Bool). la || x) (or-false al)
one_byte_more false la nf mk al la' nf' e f = f

names_more : (read : List ℕ) (b : ℕ)
    → names_file (read ++ b ∷ []) ≡ (names_file read || (list_any is_mark read && is_ascii_alphabetic b))
names_more [] b = cond-false (is_mark b)
names_more (x ∷ xs) b =
    one_byte_more (is_mark x) (list_any is_ascii_alphabetic xs) (names_file xs) (list_any is_mark xs)
    (is_ascii_alphabetic b) (list_any is_ascii_alphabetic (xs ++ b ∷ [])) (names_file (xs ++ b ∷ []))
    (list_any-append is_ascii_alphabetic xs (b ∷ [])) (names_more xs b)

marks_more : (read : List ℕ) (b : ℕ)
    → list_any is_mark (read ++ b ∷ []) ≡ (list_any is_mark read || is_mark b)
marks_more read b =
    list_any-append is_mark read (b ∷ [])
    ∙ ap (λ (x : Bool). list_any is_mark read || x) (or-false (is_mark b))

no_letter : (b : ℕ) → is_mark b ≡ true → is_ascii_alphabetic b ≡ false
no_letter b h = grind (arith, nat_tests)

abbrev read_in : Bool → Bool → Name
read_in names marks = cond names Letter (cond marks Mark Nothing)

step_is : (n k m a : Bool) → (m ≡ true → a ≡ false)
    → cond m (with_mark (read_in n k)) (cond a (with_letter (read_in n k)) (read_in n k))
    ≡ read_in (n || (k && a)) (k || m)
step_is true k true a h = refl
step_is true k false true h = refl
step_is true k false false h = refl
step_is false true true a h = rw (h refl) refl
step_is false true false true h = refl
step_is false true false false h = refl
step_is false false true a h = refl
step_is false false false true h = refl
step_is false false false false h = refl

ended_or_more : (e : Bool) (name : Name) (bytes : List ℕ) → name ≡ name_in bytes
    → cond e Nothing name ≡ name_in (cond e [] bytes)
ended_or_more true name bytes is = refl
ended_or_more false name bytes is = is

pub name_more : (read : List ℕ) (b : ℕ)
    → name_with (name_in read) b ≡ name_in (cond (ends_name b) [] (read ++ b ∷ []))
name_more read b =
    let step =
    step_is (names_file read) (list_any is_mark read) (is_mark b) (is_ascii_alphabetic b) (no_letter b) in
    let names = ap (λ (n : Bool). read_in n (list_any is_mark read || is_mark b)) (sym (names_more read b)) in
    let marks = ap (λ (k : Bool). read_in (names_file (read ++ b ∷ [])) k) (sym (marks_more read b)) in
    ended_or_more (ends_name b) _ (read ++ b ∷ []) (step ∙ names ∙ marks)

pub one_more_byte : (line read behind : List ℕ) (at : ℕ) → at < length line
    → behind ≡ drop (at + 1) line
    → (get_or line at 0 == 58 && names_file read && begins_with_place behind) ≡ false
    → holds_position line ≡ holds_position_behind read (drop at line)
    → holds_position line
    ≡ holds_position_behind (cond (ends_name (get_or line at 0)) [] (read ++ get_or line at 0 ∷ []))
    (drop (at + 1) line)
one_more_byte line read behind at low rest none all =
    let cut : drop at line ≡ get_or line at 0 ∷ drop (at + 1) line = rw add-one (drop-cons line at 0 low) in
    let more = cond (ends_name (get_or line at 0)) [] (read ++ get_or line at 0 ∷ []) in
    all ∙ ap (λ (bytes : List ℕ). holds_position_behind read bytes) cut
    ∙ ap (λ (x : Bool). x || holds_position_behind more (drop (at + 1) line))
    (rw rest at none)
