-- Tokens of mappings' numbers can be written, in the arrangement too.
use Rattle.std.proofs.Common.{◌≡◌, true, false, not, Bool, List, [], ◌∷◌, None, map, arith}
use Rattle.std.specs.List.{AllByRecursion, position}
use Rattle.std.proofs.lemmas.Bool.{cond_both}
use Rattle.std.proofs.lemmas.Bool.Decides.{nat_tests}
use Rattle.std.proofs.lemmas.Grind.{common_steps}
use Rattle.smap_mappings.specs.declared.token.Token.{Token}
use Rattle.smap_mappings.specs.Position.{is_before, position_of}
use Rattle.smap_mappings.specs.Arrangement.{arranged, insert_token}
use Rattle.smap_mappings.specs.Text.{IsEncodable, IsPlaced}
use Rattle.smap_mappings.proofs.ArrangementLemmas.{is_arranged}
use Rattle.smap_c_answers.specs.declared.spelling.MappingNumbers.{MappingNumbers}
use Rattle.smap_c_answers.specs.Spelling.{first_wrong, is_mapping, token_of}

-- the token of a mapping's numbers can be written
placed : (m : MappingNumbers) → is_mapping m ≡ true → IsPlaced (token_of m)
placed m e = grind (arith, nat_tests)

none_first : {X : Type 0} (p : X → Bool) (x : X) (xs : List X) → position p (x ∷ xs) ≡ None
    → (p x ≡ false) × (position p xs ≡ None)
none_first p x xs e = grind (arith, common_steps)

all_placed : (ms : List MappingNumbers) → first_wrong ms ≡ None
    → AllByRecursion IsPlaced (map token_of ms)
all_placed [] e = tt
all_placed (m ∷ ms) e =
    let h = none_first (λ m. not (is_mapping m)) m ms e in
    (placed m (grind arith), all_placed ms h.1)

-- ---- arranged

inserted_placed : (t : Token) (us : List Token) → IsPlaced t → AllByRecursion IsPlaced us
    → AllByRecursion IsPlaced (insert_token t us)
inserted_placed t [] p all = (p, tt)
inserted_placed t (u ∷ us) p all =
    cond_both (is_before (position_of u) (position_of t)) (u ∷ insert_token t us) (t ∷ u ∷ us)
    (AllByRecursion IsPlaced) (λ _. (all.0, inserted_placed t us p all.1)) (λ _. (p, all))

arranged_placed : (ts : List Token) → AllByRecursion IsPlaced ts → AllByRecursion IsPlaced (arranged ts)
arranged_placed [] all = tt
arranged_placed (t ∷ ts) all = inserted_placed t (arranged ts) all.0 (arranged_placed ts all.1)

pub arranged_encodable : (ms : List MappingNumbers) → first_wrong ms ≡ None
    → IsEncodable (arranged (map token_of ms))
arranged_encodable ms e =
    let ts = map token_of ms in
    ((is_arranged ts).in_order, arranged_placed ts (all_placed ms e))
