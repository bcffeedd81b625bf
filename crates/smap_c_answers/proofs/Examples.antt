-- Known answers, computed by the definitions.
use Rattle.std.proofs.Common.{◌≡◌, ℕ, List, [], ◌∷◌, Some, None, refl}
use Rattle.std.specs.Prelude.{codes}
use Rattle.smap_vlq.specs.Number.{digit_byte, shortest_digits, spelling}
use Rattle.smap_mappings.specs.Text.{mappings_text}
use Rattle.smap_c_answers.specs.declared.spelling.MappingNumbers.{MappingNumbers}
use Rattle.smap_c_answers.specs.Spelling.{first_wrong, no_number, spelled}

abbrev mapping : ℕ → ℕ → ℕ → ℕ → ℕ → ℕ → MappingNumbers
mapping line column source source_line source_column name = record {
  line = line;
  column = column;
  source = source;
  source_line = source_line;
  source_column = source_column;
  name = name;
}

abbrev mappings : List MappingNumbers
mappings = mapping 1 4 1 0 0 no_number ∷ mapping 0 0 0 2 1 0 ∷ mapping 1 4 0 5 0 no_number
    ∷ mapping 6 2 no_number no_number no_number no_number ∷ []

sorted : spelled mappings ≡ codes "AAECA;ICFD,ADKA;;;;;E"
unfolding digit_byte shortest_digits spelling mappings_text
sorted = refl

none_wrong : first_wrong mappings ≡ None
none_wrong = refl

wrong_line : first_wrong (mapping 16777215 0 0 0 0 0 ∷ mapping 16777216 0 0 0 0 0 ∷ []) ≡ Some 1
wrong_line = refl

wrong_column : first_wrong (mapping 0 2147483647 0 0 0 0 ∷ mapping 0 2147483648 0 0 0 0 ∷ []) ≡ Some 1
wrong_column = refl

no_column : first_wrong (mapping 0 no_number 0 0 0 0 ∷ []) ≡ Some 0
no_column = refl

half_an_original : first_wrong (mapping 0 0 no_number no_number 0 no_number ∷ []) ≡ Some 0
half_an_original = refl

name_alone : first_wrong (mapping 0 0 no_number no_number no_number 0 ∷ []) ≡ Some 0
name_alone = refl

no_original_column : first_wrong (mapping 0 0 0 0 no_number no_number ∷ []) ≡ Some 0
no_original_column = refl
