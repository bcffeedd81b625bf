-- Known answers, computed by the definitions.
use Rattle.std.proofs.Common.{◌≡◌, ℕ, List, [], ◌∷◌, Option, Some, None, Bool, true, false, refl}
use Rattle.std.specs.Prelude.{codes}
use Rattle.std.specs.Str.{chars}
use Rattle.smap_mappings.specs.declared.token.Token.{Token}
use Rattle.smap_mappings.specs.declared.token.Original.{Original}
use Rattle.smap_record.specs.Record.{Entry, Mapping, ReadMap, no_labels, distinct, Record}
use Rattle.smap_view_page.specs.Steps.{first, all_numbers}
use Rattle.smap_view_page.specs.Places.{places}
use Rattle.smap_view_page.specs.Trees.{ignored}
use Rattle.smap_view_page.specs.Owners.{mapping_counts}
use Rattle.smap_view_page.specs.Bytes.{byte_counts}

abbrev named : List ℕ → Bool → Entry
named url is_ignored = record { url = Some url; content = None; ignored = is_ignored }

abbrev a : Entry
a = named (codes "a") false

abbrev b : Entry
b = named (codes "b") true

abbrev original : ℕ → ℕ → ℕ → Option ℕ → Original
original source line column name = record { source = source; line = line; column = column; name = name }

abbrev token : ℕ → ℕ → Option Original → Token
token line column o = record { line = line; column = column; original = o }

-- The first source is listed again as the third, and the last of three mappings is of that.
abbrev twice : ReadMap
twice = record {
  labels = no_labels;
  listing = record {
    sources = a ∷ b ∷ a ∷ [];
    names = codes "f" ∷ [];
    tokens = token 0 0 (Some (original 1 1 2 None)) ∷ token 0 2 None
        ∷ token 2 1 (Some (original 2 0 0 (Some 0))) ∷ [];
  };
}

-- 2 * 1, 2 * 1, 2 * 2; 4 * 2; a line step of 4 * 2 + 3; 4 * 1 + 2, -1, -1, -2, 0
numbers_of_twice : all_numbers first (places twice)
    ≡ 1 ∷ 2 ∷ 2 ∷ 4 ∷ 8 ∷ 11 ∷ 6 ∷ 1 ∷ 1 ∷ 3 ∷ 0 ∷ []
unfolding distinct
numbers_of_twice = refl

ignored_of_two : ignored (a ∷ b ∷ []) ≡ 1 ∷ []
ignored_of_two = refl

abbrev of_source : Entry → Mapping
of_source e = record {
  line = 0;
  column = 0;
  origin = Some (record { source = e; line = 0; column = 0; name = None });
}

abbrev of_none : Mapping
of_none = record { line = 0; column = 0; origin = None }

counts_of_three : mapping_counts (record {
  labels = no_labels;
  sources = a ∷ b ∷ [];
  mappings = of_source b ∷ of_none ∷ of_source b ∷ [];
}) ≡ 0 ∷ 2 ∷ 1 ∷ []
counts_of_three = refl

-- Two lines of three mappings: of `a`, of no source, and of `a`.
abbrev of_two_lines : Record
of_two_lines = record {
  labels = no_labels;
  sources = a ∷ [];
  mappings = of_source a
      ∷ record { line = 0; column = 2; origin = None }
      ∷ record {
        line = 2;
        column = 1;
        origin = Some (record { source = a; line = 0; column = 0; name = None });
      }
      ∷ [];
}

-- A mark, `ab`, a face, CR LF, `xy`, LS, `z`, an e with its accent, LF: the mark, `xy`, LS and `z` have no
-- mapping, and the face, CR and LF no source.
bytes_of_two_lines : byte_counts of_two_lines (239 ∷ 187 ∷ 191 ∷ 97 ∷ 98 ∷ 240 ∷ 159 ∷ 153 ∷ 130 ∷ 13 ∷ 10
    ∷ 120 ∷ 121 ∷ 226 ∷ 128 ∷ 168 ∷ 122 ∷ 195 ∷ 169 ∷ 10 ∷ []) ≡ 5 ∷ 6 ∷ 9 ∷ []
unfolding chars
bytes_of_two_lines = refl
