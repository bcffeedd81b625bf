-- What the options of a command line are, by what its matches have.
use Rattle.std.specs.Prelude.{◌&&◌, ℕ, ◌^◌, Bool, false, List, [], Option, Some, None, codes, length}
use Rattle.std.specs.Prelude.{nat_lt, option_and_then, unwrap_or, if◌then◌else◌}
use Rattle.std.specs.Char.{digit_value}
use Rattle.std.specs.List.{list_all}
use Rattle.std.specs.Str.{bytes_eq}
use Rattle.std.specs.Str.Parse.{digits_value, without_leading_plus}
use Rattle.clap.specs.Words.{Row, Text, all_of, first_of, found_of, one_of, rows_of}
use Rattle.smap_command_line.specs.declared.lookups.Options.{Options}

abbrev pub rows_in : Options → List Row
rows_in options = rows_of (found_of options.matches)

-- ---- flags

abbrev pub is_true : Option Text → Bool
is_true None = false
is_true (Some text) = bytes_eq text (codes "true")

abbrev pub is_set : Text → List Row → Bool
is_set name rows = is_true (one_of name rows)

-- ---- values

-- those of all uses, in the order of the words
abbrev pub values_of : Text → List Row → List Text
values_of name rows = unwrap_or (all_of name rows) []

abbrev pub is_digits : Text → Bool
is_digits text = nat_lt 0 (length text) && list_all (λ b. nat_lt (digit_value b) 10) text

-- the number that decimal digits write, after a plus sign or without, if so many bits hold it
abbrev pub number_in : ℕ → Text → Option ℕ
number_in bits text =
    if is_digits (without_leading_plus text)
    && nat_lt (digits_value 10 (without_leading_plus text)) (2 ^ bits)
    then Some (digits_value 10 (without_leading_plus text)) else None

abbrev pub number_of : ℕ → Text → List Row → Option ℕ
number_of bits name rows = option_and_then (number_in bits) (first_of name rows)

-- how many bytes the URLs of a map's sources may take: 2^26, which are 64 MiB, where nothing is said
abbrev pub url_bytes_of : List Row → ℕ
url_bytes_of rows = unwrap_or (number_of 64 (codes "url-bytes") rows) 67108864

-- ---- the same, of what is looked up in

abbrev pub has : Options → Text → Bool
has options name = is_set name (rows_in options)

abbrev pub text : Options → Text → Option Text
text options name = first_of name (rows_in options)

abbrev pub number : Options → Text → Option ℕ
number options name = number_of 32 name (rows_in options)

abbrev pub url_bytes : Options → ℕ
url_bytes options = url_bytes_of (rows_in options)
