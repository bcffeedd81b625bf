-- What the value of an option has to be.
use Rattle.std.specs.Prelude.{◌==◌, ◌&&◌, ℕ, Bool, true, not, List, [], ◌∷◌, length, Option, Some, None}
use Rattle.std.specs.Prelude.{nat_le, nat_lt, option_map, false, unwrap_or, if◌then◌else◌}
use Rattle.std.specs.List.{after_first, before_first, find, list_any, position_or_len}
use Rattle.std.specs.Option.{option_map_or, option_or}
use Rattle.std.specs.Str.{bytes_eq}
use Rattle.clap.specs.Words.{Row, Text}
use Rattle.smap_command_line.specs.Lookups.{number_in, values_of}
use Rattle.smap_command_line.specs.Rows.{Constant, OptionRow}
use Rattle.smap_command_line.specs.declared.pairs.Pair.{Pair}
use Rattle.smap_command_line.specs.declared.rows.TheConstants.{FORMATS, LEVELS, SIZES}
use Rattle.smap_command_line.specs.declared.rows.Value.{Value}
use Rattle.smap_command_line.specs.declared.rows.Value.TheVariants as value

abbrev pub is_nothing : Text → Bool
is_nothing text = length text == 0

-- ---- around the first `=` (61) of a text

abbrev pub is_equals : ℕ → Bool
is_equals b = b == 61

abbrev pub has_equals : Text → Bool
has_equals text = nat_lt (position_or_len is_equals text) (length text)

abbrev pub before_equals : Text → Text
before_equals text = before_first is_equals text

abbrev pub after_equals : Text → Text
after_equals text = after_first is_equals text

-- both, if there is one
abbrev pub parted : Text → Option (Text × Text)
parted text = if has_equals text then Some (before_equals text, after_equals text) else None

-- Something stands before it.
abbrev pub has_key : Text × Text → Bool
has_key p = not (is_nothing p.0)

-- KEY=TEXT, of which TEXT may be empty and may hold a `=`
abbrev pub pair_meant : Text → Text × Text
pair_meant word = unwrap_or (parted word) (word, [])

abbrev pub pair_view : Pair → Text × Text
pair_view p = (p.key.now, p.text.now)

-- ---- one value

abbrev pub is_among : {T : Type 0} → (T → Text) → List T → Text → Bool
is_among view words text = list_any (λ w. bytes_eq (view w) text) words

abbrev pub is_one_of : List Constant → Text → Bool
is_one_of words text = is_among (λ w. w.now) words text

abbrev pub is_up_to : ℕ → Text → Bool
is_up_to most text = option_map_or (λ n. nat_le n most) (number_in 64 text) false

abbrev pub is_value : Value → Text → Bool
is_value value.Flag text = true
is_value value.Text text = true
is_value value.File text = not (is_nothing text)
is_value (value.Number most) text = is_up_to most text
is_value value.Format text = is_one_of FORMATS text
is_value value.Sizes text = is_one_of SIZES text
is_value value.Pair text = option_map_or has_key (parted text) false
is_value value.Level text = option_map_or (λ p. has_key p && is_one_of LEVELS p.1) (parted text) false

-- ---- the first that is wrong, of the options in the order of their table, and of several values of one in
-- the order of the words

abbrev pub bad_among : Value → List Text → Option Text
bad_among v texts = find (λ t. not (is_value v t)) texts

abbrev pub bad_of : List Row → OptionRow → Option (OptionRow × Text)
bad_of rows o = option_map (λ t. (o, t)) (bad_among o.value (values_of o.name rows))

abbrev pub first_bad : List OptionRow → List Row → Option (OptionRow × Text)
first_bad [] rows = None
first_bad (o ∷ os) rows = option_or (bad_of rows o) (first_bad os rows)
