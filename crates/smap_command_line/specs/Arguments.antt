-- The arguments of `smap-trace`, as far as their texts say what they are.
use Rattle.std.specs.Prelude.{◌≡◌, ◌==◌, ◌&&◌, ◌||◌, ℕ, Bool, true, false, not, List, take}
use Rattle.std.specs.Prelude.{Option, Some, None, is_none, is_some, slice_get, if◌then◌else◌}
use Rattle.std.specs.List.{list_all, list_any}
use Rattle.std.specs.Option.{option_map_or}
use Rattle.clap.specs.Words.{Text}
use Rattle.smap_link.specs.Urls.{is_path}
use Rattle.smap_command_line.specs.Values.{is_nothing, parted}
use Rattle.smap_command_line.specs.declared.trace.arguments.Argument.{Argument}
use Rattle.smap_command_line.specs.declared.trace.arguments.Argument.TheVariants.{Path, Place}
use Rattle.smap_command_line.specs.declared.trace.arguments.ArgumentFault.{ArgumentFault}
use Rattle.smap_command_line.specs.declared.trace.arguments.ArgumentFault.TheVariants as fault

-- ---- an argument

-- something without a line feed (10), and but in an absolute path without a space (32), as the URL of a
-- script is in a log
abbrev pub can_be_url : Text → Bool
can_be_url text = not (is_nothing text) && not (list_any (λ b. b == 10) text)
    && (is_path text || not (list_any (λ b. b == 32) text))

-- what is wrong with URL=FILE, whatever names of files there are: both need to be there
abbrev pub place_fault : Text × Text → Option ArgumentFault
place_fault p =
    if not (can_be_url p.0) then Some fault.Url else (if is_nothing p.1 then Some fault.File else None)

-- what is wrong with a word without a `=`
abbrev pub path_fault : Text → Option ArgumentFault
path_fault word = if is_nothing word then Some fault.Empty else None

abbrev pub argument_fault : Text → Option ArgumentFault
argument_fault word = option_map_or place_fault (parted word) (path_fault word)

abbrev pub is_argument : Text → Bool
is_argument word = is_none (argument_fault word)

-- A word with a `=` is a place, and any other a path.
abbrev pub argument_meant : Text → Bool × Text
argument_meant word = (is_some (parted word), word)

abbrev pub argument_view : Argument → Bool × Text
argument_view (Place word) = (true, word.now)
argument_view (Path word) = (false, word.now)

-- ---- the first of several that is wrong

-- This text has this place, and is the first that doesn't pass.
abbrev pub IsFirstFailing : (Text → Bool) → List Text → ℕ → Text → Type 0
IsFirstFailing test texts place text =
    (slice_get texts place ≡ Some text) × (test text ≡ false) × (list_all test (take place texts) ≡ true)
