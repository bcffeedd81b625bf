-- The URL of a source (ECMA-426, "Source map format"; URL Standard). This project's own rules, where
-- ECMA-426 cuts `sourceRoot` after its last slash: the prefix is all of `sourceRoot`, with a slash at its
-- end, and none if it is empty; and the URL must resolve to itself.
use Rattle.std.specs.Prelude.{ℕ, ◌-◌, ◌==◌, Bool, List, [], ◌++◌, length, slice_index, codes, bytes_eq}
use Rattle.std.specs.Prelude.{Option, Some, None, Ok, Err, if◌then◌else◌}
use Rattle.std.specs.Option.{option_eq}
use Rattle.url.specs.Input.{is_empty}
use Rattle.url.specs.Parts.{Parts, serialize}
use Rattle.url.specs.Parser.{Parsed, parse_url}
use Rattle.url.specs.Ascii.{slash}

-- The prefix: empty if `sourceRoot` is absent or empty; else `sourceRoot`, with a slash at its end.
abbrev pub prefix_of : Option (List ℕ) → List ℕ
prefix_of None = []
prefix_of (Some root) =
    if is_empty root then []
    else (if slice_index root (length root - 1) == slash then root else root ++ codes "/")

-- the URL as a string, if there is one
abbrev pub text_of : Parsed Parts → Option (List ℕ)
text_of (Ok url) = Some (serialize url)
text_of (Err e) = None

-- what a source resolves to
pub data Resolved : Type 0 where
  no_url : Resolved
  unstable : Resolved
  resolved : List ℕ → Resolved

-- The URL, resolved against the base again, is itself.
abbrev pub is_stable : Parts → List ℕ → Bool
is_stable base text = option_eq bytes_eq (text_of (parse_url (Some base) text)) (Some text)

-- the URL, if it resolves to itself
abbrev pub if_stable : Parts → Option (List ℕ) → Resolved
if_stable base None = no_url
if_stable base (Some text) = if is_stable base text then resolved text else unstable

-- The URL that the URL Standard's parser gives for prefix and source, against the base. The prefix goes
-- before absolute sources too.
unfoldable pub resolve : Parts → Option (List ℕ) → List ℕ → Resolved
resolve base root source = if_stable base (text_of (parse_url (Some base) (prefix_of root ++ source)))
