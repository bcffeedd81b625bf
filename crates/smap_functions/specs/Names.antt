-- names of functions, and the languages that have them
use Rattle.std.specs.Prelude.{ℕ, ◌==◌, ◌||◌, Bool, nat_eq, if◌then◌else◌, List, take, codes, IsTrue, IfSome}
use Rattle.std.specs.Prelude.{Option, None, Some, ◌&&◌, length, nat_le, option_and_then, option_copied}
use Rattle.std.specs.Prelude.{option_map, slice_range}
use Rattle.smap_functions.specs.declared.found.Function.{Function}
use Rattle.smap_functions.specs.declared.found.Span.{Span}
use Rattle.std.specs.List.{ends_with, position_or_len}
use Rattle.smap_functions.specs.Words.{is_word}
use Rattle.smap_functions.specs.declared.listing.Language.{Language}
use Rattle.smap_functions.specs.declared.listing.Language.TheVariants.{JavaScript, TypeScript}
use Rattle.smap_functions.specs.declared.renaming.Name.{Name}

-- a name is a word, and so is that of its class
abbrev pub IsName : Name → Type 0
IsName name = IsTrue (is_word name.word.now) × IfSome name.class (λ class. IsTrue (is_word class.now))

-- the words of a name
abbrev pub words_of : Name → List ℕ × Option (List ℕ)
words_of name = (name.word.now, option_copied name.class)

-- the word of a text that stands there
abbrev pub word_in : List ℕ → Span → Option (List ℕ)
word_in text s = if nat_le s.start s.end && (nat_le s.end (length text)
    && is_word (slice_range text s.start s.end)) then Some (slice_range text s.start s.end) else None

-- the words of the name of a function of a text, if it has one
abbrev pub name_of : List ℕ → Function → Option (List ℕ × Option (List ℕ))
name_of text f = option_map (λ word. (word, option_and_then (word_in text) f.owner))
    (option_and_then (word_in text) f.name)

-- how many bytes of a URL are before its query and its fragment
abbrev pub path_len : List ℕ → ℕ
path_len url = position_or_len (λ b. b == 63 || b == 35) url

abbrev pub ends : List ℕ → List ℕ → Bool
ends path end = ends_with nat_eq path end

-- the language of a source by the end of its URL
abbrev pub language_of : List ℕ → Option Language
language_of url = let path = take (path_len url) url in
    if ends path (codes ".ts") || (ends path (codes ".mts") || ends path (codes ".cts")) then Some TypeScript
    else if ends path (codes ".js") || ((ends path (codes ".mjs") || ends path (codes ".cjs"))
    || (ends path (codes ".jsx") || ends path (codes ".tsx"))) then Some JavaScript else None
