-- The URL of a script's map, by the URL Standard.
use Rattle.std.specs.Prelude.{ℕ, ◌&&◌, List, cond, Result, Ok, Err, None, Some}
use Rattle.std.specs.Str.{is_utf8}
use Rattle.url.specs.Parser.{Parsed, parse_url}
use Rattle.url.specs.Parts.{Parts, serialize}
use Rattle.url.specs.declared.error.ParseError.{ParseError}
use Rattle.url.specs.declared.error.ParseError.TheVariants as parser
use Rattle.smap_link.specs.Alike.{own_url}
use Rattle.smap_link.specs.declared.resolve.LinkFault.{LinkFault}
use Rattle.smap_link.specs.declared.resolve.LinkFault.TheVariants as kind

-- the fault, but Memory if the parser had no room
abbrev pub unless_no_room : ParseError → LinkFault → LinkFault
unless_no_room parser.OutOfMemory fault = kind.Memory
unless_no_room parser.Overflow fault = kind.Memory
unless_no_room e fault = fault

abbrev pub text_of : Parsed Parts → Result (List ℕ) LinkFault
text_of (Ok url) = Ok (serialize url)
text_of (Err e) = Err kind.NotUrl

abbrev pub joined : Parsed Parts → List ℕ → Result (List ℕ) LinkFault
joined (Ok base) url = text_of (parse_url (Some base) url)
joined (Err e) url = Err kind.NoBase

-- the URL that a text stands for, seen from a URL
abbrev pub resolved_from : List ℕ → List ℕ → Result (List ℕ) LinkFault
resolved_from base url = cond (is_utf8 base && is_utf8 url) (joined (parse_url None base) url)
    (Err kind.NotUtf8)

-- The URL of the map of a script, which names it so.
abbrev pub resolved : List ℕ → List ℕ → Result (List ℕ) LinkFault
resolved script url = cond (is_utf8 script) (resolved_from (own_url script) url) (Err kind.NotUtf8)
