-- A map inside the comment of its script: the Fetch Standard's data: URL processor, and the forgiving-base64
-- decode of the Infra Standard.
use Rattle.std.specs.Prelude.{◌≡◌, ℕ, ◌+◌, ◌-◌, ◌%◌, ◌==◌, Bool, true, false, not, min, nat_eq, nat_lt, ◌||◌}
use Rattle.std.specs.Prelude.{◌&&◌, List, length, take, drop, codes, cond, map}
use Rattle.std.specs.Prelude.{Option, Some, None, Result, Ok, Err}
use Rattle.std.specs.List.{ends_with, filter, prefix_len, suffix_len}
use Rattle.std.specs.Str.{bytes_eq}
use Rattle.std.specs.Char.{to_ascii_lowercase}
use Rattle.percent_encoding.specs.Percent.{percent_decode}
use Rattle.base64.specs.GeneralPurpose.{IsConfig, decode_of, engine_config, engine_padding, engine_symbols}
use Rattle.base64.specs.Engines.{standard}
use Rattle.base64.specs.declared.decode.DecodeError.{DecodeError}
use Rattle.base64.specs.declared.engine.general_purpose.GeneralPurpose.{GeneralPurpose}
use Rattle.base64.specs.declared.engine.DecodePaddingMode.TheVariants.{RequireNone}
use Rattle.smap_link.specs.declared.inline.InlineFault.{InlineFault}
use Rattle.smap_link.specs.declared.inline.InlineFault.TheVariants as fault

-- tab, line feed, form feed, carriage return, space
abbrev pub is_ascii_white : ℕ → Bool
is_ascii_white b = b == 9 || b == 10 || b == 12 || b == 13 || b == 32

-- the same but for the case of ASCII letters
abbrev pub same_word : List ℕ → List ℕ → Bool
same_word a b = bytes_eq (map to_ascii_lowercase a) (map to_ascii_lowercase b)

-- ---- base64

-- how often this byte stands at the end
abbrev pub count_at_end : List ℕ → ℕ → ℕ
count_at_end text byte = suffix_len (λ b. b == byte) text

-- one or two `=` at the end of whole groups of four are left out
abbrev pub unpadded : List ℕ → List ℕ
unpadded text = take (length text - cond (length text % 4 == 0) (min 2 (count_at_end text 61)) 0) text

-- The standard alphabet, no padding, and bits that are left over at the end aren't looked at.
abbrev pub IsForgiving : GeneralPurpose → Type 0
IsForgiving e = (engine_symbols e ≡ engine_symbols standard) × (engine_padding e ≡ engine_padding standard)
    × IsConfig (engine_config e) false true RequireNone

abbrev pub unless_faulty : Result (List ℕ) DecodeError → Result (List ℕ) InlineFault
unless_faulty (Ok bytes) = Ok bytes
unless_faulty (Err error) = Err fault.Base64

abbrev pub decoded : GeneralPurpose → List ℕ → Result (List ℕ) InlineFault
decoded e text = unless_faulty (decode_of e (unpadded text))

-- white space is left out
abbrev pub forgiving_decode : GeneralPurpose → List ℕ → Result (List ℕ) InlineFault
forgiving_decode e text = decoded e (filter (λ b. not (is_ascii_white b)) text)

-- ---- the URL

-- where the first comma is, or the length
abbrev pub comma : List ℕ → ℕ
comma text = prefix_len (λ b. not (b == 44)) text

-- where the fragment begins, or the length
abbrev pub fragment : List ℕ → ℕ
fragment url = prefix_len (λ b. not (b == 35)) url

abbrev pub without_fragment : List ℕ → List ℕ
without_fragment url = take (fragment url) url

abbrev pub without_white_end : List ℕ → List ℕ
without_white_end text = take (length text - suffix_len is_ascii_white text) text

abbrev pub without_spaces_end : List ℕ → List ℕ
without_spaces_end text = take (length text - count_at_end text 32) text

abbrev pub ends_in_base64 : List ℕ → Bool
ends_in_base64 text = same_word (drop (length text - 6) text) (codes "base64")
    && ends_with nat_eq (without_spaces_end (take (length text - 6) text)) (codes ";")

-- the MIME type ends in `;`, spaces and `base64`
abbrev pub is_base64 : List ℕ → Bool
is_base64 mime_type = ends_in_base64 (without_white_end mime_type)

abbrev pub body_of : GeneralPurpose → Bool → List ℕ → Result (List ℕ) InlineFault
body_of e true body = forgiving_decode e body
body_of e false body = Ok body

-- what follows `data:`
abbrev pub of_data : GeneralPurpose → List ℕ → Result (List ℕ) InlineFault
of_data e rest = cond (nat_lt (comma rest) (length rest))
    (body_of e (is_base64 (take (comma rest) rest)) (percent_decode (drop (comma rest + 1) rest)))
    (Err fault.Form)

abbrev pub is_data : List ℕ → Bool
is_data url = same_word (take 5 url) (codes "data:")

-- the bytes that a data: URL holds
abbrev pub data_of : GeneralPurpose → List ℕ → Result (List ℕ) InlineFault
data_of e url = of_data e (without_fragment (drop 5 url))

abbrev pub some_map : Result (List ℕ) InlineFault → Result (Option (List ℕ)) InlineFault
some_map (Ok bytes) = Ok (Some bytes)
some_map (Err e) = Err e

-- The map that the URL holds, if it is a data: URL.
abbrev pub inline_map : GeneralPurpose → List ℕ → Result (Option (List ℕ)) InlineFault
inline_map e url = cond (is_data url) (some_map (data_of e url)) (Ok None)
