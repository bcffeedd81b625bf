-- How characters are written where they stand for something else.
use Rattle.std.specs.Prelude.{ℕ, ◌==◌, cond, List, chars, codes, encode_utf8, Option, Some, None}
use Rattle.std.specs.List.{flat_map}
use Rattle.std.specs.Option.{option_map_or}
use Rattle.serde_json.specs.Data.{Data as Json}
use Rattle.serde_json.specs.Written.{compact_text}
use Rattle.smap_system.specs.Printing.{printable}
use Rattle.smap_report.specs.declared.escapes.Place.{Place}
use Rattle.smap_report.specs.declared.escapes.Place.TheVariants.{Data, Property, Xml}

-- The message of a workflow command: `escapeData` of GitHub's toolkit.
abbrev pub data_escape : ℕ → Option (List ℕ)
data_escape c = cond (c == 37) (Some (codes "%25"))
    (cond (c == 13) (Some (codes "%0D")) (cond (c == 10) (Some (codes "%0A")) None))

-- A property of a workflow command: `escapeProperty` of GitHub's toolkit.
abbrev pub property_escape : ℕ → Option (List ℕ)
property_escape c = cond (c == 58) (Some (codes "%3A"))
    (cond (c == 44) (Some (codes "%2C")) (data_escape c))

-- Text and attributes of XML 1.0 (sections 2.2 and 2.4). U+FFFE and U+FFFF, which XML can't have, are U+FFFD.
abbrev pub xml_escape : ℕ → Option (List ℕ)
xml_escape c = cond (c == 38) (Some (codes "&amp;")) (cond (c == 60) (Some (codes "&lt;"))
    (cond (c == 62) (Some (codes "&gt;")) (cond (c == 34) (Some (codes "&quot;"))
    (cond (c == 0xFFFE) (Some (encode_utf8 0xFFFD)) (cond (c == 0xFFFF) (Some (encode_utf8 0xFFFD)) None)))))

abbrev pub escape : Place → ℕ → Option (List ℕ)
escape Data c = data_escape c
escape Property c = property_escape c
escape Xml c = xml_escape c

abbrev pub escaped_char : Place → ℕ → List ℕ
escaped_char place c = option_map_or (λ written. written) (escape place c) (encode_utf8 c)

-- a text with each character as it is written there
abbrev pub escaped : Place → List ℕ → List ℕ
escaped place text = flat_map (escaped_char place) (chars text)

-- the same, with the characters that a terminal may take for something else as `\u001b`; XML can't have most
abbrev pub shown : Place → List ℕ → List ℕ
shown place text = printable (escaped place text)

abbrev pub xml : List ℕ → List ℕ
xml text = shown Xml text

-- A tree as JSON, as serde_json writes it, with such characters as `\u001b`. They stand in strings alone,
-- where that is JSON's own escape.
abbrev pub json_text : Json → List ℕ
json_text tree = printable (compact_text tree)
