-- The forms of a report, and the words that name them.
use Rattle.std.specs.Prelude.{ℕ, bytes_eq, cond, List, codes, Option, Some, None}
use Rattle.smap_report.specs.declared.formats.Format.{Format}
use Rattle.smap_report.specs.declared.formats.Format.TheVariants.{Text, Gnu, Github, Sarif, Junit, Json}

-- the format that this word names, or else another
abbrev pub if_named : List ℕ → List ℕ → Format → Option Format → Option Format
if_named word name format other = cond (bytes_eq word name) (Some format) other

abbrev pub format_named : List ℕ → Option Format
format_named word = if_named word (codes "text") Text (if_named word (codes "gnu") Gnu
    (if_named word (codes "github") Github (if_named word (codes "sarif") Sarif
    (if_named word (codes "junit") Junit (if_named word (codes "json") Json None)))))
