-- The numbers of what a file is by the end of its name, as `smap.h` has them.
use Rattle.std.specs.Prelude.{ℕ}
use Rattle.smap_link.specs.declared.kinds.FileKind.{FileKind}
use Rattle.smap_link.specs.declared.kinds.FileKind.TheVariants.{Script, StyleSheet, Map, Other}

abbrev pub FILE_OTHER : ℕ
FILE_OTHER = 0

abbrev pub FILE_SCRIPT : ℕ
FILE_SCRIPT = 1

abbrev pub FILE_STYLE_SHEET : ℕ
FILE_STYLE_SHEET = 2

abbrev pub FILE_MAP : ℕ
FILE_MAP = 3

abbrev pub number_of_kind : FileKind → ℕ
number_of_kind Other = FILE_OTHER
number_of_kind Script = FILE_SCRIPT
number_of_kind StyleSheet = FILE_STYLE_SHEET
number_of_kind Map = FILE_MAP
