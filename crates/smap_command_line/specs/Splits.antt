-- The ways to read an argument with a `=` (61) as URL=FILE[=BASE], and what is wrong with one.
use Rattle.std.specs.Prelude.{ℕ, ◌+◌, ◌||◌, Bool, true, false, [], ◌∷◌, length, drop}
use Rattle.std.specs.Prelude.{Option, Some, None, nat_eq, nat_lt, if◌then◌else◌}
use Rattle.std.specs.List.{ends_with}
use Rattle.clap.specs.Words.{Text}
use Rattle.smap_link.specs.Kinds.{file_kind}
use Rattle.smap_link.specs.declared.kinds.FileKind.{FileKind}
use Rattle.smap_link.specs.declared.kinds.FileKind.TheVariants.{Script, StyleSheet, Map, Other}
use Rattle.smap_command_line.specs.Arguments.{can_be_url}
use Rattle.smap_command_line.specs.declared.trace.splits.Kind.{Kind}
use Rattle.smap_command_line.specs.declared.trace.splits.Kind.TheVariants.{File, Folder}
use Rattle.smap_command_line.specs.declared.trace.splits.SplitFault.{SplitFault}
use Rattle.smap_command_line.specs.declared.trace.splits.SplitFault.TheVariants as fault

-- what stands behind the `=` at which the file's name ends
abbrev pub base_in : Text → ℕ → Option Text
base_in word file_end =
    if nat_lt file_end (length word) then Some (drop (file_end + 1) word) else None

-- ---- what is wrong with a way whose file is there

abbrev pub ends_in_slash : Text → Bool
ends_in_slash url = ends_with nat_eq url (47 ∷ []) || ends_with nat_eq url (92 ∷ [])

abbrev pub kind_fault : Kind → Text → Option Text → Option SplitFault
kind_fault File url None = None
kind_fault File url (Some base) = if can_be_url base then None else Some fault.Base
kind_fault Folder url (Some base) = Some fault.FolderBase
kind_fault Folder url None = if ends_in_slash url then None else Some fault.FolderUrl

abbrev pub split_fault : Kind → Text → Option Text → Option SplitFault
split_fault kind url base = if can_be_url url then kind_fault kind url base else Some fault.Url

-- ---- names of files that are no logs

abbrev pub is_of_build : FileKind → Bool
is_of_build Script = true
is_of_build StyleSheet = true
is_of_build Map = true
is_of_build Other = false

abbrev pub needs_url : Text → Bool
needs_url name = is_of_build (file_kind name)
