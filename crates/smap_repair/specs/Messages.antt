-- The message of a repair.
use Rattle.std.specs.Prelude.{ℕ, List, [], ◌∷◌, ◌++◌, codes, decimal, string_bytes, if◌then◌else◌}
use Rattle.url.specs.Input.{is_empty}
use Rattle.smap_record.specs.Messages.{path_text}
use Rattle.smap_repair.specs.declared.repair.Change.{Change}
use Rattle.smap_repair.specs.declared.repair.Change.TheVariants as change
use Rattle.smap_repair.specs.declared.repair.Repair.{Repair}

-- what a repair at this place is about
abbrev pub change_text : Change → ℕ → List ℕ
change_text change.ByteOrderMark start = codes "byte order mark"
change_text change.HalfSurrogate start = codes "byte " ++ decimal start
change_text change.Version start = codes "version"
change_text change.Mappings start = codes "mappings"
change_text change.MappingsBeside start = codes "mappings beside sections"
change_text change.SourceRoot start = codes "sourceRoot"
change_text (change.Source i) start = codes "source " ++ decimal i

-- what a repair is about
abbrev pub subject_text : Repair → List ℕ
subject_text r = change_text r.change r.start

-- the section that a repair is in, if it is in one
abbrev pub section_text : List ℕ → List ℕ
section_text [] = []
section_text (number ∷ inner) = codes " of section " ++ path_text (number ∷ inner)

-- what became of what was there
abbrev pub replaced_text : Repair → List ℕ
replaced_text r =
    if is_empty (string_bytes r.before) then string_bytes r.after ++ codes " added"
    else (if is_empty (string_bytes r.after) then codes "removed"
    else (string_bytes r.before ++ (codes " becomes " ++ string_bytes r.after)))

-- what would become of what is there
abbrev pub proposed_text : Repair → List ℕ
proposed_text r =
    if is_empty (string_bytes r.before) then string_bytes r.after ++ codes " would be added"
    else (if is_empty (string_bytes r.after) then codes "would be removed"
    else (string_bytes r.before ++ (codes " would become " ++ string_bytes r.after)))

-- A repair in a line: one that was made, and one that isn't made yet.
unfoldable pub repair_message : Repair → List ℕ
repair_message r = subject_text r ++ (section_text r.section ++ (codes ": " ++ replaced_text r))

unfoldable pub proposal_message : Repair → List ℕ
proposal_message r = subject_text r ++ (section_text r.section ++ (codes ": " ++ proposed_text r))
