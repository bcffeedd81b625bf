-- The kinds of faults. Each has a line in `code_and_number`, in `kind_message` and, by its number, in
-- `fault_name`; one of the layers below in `kind_of_shape` or `kind_of_segment` too.
use Rattle.std.specs.Prelude.{ℕ, ◌==◌, if◌then◌else◌, List, [], ◌++◌, codes, decimal}
use Rattle.smap_vlq.specs.declared.number.NumberFault.{NumberFault}
use Rattle.smap_vlq.specs.declared.number.NumberFault.TheVariants as number
use Rattle.smap_mappings.specs.declared.error.SegmentKind.{SegmentKind}
use Rattle.smap_mappings.specs.declared.error.SegmentKind.TheVariants as segment
use Rattle.smap_shape.specs.declared.fault.ShapeFault.{ShapeFault}
use Rattle.smap_shape.specs.declared.fault.ShapeFault.TheVariants as shape
use Rattle.smap_record.specs.declared.fault.Kind.{Kind}
use Rattle.smap_record.specs.declared.fault.Kind.TheVariants as kind

-- the kind of a fault of a tree's shape
abbrev pub kind_of_shape : ShapeFault → Kind
kind_of_shape shape.NotObject = kind.NotObject
kind_of_shape shape.Version = kind.Version
kind_of_shape shape.File = kind.File
kind_of_shape shape.Both = kind.Both
kind_of_shape shape.SourceRoot = kind.SourceRoot
kind_of_shape shape.Sources = kind.Sources
kind_of_shape shape.SourcesContent = kind.SourcesContent
kind_of_shape shape.Names = kind.Names
kind_of_shape shape.IgnoreList = kind.IgnoreList
kind_of_shape shape.Mappings = kind.Mappings
kind_of_shape shape.Sections = kind.Sections
kind_of_shape shape.Offset = kind.Offset
kind_of_shape shape.SectionMap = kind.SectionMap
kind_of_shape shape.Nested = kind.Nested

-- the kind of a fault of a segment
abbrev pub kind_of_segment : SegmentKind → Kind
kind_of_segment segment.Empty = kind.Empty
kind_of_segment (segment.Number which fault) = kind.Number which fault
kind_of_segment (segment.Count n) = kind.Count n
kind_of_segment segment.GeneratedLine = kind.GeneratedLine
kind_of_segment segment.Column = kind.Column
kind_of_segment segment.Source = kind.Source
kind_of_segment segment.OriginalLine = kind.OriginalLine
kind_of_segment segment.OriginalColumn = kind.OriginalColumn
kind_of_segment segment.Name = kind.Name

-- what is wrong with a number
abbrev pub number_message : NumberFault → List ℕ
number_message number.Unfinished = codes "unfinished"
number_message number.Character = codes "bad character"
number_message number.TooLarge = codes "too large"
number_message number.NegativeZero = codes "negative zero"

-- what is wrong
abbrev pub kind_message : Kind → List ℕ
kind_message kind.Prefix = codes "prefix without line feed"
kind_message kind.Json = codes "not json"
kind_message kind.NotObject = codes "not an object"
kind_message kind.Version = codes "version"
kind_message kind.File = codes "file"
kind_message kind.Both = codes "sections beside mappings"
kind_message kind.SourceRoot = codes "sourceRoot"
kind_message kind.Sources = codes "sources"
kind_message kind.SourcesContent = codes "sourcesContent"
kind_message kind.Names = codes "names"
kind_message kind.IgnoreList = codes "ignoreList"
kind_message kind.Mappings = codes "mappings"
kind_message kind.Sections = codes "sections"
kind_message kind.Offset = codes "offset"
kind_message kind.SectionMap = codes "map"
kind_message kind.Nested = codes "nested sections"
kind_message kind.Order = codes "order"
kind_message kind.Overlap = codes "overlap"
kind_message kind.TooMany = codes "too many sources or names"
kind_message (kind.SourceUrl i) = codes "source " ++ (decimal i ++ codes " is no URL")
kind_message (kind.UnstableUrl i) = codes "source " ++ (decimal i ++ codes " has an unstable URL")
kind_message kind.Empty = codes "empty segment"
kind_message (kind.Number which fault) =
    codes "number " ++ (decimal which ++ (codes ": " ++ number_message fault))
kind_message (kind.Count count) = decimal count ++ codes " numbers"
kind_message kind.GeneratedLine = codes "generated line"
kind_message kind.Column = codes "generated column"
kind_message kind.Source = codes "source index"
kind_message kind.OriginalLine = codes "original line"
kind_message kind.OriginalColumn = codes "original column"
kind_message kind.Name = codes "name index"

-- the number of a misspelled number in C
abbrev pub spelling_code : NumberFault → ℕ
spelling_code number.Unfinished = 23
spelling_code number.Character = 24
spelling_code number.TooLarge = 25
spelling_code number.NegativeZero = 26

-- the number of a kind in C, and the number that it carries, or 0
abbrev pub code_and_number : Kind → ℕ × ℕ
code_and_number kind.Prefix = (1, 0)
code_and_number kind.Json = (2, 0)
code_and_number kind.NotObject = (3, 0)
code_and_number kind.Version = (4, 0)
code_and_number kind.File = (5, 0)
code_and_number kind.Both = (6, 0)
code_and_number kind.SourceRoot = (7, 0)
code_and_number kind.Sources = (8, 0)
code_and_number kind.SourcesContent = (9, 0)
code_and_number kind.Names = (10, 0)
code_and_number kind.IgnoreList = (11, 0)
code_and_number kind.Mappings = (12, 0)
code_and_number kind.Sections = (13, 0)
code_and_number kind.Offset = (14, 0)
code_and_number kind.SectionMap = (15, 0)
code_and_number kind.Nested = (16, 0)
code_and_number kind.Order = (17, 0)
code_and_number kind.Overlap = (18, 0)
code_and_number kind.TooMany = (19, 0)
code_and_number (kind.SourceUrl i) = (20, i)
code_and_number (kind.UnstableUrl i) = (21, i)
code_and_number kind.Empty = (22, 0)
code_and_number (kind.Number which fault) = (spelling_code fault, which)
code_and_number (kind.Count n) = (27, n)
code_and_number kind.GeneratedLine = (28, 0)
code_and_number kind.Column = (29, 0)
code_and_number kind.Source = (30, 0)
code_and_number kind.OriginalLine = (31, 0)
code_and_number kind.OriginalColumn = (32, 0)
code_and_number kind.Name = (33, 0)

-- The name of the kind with this number, as docs/OUTPUT.md has it, or nothing for a number that is none.
abbrev pub fault_name : ℕ → List ℕ
fault_name n =
    if n == 1 then codes "Prefix" else
    if n == 2 then codes "Json" else
    if n == 3 then codes "NotObject" else
    if n == 4 then codes "Version" else
    if n == 5 then codes "File" else
    if n == 6 then codes "Both" else
    if n == 7 then codes "SourceRoot" else
    if n == 8 then codes "Sources" else
    if n == 9 then codes "SourcesContent" else
    if n == 10 then codes "Names" else
    if n == 11 then codes "IgnoreList" else
    if n == 12 then codes "Mappings" else
    if n == 13 then codes "Sections" else
    if n == 14 then codes "Offset" else
    if n == 15 then codes "SectionMap" else
    if n == 16 then codes "Nested" else
    if n == 17 then codes "Order" else
    if n == 18 then codes "Overlap" else
    if n == 19 then codes "TooMany" else
    if n == 20 then codes "SourceUrl" else
    if n == 21 then codes "UnstableUrl" else
    if n == 22 then codes "Empty" else
    if n == 23 then codes "Unfinished" else
    if n == 24 then codes "Character" else
    if n == 25 then codes "TooLarge" else
    if n == 26 then codes "NegativeZero" else
    if n == 27 then codes "Count" else
    if n == 28 then codes "GeneratedLine" else
    if n == 29 then codes "Column" else
    if n == 30 then codes "Source" else
    if n == 31 then codes "OriginalLine" else
    if n == 32 then codes "OriginalColumn" else
    if n == 33 then codes "Name" else []
