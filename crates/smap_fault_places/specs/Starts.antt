-- What a file shows at its beginning that is no map, and what may help then.
use Rattle.std.specs.Prelude.{ℕ, ◌==◌, List, [], ◌∷◌, codes, drop, if◌then◌else◌, nat_eq}
use Rattle.std.specs.List.{prefix_len, starts_with}
use Rattle.json.specs.Word.{is_space}
use Rattle.smap_record.specs.declared.fault.Kind.{Kind}
use Rattle.smap_record.specs.declared.fault.Kind.TheVariants as kinds
use Rattle.smap_fault_places.specs.declared.starts.Start.{Start}
use Rattle.smap_fault_places.specs.declared.starts.Start.TheVariants as start

-- what a text begins with: nothing, a tag (60 is <), or something else
abbrev pub start_within : List ℕ → Start
start_within [] = start.Empty
start_within (b ∷ bytes) = if b == 60 then start.Page else start.Other

-- what a file shows at its beginning: a byte order mark (EF BB BF), the two bytes of gzip (1F 8B), or else
-- what its first byte shows that is no white space
abbrev pub start_of : List ℕ → Start
start_of bytes =
    if starts_with nat_eq bytes (239 ∷ 187 ∷ 191 ∷ []) then start.Mark
    else (if starts_with nat_eq bytes (31 ∷ 139 ∷ []) then start.Gzip else start_within
    (drop (prefix_len is_space bytes) bytes))

-- what may help with a map that isn't JSON, and that begins so
abbrev pub hint : Kind → Start → List ℕ
hint kinds.Json start.Empty = codes " (it is empty)"
hint kinds.Json start.Mark = codes " (it begins with a byte order mark: remove that)"
hint kinds.Json start.Gzip = codes " (it is compressed: gunzip it)"
hint kinds.Json start.Page = codes " (it is an HTML page: the server's 404?)"
hint kind begins = []
