-- The line of JSON for a map. Its members come in the order of `docs/OUTPUT.md`.
use Rattle.std.specs.Prelude.{ℕ, ◌==◌, Bool, List, [], ◌++◌, codes, cond, decimal, length, map}
use Rattle.std.specs.Prelude.{Option, Some, None, string_bytes}
use Rattle.std.specs.Option.{option_map_or}
use Rattle.serde_json.specs.Data.{array, string}
use Rattle.serde_json.specs.View.{items_of}
use Rattle.serde_json.specs.Written.{compact_text}
use Rattle.smap_mappings.specs.declared.error.SegmentPlace.{SegmentPlace}
use Rattle.smap_record.specs.Messages.{kind_message, path_text}
use Rattle.smap_maps_run.specs.declared.outcome.Failure.{Failure}
use Rattle.smap_maps_run.specs.declared.outcome.Failure.TheVariants as failure
use Rattle.smap_maps_run.specs.declared.outcome.Outcome.{Outcome}
use Rattle.smap_maps_run.specs.declared.outcome.TextPlace.{TextPlace}
use Rattle.smap_maps_run.specs.declared.outcome.Verdict.{Verdict}
use Rattle.smap_maps_run.specs.declared.outcome.Verdict.TheVariants as verdict
use Rattle.smap_maps_run.specs.Outcomes.{name}

-- what a failure is called
abbrev pub failure_text : Failure → List ℕ
failure_text failure.Unread = codes "cannot read it"
failure_text failure.TooLong = codes "input too long"
failure_text failure.Unwritable = codes "cannot write it"
failure_text failure.Folder = codes "cannot write in its folder"
failure_text failure.NotWritten = codes "write failed"
failure_text failure.Changed = codes "it changed meanwhile, and stays as it is"
failure_text failure.Memory = codes "out of memory"

-- what is wrong with a map of which the URLs of the sources take more than this many bytes
abbrev pub long_urls : ℕ → List ℕ
long_urls most = codes "the URLs of its sources take more than " ++ (decimal most ++ codes " bytes")

-- a text as JSON, as `serde_json` writes it
abbrev pub json_text : List ℕ → List ℕ
json_text text = compact_text (string text)

-- what is wrong with a map, without its place
abbrev pub fault_message : Verdict → Option (List ℕ)
fault_message (verdict.Refused why) = Some (kind_message why.fault.kind)
fault_message verdict.NotUrl = Some (codes "base is no URL")
fault_message (verdict.LongUrls most) = Some (long_urls most)
fault_message (verdict.Failed why) = Some (failure_text why)
fault_message verdict.Accepted = None
fault_message verdict.Unchanged = None
fault_message verdict.Changed = None
fault_message verdict.Kept = None
fault_message verdict.Rewritten = None

abbrev pub fault_text : Verdict → List ℕ
fault_text v = option_map_or json_text (fault_message v) (codes "null")

-- the section that a fault is in, and the segment
abbrev pub section_text : List ℕ → List ℕ
section_text section = codes "\"section\":" ++ json_text (path_text section)

abbrev pub segment_text : SegmentPlace → List ℕ
segment_text place =
    codes "\"line\":" ++ (decimal place.line ++ (codes ",\"segment\":" ++ decimal place.segment))

-- where a fault is: an object with what there is of a section and a segment, null where there is neither
abbrev pub outside : Option SegmentPlace → List ℕ
outside None = codes "null"
outside (Some place) = codes "{" ++ (segment_text place ++ codes "}")

abbrev pub within : List ℕ → Option SegmentPlace → List ℕ
within section None = codes "{" ++ (section_text section ++ codes "}")
within section (Some place) =
    codes "{" ++ (section_text section ++ (codes "," ++ (segment_text place ++ codes "}")))

abbrev pub place_text : List ℕ → Option SegmentPlace → List ℕ
place_text section place = cond (length section == 0) (outside place) (within section place)

abbrev pub place_of : Verdict → List ℕ
place_of (verdict.Refused why) = place_text why.fault.section why.fault.place
place_of v = codes "null"

-- where it is in the text of the map: the line and the column, from 1, and the range of bytes
abbrev pub point_text : TextPlace → List ℕ
point_text place = codes ",\"line\":" ++ (decimal place.point.line ++ (codes ",\"column\":"
    ++ (decimal place.point.column ++ (codes ",\"range\":[" ++ (decimal place.range.start ++ (codes ","
    ++ (decimal place.range.end ++ codes "]")))))))

abbrev pub text_place : Option TextPlace → List ℕ
text_place place = option_map_or point_text place (codes ",\"line\":null,\"column\":null,\"range\":null")

abbrev pub text_place_of : Verdict → List ℕ
text_place_of (verdict.Refused why) = text_place why.place
text_place_of v = text_place None

-- what a rewrite drops, where the command can rewrite
abbrev pub drops_text : Bool → List (List ℕ) → List ℕ
drops_text rewrites drops = cond rewrites
    (codes ",\"drops\":" ++ compact_text (array (items_of (map string drops)))) []

-- the map's file, what became of it, and what is wrong
abbrev pub front : List ℕ → Verdict → List ℕ
front path v = codes "{\"path\":" ++ (json_text path ++ (codes ",\"status\":\""
    ++ (name v ++ (codes "\",\"fault\":" ++ fault_text v))))

-- where that is, in the map and in its text
abbrev pub places : Verdict → List ℕ
places v = codes ",\"place\":" ++ (place_of v ++ text_place_of v)

abbrev pub json_line : List ℕ → Outcome → Bool → List ℕ
json_line path outcome rewrites = front path outcome.verdict ++ (places outcome.verdict
    ++ (drops_text rewrites (map string_bytes outcome.drops.items) ++ codes "}"))
