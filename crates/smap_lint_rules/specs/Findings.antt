-- What the rules find in a map and in the script that has it, and what is said of it.
use Rattle.std.specs.Prelude.{ℕ, ◌+◌, ◌-◌, ◌*◌, ◌/◌, ◌^◌, ◌==◌, ◌||◌, Bool, List, [], ◌∷◌, ◌++◌, String}
use Rattle.std.specs.Prelude.{bytes_eq, codes, cond, decimal, drop, is_some, length, map, min, nat_eq, nat_le}
use Rattle.std.specs.Prelude.{Option, None, Some, option_and_then, option_map, slice_get, string_bytes, sum}
use Rattle.std.specs.Prelude.{take, unwrap_or}
use Rattle.std.specs.Char.{to_ascii_lowercase}
use Rattle.std.specs.List.{filter, find, starts_with}
use Rattle.std.specs.Option.{option_or}
use Rattle.std.specs.declared.alloc.Global.{Global}
use Rattle.smap_link.specs.Kinds.{link_in}
use Rattle.smap_link.specs.Paths.{bare}
use Rattle.smap_mappings.specs.Widths.{script_widths}
use Rattle.smap_mappings.specs.declared.token.Token.{Token}
use Rattle.smap_record.specs.Record.{Entry, Origin, ReadMap, record_of}
use Rattle.smap_system.specs.Printing.{printable}
use Rattle.smap_lint_rules.specs.Contents.{leads_past}
use Rattle.smap_lint_rules.specs.Ids.{debug_id, same_id}
use Rattle.smap_lint_rules.specs.Listed.{unused}
use Rattle.smap_lint_rules.specs.Paths.{file_agrees}
use Rattle.smap_lint_rules.specs.Positions.{is_past_end}
use Rattle.smap_lint_rules.specs.Share.{mapped_units}
use Rattle.smap_lint_rules.specs.Wording.{counted, example, one_or_more, place, some_of}
use Rattle.smap_lint_rules.specs.declared.checks.Check.{Check}
use Rattle.smap_lint_rules.specs.declared.checks.Check.TheVariants as check
use Rattle.smap_lint_rules.specs.declared.members.Paths.{Paths}
use Rattle.smap_lint_rules.specs.declared.originals.Chains.{Chains}
use Rattle.smap_lint_rules.specs.declared.pair.Pair.{Pair}
use Rattle.smap_lint_rules.specs.declared.remarks.Remark.{Remark}
use Rattle.smap_lint_rules.specs.declared.pair.Script.{Script}
use Rattle.smap_lint_rules.specs.declared.sources.Wrong.{Wrong}

-- ---- findings

-- a finding: its rule, and what is said
abbrev pub Told : Type 0
Told = Check × List ℕ

abbrev pub told : Remark → Told
told r = (r.check, string_bytes r.message)

-- the finding of a rule, if there is something to be said
abbrev pub noted : Check → Option (List ℕ) → List Told
noted rule None = []
noted rule (Some words) = (rule, words) ∷ []

-- ---- what the map says beside its mappings

abbrev pub id_words : List ℕ → List ℕ → List ℕ
id_words of_map of_script =
    codes "has debug id " ++ (of_map ++ (codes ", and its script " ++ printable of_script))

abbrev pub unless_same : List ℕ → List ℕ → Option (List ℕ)
unless_same of_map of_script = cond (same_id of_script of_map) None (Some (id_words of_map of_script))

abbrev pub id_of : Option Script → Option (List ℕ)
id_of None = None
id_of (Some script) = debug_id script.text.now

abbrev pub compared_ids : Option (List ℕ) → Option (List ℕ) → Option (List ℕ)
compared_ids (Some of_map) (Some of_script) = unless_same of_map of_script
compared_ids of_map of_script = None

-- debug-id: the script and the map have debug ids, which aren't one
abbrev pub different_ids : Option Script → Option (String Global) → Option (List ℕ)
different_ids script of_map = compared_ids (option_map string_bytes of_map) (id_of script)

-- absolute-root: the map has an absolute path as `sourceRoot`
abbrev pub absolute_root : Option (String Global) → Option (List ℕ)
absolute_root root = option_map (λ r. codes "sourceRoot is an absolute path: " ++ string_bytes r) root

abbrev pub machine_words : ℕ → List ℕ → List ℕ
machine_words count first = codes "names " ++ (counted count (codes "source") ++ (codes " by "
    ++ (one_or_more count (codes "a path") (codes "paths")
    ++ (codes " of the machine that built it" ++ example count first))))

-- machine-path: the map names sources by paths of the machine that built it
abbrev pub machine_paths : Paths → Option (List ℕ)
machine_paths paths =
    option_map (λ first. machine_words paths.machine_paths (string_bytes first)) paths.machine_path

abbrev pub of_members : Pair → List Told
of_members p = noted check.DebugId (different_ids p.script p.members.now.debug_id)
    ++ (noted check.AbsoluteRoot (absolute_root p.members.now.paths.absolute_root)
    ++ noted check.MachinePath (machine_paths p.members.now.paths))

-- ---- where the mappings begin in the script

-- the widths of its lines, if there is a script and its positions can be counted
abbrev pub widths_of : Option Script → Option (List ℕ)
widths_of None = None
widths_of (Some script) = script_widths script.text.now

-- so many of all mappings are past the end
abbrev pub past_end : ℕ → ℕ → List ℕ
past_end count total = some_of count total (codes "mapping") ++ (codes " "
    ++ (one_or_more count (codes "is") (codes "are") ++ codes " past the end of the script or its lines"))

-- the first of them begins there, in a script with so many lines
abbrev pub begins_at : ℕ → Token → ℕ → List ℕ
begins_at count first lines = one_or_more count (codes "at") (codes "the first at") ++ (codes " "
    ++ (place first.line first.column ++ (codes " (the script has "
    ++ (counted lines (codes "line") ++ codes ")"))))

abbrev pub past_end_words : ℕ → ℕ → ℕ → Token → List ℕ
past_end_words count total lines first =
    past_end count total ++ (codes ", " ++ begins_at count first lines)

-- generated-past-end: mappings begin past the end of the script, whose lines are so wide, or of a line
abbrev pub generated_past_end : ReadMap → List ℕ → Option (List ℕ)
generated_past_end m widths = option_map
    (past_end_words (length (filter (is_past_end widths) m.listing.tokens)) (length m.listing.tokens)
    (length widths))
    (find (is_past_end widths) m.listing.tokens)

-- a count, as far as 64 bits hold it
abbrev pub limited : ℕ → ℕ
limited n = min n (2 ^ 64 - 1)

-- so many of all units, in percent, rounded down
abbrev pub percent : ℕ → ℕ → ℕ
percent mapped all = limited (mapped * 100) / all

abbrev pub few_words : ℕ → ℕ → List ℕ
few_words share least =
    decimal share ++ (codes " percent of the script has an original, below " ++ decimal least)

abbrev pub below : ℕ → ℕ → ℕ → Option (List ℕ)
below least mapped all = cond (all == 0 || nat_le least (percent mapped all)) None
    (Some (few_words (percent mapped all) least))

-- few-mapped: less of the script has an original than is asked for, in percent of its UTF-16 units
abbrev pub few_mapped : Option ℕ → ReadMap → List ℕ → Option (List ℕ)
few_mapped None m widths = None
few_mapped (Some least) m widths =
    below least (limited (mapped_units widths m.listing.tokens)) (limited (sum widths))

abbrev pub of_lines : Pair → Option (List ℕ) → List Told
of_lines p None = []
of_lines p (Some widths) = noted check.GeneratedPastEnd (generated_past_end p.map.now widths)
    ++ noted check.FewMapped (few_mapped p.min_mapped p.map.now widths)

abbrev pub of_script : Pair → List Told
of_script p = of_lines p (widths_of p.script)

-- ---- the sources

abbrev pub lead_past : ℕ → ℕ → List ℕ
lead_past count total = some_of count total (codes "mapping") ++ (codes " "
    ++ (one_or_more count (codes "leads") (codes "lead")
    ++ codes " past the end of a source's content or its lines"))

abbrev pub leads_to : ℕ → Origin → List ℕ
leads_to count o = one_or_more count (codes "to") (codes "the first to") ++ (codes " "
    ++ (place o.line o.column
    ++ (codes " of " ++ unwrap_or o.source.url (codes "a source without a URL"))))

abbrev pub original_words : ℕ → ℕ → Origin → List ℕ
original_words count total o = lead_past count total ++ (codes ", " ++ leads_to count o)

-- original-past-end: mappings lead past the end of a source's content, or of a line of it
abbrev pub originals_past_end : ReadMap → Option (List ℕ)
originals_past_end m = option_map
    (original_words (length (filter leads_past (record_of m).mappings)) (length (record_of m).mappings))
    (option_and_then (λ x. x.origin) (find leads_past (record_of m).mappings))

-- a URL without that of the folder before it
abbrev pub own_part : List ℕ → List ℕ → List ℕ
own_part folder url = cond (starts_with nat_eq url folder) (drop (length folder) url) url

abbrev pub shown_url : List ℕ → Entry → List ℕ
shown_url folder e = own_part folder (unwrap_or e.url [])

-- the first of the sources that are wrong
abbrev pub first_wrong : ReadMap → Wrong → Option Entry
first_wrong m wrong = option_and_then (slice_get (record_of m).sources) wrong.first

abbrev pub missing_words : ℕ → ℕ → List ℕ → List ℕ
missing_words count total first = some_of count total (codes "source") ++ (codes " "
    ++ (one_or_more count (codes "has") (codes "have")
    ++ (codes " neither content nor file" ++ example count first)))

-- missing-source: sources have neither a content nor a file
abbrev pub missing_sources : ReadMap → List ℕ → Wrong → Option (List ℕ)
missing_sources m folder missing =
    option_map (λ e. missing_words missing.count (length (record_of m).sources) (shown_url folder e))
    (first_wrong m missing)

abbrev pub stale_words : ℕ → ℕ → List ℕ → List ℕ
stale_words count total first = codes "the content of " ++ (some_of count total (codes "source")
    ++ (codes " differs from " ++ (one_or_more count (codes "its file") (codes "their files")
    ++ example count first)))

-- stale-content: contents differ from the sources' files
abbrev pub stale_contents : ReadMap → List ℕ → Wrong → Option (List ℕ)
stale_contents m folder stale =
    option_map (λ e. stale_words stale.count (length (record_of m).sources) (shown_url folder e))
    (first_wrong m stale)

-- the map that the content of a source names
abbrev pub own_map : Entry → Option (List ℕ)
own_map e = link_in (bare (unwrap_or e.url [])) (unwrap_or e.content [])

abbrev pub names_map : Entry → Bool
names_map e = is_some (own_map e)

abbrev pub is_data : List ℕ → Bool
is_data url = bytes_eq (map to_ascii_lowercase (take 5 url)) (codes "data:")

-- of a `data:` URL no more than that it is one
abbrev pub named_words : List ℕ → List ℕ
named_words url = cond (is_data url) (codes "a map in itself") (printable url)

-- a source, and what it names
abbrev pub open_example : List ℕ → List ℕ → Entry → List ℕ
open_example folder named e = shown_url folder e ++ (codes " (" ++ (named_words named ++ codes ")"))

-- how many of the maps that so many sources name can be followed
abbrev pub followed : ℕ → ℕ → List ℕ
followed count there = cond (there == 0)
    (one_or_more count (codes "its map isn't") (codes "their maps aren't") ++ codes " there")
    (codes "smap-maps compose follows " ++ cond (there == count)
    (one_or_more count (codes "it") (codes "them")) (decimal there ++ codes " of them"))

abbrev pub open_words : ℕ → ℕ → ℕ → List ℕ → List ℕ
open_words count total there first = some_of count total (codes "source") ++ (codes " "
    ++ (one_or_more count (codes "names a map of its own") (codes "name maps of their own")
    ++ (example count first ++ (codes "; positions lead to generated text: " ++ followed count there))))

-- how many sources name maps, in their contents or in their files
abbrev pub open_count : ReadMap → Chains → ℕ
open_count m chains = limited (length (filter names_map (record_of m).sources) + chains.files.count)

-- the first source whose content names a map
abbrev pub open_content : ReadMap → List ℕ → Option (List ℕ)
open_content m folder = option_map (λ e. open_example folder (unwrap_or (own_map e) []) e)
    (find names_map (record_of m).sources)

-- the first one whose file does
abbrev pub open_file : ReadMap → List ℕ → Chains → Option (List ℕ)
open_file m folder chains =
    option_map (open_example folder chains.named.now) (first_wrong m chains.files)

-- open-chain: sources are scripts that name maps
abbrev pub open_chains : ReadMap → List ℕ → Chains → Option (List ℕ)
open_chains m folder chains =
    option_map (open_words (open_count m chains) (length (record_of m).sources) chains.there)
    (option_or (open_content m folder) (open_file m folder chains))

abbrev pub of_sources : Pair → List Told
of_sources p = noted check.OriginalPastEnd (originals_past_end p.map.now)
    ++ (noted check.MissingSource (missing_sources p.map.now p.folder.now p.missing)
    ++ (noted check.StaleContent (stale_contents p.map.now p.folder.now p.stale)
    ++ noted check.OpenChain (open_chains p.map.now p.folder.now p.chains)))

-- ---- what the map lists

abbrev pub other_words : List ℕ → List ℕ → List ℕ
other_words file name = codes "is the map of " ++ (file ++ (codes ", and " ++ (name ++ codes " has it")))

abbrev pub unless_agrees : List ℕ → List ℕ → Option (List ℕ)
unless_agrees name file = cond (file_agrees file name) None (Some (other_words file name))

abbrev pub of_file : Option Script → Option (List ℕ) → Option (List ℕ)
of_file None file = None
of_file (Some script) file = option_and_then (unless_agrees script.name.now) file

-- other-file: the map, outside of the script, has another name in `file` than that of its script
abbrev pub other_file : Pair → Option (List ℕ)
other_file p = cond p.is_inline None (of_file p.script p.map.now.labels.file)

abbrev pub repeats : ℕ → ℕ → Option (List ℕ)
repeats count total = cond (count == 0) None (Some (codes "repeats " ++ some_of count total (codes "source")))

-- repeated-source: sources are listed more than once
abbrev pub repeated_sources : ReadMap → Option (List ℕ)
repeated_sources m =
    repeats (length m.listing.sources - length (record_of m).sources) (length m.listing.sources)

abbrev pub no_mapping : ℕ → ℕ → Option (List ℕ)
no_mapping count total = cond (count == 0) None (Some (some_of count total (codes "name") ++ (codes " "
    ++ (one_or_more count (codes "has") (codes "have") ++ codes " no mapping"))))

-- unused-name: no mapping has names that are listed
abbrev pub unused_names : ReadMap → Option (List ℕ)
unused_names m =
    no_mapping (length (unused (length m.listing.names) m.listing.tokens)) (length m.listing.names)

abbrev pub of_lists : Pair → List Told
of_lists p = noted check.OtherFile (other_file p)
    ++ (noted check.RepeatedSource (repeated_sources p.map.now)
    ++ noted check.UnusedName (unused_names p.map.now))

-- ---- all

-- what is found in a map and the script that has it, in the order in which it is reported
abbrev pub findings : Pair → List Told
findings p = of_members p ++ (of_script p ++ (of_sources p ++ of_lists p))
