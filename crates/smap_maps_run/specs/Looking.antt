-- What becomes of a map that is looked at: of what its file holds, and of the file.
use Rattle.std.specs.Prelude.{◌≡◌, ◌≢◌, ◌⊎◌, ℕ, ◌==◌, Bool, true, false, not, List, [], ◌++◌, codes, length}
use Rattle.std.specs.Prelude.{map, ⊤, Option, Some, None, Ok, Err, IsErr, string_bytes}
use Rattle.std.specs.Global.{Vec}
use Rattle.std.specs.Str.{is_utf8}
use Rattle.url.specs.Parser.{parse_url}
use Rattle.url.specs.Parts.{Parts}
use Rattle.serde_json.specs.Data.{Data}
use Rattle.smap_differences.specs.Drops.{lost, lost_in_sections, whole}
use Rattle.smap_map_files.specs.Given.{IsRepairOf}
use Rattle.smap_record.specs.Faults.{Checked}
use Rattle.smap_record.specs.Reading.{map_tree}
use Rattle.smap_record.specs.Record.{usual}
use Rattle.smap_record.specs.UrlBytes.{reading_within}
use Rattle.smap_repair.specs.Repairing.{IsRead, Leaves}
use Rattle.smap_repair.specs.declared.repair.Repair.{Repair}
use Rattle.smap_repair.specs.declared.repairing.Repaired.TheVariants as answer
use Rattle.smap_system.specs.Held.{Held, IsHeld}
use Rattle.smap_command_line.specs.declared.maps.words.Rewrite.{Rewrite}
use Rattle.smap_maps_run.specs.Deciding.{decided}
use Rattle.smap_maps_run.specs.Forms.{formed_text}
use Rattle.smap_maps_run.specs.Judging.{IsJudged, IsTold}
use Rattle.smap_maps_run.specs.declared.deciding.Deed.{Deed}
use Rattle.smap_maps_run.specs.declared.deciding.Deed.TheVariants as deed
use Rattle.smap_maps_run.specs.declared.deciding.Work.{Work}
use Rattle.smap_maps_run.specs.declared.deciding.Work.TheVariants as work
use Rattle.smap_maps_run.specs.declared.forms.Form.{Form}
use Rattle.smap_maps_run.specs.declared.looking.MapFile.{MapFile}
use Rattle.smap_maps_run.specs.declared.outcome.Outcome.{Outcome}
use Rattle.smap_maps_run.specs.declared.outcome.Verdict.{Verdict}
use Rattle.smap_maps_run.specs.declared.outcome.Verdict.TheVariants as verdict

-- ---- a map that is compared with a form of it

-- the names of what a rewrite drops of a tree, those of sections behind `sections.`
abbrev pub drops_of_tree : Data → List (List ℕ)
drops_of_tree tree = lost whole tree ++ map (λ name. codes "sections." ++ name) (lost_in_sections tree)

abbrev pub drops_if : Checked Data → List (List ℕ)
drops_if (Err fault) = []
drops_if (Ok tree) = drops_of_tree tree

-- the same of a map's bytes
abbrev pub drops_of : List ℕ → List (List ℕ)
drops_of bytes = drops_if (map_tree bytes)

-- a rewrite drops something
abbrev pub loses : List ℕ → Bool
loses bytes = not (length (drops_of bytes) == 0)

abbrev pub tells : Deed → Bool
tells deed.Tell = true
tells deed.Show = true
tells deed.Keep = false
tells deed.Write = false

-- A map that would change has become so once this was done. A rewrite may fail.
abbrev pub IsDone : Deed → Verdict → Type 0
IsDone d verdict.Changed = tells d ≡ true
IsDone d verdict.Kept = d ≡ deed.Keep
IsDone d verdict.Rewritten = d ≡ deed.Write
IsDone d (verdict.Failed why) = d ≡ deed.Write
IsDone d v = ⊥

-- A map's form has other bytes; what a rewrite drops is told.
pub record IsOther (expected : Checked (Option (List ℕ))) (old : List ℕ) (drops : List (List ℕ))
    : Type 0 where
  pub new : List ℕ
  pub form : expected ≡ Ok (Some new)
  pub other : new ≢ old
  pub told : drops ≡ drops_of old

-- What becomes of a map of which this should be the form, and whose bytes are `old`. A failure says nothing
-- about the map.
abbrev pub IsComparedAs : Checked (Option (List ℕ)) → Rewrite → Parts → ℕ → List ℕ → List (List ℕ) → Verdict
    → Type 0
IsComparedAs expected rewrite base most old drops verdict.Unchanged = expected ≡ Ok (Some old)
IsComparedAs expected rewrite base most old drops verdict.Changed =
    IsOther expected old drops × IsDone (decided rewrite (loses old)) verdict.Changed
IsComparedAs expected rewrite base most old drops verdict.Kept =
    IsOther expected old drops × IsDone (decided rewrite (loses old)) verdict.Kept
IsComparedAs expected rewrite base most old drops verdict.Rewritten =
    IsOther expected old drops × IsDone (decided rewrite (loses old)) verdict.Rewritten
IsComparedAs expected rewrite base most old drops (verdict.Refused why) =
    (expected ≡ Err why.fault) × IsTold base most old why
IsComparedAs expected rewrite base most old drops (verdict.LongUrls n) = (expected ≡ Ok None) × (n ≡ most)
IsComparedAs expected rewrite base most old drops (verdict.Failed why) = ⊤
IsComparedAs expected rewrite base most old drops v = ⊥

abbrev pub IsCompared : Form → Rewrite → Parts → ℕ → List ℕ → Outcome → Type 0
IsCompared form rewrite base most old o = IsComparedAs (formed_text form base usual most old) rewrite base
    most old (map string_bytes o.drops.items) o.verdict

-- for private contracts: the same, where nothing is dropped
abbrev pub IsUnchangedAs : Form → Rewrite → Parts → ℕ → List ℕ → Verdict → Type 0
IsUnchangedAs form rewrite base most old v =
    IsComparedAs (formed_text form base usual most old) rewrite base most old [] v

-- for private contracts: this text is the form that a map is to be compared with, and isn't what it is
pub record IsOtherForm (to_do : Work) (rewrite : Rewrite) (base : Parts) (most : ℕ) (old new : List ℕ)
    : Type 0 where
  pub form : Form
  pub work_is : to_do ≡ work.Compare form rewrite
  pub gives : formed_text form base usual most old ≡ Ok (Some new)
  pub other : new ≢ old

-- ---- a map that is repaired

-- This is the text that a map's repair gives.
pub record IsMendedTo (base : Parts) (most : ℕ) (old new : List ℕ) : Type 0 where
  pub text : Vec ℕ
  pub repairs : Vec Repair
  pub answered : IsRepairOf base most old (answer.Mended text repairs)
  pub text_is : text.items ≡ new

-- What becomes of a map that isn't mended. A failure says nothing about it.
abbrev pub IsUnmendedAs : Parts → ℕ → List ℕ → Verdict → Type 0
IsUnmendedAs base most old verdict.Unchanged = IsRead base usual most old
IsUnmendedAs base most old (verdict.Refused why) =
    (reading_within base usual most old ≡ Err why.fault) × IsTold base most old why
IsUnmendedAs base most old (verdict.LongUrls n) = (n ≡ most) × Leaves base usual most old (Ok None)
IsUnmendedAs base most old (verdict.Failed why) = ⊤
IsUnmendedAs base most old v = ⊥

-- What becomes of a map that is repaired, and rewritten if `write` says so.
abbrev pub IsMendedAs : Bool → Parts → ℕ → List ℕ → Verdict → Type 0
IsMendedAs write base most old verdict.Changed =
    (write ≡ false) × ((new : List ℕ) × IsMendedTo base most old new)
IsMendedAs write base most old verdict.Rewritten =
    (write ≡ true) × ((new : List ℕ) × IsMendedTo base most old new)
IsMendedAs write base most old v = IsUnmendedAs base most old v

-- ---- any map

-- What becomes of a map whose file holds these bytes.
abbrev pub IsOutcomeOf : Work → Parts → ℕ → List ℕ → Outcome → Type 0
IsOutcomeOf (work.Check json) base most bytes o = IsJudged base most bytes o.verdict
IsOutcomeOf (work.Compare form rewrite) base most bytes o = IsCompared form rewrite base most bytes o
IsOutcomeOf (work.Repair write) base most bytes o = IsMendedAs write base most bytes o.verdict

-- This is what the file with a name holds, and this URL parsed.
pub record IsFileOf (held : Held) (path url : List ℕ) (file : MapFile) : Type 0 where
  pub holds : IsHeld held path file.bytes.items
  pub parses : parse_url None url ≡ Ok file.base

-- A map isn't looked at: its own URL is none, or there is a failure, which says nothing about it.
abbrev pub IsUnlooked : List ℕ → Verdict → Type 0
IsUnlooked url verdict.NotUrl = is_utf8 url ≡ true → IsErr (parse_url None url)
IsUnlooked url (verdict.Failed why) = ⊤
IsUnlooked url v = ⊥

-- What becomes of the map in the file with a name, whose URL is this.
abbrev pub IsOutcome : Held → List ℕ → List ℕ → ℕ → Work → Outcome → Type 0
IsOutcome held path url most to_do o = IsUnlooked url o.verdict
    ⊎ ((file : MapFile) × IsFileOf held path url file × IsOutcomeOf to_do file.base most file.bytes.items o)

-- ---- what is written

-- A map that is `old` may become this text: its form, if no member is dropped without `--drop`, or its
-- repaired text.
abbrev pub MayBecome : Work → Parts → ℕ → List ℕ → List ℕ → Type 0
MayBecome (work.Check json) base most old new = ⊥
MayBecome (work.Compare form rewrite) base most old new =
    (formed_text form base usual most old ≡ Ok (Some new)) × (decided rewrite (loses old) ≡ deed.Write)
MayBecome (work.Repair write) base most old new = (write ≡ true) × IsMendedTo base most old new

-- The file with a name may be given this text.
pub record IsDue (held : Held) (path url : List ℕ) (most : ℕ) (to_do : Work) (text : List ℕ) : Type 0 where
  pub file : MapFile
  pub is_file : IsFileOf held path url file
  pub due : MayBecome to_do file.base most file.bytes.items text
