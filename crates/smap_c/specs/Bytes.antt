-- What the calls that write bytes, and those that give them, come to.
use Rattle.std.specs.Prelude.{◌≡◌, ℕ, ◌⊎◌, nat_le, cond, List, drop, length, Option, Some, None, Result, Ok}
use Rattle.std.specs.Prelude.{Err}
use Rattle.std.specs.declared.alloc.AllocError.{AllocError}
use Rattle.std.specs.Global.{Vec}
use Rattle.std.specs.Ptr.{Ptr}
use Rattle.std.specs.Vec.{vec_ptr}
use Rattle.smap_record.specs.Record.{record_of}
use Rattle.smap_canon.specs.Canonical.{canonical_text, canonical_text_in, canonical_mappings_text}
use Rattle.smap_canon.specs.Layout.{relative_form, flat_text}
use Rattle.smap_mappings.specs.declared.token.Token.{Token}
use Rattle.smap_mappings.specs.Limits.{widest}
use Rattle.smap_mappings.specs.Tokens.{Fault as SegmentFault}
use Rattle.smap_mappings.specs.Decoded.{decoded}
use Rattle.smap_mappings.specs.Text.{mappings_text}
use Rattle.smap_record.specs.declared.fault.ReadError.{ReadError}
use Rattle.smap_record.specs.Results.{Returns}
use Rattle.smap_record.specs.Faults.{Checked, segment_fault}
use Rattle.smap_c_answers.specs.Strings.{copied}
use Rattle.smap_c.specs.declared.opened.Opened.{Opened}
use Rattle.smap_c.specs.Faults.{ReportsFault}
use Rattle.smap_c.specs.declared.faults.SmapFault.{SmapFault}
use Rattle.smap_c_answers.specs.Codes as codes

-- the handle has these bytes
abbrev pub Holds : List ℕ → Option (Vec ℕ) → Type 0
Holds text None = ⊥
Holds text (Some v) = v.items ≡ text

-- The handle has the text, or memory ran out and it is as it was.
abbrev pub Writes : List ℕ → Option (Vec ℕ) → Option (Vec ℕ) → ℕ → Type 0
Writes text old new code = (Holds text new × (code ≡ codes.OK)) ⊎ ((new ≡ old) × (code ≡ codes.MEMORY))

-- the same of an answer
abbrev pub Puts : Result (Vec ℕ) AllocError → Option (Vec ℕ) → Option (Vec ℕ) → ℕ → Type 0
Puts (Ok v) old new code = Writes v.items old new code
Puts (Err e) old new code = (new ≡ old) × (code ≡ codes.MEMORY)

-- ---- the forms of a map

-- The canonical bytes of the map.
abbrev pub Tidies : Option Opened → Option (Vec ℕ) → Option (Vec ℕ) → ℕ → Type 0
Tidies None old new code = (code ≡ codes.CLOSED) × (new ≡ old)
Tidies (Some o) old new code = Writes (canonical_text (record_of o.map)) old new code

-- The same in the relative form, against the map's own base.
abbrev pub TidiesRelative : Option Opened → Option (Vec ℕ) → Option (Vec ℕ) → ℕ → Type 0
TidiesRelative None old new code = (code ≡ codes.CLOSED) × (new ≡ old)
TidiesRelative (Some o) old new code =
    Writes (canonical_text_in relative_form o.base.value (record_of o.map)) old new code

-- The canonical mappings text of the map.
abbrev pub SpellsMappings : Option Opened → Option (Vec ℕ) → Option (Vec ℕ) → ℕ → Type 0
SpellsMappings None old new code = (code ≡ codes.CLOSED) × (new ≡ old)
SpellsMappings (Some o) old new code = Writes (canonical_mappings_text (record_of o.map)) old new code

-- The flat bytes of the map.
abbrev pub Flattens : Option Opened → Option (Vec ℕ) → Option (Vec ℕ) → ℕ → Type 0
Flattens None old new code = (code ≡ codes.CLOSED) × (new ≡ old)
Flattens (Some o) old new code = Writes (flat_text o.map) old new code

-- ---- the bytes of a handle

-- The bytes from there on are copied, and their whole number is answered.
abbrev pub IsCopied : Option (Vec ℕ) → ℕ → List ℕ → List ℕ → ℕ → Type 0
IsCopied None from before after len = (len ≡ 0) × (after ≡ before)
IsCopied (Some v) from before after len = (len ≡ length v.items)
    × (after ≡ cond (nat_le from (length v.items)) (copied (drop from v.items) before) before)

-- The bytes lie there.
abbrev pub IsAt : Option (Vec ℕ) → Ptr → Ptr → ℕ → ℕ → Type 0
IsAt None before after len code = (code ≡ codes.CLOSED) × (len ≡ 0) × (after ≡ before)
IsAt (Some v) before after len code =
    (code ≡ codes.OK) × (len ≡ length v.items) × (after ≡ vec_ptr v)

-- ---- the shortest spellings of a mappings text

-- the text of tokens, or the fault of a segment
abbrev pub respelled : Result (List Token) SegmentFault → Checked (List ℕ)
respelled (Ok tokens) = Ok (mappings_text tokens)
respelled (Err fault) = Err (segment_fault fault)

-- The tokens of the text in their shortest spellings, or its first fault. The text starts at line 0 and
-- column 0, and its indices may be as large as a position.
unfoldable pub respelling : List ℕ → Checked (List ℕ)
respelling text = respelled (decoded widest text)

-- that text, or that fault, unless memory ran out
abbrev pub ReturnsText : Result (Vec ℕ) ReadError → Checked (List ℕ) → Type 0
ReturnsText answer said = Returns (λ v. v.items) answer said

-- the handle has the text, or the fault is reported; or memory ran out
abbrev pub RespellsAs : Checked (List ℕ) → Option (Vec ℕ) → Option (Vec ℕ) → SmapFault → SmapFault → ℕ
    → Type 0
RespellsAs (Ok text) old new before after code = Writes text old new code × (after ≡ before)
RespellsAs (Err fault) old new before after code = ReportsFault fault before after code × (new ≡ old)

-- The handle has the text in its shortest spellings, or its fault is reported; or memory ran out, and
-- nothing is.
abbrev pub Respells : List ℕ → Option (Vec ℕ) → Option (Vec ℕ) → SmapFault → SmapFault → ℕ → Type 0
Respells text old new before after code = RespellsAs (respelling text) old new before after code
