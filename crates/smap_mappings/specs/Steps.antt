-- For private contracts: the next segment, by the absolute values before it.
use Rattle.std.specs.Prelude.{◌≡◌, ℕ, zero, suc, ◌+◌, ◌<◌, ◌≤◌, ◌==◌, length, if◌then◌else◌, List, [], ◌∷◌}
use Rattle.std.specs.Prelude.{◌++◌, ℤ, pos, ◌+ℤ◌}
use Rattle.std.specs.Prelude.{Bool, true, not, ◌&&◌, slice_index_or, Result, Ok, Err}
use Rattle.std.specs.List.{AllByRecursion, count_by}
use Rattle.smap_mappings.specs.declared.token.Token.{Token}
use Rattle.smap_mappings.specs.declared.error.SegmentKind.{SegmentKind}
use Rattle.smap_mappings.specs.declared.token.Bounds.{Bounds}
use Rattle.smap_mappings.specs.declared.running.Running.{Running}
use Rattle.smap_vlq.specs.declared.segment.Fields.{Fields}
use Rattle.smap_vlq.specs.declared.segment.SegmentFault.{SegmentFault}
use Rattle.smap_vlq.specs.Segment.{fields_in}
use Rattle.smap_mappings.specs.Lines.{SegmentText}
use Rattle.smap_mappings.specs.declared.error.MappingsError.{MappingsError}
use Rattle.smap_mappings.specs.declared.error.MappingsError.TheVariants as errors
use Rattle.smap_vlq.specs.Number.{◌>>=◌}
use Rattle.smap_mappings.specs.declared.position.Position.{Position}
use Rattle.smap_mappings.specs.Position.{is_before}
use Rattle.smap_mappings.specs.Tokens.{Segment, Values, generated_column, source_index, token_in}
use Rattle.smap_mappings.specs.Tokens.{original_line, original_column, name_index, kind_of, Fault}
use Rattle.smap_mappings.specs.Tokens.{tokens_after}
use Rattle.smap_mappings.specs.Writing.{original_after}

-- These are the absolute values after the segments, on a line that none of them is after.
pub record Sums (r : Running) (before : List Segment) (line : ℕ) : Type 0 where
  pub column : generated_column before line ≡ pos r.column
  pub source : source_index before ≡ pos r.source
  pub original_line : original_line before ≡ pos r.original_line
  pub original_column : original_column before ≡ pos r.original_column
  pub name : name_index before ≡ pos r.name
  pub not_past : AllByRecursion (λ s. s.line ≤ line) before

-- the values before the first segment
abbrev pub at_start : Running
at_start = record { column = 0; source = 0; original_line = 0; original_column = 0; name = 0 }

-- ---- a segment by the absolute values before it

abbrev pub field : Fields → ℕ → ℤ
field fields which = slice_index_or fields.numbers which (pos 0)

-- the values of a segment with these fields
abbrev pub next_values : Running → Fields → Values
next_values r fields = record {
  column = pos r.column +ℤ field fields 0;
  source = pos r.source +ℤ field fields 1;
  original_line = pos r.original_line +ℤ field fields 2;
  original_column = pos r.original_column +ℤ field fields 3;
  name = pos r.name +ℤ field fields 4;
}

-- the running values after a segment with this column and this token
abbrev pub values_after : Running → ℕ × Token → Running
values_after r x = record (original_after r x.1.original) { column = x.0 }

abbrev pub token_step : Bounds → Running → ℕ → Fields → Result (Running × Token) SegmentKind
token_step bounds r line fields =
    token_in bounds line (next_values r fields) fields.count >>= λ x. Ok (values_after r x, x.1)

abbrev pub fields_or_kind : Result Fields SegmentFault → Result Fields SegmentKind
fields_or_kind (Ok fields) = Ok fields
fields_or_kind (Err fault) = Err (kind_of fault)

abbrev pub judge_step : Bounds → Running → ℕ → List ℕ → Result (Running × Token) SegmentKind
judge_step bounds r line text = fields_or_kind (fields_in text) >>= λ fields. token_step bounds r line fields

abbrev pub text_at : ℕ → ℕ → List ℕ → SegmentText
text_at line index text = record { line = line; index = index; text = text }

-- the segment that ends here: none on an empty line
abbrev pub ending : ℕ → ℕ → List ℕ → List SegmentText
ending line zero [] = []
ending line zero (b ∷ bs) = text_at line 0 (b ∷ bs) ∷ []
ending line (suc index) current = text_at line (suc index) current ∷ []

-- the segments from within a segment on, whose bytes so far are given
abbrev pub walk : ℕ → ℕ → List ℕ → List ℕ → List SegmentText
walk line index current [] = ending line index current
walk line index current (b ∷ bs) =
    if b == 59 then ending line index current ++ walk (line + 1) 0 [] bs
    else if b == 44 then text_at line index current ∷ walk line (index + 1) [] bs
    else walk line index (current ++ b ∷ []) bs

abbrev pub with_tokens : List Token → Result (List Token) Fault → Result (List Token) Fault
with_tokens front read = read >>= λ tokens. Ok (front ++ tokens)

-- Segments were read after others; or one has a fault, whatever segments follow; or there are more tokens
-- than there is room for.
abbrev pub Continues : Bounds → List Segment → ℕ → List SegmentText → ℕ → List Token → List Token
    → Result Running MappingsError → Type 0
Continues bounds before line texts room old new (Ok r) = (after : List Segment) × Sums r after line
    × ((rest : List SegmentText)
    → with_tokens old (tokens_after bounds before (texts ++ rest))
    ≡ with_tokens new (tokens_after bounds after rest))
Continues bounds before line texts room old new (Err (errors.Fault place kind)) = (rest : List SegmentText)
    → tokens_after bounds before (texts ++ rest) ≡ Err (place, kind)
Continues bounds before line texts room old new (Err errors.Memory) = (tokens : List Token)
    × (tokens_after bounds before texts ≡ Ok tokens) × (room < length old + length tokens)

-- ---- order

-- whether no position is before the previous one
abbrev pub in_order : List Position → Bool
in_order [] = true
in_order (p ∷ []) = true
in_order (p ∷ q ∷ qs) = not (is_before q p) && in_order (q ∷ qs)

-- ---- counting

-- What a byte adds to the number of segments, given the byte before it: one for a comma, and one for the
-- first byte of a line.
abbrev pub mark : ℕ → ℕ → ℕ
mark previous byte =
    (if byte == 44 then 1 else 0) + (if previous == 59 then (if byte == 59 then 0 else 1) else 0)

-- what bytes add, given the byte before them
abbrev pub marks : ℕ → List ℕ → ℕ
marks previous [] = 0
marks previous (b ∷ bs) = mark previous b + marks b bs

-- the commas among bytes
abbrev pub commas_in : List ℕ → ℕ
commas_in bytes = count_by (λ b. b == 44) bytes

-- how many bytes are the first of a line, given the byte before each
abbrev pub starts_in : List ℕ → List ℕ → ℕ
starts_in (p ∷ ps) (b ∷ bs) = (if p == 59 then (if b == 59 then 0 else 1) else 0) + starts_in ps bs
starts_in ps bs = 0
