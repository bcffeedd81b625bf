-- What a segment's token tells of the segment's values. Which errors there are, and in which order, is in the
-- definitions alone: `grind` goes through their lines.
use Rattle.std.proofs.Common.{◌≡◌, ℕ, ◌+◌, ◌<◌, true, false, cond, eqb, Option, Some, None, Ok, ℤ, pos}
use Rattle.std.proofs.Common.{◌∙◌, arith}
use Rattle.std.proofs.lemmas.Bool.Decides.{nat_tests}
use Rattle.smap_mappings.specs.declared.token.Bounds.{Bounds}
use Rattle.smap_mappings.specs.declared.token.Token.{Token}
use Rattle.smap_mappings.specs.declared.token.Original.{Original}
use Rattle.smap_mappings.specs.Position.{POSITIONS}
use Rattle.smap_mappings.specs.Tokens.{Values, below, placed, column_in, name_in, original_in, token_in}

-- the value is this number, which is below the limit
abbrev pub IsIn : ℕ → ℤ → ℕ → Type 0
IsIn limit z n = (z ≡ pos n) × (n < limit)

is_in : (limit : ℕ) (z : ℤ) (n : ℕ) → below limit z ≡ Some n → IsIn limit z n
is_in limit z n e = grind (arith, nat_tests)

pub placed-line : (bounds : Bounds) (line column : ℕ)
    → (placed bounds line column).line ≡ bounds.start_line + line
placed-line bounds line column = grind (arith, nat_tests)

pub placed-column : (bounds : Bounds) (line column : ℕ)
    → (placed bounds line column).column ≡ cond (eqb line 0) (bounds.start_column + column) column
placed-column bounds line column = grind (arith, nat_tests)

-- ---- the name

-- What is known of a segment by its name, or by having none.
abbrev pub NameTold : Bounds → Values → ℕ → Option ℕ → Type 0
NameTold bounds v count None = eqb count 5 ≡ false
NameTold bounds v count (Some n) = IsIn bounds.names v.name n × (eqb count 5 ≡ true)

name_said : (bounds : Bounds) (v : Values) (count n : ℕ) → name_in bounds v count ≡ Ok (Some n)
    → below bounds.names v.name ≡ Some n
name_said bounds v count n e = grind arith

five_said : (bounds : Bounds) (v : Values) (count n : ℕ) → name_in bounds v count ≡ Ok (Some n)
    → eqb count 5 ≡ true
five_said bounds v count n e = grind arith

no_name_said : (bounds : Bounds) (v : Values) (count : ℕ) → name_in bounds v count ≡ Ok None
    → eqb count 5 ≡ false
no_name_said bounds v count e = grind arith

name_tells : (bounds : Bounds) (v : Values) (count : ℕ) (name : Option ℕ)
    → name_in bounds v count ≡ Ok name → NameTold bounds v count name
name_tells bounds v count None e = no_name_said bounds v count e
name_tells bounds v count (Some n) e =
    (is_in bounds.names v.name n (name_said bounds v count n e), five_said bounds v count n e)

-- ---- the original position

-- What is known of a segment by its original position.
pub record OriginalTold (bounds : Bounds) (v : Values) (count : ℕ) (o : Original) : Type 0 where
  pub source : IsIn bounds.sources v.source o.source
  pub line : IsIn POSITIONS v.original_line o.line
  pub column : IsIn POSITIONS v.original_column o.column
  pub name : NameTold bounds v count o.name
  pub several : eqb count 1 ≡ false

source_said : (bounds : Bounds) (v : Values) (count : ℕ) (o : Original)
    → original_in bounds v count ≡ Ok (Some o) → below bounds.sources v.source ≡ Some o.source
source_said bounds v count o e = grind arith

line_said : (bounds : Bounds) (v : Values) (count : ℕ) (o : Original)
    → original_in bounds v count ≡ Ok (Some o) → below POSITIONS v.original_line ≡ Some o.line
line_said bounds v count o e = grind arith

column_said : (bounds : Bounds) (v : Values) (count : ℕ) (o : Original)
    → original_in bounds v count ≡ Ok (Some o) → below POSITIONS v.original_column ≡ Some o.column
column_said bounds v count o e = grind arith

named_said : (bounds : Bounds) (v : Values) (count : ℕ) (o : Original)
    → original_in bounds v count ≡ Ok (Some o) → name_in bounds v count ≡ Ok o.name
named_said bounds v count o e = grind arith

several_said : (bounds : Bounds) (v : Values) (count : ℕ) (o : Original)
    → original_in bounds v count ≡ Ok (Some o) → eqb count 1 ≡ false
several_said bounds v count o e = grind arith

pub original_tells : (bounds : Bounds) (v : Values) (count : ℕ) (o : Original)
    → original_in bounds v count ≡ Ok (Some o) → OriginalTold bounds v count o
original_tells bounds v count o e = record {
  source = is_in bounds.sources v.source o.source (source_said bounds v count o e);
  line = is_in POSITIONS v.original_line o.line (line_said bounds v count o e);
  column = is_in POSITIONS v.original_column o.column (column_said bounds v count o e);
  name = name_tells bounds v count o.name (named_said bounds v count o e);
  several = several_said bounds v count o e;
}

-- a segment without one has one number
pub one_said : (bounds : Bounds) (v : Values) (count : ℕ) → original_in bounds v count ≡ Ok None
    → eqb count 1 ≡ true
one_said bounds v count e = grind arith

-- ---- the token

-- What is known of a segment on a line by its token, and by its column before placing.
pub record TokenTold (bounds : Bounds) (line : ℕ) (v : Values) (count : ℕ) (x : ℕ × Token) : Type 0 where
  pub line_is : x.1.line ≡ bounds.start_line + line
  pub within : x.1.line < bounds.lines
  pub column : v.column ≡ pos x.0
  pub is_placed : x.1.column ≡ (placed bounds line x.0).column
  pub in_range : x.1.column < POSITIONS
  pub original : original_in bounds v count ≡ Ok x.1.original

line_there : (bounds : Bounds) (line : ℕ) (v : Values) (count : ℕ) (x : ℕ × Token)
    → token_in bounds line v count ≡ Ok x
    → below bounds.lines (pos (placed bounds line 0).line) ≡ Some x.1.line
line_there bounds line v count x e = grind arith

column_there : (bounds : Bounds) (line : ℕ) (v : Values) (count : ℕ) (x : ℕ × Token)
    → token_in bounds line v count ≡ Ok x → column_in bounds line v.column ≡ Some (x.0, x.1.column)
column_there bounds line v count x e = grind arith

original_there : (bounds : Bounds) (line : ℕ) (v : Values) (count : ℕ) (x : ℕ × Token)
    → token_in bounds line v count ≡ Ok x → original_in bounds v count ≡ Ok x.1.original
original_there bounds line v count x e = grind arith

column_is : (bounds : Bounds) (line : ℕ) (z : ℤ) (own at : ℕ) → column_in bounds line z ≡ Some (own, at)
    → (z ≡ pos own) × (at ≡ (placed bounds line own).column) × (at < POSITIONS)
column_is bounds line z own at e = grind (arith, nat_tests)

pub token_tells : (bounds : Bounds) (line : ℕ) (v : Values) (count : ℕ) (x : ℕ × Token)
    → token_in bounds line v count ≡ Ok x → TokenTold bounds line v count x
token_tells bounds line v count x e =
    let l =
    is_in bounds.lines (pos (placed bounds line 0).line) x.1.line
    (line_there bounds line v count x e) in
    let c = column_is bounds line v.column x.0 x.1.column (column_there bounds line v count x e) in
    let same : x.1.line ≡ (placed bounds line 0).line = cc in
    record {
      line_is = same ∙ placed-line bounds line 0;
      within = l.1;
      column = c.0;
      is_placed = c.1;
      in_range = c.2;
      original = original_there bounds line v count x e;
    }

-- ---- values that are read

pub original_read : (bounds : Bounds) (v : Values) (count : ℕ) (o : Original)
    → IsIn bounds.sources v.source o.source
    → IsIn POSITIONS v.original_line o.line → IsIn POSITIONS v.original_column o.column
    → name_in bounds v count ≡ Ok o.name → eqb count 1 ≡ false → original_in bounds v count ≡ Ok (Some o)
original_read bounds v count o source line column name several = grind (arith, nat_tests)

pub token_read : (bounds : Bounds) (line : ℕ) (v : Values) (count own : ℕ) (t : Token)
    → bounds.start_line + line ≡ t.line → t.line < bounds.lines
    → column_in bounds line v.column ≡ Some (own, t.column)
    → original_in bounds v count ≡ Ok t.original → token_in bounds line v count ≡ Ok (own, t)
token_read bounds line v count own t at within column original =
    grind (arith, nat_tests, placed-line bounds line 0)
