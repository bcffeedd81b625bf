-- Ranges of bytes of a text.
use Rattle.std.specs.Prelude.{ℕ, ◌≤◌, ◌-◌, ◌++◌, List, take, drop}
use Rattle.smap_fault_places.specs.declared.range.TextRange.{TextRange}

-- a range of a text of this length
abbrev pub IsRangeOf : ℕ → TextRange → Type 0
IsRangeOf len r = (r.start ≤ r.end) × (r.end ≤ len)

-- the bytes from one place up to another
abbrev pub between : ℕ → ℕ → List ℕ → List ℕ
between start end text = take (end - start) (drop start text)

-- the bytes in a range
abbrev pub bytes_in : TextRange → List ℕ → List ℕ
bytes_in r text = between r.start r.end text

-- the text with other bytes in place of those in a range
abbrev pub replaced : TextRange → List ℕ → List ℕ → List ℕ
replaced r other text = take r.start text ++ (other ++ drop r.end text)
