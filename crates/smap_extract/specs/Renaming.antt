-- Sources with other beginnings, as a map writes them.
use Rattle.std.specs.Prelude.{◌≡◌, ℕ, List, [], ◌∷◌, ◌++◌, cond, drop, length, map, nat_eq, option_map}
use Rattle.std.specs.Borrow.{Bor}
use Rattle.std.specs.List.{starts_with}
use Rattle.smap_record.specs.Written.{Spelling, as_written}
use Rattle.smap_extract.specs.Spans.{IsSpliced}
use Rattle.smap_extract.specs.declared.changing.Change.{Change}
use Rattle.smap_extract.specs.declared.changing.Change.TheVariants as change
use Rattle.smap_extract.specs.declared.sources_run.SourcesTask.{SourcesTask}
use Rattle.smap_extract.specs.declared.sources_run.SourcesTask.TheVariants as task

-- a beginning of sources, and what stands for it
abbrev pub Prefix : Type 0
Prefix = List ℕ × List ℕ

-- these as the code has them
abbrev pub prefixes_in : List (Bor (List ℕ) × Bor (List ℕ)) → List Prefix
prefixes_in prefixes = map (λ p. (p.0.now, p.1.now)) prefixes

-- the source with the other beginning, for the first of these with which it begins
abbrev pub renamed : List Prefix → List ℕ → List ℕ
renamed [] source = source
renamed (p ∷ rest) source =
    cond (starts_with nat_eq source p.0) (p.1 ++ drop (length p.0) source) (renamed rest source)

abbrev pub respelled : List Prefix → Spelling → Spelling
respelled ps s = record { source = option_map (renamed ps) s.source; root = s.root }

-- the beginnings that a change gives
abbrev pub prefixes_of : Change → List Prefix
prefixes_of (change.Rename prefixes) = prefixes_in prefixes.now
prefixes_of c = []

-- Only the bytes in some ranges are others, and the new text lists the sources of the old one with these
-- beginnings, each with its root.
pub record IsChanged (ps : List Prefix) (old new : List ℕ) : Type 0 where
  pub spliced : IsSpliced old new
  pub sources : as_written new ≡ map (respelled ps) (as_written old)

-- The beginnings that a task gives to sources: none to those that get or lose contents, or in place of one
-- that all have.
abbrev pub AreGiven : SourcesTask → List Prefix → Type 0
AreGiven (task.Add meant) ps = ps ≡ []
AreGiven (task.Drop meant) ps = ps ≡ []
AreGiven (task.Rename given) ps = ps ≡ prefixes_in given.items
AreGiven task.Strip ps = (from : List ℕ) × (ps ≡ (from, []) ∷ [])

-- What a task makes of a map's text.
abbrev pub IsChangedBy : SourcesTask → List ℕ → List ℕ → Type 0
IsChangedBy asked old new = (ps : List Prefix) × AreGiven asked ps × IsChanged ps old new
