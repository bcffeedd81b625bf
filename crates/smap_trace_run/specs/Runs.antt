-- What a run writes of its logs.
use Rattle.std.specs.Prelude.{◌≡◌, ◌⊎◌, ℕ, ◌&&◌, ◌||◌, Bool, false, not, List, [], ◌∷◌, map, ⊤}
use Rattle.std.specs.Prelude.{Option, None, Some, codes, cond, option_map}
use Rattle.std.specs.Borrow.{Bor}
use Rattle.std.specs.Io.KnownBytes.{Appends}
use Rattle.smap_system.specs.Held.{Held}
use Rattle.smap_system.specs.Tree.{Told}
use Rattle.smap_map_files.specs.Lists.{lists_of, no_lists}
use Rattle.smap_map_files.specs.Naming.{NamesAll}
use Rattle.smap_map_files.specs.Positions.{AreClear, has_positions, log_in}
use Rattle.smap_map_files.specs.Settling.{IsSettled}
use Rattle.smap_map_files.specs.declared.wanted.Wanted.{Wanted}
use Rattle.smap_trace_run.specs.Written.{AreTraced, IsTracedFront, IsTracedTextIn}
use Rattle.smap_trace_run.specs.declared.program.TheConstants.{STDIN}
use Rattle.smap_trace_run.specs.declared.program.InputKind.{InputKind}
use Rattle.smap_trace_run.specs.declared.program.InputKind.TheVariants.{Closed, File, Other, Terminal}
use Rattle.smap_trace_run.specs.declared.tracing.Job.{Job}
use Rattle.smap_command_line.specs.Lookups.{has, number, text, url_bytes}
use Rattle.smap_command_line.specs.declared.lookups.Options.{Options}
use Rattle.smap_command_line.specs.declared.pairs.Pair.{Pair}
use Rattle.smap_command_line.specs.declared.trace.words.Asked.{Asked}
use Rattle.smap_command_line.specs.declared.trace.words.Asked.TheVariants.{Help, Trace, Version}
use Rattle.smap_command_line.specs.declared.trace.words.TraceWords.{TraceWords}

-- Standard input that is a file was translated and written as far as it went, if it can be read from its
-- beginning as well, or else to its end.
abbrev pub IsTracedRedirected : Held → Job → ℕ → Option (List ℕ) → Option (List ℕ) → Option (List ℕ) → Type 0
IsTracedRedirected held job worst left before after =
    IsTracedFront held job worst STDIN.now left before after
    ⊎ IsTracedTextIn held job worst (λ name. ⊤) left before after

-- Standard input was translated and written so, or, if it is none, to its end.
abbrev pub IsTracedInput : Held → Job → ℕ → InputKind → Option (List ℕ) → Option (List ℕ) → Option (List ℕ)
    → Type 0
IsTracedInput held job worst File left before after = IsTracedRedirected held job worst left before after
IsTracedInput held job worst Closed left before after =
    IsTracedTextIn held job worst (λ name. ⊤) left before after
IsTracedInput held job worst Terminal left before after =
    IsTracedTextIn held job worst (λ name. ⊤) left before after
IsTracedInput held job worst Other left before after =
    IsTracedTextIn held job worst (λ name. ⊤) left before after

-- These positions were translated and written, each on a line of its own; or standard input, if there are
-- none.
abbrev pub AreTracedWords : Held → Job → ℕ → List (Bor (List ℕ)) → InputKind → Option (List ℕ)
    → Option (List ℕ) → Option (List ℕ) → Type 0
AreTracedWords held job worst [] kind left before after = IsTracedInput held job worst kind left before after
AreTracedWords held job worst (word ∷ words) kind left before after =
    IsTracedTextIn held job worst (λ name. ⊤) (Some (log_in job.wanted.positions)) before after

-- The positions that are given were, or standard input.
abbrev pub IsTracedLines : Held → Job → ℕ → InputKind → Option (List ℕ) → Option (List ℕ) → Option (List ℕ)
    → Type 0
IsTracedLines held job worst kind left before after =
    AreTracedWords held job worst job.wanted.positions.words.items kind left before after

-- The logs with these names were translated and written, or, if there are none, positions or standard
-- input.
abbrev pub IsTracedRun : Held → Job → ℕ → List (List ℕ) → InputKind → Option (List ℕ) → Option (List ℕ)
    → Option (List ℕ) → Type 0
IsTracedRun held job worst [] kind left before after = IsTracedLines held job worst kind left before after
IsTracedRun held job worst (path ∷ paths) kind left before after =
    AreTraced held job worst (path ∷ paths) before after

-- The logs of a run were translated and written.
abbrev pub IsTracedJob : Held → Job → ℕ → InputKind → Option (List ℕ) → Option (List ℕ) → Option (List ℕ)
    → Type 0
IsTracedJob held job worst kind left before after =
    IsTracedRun held job worst (map (λ p. p.now) job.wanted.logs.items) kind left before after

-- The same by a run that came to its end with this status: that of the worst map that was refused, and so 0
-- if none was, or 0 where broken maps are skipped.
pub record IsTracedTo (status : ℕ) (held : Held) (job : Job) (kind : InputKind)
    (left before after : Option (List ℕ)) : Type 0 where
  pub worst : ℕ
  pub traced : IsTracedJob held job worst kind left before after
  pub status_is : status ≡ cond job.how.skip 0 worst

-- A run translates: it doesn't list scripts, and explains no position.
pub record IsTranslating (job : Job) : Type 0 where
  pub list : job.list ≡ false
  pub explain : job.explain ≡ None

-- So these options ask for.
pub record IsToTranslate (options : Options) : Type 0 where
  pub list : has options (codes "list") ≡ false
  pub explain : text options (codes "explain") ≡ None

-- whether it is no fault of a run that maps are refused
abbrev pub skipping : Options → Bool
skipping options = has options (codes "skip-broken") && not (has options (codes "strict"))

-- whether positions are found anywhere in a line: unless frames alone are asked for
abbrev pub finds_anywhere : Options → Bool
finds_anywhere options = has options (codes "anywhere") || not (has options (codes "frames-only"))

-- what is written for the beginnings of source URLs: for each its first text the second
abbrev pub pairs_of : List (Bor (List ℕ) × Bor (List ℕ)) → List (List ℕ × List ℕ)
pairs_of pairs = map (λ p. (p.0.now, p.1.now)) pairs

-- the same as the words have it
abbrev pub prefixes_of : List Pair → List (List ℕ × List ℕ)
prefixes_of prefixes = map (λ p. (p.key.now, p.text.now)) prefixes

-- A run does what these words ask for: positions are found anywhere in its lines, always where it is to
-- translate positions. A URL in the log is taken with its query.
pub record IsJobOf (asked : TraceWords) (job : Job) : Type 0 where
  pub anywhere : job.anywhere ≡ (finds_anywhere asked.options || has_positions job.wanted)
  pub list : job.list ≡ has asked.options (codes "list")
  pub explain : option_map (λ p. p.now) job.explain ≡ text asked.options (codes "explain")
  pub check_all : job.check_all ≡ has asked.options (codes "check-all")
  pub skip : job.how.skip ≡ skipping asked.options
  pub strict : job.strict ≡ has asked.options (codes "strict")
  pub verbose : job.how.verbose ≡ has asked.options (codes "verbose")
  pub found_anywhere : job.style.mode.anywhere ≡ job.anywhere
  pub queries : job.style.mode.ignore_query ≡ false
  pub hide : job.style.hide ≡ has asked.options (codes "hide-ignored")
  pub context : job.style.context ≡ number asked.options (codes "context")
  pub names : job.style.names ≡ has asked.options (codes "names")
  pub prefixes : pairs_of job.style.prefixes.now ≡ prefixes_of asked.prefixes.items

-- These are the maps and logs that the arguments of these words name, one map for each script; the URLs of
-- a map's sources may take as many bytes as the words say, and maps that are refused are mended unless these
-- are strict; and it is clear what positions are meant.
pub record AreFound (told : Told) (held : Held) (asked : TraceWords) (wanted : Wanted) : Type 0 where
  pub named : Wanted
  pub names : NamesAll told held asked.arguments.items no_lists (lists_of named)
  pub settled : IsSettled named wanted
  pub url_bytes : wanted.reading.url_bytes ≡ url_bytes asked.options
  pub mends : wanted.reading.mends ≡ not (has asked.options (codes "strict"))
  pub chains : wanted.reading.chains ≡ not (has asked.options (codes "no-chain"))
  pub clear : AreClear wanted

-- What is wanted was translated and written by a run that does what these words ask for, and came to its end
-- with this status.
pub record IsTracedAsked (status : ℕ) (held : Held) (wanted : Wanted) (asked : TraceWords) (kind : InputKind)
    (left before after : Option (List ℕ)) : Type 0 where
  pub job : Job
  pub wanted_is : job.wanted ≡ wanted
  pub is_job : IsJobOf asked job
  pub traced : IsTracedTo status held job kind left before after

-- The same of what the words name, with status 0, where they ask for a translation on standard output; or the
-- help or the version was written.
abbrev pub IsAnswered : Told → Held → List ℕ → List ℕ → Asked → InputKind → Option (List ℕ) → Option (List ℕ)
    → Option (List ℕ) → Type 0
IsAnswered told held help version Help kind left before after = Appends before after help
IsAnswered told held help version Version kind left before after = Appends before after version
IsAnswered told held help version (Trace asked) kind left before after =
    text asked.options (codes "output") ≡ None → IsToTranslate asked.options
    → (wanted : Wanted) × AreFound told held asked wanted
    × IsTracedAsked 0 held wanted asked kind left before after
