-- What the calls that give what a source has come to.
use Rattle.std.specs.Prelude.{◌≡◌, ℕ, List, slice_get, Option, Some, None, Bool}
use Rattle.smap_record.specs.Record.{Entry, ReadMap, record_of}
use Rattle.smap_c_answers.specs.Strings.{TextReported, ClosedReported}
use Rattle.smap_c.specs.declared.opened.Opened.{Opened}
use Rattle.smap_c_answers.specs.Codes as codes

-- of a source, or there is no such source
abbrev pub EntryReported : (Entry → Option (List ℕ)) → Option Entry → List ℕ → List ℕ → ℕ → ℕ → Type 0
EntryReported text None before after len code = (code ≡ codes.RANGE) × (len ≡ 0) × (after ≡ before)
EntryReported text (Some e) before after len code = TextReported (text e) before after len code

abbrev pub UrlReported : ReadMap → ℕ → List ℕ → List ℕ → ℕ → ℕ → Type 0
UrlReported m i before after len code =
    EntryReported (λ e. e.url) (slice_get (record_of m).sources i) before after len code

abbrev pub ContentReported : ReadMap → ℕ → List ℕ → List ℕ → ℕ → ℕ → Type 0
ContentReported m i before after len code =
    EntryReported (λ e. e.content) (slice_get (record_of m).sources i) before after len code

-- whether a source is ignored, or there is no such source
abbrev pub FlagReported : Option Entry → Bool → Bool → ℕ → Type 0
FlagReported None before after code = (code ≡ codes.RANGE) × (after ≡ before)
FlagReported (Some e) before after code = (code ≡ codes.OK) × (after ≡ e.ignored)

abbrev pub IgnoredReported : ReadMap → ℕ → Bool → Bool → ℕ → Type 0
IgnoredReported m i before after code = FlagReported (slice_get (record_of m).sources i) before after code

-- ---- the same of a handle

abbrev pub SourceUrl : Option Opened → ℕ → List ℕ → List ℕ → ℕ → ℕ → Type 0
SourceUrl None i before after len code = ClosedReported before after len code
SourceUrl (Some o) i before after len code = UrlReported o.map i before after len code

abbrev pub SourceContent : Option Opened → ℕ → List ℕ → List ℕ → ℕ → ℕ → Type 0
SourceContent None i before after len code = ClosedReported before after len code
SourceContent (Some o) i before after len code = ContentReported o.map i before after len code

abbrev pub Ignored : Option Opened → ℕ → Bool → Bool → ℕ → Type 0
Ignored None i before after code = (code ≡ codes.CLOSED) × (after ≡ before)
Ignored (Some o) i before after code = IgnoredReported o.map i before after code
