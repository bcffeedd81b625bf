-- What the calls that give what a map lists come to.
use Rattle.std.specs.Prelude.{◌≡◌, ℕ, true, false, List, length, map, slice_get, Option, Some, None}
use Rattle.smap_mappings.specs.declared.token.Token.{Token}
use Rattle.smap_mappings.specs.declared.token.Original.{Original}
use Rattle.smap_record.specs.Record.{Entry, ReadMap, record_of}
use Rattle.smap_record.specs.Written.{Spelling}
use Rattle.smap_c_answers.specs.Strings.{copied, TextReported, ClosedReported}
use Rattle.smap_c.specs.declared.lists.SmapListedMapping.{SmapListedMapping}
use Rattle.smap_c.specs.declared.opened.Opened.{Opened}
use Rattle.smap_c_answers.specs.Codes as codes

-- a mapping without an original
abbrev pub unmapped : ℕ → ℕ → SmapListedMapping
unmapped line column = record {
  line = line;
  column = column;
  has_source = false;
  has_name = false;
  source_line = 0;
  source_column = 0;
  source = 0;
  name = 0;
}

-- the same with a source's position
abbrev pub mapped : SmapListedMapping → Original → SmapListedMapping
mapped m o = record m {
  has_source = true;
  source_line = o.line;
  source_column = o.column;
  source = o.source;
}

-- the same with a name, where there is one
abbrev pub named : SmapListedMapping → Option ℕ → SmapListedMapping
named m None = m
named m (Some name) = record m { has_name = true; name = name }

-- the original of a mapping, where there is one
abbrev pub with_original : SmapListedMapping → Option Original → SmapListedMapping
with_original m None = m
with_original m (Some o) = named (mapped m o) o.name

-- A listed mapping's numbers.
abbrev pub reported_listed_mapping : Token → SmapListedMapping
reported_listed_mapping t = with_original (unmapped t.line t.column) t.original

-- the number of a source among the distinct ones, or there is no such source in the list
abbrev pub SourceIs : ReadMap → Option Entry → ℕ → ℕ → ℕ → Type 0
SourceIs m None before after code = (code ≡ codes.RANGE) × (after ≡ before)
SourceIs m (Some e) before after code = (code ≡ codes.OK) × (slice_get (record_of m).sources after ≡ Some e)

abbrev pub SourceReported : ReadMap → ℕ → ℕ → ℕ → ℕ → Type 0
SourceReported m i before after code = SourceIs m (slice_get m.listing.sources i) before after code

-- the name is copied, or there is no such name
abbrev pub NameIs : Option (List ℕ) → List ℕ → List ℕ → ℕ → ℕ → Type 0
NameIs None before after len code = (code ≡ codes.RANGE) × (len ≡ 0) × (after ≡ before)
NameIs (Some name) before after len code =
    (code ≡ codes.OK) × (len ≡ length name) × (after ≡ copied name before)

abbrev pub NameReported : ReadMap → ℕ → List ℕ → List ℕ → ℕ → ℕ → Type 0
NameReported m i before after len code = NameIs (slice_get m.listing.names i) before after len code

-- the mapping's numbers, or there is no such mapping
abbrev pub TokenIs : Option Token → SmapListedMapping → SmapListedMapping → ℕ → Type 0
TokenIs None before after code = (code ≡ codes.RANGE) × (after ≡ before)
TokenIs (Some t) before after code = (code ≡ codes.OK) × (after ≡ reported_listed_mapping t)

abbrev pub TokenReported : ReadMap → ℕ → SmapListedMapping → SmapListedMapping → ℕ → Type 0
TokenReported m i before after code = TokenIs (slice_get m.listing.tokens i) before after code

-- of a source as it is written, or there is no such source
abbrev pub SpellingReported : (Spelling → Option (List ℕ)) → Option Spelling → List ℕ → List ℕ → ℕ → ℕ
    → Type 0
SpellingReported text None before after len code = (code ≡ codes.RANGE) × (len ≡ 0) × (after ≡ before)
SpellingReported text (Some s) before after len code = TextReported (text s) before after len code

abbrev pub WrittenSourceReported : List Spelling → ℕ → List ℕ → List ℕ → ℕ → ℕ → Type 0
WrittenSourceReported ss i before after len code =
    SpellingReported (λ s. s.source) (slice_get ss i) before after len code

abbrev pub WrittenRootReported : List Spelling → ℕ → List ℕ → List ℕ → ℕ → ℕ → Type 0
WrittenRootReported ss i before after len code =
    SpellingReported (λ s. s.root) (slice_get ss i) before after len code

-- a source as it is written where no text writes it: its URL, and no root
abbrev pub plain : Entry → Spelling
plain e = record { source = e.url; root = None }

-- the sources of a map as its text writes them, if it was read from one
abbrev pub spelled : ReadMap → Option (List Spelling) → List Spelling
spelled m None = map plain m.listing.sources
spelled m (Some ss) = ss

abbrev pub spellings_of : Opened → List Spelling
spellings_of o = spelled o.map o.written

-- ---- the same of a handle

abbrev pub ListedSource : Option Opened → ℕ → ℕ → ℕ → ℕ → Type 0
ListedSource None i before after code = (code ≡ codes.CLOSED) × (after ≡ before)
ListedSource (Some o) i before after code = SourceReported o.map i before after code

abbrev pub ListedName : Option Opened → ℕ → List ℕ → List ℕ → ℕ → ℕ → Type 0
ListedName None i before after len code = (code ≡ codes.CLOSED) × (len ≡ 0) × (after ≡ before)
ListedName (Some o) i before after len code = NameReported o.map i before after len code

abbrev pub ListedToken : Option Opened → ℕ → SmapListedMapping → SmapListedMapping → ℕ → Type 0
ListedToken None i before after code = (code ≡ codes.CLOSED) × (after ≡ before)
ListedToken (Some o) i before after code = TokenReported o.map i before after code

abbrev pub WrittenSource : Option Opened → ℕ → List ℕ → List ℕ → ℕ → ℕ → Type 0
WrittenSource None i before after len code = ClosedReported before after len code
WrittenSource (Some o) i before after len code =
    WrittenSourceReported (spellings_of o) i before after len code

abbrev pub WrittenRoot : Option Opened → ℕ → List ℕ → List ℕ → ℕ → ℕ → Type 0
WrittenRoot None i before after len code = ClosedReported before after len code
WrittenRoot (Some o) i before after len code = WrittenRootReported (spellings_of o) i before after len code
