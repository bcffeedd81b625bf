-- Maps that are built call by call.
use Rattle.std.specs.Prelude.{◌≡◌, ◌≢◌, ℕ, nat_lt, Bool, false, List, [], ◌∷◌, ◌++◌, length, set, slice_get}
use Rattle.std.specs.Prelude.{bytes_eq, Option, Some, None, position, Result, Ok, Err, if◌then◌else◌}
use Rattle.std.specs.Option.{option_map_or}
use Rattle.smap_mappings.specs.declared.token.Bounds.{Bounds}
use Rattle.smap_mappings.specs.declared.token.Token.{Token}
use Rattle.smap_mappings.specs.Arrangement.{arranged}
use Rattle.smap_mappings.specs.Making.{token_fault}
use Rattle.smap_record.specs.Record.{Allowed, Entry, Listing, Parts, ReadMap, same_text}
use Rattle.smap_record.specs.SourceUrls.{Resolved, resolve, resolved}
use Rattle.smap_compose.specs.declared.error.BuildError.{BuildError}
use Rattle.smap_compose.specs.declared.error.BuildError.TheVariants as errors

-- What was built so far, for this base and under these limits: the name of the generated file, the sources
-- and the names by their numbers, and the mappings in the order in which they were added.
pub record Made : Type 0 where
  pub base : Parts
  pub limits : Allowed
  pub file : Option (List ℕ)
  pub sources : List Entry
  pub names : List (List ℕ)
  pub tokens : List Token

-- what is built at first
abbrev pub nothing : Parts → Allowed → Made
nothing base limits = record {
  base = base;
  limits = limits;
  file = None;
  sources = [];
  names = [];
  tokens = [];
}

-- A call that returned this, and took the first to the second, did what was due. One that fails changes
-- nothing, and its error is the one that was due, unless memory ran out.
abbrev pub Does : {A S : Type 0} → Result A BuildError → S → S → Result (A × S) BuildError → Type 0
Does (Ok x) old new due = due ≡ Ok (x, new)
Does (Err e) old new due = (new ≡ old) × (e ≢ errors.Memory → due ≡ Err e)

-- that, with the changed part in its place
abbrev pub within : {A S T : Type 0} → (S → T) → Result (A × S) BuildError → Result (A × T) BuildError
within put (Ok p) = Ok (p.0, put p.1)
within put (Err e) = Err e

-- ---- numbers

-- The number of the first that passes the test; without one x goes last, if fewer than `items` are listed.
abbrev pub numbered : {A : Type 0} → ℕ → (A → Bool) → A → List A → Result (ℕ × List A) BuildError
numbered items test x xs = option_map_or (λ n. Ok (n, xs)) (position test xs)
    (if nat_lt (length xs) items then Ok (length xs, xs ++ x ∷ []) else Err errors.TooMany)

abbrev pub has_url : Option (List ℕ) → Entry → Bool
has_url url e = same_text url e.url

-- a source of which only the URL is known
abbrev pub only_url : Option (List ℕ) → Entry
only_url url = record { url = url; content = None; ignored = false }

abbrev pub with_url : ℕ → Option (List ℕ) → List Entry → Result (ℕ × List Entry) BuildError
with_url items url sources = numbered items (has_url url) (only_url url) sources

abbrev pub with_name : ℕ → List ℕ → List (List ℕ) → Result (ℕ × List (List ℕ)) BuildError
with_name items name names = numbered items (bytes_eq name) name names

-- the sources, with the one of this number changed
abbrev pub changed : (Entry → Entry) → ℕ → List Entry → Result (Unit {0} × List Entry) BuildError
changed change n sources =
    option_map_or (λ e. Ok (tt, set sources n (change e))) (slice_get sources n) (Err errors.Source)

-- ---- what each call is to do

abbrev pub url_of : Resolved → Result (Option (List ℕ)) BuildError
url_of (resolved url) = Ok (Some url)
url_of r = Err errors.SourceUrl

-- the URL of a source in a map without `sourceRoot`; a null source has none
abbrev pub source_url : Parts → Option (List ℕ) → Result (Option (List ℕ)) BuildError
source_url base None = Ok None
source_url base (Some source) = url_of (resolve base None source)

abbrev pub put_sources : Made → List Entry → Made
put_sources m es = record m { sources = es }

abbrev pub source_of : Made → Result (Option (List ℕ)) BuildError → Result (ℕ × Made) BuildError
source_of m (Ok url) = within (put_sources m) (with_url m.limits.items url m.sources)
source_of m (Err e) = Err e

-- The number of a source, which is listed last if no source has its URL.
abbrev pub source_due : Made → Option (List ℕ) → Result (ℕ × Made) BuildError
source_due m source = source_of m (source_url m.base source)

abbrev pub content_due : Made → ℕ → Option (List ℕ) → Result (Unit {0} × Made) BuildError
content_due m n content = within (put_sources m) (changed (λ e. record e { content = content }) n m.sources)

abbrev pub ignored_due : Made → ℕ → Bool → Result (Unit {0} × Made) BuildError
ignored_due m n ignored = within (put_sources m) (changed (λ e. record e { ignored = ignored }) n m.sources)

abbrev pub put_names : Made → List (List ℕ) → Made
put_names m ns = record m { names = ns }

-- The number of a name, which is listed last if it isn't listed yet.
abbrev pub name_due : Made → List ℕ → Result (ℕ × Made) BuildError
name_due m name = within (put_names m) (with_name m.limits.items name m.names)

-- what the numbers of a mapping must be below
abbrev pub bounds_of : Made → Bounds
bounds_of m = record {
  start_line = 0;
  start_column = 0;
  sources = length m.sources;
  names = length m.names;
  lines = m.limits.lines;
}

abbrev pub with_mappings : Made → List Token → Made
with_mappings m ts = record m { tokens = m.tokens ++ ts }

abbrev pub mapping_due : Made → Token → Result (Unit {0} × Made) BuildError
mapping_due m t = option_map_or (λ kind. Err (errors.Mapping kind)) (token_fault (bounds_of m) t)
    (Ok (tt, with_mappings m (t ∷ [])))

-- ---- the map

abbrev pub listing_with : Made → List Token → Listing
listing_with m tokens = record { sources = m.sources; names = m.names; tokens = tokens }

abbrev pub listing_made : Made → Listing
listing_made m = listing_with m (arranged m.tokens)

-- The map: mappings are sorted by position, and those at one position stay in the order of adding.
abbrev pub map_made : Made → ReadMap
map_made m = record { labels = record { file = m.file }; listing = listing_made m }
