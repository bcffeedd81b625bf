-- What the calls on builders come to.
use Rattle.std.specs.Prelude.{◌≡◌, ◌⊎◌, ◌&&◌, ℕ, Bool, true, false, not, List, map, take, IsUtf8}
use Rattle.std.specs.Prelude.{IsErr, Option, Some, None, Result, Ok, Err}
use Rattle.std.specs.Fn.{Once}
use Rattle.std.specs.List.{position}
use Rattle.std.specs.Option.{is_none}
use denote.Ref.{MutBor}
use Rattle.url.specs.Parts.{Parts}
use Rattle.url.specs.Parser.{parse_url}
use Rattle.smap_mappings.specs.Making.{token_fault}
use Rattle.smap_mappings.specs.declared.token.Token.{Token}
use Rattle.smap_record.specs.Fitting.{ListingFits}
use Rattle.smap_compose.specs.Building.{Made, bounds_of, listing_made, map_made, nothing, with_mappings}
use Rattle.smap_compose.specs.declared.error.BuildError.{BuildError}
use Rattle.smap_compose.specs.declared.error.BuildError.TheVariants as errors
use Rattle.smap_c_answers.specs.Codes as codes
use Rattle.smap_c_answers.specs.Spelling.{is_mapping, token_of}
use Rattle.smap_c_answers.specs.declared.spelling.MappingNumbers.{MappingNumbers}
use Rattle.smap_c.specs.Maps.{AreLimits, MayOpen, allowed}
use Rattle.smap_c.specs.declared.maps.SmapLimits.{SmapLimits}
use Rattle.smap_c.specs.declared.opened.Opened.{Opened}

-- ---- opening

-- There is nothing yet, for the base that the text is; or the code says why there is no builder.
abbrev pub Begins : List ℕ → SmapLimits → Result Made ℕ → Type 0
Begins base limits (Ok m) =
    (p : Parts) × MayOpen base limits × (parse_url None base ≡ Ok p) × (m ≡ nothing p (allowed limits))
Begins base limits (Err code) = ((code ≡ codes.LIMITS) × (AreLimits limits → ⊥))
    ⊎ (((code ≡ codes.NOT_URL) × AreLimits limits × (IsErr (parse_url None base) ⊎ (IsUtf8 base → ⊥)))
    ⊎ (code ≡ codes.MEMORY))

-- the handle has the builder, or is as it was
abbrev pub BuilderReported : Result Made ℕ → Option Made → Option Made → ℕ → Type 0
BuilderReported (Ok m) old new code = (code ≡ codes.OK) × (new ≡ Some m)
BuilderReported (Err why) old new code = (code ≡ why) × (new ≡ old)

-- The handle has a builder that has nothing yet, or is as it was, and the code says why.
abbrev pub OpensBuilder : List ℕ → SmapLimits → Option Made → Option Made → ℕ → Type 0
OpensBuilder base limits old new code =
    (r : Result Made ℕ) × Begins base limits r × BuilderReported r old new code

-- ---- what a call does that was due to do it

abbrev pub code_of : BuildError → ℕ
code_of errors.SourceUrl = codes.NOT_URL
code_of errors.TooMany = codes.TOO_MANY
code_of errors.Source = codes.RANGE
code_of (errors.Mapping kind) = codes.RANGE
code_of errors.Memory = codes.MEMORY

-- for private contracts: the code of what a call returned, and the number that it told, or the one before
abbrev pub answer_code : {A : Type 0} → Result A BuildError → ℕ
answer_code (Ok x) = codes.OK
answer_code (Err e) = code_of e

abbrev pub told_number : Result ℕ BuildError → ℕ → ℕ
told_number (Ok n) before = n
told_number (Err e) before = before

-- The handle has the builder that was due, or the code is that of the error that was due, or memory ran out.
abbrev pub Did : Result (Unit {0} × Made) BuildError → Made → Option Made → ℕ → Type 0
Did (Ok due) old new code =
    ((code ≡ codes.OK) × (new ≡ Some due.1)) ⊎ ((code ≡ codes.MEMORY) × (new ≡ Some old))
Did (Err e) old new code = ((code ≡ code_of e) ⊎ (code ≡ codes.MEMORY)) × (new ≡ Some old)

-- The same of a call that tells a number too.
abbrev pub Told : Result (ℕ × Made) BuildError → Made → Option Made → ℕ → ℕ → ℕ → Type 0
Told (Ok due) old new before after code = ((code ≡ codes.OK) × (new ≡ Some due.1) × (after ≡ due.0))
    ⊎ ((code ≡ codes.MEMORY) × (new ≡ Some old) × (after ≡ before))
Told (Err e) old new before after code =
    ((code ≡ code_of e) ⊎ (code ≡ codes.MEMORY)) × (new ≡ Some old) × (after ≡ before)

-- ---- the same of a handle

abbrev pub Changes : (Made → Result (Unit {0} × Made) BuildError) → Option Made → Option Made → ℕ → Type 0
Changes due None new code = (code ≡ codes.CLOSED) × (new ≡ None)
Changes due (Some m) new code = Did (due m) m new code

abbrev pub Tells : (Made → Result (ℕ × Made) BuildError) → Option Made → Option Made → ℕ → ℕ → ℕ → Type 0
Tells due None new before after code = (code ≡ codes.CLOSED) × (new ≡ None) × (after ≡ before)
Tells due (Some m) new before after code = Told (due m) m new before after code

-- a text that may be missing
abbrev pub text_if : Bool → List ℕ → Option (List ℕ)
text_if false text = None
text_if true text = Some text

abbrev pub IsText : Option (List ℕ) → Type 0
IsText None = Unit {0}
IsText (Some text) = IsUtf8 text

-- The same with a text.
abbrev pub ChangesBy : Option (List ℕ) → (Made → Result (Unit {0} × Made) BuildError) → Option Made
    → Option Made → ℕ → Type 0
ChangesBy text due old new code = (IsText text × Changes due old new code)
    ⊎ ((IsText text → ⊥) × (code ≡ codes.NOT_UTF8) × (new ≡ old))

abbrev pub TellsBy : Option (List ℕ) → (Made → Result (ℕ × Made) BuildError) → Option Made
    → Option Made → ℕ → ℕ → ℕ → Type 0
TellsBy text due old new before after code = (IsText text × Tells due old new before after code)
    ⊎ ((IsText text → ⊥) × (code ≡ codes.NOT_UTF8) × (new ≡ old) × (after ≡ before))

-- for private contracts: this is done with the builder of a handle
abbrev pub IsDone : {F O : Type 0}
    → Once F (MutBor Made × (MutBor O × Unit {0})) (ℕ × (MutBor Made × (MutBor O × Unit {0}))) → F
    → Option Made → Option Made → O → O → ℕ → Type 0
IsDone g f None new before after code = (code ≡ codes.CLOSED) × (new ≡ None) × (after ≡ before)
IsDone {F} {O} g f (Some m) new before after code = (p : MutBor Made) × (q : MutBor O)
    × (p' : MutBor Made) × (q' : MutBor O) × (p.now ≡ m) × (q.now ≡ before) × (new ≡ Some p'.now)
    × (q'.now ≡ after) × g.post f (p, (q, tt)) (code, (p', (q', tt)))

-- ---- the name of the generated file

abbrev pub file_due : Option (List ℕ) → Made → Result (Unit {0} × Made) BuildError
file_due file m = Ok (tt, record m { file = file })

-- ---- mappings

-- The numbers are those of a mapping, which the builder takes.
abbrev pub is_taken : Made → MappingNumbers → Bool
is_taken m n = is_mapping n && is_none (token_fault (bounds_of m) (token_of n))

-- the index of the first that aren't
abbrev pub first_refused : Made → List MappingNumbers → Option ℕ
first_refused m ns = position (λ n. not (is_taken m n)) ns

-- All are added, or memory ran out and some of the first ones are.
abbrev pub AddsEach : List Token → Made → Option Made → ℕ → Type 0
AddsEach ts old new code = ((code ≡ codes.OK) × (new ≡ Some (with_mappings old ts)))
    ⊎ ((code ≡ codes.MEMORY) × ((n : ℕ) × (new ≡ Some (with_mappings old (take n ts)))))

-- The index of the first that is refused is reported, if there is one; else they are added.
abbrev pub AddsUnless : Option ℕ → List Token → Made → Option Made → ℕ → ℕ → ℕ → Type 0
AddsUnless (Some i) ts old new before after code =
    (code ≡ codes.RANGE) × (after ≡ i) × (new ≡ Some old)
AddsUnless None ts old new before after code = AddsEach ts old new code × (after ≡ before)

-- The mappings are added, or the index of the first that is refused is reported.
abbrev pub Adds : List MappingNumbers → Option Made → Option Made → ℕ → ℕ → ℕ → Type 0
Adds ns None new before after code = (code ≡ codes.CLOSED) × (new ≡ None) × (after ≡ before)
Adds ns (Some m) new before after code =
    AddsUnless (first_refused m ns) (map token_of ns) m new before after code

-- ---- the map

-- It is the map of the builder, with its base, and can be read against that under the builder's limits. No
-- text writes its sources.
abbrev pub HoldsBuilt : Made → Option Opened → Type 0
HoldsBuilt m None = ⊥
HoldsBuilt m (Some o) = (o.map ≡ map_made m) × (o.base.value ≡ m.base) × (o.written ≡ None)
    × ListingFits m.base m.limits (listing_made m)

-- The handle of a map has it, or is as it was: the builder was closed, or memory ran out.
abbrev pub Finishes : Option Made → Option Opened → Option Opened → ℕ → Type 0
Finishes None old new code = (code ≡ codes.CLOSED) × (new ≡ old)
Finishes (Some m) old new code =
    (HoldsBuilt m new × (code ≡ codes.OK)) ⊎ ((new ≡ old) × (code ≡ codes.MEMORY))
