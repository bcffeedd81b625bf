-- Many mappings that are added to a map that is built.
use Rattle.std.specs.Prelude.{◌≡◌, ℕ, ◌+◌, List, [], ◌∷◌, take, Option, Some, None, Result, Ok, Err}
use Rattle.std.specs.Option.{option_map_or}
use Rattle.smap_mappings.specs.declared.error.SegmentKind.{SegmentKind}
use Rattle.smap_mappings.specs.declared.token.Bounds.{Bounds}
use Rattle.smap_mappings.specs.declared.token.Token.{Token}
use Rattle.smap_mappings.specs.Making.{token_fault}
use Rattle.smap_compose.specs.declared.error.BuildError.{BuildError}
use Rattle.smap_compose.specs.declared.error.BuildError.TheVariants as errors
use Rattle.smap_compose.specs.Building.{Made, bounds_of, with_mappings}

-- The first of these mappings that is refused, where they are numbered from i, and why.
abbrev pub first_fault : Bounds → ℕ → List Token → Option (ℕ × SegmentKind)
first_fault bounds i [] = None
first_fault bounds i (t ∷ ts) =
    option_map_or (λ kind. Some (i, kind)) (token_fault bounds t) (first_fault bounds (i + 1) ts)

-- how many were added before memory ran out; or none, and the first that is refused
abbrev pub FailsAt : ℕ → BuildError → Made → Made → List Token → Type 0
FailsAt i errors.Memory old new ts =
    (first_fault (bounds_of old) 0 ts ≡ None) × (new ≡ with_mappings old (take i ts))
FailsAt i (errors.Mapping kind) old new ts =
    (first_fault (bounds_of old) 0 ts ≡ Some (i, kind)) × (new ≡ old)
FailsAt i e old new ts = ⊥

-- A call that adds all of these, and took the first to the second, returned this.
abbrev pub AddsAll : Result (Unit {0}) (ℕ × BuildError) → Made → Made → List Token → Type 0
AddsAll (Ok x) old new ts = (first_fault (bounds_of old) 0 ts ≡ None) × (new ≡ with_mappings old ts)
AddsAll (Err f) old new ts = FailsAt f.0 f.1 old new ts
