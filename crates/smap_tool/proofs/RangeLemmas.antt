-- A task of a command line that was accepted is in range.
use Rattle.std.proofs.lemmas.Bool.{cond_both}
use Rattle.std.proofs.Common.{◌≡◌, ◌≤◌, ℕ, List, [], ◌∷◌, true, Option, Some, None, inl, inr}
use Rattle.std.proofs.Common.{codes, subst, sym, if◌then◌else◌}
use Rattle.std.specs.Prelude.{IsSomeAnd}
use Rattle.std.specs.Str.{bytes_eq}
use Rattle.std.specs.Str.Parse.{IsNumeral, digits_value, without_leading_plus}
use Rattle.std.proofs.lemmas.Slice.Eq.{bytes_eq-Decides}
use Rattle.clap.specs.Words.{Row, Shape, Text, built, without_minus}
use Rattle.smap_vlq.specs.Limits.{max_position}
use Rattle.smap_tool.specs.Commands.{IsCommand, IsInRange, TaskGiven, smap}
use Rattle.smap_tool.specs.Words.{HasNumber, IsGivenAs, IsOneOf, position_parser}
use Rattle.smap_tool.specs.declared.commands.Task.{Task}
use Rattle.smap_tool.specs.declared.commands.Task.TheVariants.{Lookup}
use Rattle.smap_tool.proofs.ValueLemmas.{in_range}

position_small : (rows : List Row) (id : Text) (n : ℕ) → IsGivenAs position_parser rows id
    → HasNumber rows id n → n ≤ max_position
position_small rows id n has number =
    let there : IsNumeral 10 (without_leading_plus (without_minus has.0))
    × (n ≡ digits_value 10 (without_leading_plus (without_minus has.0))) =
    subst (λ (o : Option Text). IsSomeAnd o (λ text. IsNumeral 10 (without_leading_plus text)
    × (n ≡ digits_value 10 (without_leading_plus text)))) has.1 number in
    in_range max_position n has.0 has.2 there.1

-- the commands of this name
abbrev named : Text → List Shape → List Shape
named name [] = []
named name (s ∷ rest) = if bytes_eq s.name name then s ∷ named name rest else named name rest

-- what is one of the commands is one of those of its name
one_named : (name : Text) (rows : List Row) (subs : List Shape) → IsOneOf subs (name, rows)
    → IsOneOf (named name subs) (name, rows)
one_named name rows [] h = absurd h
one_named name rows (s ∷ rest) (inl h) =
    let same : bytes_eq s.name name ≡ true = (bytes_eq-Decides s.name name).1 (sym h.0) in
    rw same (inl h)
one_named name rows (s ∷ rest) (inr h) =
    let below = one_named name rows rest h in
    cond_both (bytes_eq s.name name) (s ∷ named name rest) (named name rest)
    (λ subs. IsOneOf subs (name, rows)) (λ _. inr below) (λ _. below)

-- the rows of a command of this name
rows_of_name : (m : Text × List Row) (name : Text) → m.0 ≡ name → IsCommand m
    → IsOneOf (named name (built smap).subs) (name, m.1)
rows_of_name m name is command =
    one_named name m.1 (built smap).subs
    (subst (λ (x : Text). IsOneOf (built smap).subs (x, m.1)) is command)

pub task_in_range : (o : Option (Text × List Row)) (task : Task) → IsSomeAnd o IsCommand → TaskGiven o task
    → IsInRange task
task_in_range None task command given = absurd command
task_in_range (Some m) (Lookup base line column) command given =
    in_lookup (rows_of_name m (codes "lookup") given.0 command)
  where
    in_lookup : IsOneOf (named (codes "lookup") (built smap).subs) (codes "lookup", m.1)
        → (line ≤ max_position) × (column ≤ max_position)
    in_lookup (inl h) = (
      position_small m.1 (codes "LINE") line h.1.1.0 given.2,
      position_small m.1 (codes "COLUMN") column h.1.1.1.0 given.3,
    )
    in_lookup (inr h) = absurd h
task_in_range (Some m) task command given = tt
