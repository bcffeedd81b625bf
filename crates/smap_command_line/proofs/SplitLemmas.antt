-- The order of the ways to read an argument, by where the `=` (61) of its text are.
use Rattle.std.proofs.Common.{◌≡◌, ℕ, ◌+◌, ◌<◌, ◌≤◌, length, get_or, inl, inr, arith}
use Rattle.clap.specs.Words.{Text}
use Rattle.smap_command_line.specs.Order.{ComesBefore, IsSplit}

-- None of the bytes from i up to j is a `=`.
abbrev pub HasNone : Text → ℕ → ℕ → Type 0
HasNone word i j = (k : ℕ) → i ≤ k → k < j → get_or word k 0 ≡ 61 → ⊥

pub no_way : (word : Text) → HasNone word 0 (length word) → (u f : ℕ) → IsSplit word u f → ⊥
no_way word none u f is =
    none u (omega arith) (omega (arith, is.behind, is.inside)) is.url_stops

pub none_before : (word : Text) (first n : ℕ) → n ≡ length word → HasNone word 0 first
    → (u f : ℕ) → IsSplit word u f → ComesBefore u f first n → ⊥
none_before word first n end none u f is before = elim before [
  | inl earlier ↦ none u (omega arith) earlier is.url_stops
  | inr longer ↦ omega (arith, longer.1, is.inside)
]

-- behind the same URL, a name that is shorter by one part
pub none_between : (word : Text) (u f g : ℕ) → f ≤ length word
    → ((k : ℕ) → g < k → k < f → get_or word k 0 ≡ 61 → ⊥)
    → (v e : ℕ) → IsSplit word v e → ComesBefore u f v e → ComesBefore v e u g → ⊥
none_between word u f g inside none v e is after before = elim after [
  | inl later ↦ elim before [
    | inl earlier ↦ omega arith
    | inr longer ↦ omega (arith, longer.0)
  ]
  | inr shorter ↦ elim before [
    | inl earlier ↦ omega (arith, shorter.0)
    | inr longer ↦
        none e longer.1 shorter.1 (is.file_stops (omega (arith, shorter.1)))
  ]
]

-- behind the next `=`, all that follows
pub none_until : (word : Text) (u f v n : ℕ) → f ≤ length word → n ≡ length word → HasNone word (u + 1) f
    → HasNone word (u + 1) v → (w e : ℕ) → IsSplit word w e → ComesBefore u f w e → ComesBefore w e v n → ⊥
none_until word u f v n inside end none first w e is after before = elim after [
  | inl later ↦ elim before [
    | inl earlier ↦ first w (omega arith) earlier is.url_stops
    | inr longer ↦ omega (arith, longer.1, is.inside)
  ]
  | inr shorter ↦ none e (omega (arith, shorter.0, is.behind)) shorter.1
      (is.file_stops (omega (arith, shorter.1)))
]

-- or nothing
pub none_after : (word : Text) (u f : ℕ) → f ≤ length word → HasNone word (u + 1) f
    → HasNone word (u + 1) (length word) → (w e : ℕ) → IsSplit word w e → ComesBefore u f w e → ⊥
none_after word u f inside none more w e is after = elim after [
  | inl later ↦ more w (omega arith) (omega (arith, is.behind, is.inside)) is.url_stops
  | inr shorter ↦ none e (omega (arith, shorter.0, is.behind)) shorter.1
      (is.file_stops (omega (arith, shorter.1)))
]
