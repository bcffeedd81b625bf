-- Tests of words, and bytes that are UTF-8.
use Rattle.std.proofs.Common.{◌≡◌, ℕ, Bool, true, false, List, refl}
use Rattle.std.specs.Str.{IsUtf8, is_utf8}
use Rattle.std.proofs.lemmas.Str.{IsUtf8-from_is_utf8, is_utf8-from_IsUtf8}

fails : (b : Bool) → (b ≡ true → ⊥) → b ≡ false
fails true h = absurd (h refl)
fails false h = refl

pub not_utf8 : (bytes : List ℕ) → ¬ IsUtf8 bytes → is_utf8 bytes ≡ false
not_utf8 bytes none = fails (is_utf8 bytes) (λ yes. none (IsUtf8-from_is_utf8 bytes yes))

pub yes_utf8 : (bytes : List ℕ) → IsUtf8 bytes → is_utf8 bytes ≡ true
yes_utf8 bytes is = is_utf8-from_IsUtf8 bytes is
