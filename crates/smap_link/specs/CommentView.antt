-- What is known of a line while it is read.
use Rattle.std.specs.Prelude.{◌≡◌, ◌⊎◌, ℕ, ◌+◌, ◌-◌, ◌<◌, ◌≤◌, Bool, false, true, List, drop, take}
use Rattle.std.specs.Prelude.{get_or}
use Rattle.std.specs.Prelude.{length, Some, None}
use Rattle.smap_link.specs.Comment.{Effect, Place, effect, ends_line, is_newline}
use Rattle.smap_link.specs.Comment as spec
use Rattle.smap_link.specs.declared.comment.Mode.{Mode}
use Rattle.smap_link.specs.declared.comment.Mode.TheVariants as m
use Rattle.smap_link.specs.declared.comment.Link.{Link}
use Rattle.smap_link.specs.declared.comment.Link.TheVariants as v
use Rattle.smap_link.specs.declared.comment.Scan.{Scan}

abbrev pub effect_in : Link → Effect
effect_in v.Nothing = None
effect_in v.Missing = Some None
effect_in (v.Url url) = Some (Some url.now)

abbrev pub place_in : Mode → List ℕ → ℕ → Place
place_in (m.Code left) comment n = spec.Code left
place_in m.Slash comment n = spec.Slash
place_in m.Block comment n = spec.Block comment n
place_in m.Done comment n = spec.Done

-- what the line says, if so much of it was read
abbrev pub effect_from : Bool → List ℕ → ℕ → Scan → Effect
effect_from two line i scan =
    effect two (place_in scan.mode (drop scan.start line) (i - scan.start)) (effect_in scan.link)
    (drop i line)

-- U+2028 or U+2029 begins here.
abbrev pub IsSeparatorAt : List ℕ → ℕ → Type 0
IsSeparatorAt text at = (get_or text at 0 ≡ 226) × (get_or text (at + 1) 0 ≡ 128)
    × ((get_or text (at + 2) 0 ≡ 168) ⊎ (get_or text (at + 2) 0 ≡ 169))

-- The last line of a text begins here, and before it stands a line terminator of so many bytes, if anything
-- does.
pub record StartsLastLine (text : List ℕ) (at : ℕ) (size : ℕ) : Type 0 where
  pub within : at ≤ length text
  pub one_line : (k : ℕ) → at + k < length text
      → ends_line (take k (drop at text)) (get_or text (at + k) 0) ≡ false
  pub fits : size ≤ at
  pub some : 0 < at → 0 < size
  pub behind : 0 < at → ((size ≡ 1) × (is_newline (get_or text (at - 1) 0) ≡ true))
      ⊎ ((size ≡ 3) × IsSeparatorAt text (at - 3))
