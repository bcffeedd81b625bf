-- What a log that is read block by block hands out, and what it has left.
use Rattle.std.specs.Prelude.{◌≡◌, ℕ, Bool, true, false, cond, List, [], Option, None, Some, option_map, ⊤}
use Rattle.std.specs.Io.KnownBytes.{Consumes, IsAtEnd, prepend_known}
use Rattle.smap_logs.specs.Lines.{open_line, whole_lines}
use Rattle.smap_logs.specs.declared.logs.Log.{Log}
use Rattle.smap_logs.specs.declared.logs.Step.{Step}
use Rattle.smap_logs.specs.declared.logs.Step.TheVariants.{End, Lines, More}

-- The text is all that a reader has, where that is known.
abbrev pub IsAll : Option (List ℕ) → List ℕ → Type 0
IsAll None text = ⊤
IsAll (Some left) text = left ≡ text

-- what was read and not passed, and then what the reader has left, where that is known
abbrev pub waiting : {R : Type 0} → (R → Option (List ℕ)) → Log R → Option (List ℕ)
waiting remaining log = prepend_known log.block (remaining log.reader)

-- the lines that it hands out at present
abbrev pub handed : {R : Type 0} → Log R → List ℕ
handed log = cond log.ended log.block (whole_lines log.block)

-- what it hands out after these, where that is known
abbrev pub pending : {R : Type 0} → (R → Option (List ℕ)) → Log R → Option (List ℕ)
pending remaining log = cond log.ended (option_map (λ bytes. []) (remaining log.reader))
    (prepend_known (open_line log.block) (remaining log.reader))

-- It has ended once its reader has.
abbrev pub IsStep : {R : Type 0} → (R → Option (List ℕ)) → Step → Log R → Log R → Type 0
IsStep remaining End before after = (after.ended ≡ true) × IsAtEnd (remaining after.reader)
IsStep remaining Lines before after = after.ended ≡ before.ended
IsStep remaining More before after = after.ended ≡ before.ended

-- It goes on to these lines, or nothing was left.
abbrev pub GoesOn : Bool → Option (List ℕ) → Option (List ℕ) → List ℕ → Type 0
GoesOn true before after lines = Consumes before after lines
GoesOn false before after lines = IsAtEnd before
