-- The rules by name and number.
use Rattle.std.specs.Prelude.{ℕ, List, [], ◌∷◌, bytes_eq, codes, Option}
use Rattle.std.specs.List.{position}
use Rattle.smap_lint_rules.specs.declared.checks.Check.{Check}
use Rattle.smap_lint_rules.specs.declared.checks.Check.TheVariants.{
  MissingMap,
  UnusedMap,
  TwoMaps,
  SharedMap,
  BrokenComment,
  CommentMissingFile,
  CommentLeavesFolder,
  RefusedMap,
  OtherFile,
  GeneratedPastEnd,
  OriginalPastEnd,
  MissingSource,
  StaleContent,
  OpenChain,
  MachinePath,
  AbsoluteRoot,
  DebugId,
  FewMapped,
  RepeatedSource,
  UnusedName,
}

abbrev pub name_of : Check → List ℕ
name_of MissingMap = codes "missing-map"
name_of UnusedMap = codes "unused-map"
name_of TwoMaps = codes "two-maps"
name_of SharedMap = codes "shared-map"
name_of BrokenComment = codes "broken-comment"
name_of CommentMissingFile = codes "comment-missing-file"
name_of CommentLeavesFolder = codes "comment-leaves-folder"
name_of RefusedMap = codes "refused-map"
name_of OtherFile = codes "other-file"
name_of GeneratedPastEnd = codes "generated-past-end"
name_of OriginalPastEnd = codes "original-past-end"
name_of MissingSource = codes "missing-source"
name_of StaleContent = codes "stale-content"
name_of OpenChain = codes "open-chain"
name_of MachinePath = codes "machine-path"
name_of AbsoluteRoot = codes "absolute-root"
name_of DebugId = codes "debug-id"
name_of FewMapped = codes "few-mapped"
name_of RepeatedSource = codes "repeated-source"
name_of UnusedName = codes "unused-name"

-- the order of the rules
abbrev pub checks : List Check
checks = MissingMap ∷ UnusedMap ∷ TwoMaps ∷ SharedMap ∷ BrokenComment ∷ CommentMissingFile
    ∷ CommentLeavesFolder ∷ RefusedMap ∷ OtherFile ∷ GeneratedPastEnd ∷ OriginalPastEnd ∷ MissingSource
    ∷ StaleContent ∷ OpenChain ∷ MachinePath ∷ AbsoluteRoot ∷ DebugId ∷ FewMapped ∷ RepeatedSource
    ∷ UnusedName ∷ []

-- the number of the rule with this name
abbrev pub named : List ℕ → Option ℕ
named word = position (λ check. bytes_eq (name_of check) word) checks
