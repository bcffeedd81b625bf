-- A range that was found, as what is promised of it.
use Rattle.std.proofs.Common.{refl, length-drop, ◌≡◌, ◌≤◌, ℕ, ◌-◌, List, length, drop, Option, Some, None}
use Rattle.std.proofs.Common.{arith, is_some, subst, true}
use Rattle.std.specs.Prelude.{IfOk, IfSome, Result, Ok, Err}
use Rattle.serde_json.specs.Data.{Data}
use Rattle.smap_mappings.specs.declared.error.SegmentPlace.{SegmentPlace}
use Rattle.smap_record.specs.declared.fault.Fault.{Fault}
use Rattle.smap_record.specs.Reading.{json_text, tree_of}
use Rattle.smap_fault_places.specs.declared.range.TextRange.{TextRange}
use Rattle.smap_fault_places.specs.declared.step.Step.{Step}
use Rattle.smap_fault_places.specs.Ranges.{IsRangeOf}
use Rattle.smap_fault_places.specs.Faults.{path_of}
use Rattle.smap_fault_places.specs.FaultRanges.{IsPlaced, IsJsonRange, IsFaultRange, shifted}

-- what is placed is in the text
in_text : (text : List ℕ) (tree : Data) (path : List Step) (place : Option SegmentPlace) (r : TextRange)
    → IsPlaced text tree path place r → IsRangeOf (length text) r
in_text text tree path None r is = is.within
in_text text tree path (Some place) r is = (is.is.ordered, omega (arith, is.is.end, is.written.within.1))

one_tree : (text : List ℕ) (a b : Data) → tree_of text ≡ Some a → tree_of text ≡ Some b → a ≡ b
one_tree text a b first second = cc

some_or_none : (text : List ℕ) (tree : Data) → tree_of text ≡ Some tree → tree_of text ≡ None → ⊥
some_or_none text tree reads none = cc

-- the range of a fault in a text that has this tree
pub of_tree : (text : List ℕ) (tree : Data) (fault : Fault) (r : TextRange) → tree_of text ≡ Some tree
    → IsPlaced text tree (path_of tree fault) fault.place r → IsJsonRange text fault r
of_tree text tree fault r reads is = record {
  within = in_text text tree (path_of tree fault) fault.place r is;
  empty = λ none. absurd (some_or_none text tree reads none);
  is = λ other same. subst (λ d. IsPlaced text d (path_of d fault) fault.place r)
      (one_tree text tree other reads same) is;
}

-- the same, of what is returned
pub of_result : {E : Type 0} (text : List ℕ) (tree : Data) (fault : Fault)
    (result : Result (Option TextRange) E)
    → tree_of text ≡ Some tree
    → IfOk result (λ o. IfSome o (IsPlaced text tree (path_of tree fault) fault.place))
    → IfOk result (λ o. IfSome o (IsJsonRange text fault))
of_result text tree fault (Ok None) reads is = tt
of_result text tree fault (Ok (Some r)) reads is = of_tree text tree fault r reads is
of_result text tree fault (Err e) reads is = tt

-- nothing more is promised where the text has a tree
pub told_of_tree : {E : Type 0} (text : List ℕ) (tree : Data) (result : Result (Option TextRange) E)
    → tree_of text ≡ Some tree → IfOk result (λ o. tree_of text ≡ None → is_some o ≡ true)
told_of_tree text tree (Ok o) reads = λ none. absurd (some_or_none text tree reads none)
told_of_tree text tree (Err e) reads = tt

-- a range of a text that has no tree
pub of_none : (text : List ℕ) (fault : Fault) (r : TextRange) → tree_of text ≡ None
    → IsRangeOf (length text) r → r.start ≡ r.end → IsJsonRange text fault r
of_none text fault r none within empty = record {
  within = within;
  empty = λ none. empty;
  is = λ tree same. absurd (some_or_none text tree same none);
}

-- the range of a fault in the bytes of a map
pub of_json : (bytes : List ℕ) (fault : Fault) (start : ℕ) (r : TextRange) → start ≤ length bytes
    → json_text bytes ≡ Some (drop start bytes) → IsJsonRange (drop start bytes) fault r
    → IsFaultRange bytes fault (shifted start r)
of_json bytes fault start r inside has is = record {
  within = (omega (arith, is.within.0), omega (arith, is.within.1, length-drop start bytes, inside));
  json = drop start bytes;
  has = has;
  inner = r;
  is_shifted = rw (length-drop start bytes, back) refl;
  is = is;
}
  where
    back : length bytes - (length bytes - start) ≡ start
    back = omega (arith, inside)
