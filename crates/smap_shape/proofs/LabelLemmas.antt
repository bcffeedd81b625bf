-- Labels are those of any tree with the same members of their names.
use Rattle.std.proofs.Common.{◌≡◌, ℕ, List, ap, refl, sym, ◌∙◌, true, false, true≢false, bytes_eq, codes}
use Rattle.std.proofs.Common.{inl, inr, arith, Option, Some, Ok}
use Rattle.std.specs.List.{AllByRecursion}
use Rattle.std.specs.Prelude.{option_map}
use Rattle.std.proofs.lemmas.Bool.{cases_Bool}
use Rattle.std.proofs.lemmas.Slice.Eq.{bytes_eq-Decides}
use Rattle.serde_json.specs.Data.{Data, string}
use Rattle.serde_json.specs.Find.{as_str}
use Rattle.smap_shape.specs.Labels.{Labels, named, read_labels, is_label}
use Rattle.smap_shape.specs.OneMember.{member_of, optional}
use Rattle.smap_shape.specs.Reading.{labels_of}

text_read : (o : Option (List ℕ)) → optional as_str (option_map string o) ≡ Some o
text_read o = grind arith

-- ---- a line for each label

read_alike : (x y : Data) → ((key : List ℕ) → is_label key ≡ true → member_of key x ≡ member_of key y)
    → read_labels x ≡ read_labels y
read_alike x y same = rw (same (codes "file") refl) refl

-- Labels are read of members with their names that hold them.
pub read_again : (l : Labels) (tree : Data)
    → AllByRecursion (λ n. member_of n.0 tree ≡ option_map string n.1) (named l) → read_labels tree ≡ Ok l
read_again l tree all = rw (all.0, text_read l.file) refl

-- ---- whatever the labels are

-- a label has another name than a member that isn't one
apart : (name key : List ℕ) → is_label name ≡ false → is_label key ≡ true → bytes_eq key name ≡ false
apart name key no_label is = elim (cases_Bool (bytes_eq key name)) [
  | inl same ↦ absurd (true≢false (sym is ∙ ap is_label ((bytes_eq-Decides key name).0 same) ∙ no_label))
  | inr other ↦ other
]

-- trees whose members are the same, but for one that is no label
pub labels_alike : (name : List ℕ) (x y : Data) → is_label name ≡ false
    → bytes_eq (codes "version") name ≡ false
    → ((key : List ℕ) → bytes_eq key name ≡ false → member_of key x ≡ member_of key y)
    → labels_of x ≡ labels_of y
labels_alike name x y no_label other same =
    rw (same (codes "version") other, read_alike x y (λ key is. same key (apart name key no_label is))) refl
