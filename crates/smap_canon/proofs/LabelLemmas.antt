-- What is proved of labels as they are written, whatever they are.
use Rattle.std.proofs.Common.{arith}
use Rattle.std.proofs.Common.{◌≡◌, ℕ, List, [], ◌∷◌, ◌++◌, map, Option, Ok, ap, refl, ◌∙◌}
use Rattle.std.specs.List.{AllByRecursion}
use Rattle.std.specs.Prelude.{IfSome, option_map, option_and_then}
use Rattle.serde_json.specs.Data.{string, object}
use Rattle.smap_shape.specs.Labels.{named, read_labels}
use Rattle.smap_shape.specs.Reading.{if_present, member_of}
use Rattle.smap_shape.proofs.LabelLemmas.{read_again}
use Rattle.smap_record.specs.Record.{ReadMap}
use Rattle.smap_canon.specs.Layout.{OptionalMember, label_member, listing_members, members_of, written}
use Rattle.smap_canon.proofs.MemberLemmas.{before_rest, found, value_of, own_values}
use Rattle.smap_canon.proofs.TreeLemmas.{IsPlain, optional_text_plain}

present : (o : Option (List ℕ)) → option_and_then if_present (option_map string o) ≡ option_map string o
present o = grind arith

each_found : (ns : List (List ℕ × Option (List ℕ))) (rest ms : List OptionalMember)
    → AllByRecursion (λ m. value_of m.0 ms ≡ m.1) (map label_member ns ++ rest)
    → AllByRecursion (λ n. member_of n.0 (object (written ms)) ≡ option_map string n.1) ns
each_found [] rest ms all = tt
each_found (n ∷ ns) rest ms all = (
  found n.0 ms ∙ ap (option_and_then if_present) all.0 ∙ present n.1,
  each_found ns rest ms all.1,
)

-- They are read again.
pub labels_read : (spell : List ℕ → List ℕ) (m : ReadMap)
    → read_labels (object (written (members_of spell m))) ≡ Ok m.labels
labels_read spell m =
    let ms = members_of spell m in
    read_again m.labels (object (written ms))
    (each_found (named m.labels) (listing_members spell m.listing) ms (own_values ms refl))

-- Their values are shallow, and say themselves.
pub labels_plain : (ns : List (List ℕ × Option (List ℕ)))
    → AllByRecursion (λ m. IfSome m.1 (IsPlain 1)) (map label_member ns)
labels_plain [] = tt
labels_plain (n ∷ ns) = before_rest (optional_text_plain n.1) (labels_plain ns)
