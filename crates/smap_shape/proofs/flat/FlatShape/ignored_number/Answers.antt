use Rattle.std.proofs.Common.{◌≡◌, ◌<◌, ◌∙◌, ap, sym, arith, length, get_or}
use Rattle.std.specs.Prelude.{unwrap_or}
use Rattle.std.proofs.lemmas.List.{length-map}
use Rattle.serde_json.specs.Find.{as_str}
use Rattle.serde_json.specs.View.{view}
use Rattle.smap_shape.specs.Members.{Flat}
use Rattle.smap_shape.specs.Reading.{whole}
use Rattle.smap_shape.proofs.ListLemmas.{numbers-at}
use Rattle.smap_shape.proofs.flat.FlatShape.ignored_number.Goals as goal

pub returns-clause-below : goal.returns-clause-below
returns-clause-below c =
    let v = c.index-ignored-i.result in
    let vs = c.self.inside.ignored.now in
    let sources = c.self.inside.sources.now in
    let listed : length c.args.self.now.ignored ≡ length vs = ap (λ (m : Flat). length m.ignored)
    (sym c.self.view_is) ∙ length-map vs (λ x. unwrap_or (whole (view x)) 0) in
    let count : length c.args.self.now.sources ≡ length sources =
    ap (λ (m : Flat). length m.sources) (sym c.self.view_is) ∙ length-map sources (λ x. as_str (view x)) in
    let below : unwrap_or (whole (view (get_or vs c.args.i v))) 0 < length sources =
    numbers-at (length sources) vs c.args.i v (omega arith) c.self.invariant in
    let number : unwrap_or (whole (view (get_or vs c.args.i v))) 0 ≡ c.unwrap_or.result =
    ap (λ x. unwrap_or (whole (view x)) 0) (sym c.index-ignored-i.is)
    ∙ sym (c.unwrap_or.ensures ∙ ap (λ o. unwrap_or o 0) c.as_u64.ensures) in
    omega arith
