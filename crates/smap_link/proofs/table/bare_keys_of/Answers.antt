use Rattle.std.proofs.Common.{◌≡◌, ◌∙◌, ℕ, List, Bor, ap, map, reverse, subst}
use Rattle.indexmap.proofs.ReorderLemmas.{map-reverse}
use Rattle.smap_link.specs.Alike.{key_of}
use Rattle.smap_link.specs.Paths.{bare}
use Rattle.smap_link.specs.Table.{HasPlaces, rows_of, texts_in}
use Rattle.smap_link.proofs.table.bare_keys_of.Goals as goal

pub returns : goal.returns
returns c =
    let now = λ (t : Bor (List ℕ)). t.now in
    let bares = map bare (texts_in (rows_of c.args.names.now.entries)) in
    let first : map now c.deref.result.now ≡ bares =
    ap (map now) c.deref.ensures.value ∙ c.in_ok-texts.ensures in
    let last : map now c.deref-2.result.now ≡ reverse bares =
    ap (map now) (c.deref-2.ensures.value ∙ c.reverse.ensures.items)
    ∙ map-reverse now c.in_ok-texts.texts.items ∙ ap reverse c.in_ok-texts.ensures in (
      subst (λ (l : List (List ℕ)). HasPlaces (rows_of c.in_ok-from_start.from_start.entries) (map key_of l))
          first c.in_ok-from_start.ensures,
      subst (λ (l : List (List ℕ)). HasPlaces (rows_of c.in_ok-from_end.from_end.entries) (map key_of l)) last
          c.in_ok-from_end.ensures,
    )
