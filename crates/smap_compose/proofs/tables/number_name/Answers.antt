use Rattle.std.proofs.Common.{◌∙◌, ap, is_some, arith, map, refl, sym, string_bytes}
use Rattle.std.specs.Prelude.{bytes_eq}
use Rattle.std.proofs.lemmas.List.{length-map}
use Rattle.smap_compose.proofs.TableLemmas.{numbered_full, numbered_last, numbered_there}
use Rattle.smap_compose.proofs.TableLemmas.{text_last, text_place}
use Rattle.smap_compose.proofs.tables.number_name.Goals as goal

pub returns-in-Some : goal.returns-in-Some
returns-in-Some c =
    let names = c.args.names.now.keys in
    let name = c.args.name.now in
    numbered_there c.args.items (bytes_eq name) name (map string_bytes names) c.in-Some.number
    (sym (text_place names name) ∙ sym c.get_index_of.ensures.index ∙ c.in-Some.is)

pub returns-then-number-items : goal.returns-then-number-items
returns-then-number-items c =
    let names = c.args.names.now.keys in
    let name = c.args.name.now in (
      refl,
      λ _. numbered_full c.args.items (bytes_eq name) name (map string_bytes names)
          (sym (text_place names name) ∙ sym c.get_index_of.ensures.index ∙ c.in_default.is)
          (omega (arith, length-map names string_bytes, c.len-number.ensures.len, c.if-number-items.true)),
    )

pub returns : goal.returns
returns c =
    let names = c.args.names.now.keys in
    let name = c.args.name.now in
    let none = sym c.get_index_of.ensures.index ∙ c.in_default.is in
    let last = numbered_last c.args.items (bytes_eq name) name (map string_bytes names)
    (sym (text_place names name) ∙ none)
    (omega (arith, length-map names string_bytes, c.len-number.ensures.len, c.if-number-items.false)) in
    rw (
      c.in_ok-insert.ensures.keys,
      text_last names name c.in_ok-from_str.field-0 c.in_ok-from_str.ensures.ok
          (sym c.get_index_of.ensures.found ∙ ap is_some c.in_default.is),
      c.len-number.ensures.len,
      ← length-map names string_bytes,
    ) last
