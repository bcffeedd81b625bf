use Rattle.std.proofs.Common.{◌∙◌, arith, refl, sym, string_bytes}
use Rattle.std.specs.Prelude.{option_map}
use Rattle.std.proofs.lemmas.List.{length-map}
use Rattle.smap_compose.specs.Building.{has_url, only_url}
use Rattle.smap_compose.specs.Built.{entries_of}
use Rattle.smap_compose.proofs.TableLemmas.{entry, numbered_full, numbered_last, numbered_there}
use Rattle.smap_compose.proofs.TableLemmas.{url_last, url_place}
use Rattle.smap_compose.proofs.tables.number_source.Goals as goal

pub returns-in-Some : goal.returns-in-Some
returns-in-Some c =
    let rows = c.args.sources.now.entries in
    let url = option_map string_bytes c.args.url in
    numbered_there c.args.items (has_url url) (only_url url) (entries_of rows) c.in-Some.number
    (sym (url_place rows c.args.url) ∙ sym c.get_index_of.ensures.index ∙ c.in-Some.is)

pub returns-then-number-items : goal.returns-then-number-items
returns-then-number-items c =
    let rows = c.args.sources.now.entries in
    let url = option_map string_bytes c.args.url in (
      refl,
      λ _. numbered_full c.args.items (has_url url) (only_url url) (entries_of rows)
          (sym (url_place rows c.args.url) ∙ sym c.get_index_of.ensures.index ∙ c.in_default.is)
          (omega (arith, length-map rows entry, c.len-number.ensures.len, c.if-number-items.true)),
    )

pub returns : goal.returns
returns c =
    let rows = c.args.sources.now.entries in
    let url = option_map string_bytes c.args.url in
    let none = sym c.get_index_of.ensures.index ∙ c.in_default.is in
    let last = numbered_last c.args.items (has_url url) (only_url url) (entries_of rows)
    (sym (url_place rows c.args.url) ∙ none)
    (omega (arith, length-map rows entry, c.len-number.ensures.len, c.if-number-items.false)) in
    rw (
      c.in_ok-insert.ensures.entries,
      url_last rows c.args.url _ none,
      c.len-number.ensures.len,
      ← length-map rows entry,
    ) last
