use Rattle.std.proofs.Common.{◌∙◌, ap, map, option_map, string_bytes}
use Rattle.serde_json.specs.View.{view}
use Rattle.serde_json.proofs.Views.{view-Array}
use Rattle.smap_shape.proofs.ContentsLemmas.{list_read}
use Rattle.smap_shape.proofs.contents.listed_texts.Goals as goal

pub returns-in-Array : goal.returns-in-Array
returns-in-Array c =
    let own = map (option_map string_bytes) c.in_ok-own_texts-in-Array.field-0.items in
    rw (ap view c.in-Array.is ∙ view-Array c.in-Array.list)
    (list_read c.in-Array.list.items own c.in_ok-own_texts-in-Array.ensures)
