use Rattle.std.proofs.lemmas.Str.{IsUtf8-from_is_utf8, is_utf8-from_IsUtf8}
use Rattle.smap_mappings.proofs.WidthLemmas.{counted, uncounted}
use Rattle.smap_mappings.proofs.widths.is_counted.Goals as goal

pub returns-in-Ok : goal.returns-in-Ok
returns-in-Ok c = counted c.args.text.now _ (is_utf8-from_IsUtf8 c.args.text.now c.in-Ok.ensures.cases.1)
    c.has_separator.ensures

pub returns-in-Err : goal.returns-in-Err
returns-in-Err c =
    uncounted c.args.text.now (λ yes. c.in-Err.ensures.cases.0 (IsUtf8-from_is_utf8 c.args.text.now yes))
