use Rattle.smap_tool.proofs.ParsedLemmas.{too_large}
use Rattle.smap_tool.proofs.header.number_of.Goals as goal

pub returns-in-Err : goal.returns-in-Err
returns-in-Err c =
    let is = c.is_number.ensures.0 c.if-not-is_number.false in
    (is.0, is.1, too_large c.args.text.now is.0 c.in-Err.field-0 is.1 c.in-Err.ensures.value.0)
