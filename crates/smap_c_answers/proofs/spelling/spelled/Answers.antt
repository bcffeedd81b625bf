use Rattle.smap_c_answers.proofs.SpellingLemmas.{arranged_encodable}
use Rattle.smap_c_answers.proofs.spelling.spelled.Goals as goal

pub encode-requires : goal.encode-requires
encode-requires c =
    rw (c.as_slice.ensures.value, c.in_ok-tokens.ensures, c.in_ok-tokens_of.ensures)
    (arranged_encodable c.args.mappings.now c.requires)
