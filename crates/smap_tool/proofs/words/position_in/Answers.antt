use Rattle.std.proofs.Common.{◌∙◌, arith}
use Rattle.std.specs.Str.Parse.{ExplainsUnsignedError, HasUnsignedDigitsIfOk, ParsesUnsigned}
use Rattle.clap.specs.Words.{found_of}
use Rattle.smap_vlq.specs.Limits.{max_position}
use Rattle.clap.proofs.WalkLemmas.{one_text-rows}
use Rattle.smap_tool.proofs.ValueLemmas.{number_reads, position_reads}
use Rattle.smap_tool.proofs.words.position_in.Goals as goal

pub returns-clause-value : goal.returns-clause-value
returns-clause-value c =
    let same = one_text-rows (found_of c.args.matches.now) c.args.id.now in
    number_reads (λ bs r. ParsesUnsigned 32 10 bs r × ExplainsUnsignedError 10 bs r
    × HasUnsignedDigitsIfOk bs r) (λ t r h. h.0) _ c.get_one.result
    (λ e. c.get_one.ensures.none (same ∙ e)) (λ t e. c.get_one.ensures.value t (same ∙ e))

pub returns-clause-found : goal.returns-clause-found
returns-clause-found c = λ has.
    let same = one_text-rows (found_of c.args.matches.now) c.args.id.now in
    position_reads (λ bs r. ParsesUnsigned 32 10 bs r × ExplainsUnsignedError 10 bs r
    × HasUnsignedDigitsIfOk bs r) (λ t r h. h.0) max_position (omega arith) _ c.get_one.result
    (λ t e. c.get_one.ensures.value t (same ∙ e)) has.0 has.1 has.2
