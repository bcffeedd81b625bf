use Rattle.std.proofs.Common.{◌∙◌}
use Rattle.clap.specs.Words.{found_of}
use Rattle.clap.proofs.WalkLemmas.{one_text-rows}
use Rattle.smap_command_line.proofs.RowLemmas.{flag_reads}
use Rattle.smap_command_line.proofs.lookups.Options.has.Goals as goal

pub returns : goal.returns
returns c =
    let same = one_text-rows (found_of c.args.self.now.matches) c.args.name.now in
    c.unwrap_or.ensures ∙ flag_reads _ _ c.get_one.result (λ e. c.get_one.ensures.none (same ∙ e))
    (λ t e. c.get_one.ensures.value t (same ∙ e))
