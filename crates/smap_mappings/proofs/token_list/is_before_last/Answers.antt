use Rattle.std.proofs.Common.{rules, ◌-◌, length, arith}
use Rattle.std.proofs.lemmas.Bool.Decides.{nat_tests}
use Rattle.smap_mappings.proofs.ArrangementLemmas.{no_token}
use Rattle.smap_mappings.proofs.OrderLemmas.{in_order-more}
use Rattle.smap_mappings.proofs.token_list.is_before_last.Goals as goal

pub returns : goal.returns
returns c = λ e h.
    in_order-more c.args.list.now c.args.token.now (length c.args.list.now - 1) no_token
    (grind (arith, nat_tests)) (search rules) h
