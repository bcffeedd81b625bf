use Rattle.std.proofs.Common.{◌≡◌, false, rules, sym}
use Rattle.smap_mappings.proofs.ArrangementLemmas.{arranged-in_order}
use Rattle.smap_mappings.proofs.OrderLemmas.{in_order-is}
use Rattle.smap_mappings.proofs.token_list.TokenList.arranged.Goals as goal
use Rattle.smap_mappings.proofs.token_list.TokenList.arranged.Goals.{then-falls+in_ok-arrange, else-falls}

pub returns-clause-arranged : goal.returns-clause-arranged
returns-clause-arranged c =
    elim c.if-falls.branch [
      | then-falls+in_ok-arrange w ↦ rw w.list-is w.in_ok-arrange.ensures.arranged
      | else-falls w ↦
          let flat : c.args.self.falls ≡ false = search rules in
          rw w.list-is
          (sym (arranged-in_order c.args.self.list.items (in_order-is _ (c.args.self.in_order flat))))
    ]
