use Rattle.std.proofs.lemmas.Result.{IfErr-weaker, IfOk-weaker}
use Rattle.smap_record.specs.Record.{record_of}
use Rattle.smap_compose.specs.Chain.{links_of}
use Rattle.smap_compose.proofs.ClosingLemmas.{chain_too_many, none_in_chain}
use Rattle.smap_compose.proofs.chain.compose_chain.Goals as goal

pub returns-clause-record : goal.returns-clause-record
returns-clause-record c = IfOk-weaker c.composed.result _ _
    (λ m h. h (links_of c.args.links.now) c.in_ok-closed.ensures.closed) c.composed.ensures.record

pub returns-clause-few : goal.returns-clause-few
returns-clause-few c = IfOk-weaker c.composed.result _ _
    (λ m h. none_in_chain c.args.limits (record_of c.args.outer.now) (links_of c.args.links.now)
    c.in_ok-closed.ensures.few (h (links_of c.args.links.now) c.in_ok-closed.ensures.closed))
    c.composed.ensures.few

pub returns-clause-refused : goal.returns-clause-refused
returns-clause-refused c = IfErr-weaker c.composed.result _ _
    (λ e h is. chain_too_many c.args.limits (record_of c.args.outer.now) (links_of c.args.links.now)
    (h (links_of c.args.links.now) c.in_ok-closed.ensures.closed is)) c.composed.ensures.refused
