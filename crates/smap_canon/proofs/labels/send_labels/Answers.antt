use Rattle.smap_canon.proofs.SentLemmas.{label_sent, labels_sent}
use Rattle.smap_canon.proofs.labels.send_labels.Goals as goal

pub loop-i-init : goal.loop-i-init
loop-i-init g c = λ rest end more. more

pub loop-i-preserved : goal.loop-i-preserved
loop-i-preserved g c = label_sent c.args.labels.now c.loop-i.i _
    (g.S.Serializer.written c.loop-i.out) (g.S.Serializer.written c.optional_member.new.out)
    (g.S.Serializer.written c.args.out.now) c.loop-i-test.true c.loop-i.invariant
    c.in_ok-optional_member.ensures

pub returns : goal.returns
returns g c = labels_sent c.args.labels.now c.loop-i.i (g.S.Serializer.written c.loop-i.out)
    (g.S.Serializer.written c.args.out.now) c.loop-i-test.false c.loop-i.invariant
