use Rattle.std.proofs.Common.{◌∙◌, ◌≤◌, length, length-append, take, length-take-le, arith, rules}
use Rattle.std.proofs.lemmas.Result.{err_from_is_err_and}
use Rattle.smap_io.specs.Reading.{IsFewerThan}
use Rattle.smap_io.proofs.ReadingLemmas.{Gave-after, GaveUp-after}
use Rattle.smap_io.proofs.reading.read_up_to.Goals as goal

pub returns-in_err-n-clause-reads : goal.returns-in_err-n-clause-reads
returns-in_err-n-clause-reads g c =
    let p = err_from_is_err_and c.from_residual.result c.from_residual.ensures.1 in
    let within : c.reads.filled ≤ length c.reads.text.items = search rules in
    let len = length-take-le c.reads.filled c.reads.text.items within in
    rw (p.1, p.2) (GaveUp-after g.R.Read.remaining c.args.reader.now c.reads.reader c.read_after.new.reader
    (take c.reads.filled c.reads.text.items)
    (IsFewerThan c.args.most) c.args.calls.now c.reads.calls c.in_err-n.field-0.0 c.reads.invariant.gave
    (λ more few. omega (arith, len, few, length-append (take c.reads.filled c.reads.text.items) more))
    (omega (arith, len, c.reads.invariant.counted))
    c.reads.invariant.failures c.reads.invariant.ended c.in_err-n.ensures.reads)

pub reads-preserved : goal.reads-preserved
reads-preserved g c = record {
  gave = Gave-after g.R.Read.remaining c.args.reader.now c.reads.reader c.read_after.new.reader
      c.reads.text.items c.read_after.new.text.items c.reads.filled c.in_ok-n.n
      (c.read_after.ensures.front ∙ c.make_room.ensures.front) c.reads.invariant.gave
      c.in_ok-n.ensures.reads.gave;
  filled = search rules;
  inside = search rules;
  room = search rules;
  counted = search rules;
  left = search rules;
  fewer = search rules;
  failures = search rules;
  ended = search rules;
  going = search rules;
  in_time = search rules;
  spends = search rules;
  still = search rules;
}
