use Rattle.std.proofs.Common.{◌<◌, length, arith, rules}
use Rattle.std.proofs.lemmas.Result.{err_from_is_err_and}
use Rattle.smap_io.specs.Reading.{IsWithinLine}
use Rattle.smap_io.proofs.ReadingLemmas.{GaveUp-after, within_line}
use Rattle.smap_io.proofs.reading.read_line.Goals as goal

pub returns-in_err-byte-clause-reads : goal.returns-in_err-byte-clause-reads
returns-in_err-byte-clause-reads g c =
    let p = err_from_is_err_and c.from_residual.result c.from_residual.ensures.1 in
    let line = c.bytes.line.items in
    let short : length line < c.args.most = search rules in
    rw (p.1, p.2) (GaveUp-after g.R.Read.remaining c.args.reader.now c.bytes.reader c.read_byte.new.reader
    line (IsWithinLine c.args.most) c.args.calls.now c.bytes.calls c.in_err-byte.field-0.0
    c.bytes.invariant.gave
    (λ more few. within_line c.args.most line more c.bytes.invariant.lacking short (omega (arith, few)))
    (omega (arith, c.bytes.invariant.counted))
    c.bytes.invariant.failures c.bytes.invariant.ended c.in_err-byte.ensures.byte)
