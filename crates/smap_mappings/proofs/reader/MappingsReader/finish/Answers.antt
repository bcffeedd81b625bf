use Rattle.std.proofs.Common.{◌∙◌, sym, refl}
use Rattle.std.specs.Prelude.{vec_capacity}
use Rattle.std.proofs.lemmas.Result.{err_from_is_err_and}
use Rattle.smap_mappings.proofs.ReaderLemmas.{read_of, failed_of, gives_failed, gives_last, decoded_all}
use Rattle.smap_mappings.proofs.ReaderLemmas.{fits_last, all_read, reads_here, same_refusal}
use Rattle.smap_mappings.proofs.reader.MappingsReader.finish.Goals as goal

pub returns-in-Some-clause-says : goal.returns-in-Some-clause-says
returns-in-Some-clause-says c = λ bounds text h. gives_failed bounds text c.in-Some.error
    (failed_of c.args.self bounds text c.in-Some.error c.in-Some.is h)

pub returns-in_err-end_line-clause-says : goal.returns-in_err-end_line-clause-says
returns-in_err-end_line-clause-says c = λ bounds text h.
    let p = err_from_is_err_and c.from_residual.result c.from_residual.ensures.1 in
    let k = read_of c.args.self bounds text c.in_default.not-Some h in
    let q = reads_here k in
    rw (p.1, p.2, ← k.same) (gives_last q (vec_capacity c.args.self.tokens.list)
    c.end_line.new.tokens.list.items c.in_err-end_line.field-0.0
    (c.in_err-end_line.ensures.reads q.before q.line q.index k.current q.is_at k.segment k.begun q.sums))

pub returns-clause-says : goal.returns-clause-says
returns-clause-says c = λ bounds text h.
    let k = read_of c.args.self bounds text c.in_default.not-Some h in
    let q = reads_here k in
    rw (← k.same) (decoded_all q (vec_capacity c.args.self.tokens.list) c.end_line.new.tokens.list.items
    c.in_ok-end_line.field-0
    (c.in_ok-end_line.ensures.reads q.before q.line q.index k.current q.is_at k.segment k.begun q.sums)
    ∙ rw c.in_ok-arranged.ensures.arranged refl)

pub returns-in_err-end_line-clause-fits : goal.returns-in_err-end_line-clause-fits
returns-in_err-end_line-clause-fits c = λ bounds text h none fits falls e.
    let p = err_from_is_err_and c.from_residual.result c.from_residual.ensures.1 in
    let k = read_of c.args.self bounds text c.in_default.not-Some h in
    let q = reads_here k in
    fits_last q (vec_capacity c.args.self.tokens.list) c.end_line.new.tokens.list.items
    c.in_err-end_line.field-0.0
    (c.in_err-end_line.ensures.reads q.before q.line q.index k.current q.is_at k.segment k.begun q.sums)
    (rw (← k.same) at fits)
    (sym p.2 ∙ same_refusal p.0 _ (sym p.1 ∙ e))

pub returns-in_err-arranged-clause-fits : goal.returns-in_err-arranged-clause-fits
returns-in_err-arranged-clause-fits c = λ bounds text h none fits falls e.
    let k = read_of c.args.self bounds text c.in_default.not-Some h in
    let q = reads_here k in
    let all = all_read q (vec_capacity c.args.self.tokens.list) c.end_line.new.tokens.list.items
    c.in_ok-end_line.field-0
    (c.in_ok-end_line.ensures.reads q.before q.line q.index k.current q.is_at k.segment k.begun q.sums) in
    let sorted = falls c.end_line.new.tokens.list.items (rw (← k.same) all) in
    absurd (let fine = c.in_err-arranged.ensures.fits sorted in cc)
