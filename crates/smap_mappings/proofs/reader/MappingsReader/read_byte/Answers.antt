use Rattle.std.proofs.Common.{◌≢◌, Ok, Err, sym, refl, rules, ◌++◌, ◌∷◌, [], length, arith, length-append}
use Rattle.std.specs.Prelude.{vec_capacity}
use Rattle.std.proofs.lemmas.Bool.{lt-ltb, ne_eqb}
use Rattle.std.proofs.lemmas.Result.{err_from_is_err_and}
use Rattle.smap_mappings.proofs.PiecesLemmas.{bytes_read, comma, semicolon}
use Rattle.smap_mappings.proofs.ReaderLemmas.{reads_here}
use Rattle.smap_mappings.proofs.reader.MappingsReader.read_byte.Goals as goal

pub returns-in_err-running-in-44-clause-reads : goal.returns-in_err-running-in-44-clause-reads
returns-in_err-running-in-44-clause-reads c = λ bounds text h.
    let p = err_from_is_err_and c.from_residual.result c.from_residual.ensures.1 in
    let q = reads_here h in
    rw (p.1, p.2, c.in-44.is, ← h.same) (comma q (vec_capacity c.args.self.now.tokens.list)
    c.end_segment.new.tokens.list.items (Err c.in_err-running-in-44.field-0.0)
    (c.in_err-running-in-44.ensures.reads q.before q.line q.index h.current q.is_at h.segment q.sums))

pub returns-in_err-running-in-59-clause-reads : goal.returns-in_err-running-in-59-clause-reads
returns-in_err-running-in-59-clause-reads c = λ bounds text h.
    let p = err_from_is_err_and c.from_residual-in_err-running-in-59.result
    c.from_residual-in_err-running-in-59.ensures.1 in
    let q = reads_here h in
    rw (p.1, p.2, c.in-59.is, ← h.same) (semicolon q (vec_capacity c.args.self.now.tokens.list)
    c.end_line.new.tokens.list.items (Err c.in_err-running-in-59.field-0.0)
    (c.in_err-running-in-59.ensures.reads q.before q.line q.index h.current q.is_at h.segment h.begun q.sums))

pub returns-in_ok-running-in-44-clause-reads : goal.returns-in_ok-running-in-44-clause-reads
returns-in_ok-running-in-44-clause-reads c = λ bounds text h.
    let q = reads_here h in
    record {
      fine = h.fine;
      same = h.same;
      current = [];
      begun = refl;
      segment = c.in_ok-running-in-44.ensures.again;
      reads = rw (c.in-44.is, c.after_comma-self.ensures, ← h.same)
          (comma q (vec_capacity c.args.self.now.tokens.list) c.end_segment.new.tokens.list.items
          (Ok c.in_ok-running-in-44.running)
          (c.in_ok-running-in-44.ensures.reads q.before q.line q.index h.current q.is_at h.segment q.sums));
    }

pub returns-in_ok-running-in-59-clause-reads : goal.returns-in_ok-running-in-59-clause-reads
returns-in_ok-running-in-59-clause-reads c = λ bounds text h.
    let q = reads_here h in
    record {
      fine = h.fine;
      same = h.same;
      current = [];
      begun = refl;
      segment = c.in_ok-running-in-59.ensures.again h.current h.segment h.begun;
      reads = rw (c.in-59.is, c.after_semicolon-self.ensures, ← h.same)
          (semicolon q (vec_capacity c.args.self.now.tokens.list) c.end_line.new.tokens.list.items
          (Ok c.in_ok-running-in-59.running)
          (c.in_ok-running-in-59.ensures.reads q.before q.line q.index h.current q.is_at h.segment h.begun
          q.sums));
    }

pub returns-in_default-clause-reads : goal.returns-in_default-clause-reads
returns-in_default-clause-reads c = λ bounds text h.
    let b = c.args.byte in
    let comma : b ≢ 44 = search rules in
    let semicolon : b ≢ 59 = search rules in
    record {
      fine = h.fine;
      same = h.same;
      current = h.current ++ b ∷ [];
      begun = sym (lt-ltb 0 (length (h.current ++ b ∷ [])) (omega (arith, length-append h.current (b ∷ []))));
      segment = c.byte.ensures h.current h.segment;
      reads = bytes_read h.reads (b ∷ []) _ ((ne_eqb b 59 semicolon, ne_eqb b 44 comma), tt) refl;
    }
