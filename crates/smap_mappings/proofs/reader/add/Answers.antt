use Rattle.std.proofs.Common.{◌≡◌, Ok, Err, rules, ◌++◌, ◌∷◌, [], refl, arith}
use Rattle.std.proofs.lemmas.Result.{err_from_is_err_and}
use Rattle.smap_mappings.specs.Steps.{text_at}
use Rattle.smap_mappings.proofs.StepsLemmas.{agrees}
use Rattle.smap_mappings.proofs.ScanLemmas.{one_goes_on, one_fails}
use Rattle.smap_mappings.proofs.reader.add.Goals as goal

pub returns-in_ok-push-in-Ok-clause-reads : goal.returns-in_ok-push-in-Ok-clause-reads
returns-in_ok-push-in-Ok-clause-reads c = λ before line index text at e h.
    let old = c.args.tokens.now.list.items in
    let pushed : c.push.new.self.list.items ≡ old ++ c.in-Ok.token ∷ [] = search rules in
    let y = agrees c.args.bounds c.args.cursor.running before c.args.cursor.line line index text
    c.args.fields.now (Ok (c.in-Ok.after, c.in-Ok.token)) (search rules) at.line_is e h c.in-Ok.ensures in (
      before ++ y.0.0 ∷ [],
      y.3,
      one_goes_on c.args.bounds before (text_at line index text) y.0 y.1 old c.push.new.self.list.items
          (rw y.2 pushed),
    )

pub returns-in-Err-clause-reads : goal.returns-in-Err-clause-reads
returns-in-Err-clause-reads c = λ before line index text at e h.
    let fault = agrees c.args.bounds c.args.cursor.running before c.args.cursor.line line index text
    c.args.fields.now (Err c.in-Err.kind) (search rules) at.line_is e h c.in-Err.ensures in
    rw (c.refusal.ensures, at.line_is, at.index_is)
    (one_fails c.args.bounds before (text_at line index text) _ _ (rw fault refl))

pub returns-in_err-push-in-Ok-clause-reads : goal.returns-in_err-push-in-Ok-clause-reads
returns-in_err-push-in-Ok-clause-reads c = λ before line index text at e h.
    let p = err_from_is_err_and c.from_residual.result c.from_residual.ensures.1 in
    let y = agrees c.args.bounds c.args.cursor.running before c.args.cursor.line line index text
    c.args.fields.now (Ok (c.in-Ok.after, c.in-Ok.token)) (search rules) at.line_is e h c.in-Ok.ensures in
    rw (p.1, p.2) (
      y.0.1 ∷ [],
      rw y.1 refl,
      (let full = c.in_err-push-in-Ok.ensures.full in let len = c.args.tokens.now.list.ok.0 in omega arith),
    )
