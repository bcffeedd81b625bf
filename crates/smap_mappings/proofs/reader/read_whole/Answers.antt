use Rattle.std.proofs.Common.{◌≡◌, arith, get_or, inl, inr, rules, ◌++◌, Ok}
use Rattle.std.specs.Prelude.{vec_capacity}
use Rattle.std.proofs.lemmas.Result.{err_from_is_err_and}
use Rattle.smap_mappings.proofs.WholeSegmentLemmas.{whole_fields}
use Rattle.smap_mappings.proofs.PiecesLemmas.{whole_comma, whole_semicolon, whole_fails, fails_less}
use Rattle.smap_mappings.proofs.PiecesLemmas.{empty_line}
use Rattle.smap_mappings.proofs.reader.read_whole.Goals as goal
use Rattle.smap_mappings.proofs.reader.read_whole.Goals.{then-piece-end-eq44, else-piece-end-eq44}

pub returns-in_err-running-clause-reads : goal.returns-in_err-running-clause-reads
returns-in_err-running-clause-reads c = λ text h.
    let p = err_from_is_err_and c.from_residual.result c.from_residual.ensures.1 in
    let q = c.loop-place.invariant.3 text h in
    let w = c.in-Some.ensures in
    let room = vec_capacity c.loop-place.tokens.list in
    rw (p.1, p.2) (fails_less c.args.bounds (text ++ c.args.piece.now) (vec_capacity c.args.tokens.now.list)
    room c.in_err-running.field-0.0 c.loop-place.invariant.2
    (whole_fails text c.args.piece.now w q room c.add.new.tokens.list.items _
    (c.in_err-running.ensures.reads q.before q.line q.index _ q.is_at (whole_fields w) q.sums)))

pub loop-place-preserved : goal.loop-place-preserved
loop-place-preserved c =
    let w = c.in-Some.ensures in
    let t = c.args.piece.now in
    let room = vec_capacity c.loop-place.tokens.list in
    let new = c.add.new.tokens.list.items in (
      (let a = w.le in let b = c.loop-place.invariant.0 in omega arith),
      (let a = w.within in omega arith),
      (let a = c.loop-place.invariant.2 in let b = c.in_ok-running.ensures.room in omega arith),
      λ text h.
          let q = c.loop-place.invariant.3 text h in
          let read =
          c.in_ok-running.ensures.reads q.before q.line q.index _ q.is_at (whole_fields w) q.sums in
          elim c.if-piece-end-eq44.branch [
            | then-piece-end-eq44 b ↦ rw (b.cursor-is, b.after_comma-cursor.ensures)
                (whole_comma text t w q room new (Ok c.in_ok-running.running) read b.if-piece-end-eq44.true)
            | else-piece-end-eq44 b ↦
                let is : get_or t c.in-Some.end 0 ≡ 59 =
                elim w.ended [ inl e ↦ absurd (b.if-piece-end-eq44.false e) | inr e ↦ e ] in
                rw (b.cursor-is, b.after_semicolon-cursor-else-piece-end-eq44.ensures)
                (whole_semicolon text t w q room new (Ok c.in_ok-running.running) read is)
          ],
    )

pub loop-place-preserved-then-cursor-eq0 : goal.loop-place-preserved-then-cursor-eq0
loop-place-preserved-then-cursor-eq0 c = (
  omega arith,
  omega arith,
  c.loop-place.invariant.2,
  λ text h. rw c.after_semicolon-cursor.ensures (empty_line text c.args.piece.now c.loop-place.place
      (c.loop-place.invariant.3 text h) (omega arith) c.if-piece-place-eq59.true (search rules)),
)
