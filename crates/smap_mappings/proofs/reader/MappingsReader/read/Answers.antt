use Rattle.std.proofs.Common.{arith, take, ◌++◌, ◌+◌}
use Rattle.std.proofs.lemmas.Result.{err_from_is_err_and}
use Rattle.std.specs.Prelude.{vec_capacity}
use Rattle.smap_mappings.proofs.PiecesLemmas.{fails_less, piece_fails, one_byte}
use Rattle.smap_mappings.proofs.ReaderLemmas.{Follows, here, whole_follows, byte_follows}
use Rattle.smap_mappings.proofs.reader.MappingsReader.read.Goals as goal
use Rattle.smap_mappings.proofs.reader.MappingsReader.read.Goals.{then-not-self+in_ok-cursor, else-not-self}

pub returns-in_err-cursor-clause-reads : goal.returns-in_err-cursor-clause-reads
returns-in_err-cursor-clause-reads c = λ bounds text k.
    let p = err_from_is_err_and c.from_residual.result c.from_residual.ensures.1 in
    let f = c.loop-place.invariant.1 in
    let h = f.reads bounds text k in
    rw (p.1, p.2, ← h.same)
    (fails_less _ (text ++ c.args.piece.now) (vec_capacity c.args.self.now.tokens.list)
    (vec_capacity c.loop-place.self.tokens.list) c.in_err-cursor.field-0.0 f.room
    (c.in_err-cursor.ensures.reads text (here h c.if-not-self.true)))

pub returns-in_err-read_byte-clause-reads : goal.returns-in_err-read_byte-clause-reads
returns-in_err-read_byte-clause-reads c = λ bounds text k.
    let p =
    err_from_is_err_and c.from_residual-in_err-read_byte.result c.from_residual-in_err-read_byte.ensures.1 in
    let error = c.in_err-read_byte.field-0.0 in
    let f : Follows c.args.self.now c.if-not-self.self c.args.piece.now c.if-not-self.place =
    elim c.if-not-self.branch [
      | then-not-self+in_ok-cursor w ↦ rw (w.self-is, w.place-is) (whole_follows c.loop-place.invariant.1
          w.if-not-self.true w.read_whole.new.tokens w.in_ok-cursor.cursor w.in_ok-cursor.after
          w.in_ok-cursor.ensures.room w.in_ok-cursor.ensures.reads)
      | else-not-self w ↦ rw (w.self-is, w.place-is) c.loop-place.invariant.1
    ] in
    rw (p.1, p.2) (fails_less bounds (text ++ c.args.piece.now) (vec_capacity c.args.self.now.tokens.list)
    (vec_capacity c.if-not-self.self.tokens.list) error f.room
    (piece_fails bounds text c.args.piece.now (c.if-not-self.place + 1) _ error
    (rw (← one_byte text c.args.piece.now c.if-not-self.place c.if-place-piece.true)
    (c.in_err-read_byte.ensures.reads bounds (text ++ take c.if-not-self.place c.args.piece.now)
    (f.reads bounds text k)))))

pub loop-place-preserved-then-place-piece : goal.loop-place-preserved-then-place-piece
loop-place-preserved-then-place-piece c =
    let f : Follows c.args.self.now c.if-not-self.self c.args.piece.now c.if-not-self.place =
    elim c.if-not-self.branch [
      | then-not-self+in_ok-cursor w ↦ rw (w.self-is, w.place-is) (whole_follows c.loop-place.invariant.1
          w.if-not-self.true w.read_whole.new.tokens w.in_ok-cursor.cursor w.in_ok-cursor.after
          w.in_ok-cursor.ensures.room w.in_ok-cursor.ensures.reads)
      | else-not-self w ↦ rw (w.self-is, w.place-is) c.loop-place.invariant.1
    ] in (
      omega (arith, c.if-place-piece.true),
      byte_follows f c.if-place-piece.true c.read_byte.new.self c.in_ok-read_byte.ensures.room
          c.in_ok-read_byte.ensures.same c.in_ok-read_byte.ensures.reads,
    )

pub loop-place-preserved : goal.loop-place-preserved
loop-place-preserved c = elim c.if-not-self.branch [
  | then-not-self+in_ok-cursor w ↦ rw (w.self-is, w.place-is) (
    w.in_ok-cursor.ensures.within.1,
    whole_follows c.loop-place.invariant.1 w.if-not-self.true w.read_whole.new.tokens w.in_ok-cursor.cursor
        w.in_ok-cursor.after w.in_ok-cursor.ensures.room w.in_ok-cursor.ensures.reads,
  )
  | else-not-self w ↦ rw (w.self-is, w.place-is) c.loop-place.invariant
]
