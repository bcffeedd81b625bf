use Rattle.smap_script_comments.proofs.comments.set_comment.Goals as goal

pub returns-then-names : goal.returns-then-names
returns-then-names c = (
  c.in_ok-place.ensures,
  rw c.bytes.ensures at c.in_ok-made.ensures,
  rw c.deref.ensures.value at c.in_ok-new.ensures,
  rw c.deref-2.ensures.value at c.names.ensures c.if-names.true,
)
