use Rattle.smap_script_comments.proofs.ids.set_debug_id.Goals as goal

pub returns-then-same_link : goal.returns-then-same_link
returns-then-same_link c = (
  c.id_place-at.ensures.place,
  rw (c.deref.ensures.value, c.in_ok-comment.ensures) at c.in_ok-made.ensures,
  rw c.deref-2.ensures.value at c.in_ok-new.ensures,
  rw c.deref-then-has_id.ensures.value at c.same_link.ensures c.if-same_link.true,
  rw c.deref-3.ensures.value at c.has_id.ensures c.if-has_id.true,
)
