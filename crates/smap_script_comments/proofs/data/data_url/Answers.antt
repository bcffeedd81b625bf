use Rattle.smap_script_comments.proofs.data.data_url.Goals as goal

pub returns-then-branch : goal.returns-then-branch
returns-then-branch c = rw c.deref.ensures.value at c.in_ok-holds.ensures c.if-branch.true
