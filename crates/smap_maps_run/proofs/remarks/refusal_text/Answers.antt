use Rattle.smap_maps_run.proofs.remarks.refusal_text.Goals as goal

pub returns-in-Some : goal.returns-in-Some
returns-in-Some c =
    rw (c.in-Some.is, ← c.as_str-left.ensures.value, ← c.as_str-detail.ensures.value) c.format.ensures.ok
