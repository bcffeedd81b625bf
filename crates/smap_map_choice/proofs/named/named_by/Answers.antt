use Rattle.std.proofs.Common.{inl, inr, refl, sym}
use Rattle.smap_map_choice.proofs.NamedLemmas.{is_other}
use Rattle.smap_map_choice.proofs.named.named_by.Goals as goal

pub named_file-requires : goal.named_file-requires
named_file-requires c =
    let d = rw c.in-Ok-None.field-0-is at c.in-Ok-None.ensures.value in is_other d.0 c.args.url.now d.2

pub returns-in-Ok-Some : goal.returns-in-Ok-Some
returns-in-Ok-Some c =
    let d = rw c.in-Ok-Some.field-0-is at c.in-Ok-Some.ensures.value in (d.0, d.1, sym d.2)

pub returns-in_default : goal.returns-in_default
returns-in_default c =
    let d = c.in-Err.ensures.fault in
    elim d.2 [
      | inl memory ↦ elim (c.in_default.not-Memory memory) [ ]
      | inr is ↦ (d.0, d.1, rw is refl)
    ]
