use Rattle.std.proofs.Common.{rules}
use Rattle.smap_frames.proofs.MarkLemmas.{first_at, no_first}
use Rattle.smap_frames.proofs.frames.lead_len.Goals as goal

pub returns-in-Some : goal.returns-in-Some
returns-in-Some c =
    let at = first_at c.args.form.now.mark c.args.text.now c.in-Some.at c.in-Some.ensures in
    search (rules, at)

pub returns-in-None : goal.returns-in-None
returns-in-None c =
    let none = no_first c.args.form.now.mark c.args.text.now c.in-None.ensures in
    search (rules, none)
