use Rattle.std.proofs.Common.{◌∙◌, ap, arith, length, length-append, map}
use Rattle.smap_compose.specs.Numbered.{led_at}
use Rattle.smap_compose.specs.Standing.{standing_for, standing_up_to}
use Rattle.smap_compose.proofs.StandingLemmas.{next_standing, standing_within, source_at}
use Rattle.smap_compose.proofs.standing.is_within.Goals as goal

pub loop-i-preserved : goal.loop-i-preserved
loop-i-preserved g c =
    let outer = c.args.outer.now in
    let inner = map g.H.HasMap.held_map c.args.inner.now in
    let leads = c.args.leads.now in
    let i = c.loop-i.i in
    let s = source_at outer i (omega arith) in
    let count = c.standing_count-count.ensures s.0
    ∙ ap (λ r. length (standing_for r s.0)) c.led_at.ensures in
    let next = ap length (next_standing outer inner leads i s.0 s.1) in
    let sum = length-append (standing_up_to outer inner leads i) (standing_for
    (led_at inner leads i) s.0) in
    let left = c.loop-i.invariant in
    omega (arith, count, next, sum, left)

pub returns-then-count-left : goal.returns-then-count-left
returns-then-count-left g c =
    let outer = c.args.outer.now in
    let inner = map g.H.HasMap.held_map c.args.inner.now in
    let leads = c.args.leads.now in
    let i = c.loop-i.i in
    let s = source_at outer i (omega arith) in
    let count = c.standing_count-count.ensures s.0
    ∙ ap (λ r. length (standing_for r s.0)) c.led_at.ensures in
    let within = standing_within outer inner leads i s.0 s.1 in
    let left = c.loop-i.invariant in
    (λ y. absurd cc, λ h. absurd (omega (arith, count, within, left, h)))
