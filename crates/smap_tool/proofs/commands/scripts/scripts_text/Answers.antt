use Rattle.std.proofs.Common.{◌∙◌, ap, arith, sym, length, ◌<◌, ◌++◌, List, ℕ}
use Rattle.smap_tool.specs.Scripts.{script_line}
use Rattle.smap_tool.proofs.ListingLemmas.{next_line, none_left}
use Rattle.smap_tool.proofs.commands.scripts.scripts_text.Goals as goal
use Rattle.smap_tool.proofs.commands.scripts.scripts_text.Goals.{in-Some+in_ok-push_script, in_default}

pub loop-i-preserved : goal.loop-i-preserved
loop-i-preserved c = elim c.match-get.branch [
  | in-Some+in_ok-push_script w ↦
      ap (λ v. v.items) w.text-is ∙ w.in_ok-push_script.ensures
      ∙ ap (λ (xs : List ℕ). xs ++ script_line (w.in-Some.url.now, w.in-Some.lines)) c.loop-i.invariant
      ∙ next_line c.args.named.now c.loop-i.i (w.in-Some.url.now, w.in-Some.lines) (sym w.in-Some.ensures)
  | in_default w ↦
      let lt : c.loop-i.i < length c.args.named.now =
      omega (arith, c.loop-i-test.true, c.len-i-end.ensures) in
      absurd (none_left c.args.named.now c.loop-i.i lt (sym w.in_default.ensures))
]
