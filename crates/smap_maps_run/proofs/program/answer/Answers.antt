use Rattle.std.proofs.Common.{map}
use Rattle.smap_command_line.specs.declared.maps.words.Asked.TheVariants.{Help, Maps, Version}
use Rattle.smap_maps_run.proofs.RunLemmas.{asked_done}
use Rattle.smap_maps_run.proofs.program.answer.Goals as goal

pub returns-in-Ok-Help : goal.returns-in-Ok-Help
returns-in-Ok-Help g c = asked_done _ _ _ _ (map (λ w. w.now) c.args.words.now) Help _ _ c.said.result
    (rw c.in-Ok-Help.field-0-is at c.in-Ok-Help.ensures.asked) c.said.ensures

pub returns-in-Ok-Version : goal.returns-in-Ok-Version
returns-in-Ok-Version g c = asked_done _ _ _ _ (map (λ w. w.now) c.args.words.now) Version _ _
    c.said-in-Ok-Version.result (rw c.in-Ok-Version.field-0-is at c.in-Ok-Version.ensures.asked)
    c.said-in-Ok-Version.ensures

pub returns-in-Ok-Maps : goal.returns-in-Ok-Maps
returns-in-Ok-Maps g c = asked_done _ _ _ _ (map (λ w. w.now) c.args.words.now) (Maps c.in-Ok-Maps.asked) _ _
    c.do_task.result (rw c.in-Ok-Maps.field-0-is at c.in-Ok-Maps.ensures.asked) c.do_task.ensures
