use Rattle.std.proofs.Common.{List, arith, subst}
use Rattle.std.proofs.lemmas.List.{take_all}
use Rattle.smap_command_line.specs.declared.trace.arguments.Argument.{Argument}
use Rattle.smap_map_files.specs.Lists.{lists_of, no_lists}
use Rattle.smap_map_files.specs.Naming.{NamesAll}
use Rattle.smap_map_files.proofs.NamingLemmas.{argument_more}
use Rattle.smap_map_files.proofs.arguments.wanted_by.Goals as goal

pub loop-i-init : goal.loop-i-init
loop-i-init g c = c.new-wanted.ensures.lists

pub loop-i-preserved : goal.loop-i-preserved
loop-i-preserved g c =
    argument_more (g.D.Disk.tree c.args.host.now.disk.now)
    (g.D.Disk.held c.args.host.now.disk.now) c.args.arguments.now c.loop-i.i _ no_lists
    (lists_of c.loop-i.wanted)
    (lists_of c.add_argument.new.wanted) (omega (arith, c.loop-i-test.true)) c.loop-i.invariant
    c.in_ok-add_argument.ensures

pub returns : goal.returns
returns g c = subst (λ (those : List Argument). NamesAll (g.D.Disk.tree c.args.host.now.disk.now)
    (g.D.Disk.held c.args.host.now.disk.now) those no_lists (lists_of c.loop-i.wanted))
    (take_all c.loop-i.i c.args.arguments.now c.loop-i-test.false) c.loop-i.invariant
