use Rattle.std.proofs.Common.{◌≡◌, ◌∙◌, [], ap, refl, subst, map, true, false, inl, inr, sym}
use Rattle.clap.specs.Words.{App, HasKind, IsAmong, Kinds, fault_of, is_simple_and_free, kind_of, takes}
use Rattle.clap.specs.declared.error.Error.{Error}
use Rattle.clap.specs.declared.error.kind.ErrorKind.{ErrorKind}
use Rattle.clap.specs.declared.error.kind.ErrorKind.TheVariants.{OutOfMemory}
use Rattle.clap.specs.Words.{Row, Text}
use Rattle.std.proofs.Common.{List, Option}
use Rattle.smap_tool.specs.Commands.{TaskGiven}
use Rattle.smap_tool.specs.Words.{IsRefusalBy, IsRefusalOf}
use Rattle.smap_tool.specs.declared.words.WordsFault.{WordsFault}
use Rattle.smap_tool.specs.declared.words.WordsFault.TheVariants as fault
use Rattle.smap_tool.proofs.RangeLemmas.{task_in_range}
use Rattle.smap_tool.proofs.WordsLemmas.{given_rows, is_free_line, met_command}
use Rattle.smap_tool.proofs.commands.task_of.Goals as goal

memory_of : (k : ErrorKind) (f : WordsFault) → IsRefusalOf k f → k ≡ OutOfMemory → f ≡ fault.Memory
memory_of k (fault.Words e) h is = absurd (h.1 is)
memory_of k fault.Memory h is = refl

-- the kind of the refusal is among those of the error
among : (kinds : Kinds) (e : Error) (f : WordsFault) → HasKind kinds e → IsRefusalOf (kind_of e) f
    → IsRefusalBy kinds f
among kinds e (fault.Words x) (inl out) h = absurd (h.1 out)
among kinds e (fault.Words x) (inr is) h = subst (λ (k : ErrorKind). IsAmong k kinds) (sym h.0) is
among kinds e fault.Memory has h = tt

pub returns-in-Err-clause-refused : goal.returns-in-Err-clause-refused
returns-in-Err-clause-refused c =
    among _ c.in-Err.error c.refusal.result
    (subst (λ (a : App). is_simple_and_free a ≡ true → HasKind (fault_of a (map (λ w. w.now)
    c.args.words.now)) c.in-Err.error)
    c.in-Ok.ensures.shape c.in-Err.ensures.kinds is_free_line) c.refusal.ensures

pub returns-in-Err-clause-takes : goal.returns-in-Err-clause-takes
returns-in-Err-clause-takes c = λ taken.
    memory_of _ c.refusal.result c.refusal.ensures
    (c.in-Err.ensures.passes (ap (λ (a : App). takes a (map (λ w. w.now) c.args.words.now))
    c.in-Ok.ensures.shape ∙ taken))

pub returns-in-Some-clause-accepted : goal.returns-in-Some-clause-accepted
returns-in-Some-clause-accepted c =
    subst (λ (a : App). is_simple_and_free a ≡ true → fault_of a (map (λ w. w.now) c.args.words.now) ≡ [])
    c.in-Ok.ensures.shape c.in-Ok-try_get_matches_from.ensures.kinds is_free_line

pub returns-in-Some-clause-range : goal.returns-in-Some-clause-range
returns-in-Some-clause-range c =
    let parse = c.in-Ok-try_get_matches_from.ensures in
    let met = met_command c.in-Ok.command (map (λ w. w.now) c.args.words.now)
    c.in-Ok-try_get_matches_from.matches c.in-Ok.ensures.shape c.in-Ok.ensures.local parse.parsed
    parse.matches parse.kinds in
    task_in_range _ c.in-Some.task met c.in-Some.ensures.task

pub unreachable-requires : goal.unreachable-requires
unreachable-requires c =
    let parse = c.in-Ok-try_get_matches_from.ensures in
    let met = met_command c.in-Ok.command (map (λ w. w.now) c.args.words.now)
    c.in-Ok-try_get_matches_from.matches c.in-Ok.ensures.shape c.in-Ok.ensures.local parse.parsed
    parse.matches parse.kinds in
    let found : false ≡ true = c.in-None.ensures.found met in
    absurd cc

pub returns-in-Some-clause-task : goal.returns-in-Some-clause-task
returns-in-Some-clause-task c =
    subst (λ (o : Option (Text × List Row)). TaskGiven o c.in-Some.task)
    (given_rows c.in-Ok.command (map (λ w. w.now) c.args.words.now) c.in-Ok-try_get_matches_from.matches
    c.in-Ok.ensures.shape c.in-Ok-try_get_matches_from.ensures.matches) c.in-Some.ensures.task
