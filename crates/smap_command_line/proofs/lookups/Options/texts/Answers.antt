use Rattle.std.proofs.Common.{◌∙◌, [], ap, Bor, List, map, Option, unwrap_or}
use Rattle.std.proofs.lemmas.Result.{IfOk-weaker}
use Rattle.clap.specs.Words.{Text}
use Rattle.smap_command_line.proofs.lookups.Options.texts.Goals as goal

pub returns-in-Some : goal.returns-in-Some
returns-in-Some c =
    IfOk-weaker c.from_slice.result _ _
    (λ v h. ap (map {A = Bor Text} {B = Text} (λ s. s.now)) h
    ∙ ap (λ (o : Option (List Text)). unwrap_or o []) c.in-Some.ensures)
    c.from_slice.ensures.items

pub returns-in-None : goal.returns-in-None
returns-in-None c =
    ap (map {A = Bor Text} {B = Text} (λ s. s.now)) c.new.ensures.items
    ∙ ap (λ (o : Option (List Text)). unwrap_or o []) c.in-None.ensures
