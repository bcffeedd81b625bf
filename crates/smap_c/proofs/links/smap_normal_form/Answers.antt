use Rattle.std.proofs.Common.{Ok, Some}
use Rattle.smap_c_answers.specs.Answers.{form_of}
use Rattle.smap_c.proofs.links.smap_normal_form.Goals as goal

pub returns : goal.returns
returns c =
    c.give.ensures (Ok (Some (form_of c.args.with_query c.args.name.now))) c.form_answer-answer.ensures
