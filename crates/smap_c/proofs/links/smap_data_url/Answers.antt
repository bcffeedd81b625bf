use Rattle.smap_link.specs.Inline.{inline_map}
use Rattle.smap_c_answers.specs.Answers.{data_answer}
use Rattle.smap_c.proofs.links.smap_data_url.Goals as goal

pub returns : goal.returns
returns c =
    let d = c.data_answer-answer.ensures in
    (d.0, d.1, c.give.ensures (data_answer (inline_map d.0 c.args.url.now)) d.2)
