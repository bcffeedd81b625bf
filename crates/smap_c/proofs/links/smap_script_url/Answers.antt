use Rattle.std.proofs.Common.{Ok, Some}
use Rattle.smap_link.specs.Urls.{script_url}
use Rattle.smap_c.proofs.links.smap_script_url.Goals as goal

pub returns : goal.returns
returns c =
    c.give.ensures (Ok (Some (script_url c.args.folder.now c.args.name.now)))
    c.script_url_answer-answer.ensures
