use Rattle.std.proofs.Common.{◌∙◌, ap}
use Rattle.smap_map_files.specs.Chosen.{holds}
use Rattle.smap_map_files.proofs.SettlingLemmas.{holds_more}
use Rattle.smap_map_files.proofs.settling.add_text.Goals as goal

pub returns-clause-added : goal.returns-clause-added
returns-clause-added c other = ap (λ keys. holds keys other) c.in_ok-new.ensures.keys
    ∙ holds_more c.args.texts.now.keys c.args.text other
