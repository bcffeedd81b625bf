use Rattle.std.proofs.Common.{◌∙◌, [], ap, option_map, unwrap_or, Option, ℕ}
use Rattle.std.specs.Global.{Vec}
use Rattle.smap_link.proofs.TableLemmas.{text_got}
use Rattle.smap_link.proofs.table.text_at.Goals as goal

pub returns-in-Some : goal.returns-in-Some
returns-in-Some c =
    c.as_slice.ensures.value
    ∙ ap (λ (o : Option (Vec ℕ × ℕ)). unwrap_or (option_map (λ (e : Vec ℕ × ℕ). e.0.items) o) [])
    c.in-Some.ensures.entry
    ∙ text_got c.args.table.now.entries c.args.i

pub returns-in-None : goal.returns-in-None
returns-in-None c =
    ap (λ (o : Option (Vec ℕ × ℕ)). unwrap_or (option_map (λ (e : Vec ℕ × ℕ). e.0.items) o) [])
    c.in-None.ensures.entry
    ∙ text_got c.args.table.now.entries c.args.i
