use Rattle.std.proofs.Common.{◌≡◌, ◌∙◌, ◌++◌, ◌∷◌, [], List, ap, length, rules, ℕ}
use denote.Ref.{Bor}
use Rattle.indexmap.specs.IndexMap.{insert_entry}
use Rattle.std.specs.Prelude.{bytes_eq}
use Rattle.smap_compose.proofs.ClosingLemmas.{closed_more}
use Rattle.smap_compose.proofs.chain.Closed.with.Goals as goal

pub returns : goal.returns
returns c = λ links m are is.
    let old = c.args.self in
    let long : c.len.result ≡ length old.maps.items = search (rules, c.len.ensures) in
    closed_more links c.args.script m old
    (record { numbers = c.insert.new.self; maps = c.push-2.new.self; tables = c.push.new.self }) c.args.map
    are is
    (c.in_ok-push.ensures.items ∙ ap (λ (t : List ℕ). old.tables.items ++ t ∷ []) c.in_ok-new.ensures)
    (c.in_ok-insert.ensures.entries ∙ ap (insert_entry (λ (a b : Bor (List ℕ)). bytes_eq a.now b.now)
    old.numbers.entries c.args.script) long) c.in_ok-push-2.ensures.items
