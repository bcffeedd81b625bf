use Rattle.std.proofs.Common.{◌≡◌, ◌∙◌, ◌≤◌, ◌++◌, ◌∷◌, [], length, arith, rules}
use Rattle.std.proofs.lemmas.List.{length-map, take_all}
use Rattle.smap_link.specs.Table.{rows_of, texts_in}
use Rattle.smap_link.proofs.TableLemmas.{read_more}
use Rattle.smap_link.proofs.table.texts.Goals as goal

pub loop-i-preserved : goal.loop-i-preserved
loop-i-preserved c =
    let more : c.push.new.self.items ≡ c.loop-i.all.items ++ c.text_at.result ∷ [] = search rules in
    read_more c.args.table.now.entries c.loop-i.i (omega (arith, c.loop-i-test.true)) c.loop-i.all.items
    c.push.new.self.items c.text_at.result more c.text_at.ensures c.loop-i.invariant

pub returns : goal.returns
returns c =
    let all = texts_in (rows_of c.args.table.now.entries) in
    let ended : length all ≤ c.loop-i.i = simp length-map (omega (arith, c.loop-i-test.false)) in
    c.loop-i.invariant ∙ take_all c.loop-i.i all ended
