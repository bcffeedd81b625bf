use Rattle.std.proofs.Common.{◌≡◌, ◌∙◌, ◌<◌, ◌≤◌, ◌++◌, ◌∷◌, [], ap, length, map, arith, rules}
use Rattle.std.proofs.lemmas.List.{length-map, take_all}
use Rattle.smap_link.specs.Paths.{bare}
use Rattle.smap_link.specs.Table.{rows_of, texts_in}
use Rattle.smap_link.proofs.TableLemmas.{read_mapped}
use Rattle.smap_link.proofs.table.bare_texts.Goals as goal

pub loop-i-preserved : goal.loop-i-preserved
loop-i-preserved c =
    let all = texts_in (rows_of c.args.table.now.entries) in
    let more : c.push.new.self.items ≡ c.loop-i.all.items ++ c.bare.result ∷ [] = search rules in
    let lt : c.loop-i.i < length all = simp length-map (omega (arith, c.loop-i-test.true)) in
    read_mapped bare all c.loop-i.i lt c.loop-i.all.items c.push.new.self.items c.bare.result more
    (c.bare.ensures ∙ ap bare c.text_at.ensures) c.loop-i.invariant

pub returns : goal.returns
returns c =
    let all = map bare (texts_in (rows_of c.args.table.now.entries)) in
    let ended : length all ≤ c.loop-i.i = simp length-map (omega (arith, c.loop-i-test.false)) in
    c.loop-i.invariant ∙ take_all c.loop-i.i all ended
