use Rattle.std.proofs.Common.{◌∙◌, ◌<◌, ◌≤◌, Bor, ap, arith, length, map}
use Rattle.std.proofs.lemmas.List.{length-map, take_all}
use Rattle.clap.specs.Words.{Text}
use Rattle.smap_command_line.specs.Values.{pair_meant, pair_view}
use Rattle.smap_command_line.proofs.TextLemmas.{read_more, text_at}
use Rattle.smap_command_line.proofs.pairs.pairs_in.Goals as goal

pub loop-i-preserved : goal.loop-i-preserved
loop-i-preserved c =
    let words = map {A = Bor Text} {B = Text} (λ s. s.now) c.args.words.now in
    let i = c.loop-i.i in
    let lt : i < length words = simp length-map (omega (arith, c.loop-i-test.true)) in
    read_more pair_view pair_meant words i _ _ _ _ lt (text_at c.args.words.now i _ c.loop-i-test.true)
    c.in_ok-push.ensures.items c.pair_in.ensures c.loop-i.invariant

pub returns : goal.returns
returns c =
    let words = map {A = Bor Text} {B = Text} (λ s. s.now) c.args.words.now in
    let all : length words ≤ c.loop-i.i = simp length-map (omega (arith, c.loop-i-test.false)) in
    c.loop-i.invariant ∙ ap (map pair_meant) (take_all c.loop-i.i words all)
