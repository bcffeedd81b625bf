use Rattle.std.proofs.Common.{◌∙◌, ◌++◌, [], ◌∷◌, ℕ, List, arith, map, sym, ap}
use Rattle.std.specs.List.{range_with_len}
use Rattle.std.proofs.lemmas.List.FromFn.{map-range_with_len_more}
use Rattle.smap_record.specs.Record.{mapping_of}
use Rattle.smap_trace.specs.LineStarts.{line_start}
use Rattle.smap_trace.proofs.LineStartLemmas.{next_start}
use Rattle.smap_trace.proofs.line_starts.LineStarts.new.Goals as goal

pub loop-line-preserved : goal.loop-line-preserved
loop-line-preserved c =
    let l = c.args.map.now.listing in
    let ms = map (mapping_of l) l.tokens in
    let line = c.loop-line.line in
    let start = c.line_start-at.ensures in
    record {
      made = c.in_ok-push.ensures.items
          ∙ ap (λ (xs : List ℕ). xs ++ c.line_start-at.result ∷ []) c.loop-line.invariant.made
          ∙ ap (λ n. map (line_start ms) (range_with_len 0 line) ++ n ∷ []) start
          ∙ sym (map-range_with_len_more (line_start ms) 0 line line (omega arith));
      known = omega (arith, start, next_start ms line);
    }
