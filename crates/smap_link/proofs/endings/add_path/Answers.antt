use Rattle.std.proofs.Common.{◌≡◌, ◌∙◌, ◌+◌, ℕ, List, [], ap, sym, subst, get_or, cond, bytes_eq, Some}
use Rattle.std.proofs.Common.{arith}
use Rattle.std.specs.Global.{Vec}
use Rattle.smap_link.specs.Endings.{HasEarlier, IsLatest, last_segment}
use Rattle.smap_link.specs.Table.{place_in, rows_of}
use Rattle.smap_link.proofs.EndingLemmas.{earlier_more, inserted, latest_more}
use Rattle.smap_link.proofs.TableLemmas.{place_is}
use Rattle.smap_link.proofs.endings.add_path.Goals as goal

pub returns : goal.returns
returns c = λ paths here has.
    let i = c.args.i in
    let old = c.args.endings.now.latest.entries in
    let segment : c.in_ok-segment.segment.items ≡ last_segment (get_or paths i []) =
    c.in_ok-segment.ensures.items ∙ c.last_segment.ensures ∙ ap last_segment (sym here) in
    let before : c.in_ok-before.before ≡ place_in (rows_of old) (last_segment (get_or paths i [])) =
    c.in_ok-before.ensures.old ∙ place_is c.in_ok-segment.segment.items old
    ∙ ap (place_in (rows_of old)) segment in
    let latest = λ (text : List ℕ).
    ap (λ (l : List (Vec ℕ × ℕ)). place_in (rows_of l) text) c.in_ok-before.ensures.entries
    ∙ inserted old c.in_ok-segment.segment i text
    ∙ ap (λ (s : List ℕ). cond (bytes_eq text s) (Some i) (place_in (rows_of old) text)) segment in (
      latest_more paths i (rows_of old) (rows_of c.insert.new.self.entries) has.0 latest,
      omega (arith, c.in_ok-push.ensures.len, has.1),
      subst (λ l. HasEarlier l paths (i + 1)) (sym c.in_ok-push.ensures.items)
          (earlier_more paths i c.args.endings.now.earlier.items c.in_ok-before.before has.1
          has.2 (subst (IsLatest paths i (last_segment (get_or paths i []))) (sym before)
          (has.0 (last_segment (get_or paths i []))))),
    )
