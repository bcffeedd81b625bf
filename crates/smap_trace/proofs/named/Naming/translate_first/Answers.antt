use Rattle.smap_trace.proofs.TranslatedLemmas.{appended, appended_kept}
use Rattle.smap_trace.proofs.named.Naming.translate_first.Goals as goal
use Rattle.smap_trace.proofs.named.Naming.translate_first.Goals.{then-is_named+in_ok-put, else-is_named}

pub returns : goal.returns
returns g c =
    let self = c.args.self.now in
    let scripts = g.M.Maps.scripts self.maps.now in
    elim c.if-is_named.branch [
      | then-is_named+in_ok-put w ↦ rw w.kept-is (appended_kept self.mode scripts self.hide c.args.line.now
          c.args.kept.now c.translate_anew.new.kept w.put.new.self c.new-text.result.items
          c.translate_anew.new.out.items c.deref.result.now w.deref-then-is_named.result.now
          c.args.out.now.items c.extend_from_slice.new.self.items c.in_ok-outcome.outcome
          c.new-text.ensures.items
          c.deref.ensures.value w.deref-then-is_named.ensures.value c.in_ok-extend_from_slice.ensures.items
          c.in_ok-outcome.ensures w.in_ok-put.ensures)
      | else-is_named w ↦ rw w.kept-is (appended self.mode scripts self.hide c.args.line.now c.args.kept.now
          c.translate_anew.new.kept c.new-text.result.items c.translate_anew.new.out.items c.deref.result.now
          c.args.out.now.items c.extend_from_slice.new.self.items c.in_ok-outcome.outcome
          c.new-text.ensures.items
          c.deref.ensures.value c.in_ok-extend_from_slice.ensures.items c.in_ok-outcome.ensures)
    ]
