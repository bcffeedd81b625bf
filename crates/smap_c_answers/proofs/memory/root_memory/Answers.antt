use Rattle.std.proofs.Common.{◌≡◌, option_copied, refl, slice_get, arith, ◌+◌}
use Rattle.smap_record.specs.Written.{Spelling}
use Rattle.smap_c_answers.proofs.MemoryLemmas.{mapped_from, root_before, root_last, root_at, roots_differ}
use Rattle.smap_c_answers.proofs.memory.root_memory.Goals as goal
use Rattle.smap_c_answers.proofs.memory.root_memory.Goals.{else-i-count-via-then-i-count+else-eq}
use Rattle.smap_c_answers.proofs.memory.root_memory.Goals.{else-i-count-via-else-i-count}

pub returns : goal.returns
returns c s at =
    let written = c.args.written.now in
    let of_s : s.root ≡ option_copied c.root-root.result =
    root_at written c.args.i s (option_copied c.root-root.result)
    at c.root-root.ensures in
    elim c.else-i-count.branch [
      | else-i-count-via-then-i-count+else-eq w ↦
          let next = mapped_from (λ (s : Spelling). s.root) (slice_get written (c.args.i + 1))
          (option_copied w.root.result) w.root.ensures in
          let differs = roots_differ _ (λ a b. refl) s next.0 c.root-root.result w.root.result
          w.eq.result of_s
          next.2 w.eq.ensures w.if-eq.false in
          root_before written c.args.i s next.0 (option_copied c.root-root.result) c.text_memory.result
          c.saturating_add.result next.1 differs of_s c.text_memory.ensures c.saturating_add.ensures
      | else-i-count-via-else-i-count w ↦
          root_last written c.args.i s (option_copied c.root-root.result) c.text_memory.result
          c.saturating_add.result (omega (arith, w.if-i-count.false, c.len-count.ensures)) of_s
          c.text_memory.ensures c.saturating_add.ensures
    ]
