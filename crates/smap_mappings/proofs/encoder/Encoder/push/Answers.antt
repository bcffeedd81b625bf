use Rattle.std.proofs.Common.{◌≡◌, ◌∙◌, ◌++◌, ◌∷◌, ◌+◌, [], List, ℕ, ap, sym, subst, refl, arith, take}
use Rattle.std.proofs.Common.{length, drop}
use Rattle.smap_mappings.specs.declared.running.Running.{Running}
use Rattle.smap_mappings.specs.Writing.{segment_from, running_after, separator, at_line}
use Rattle.smap_mappings.specs.Feeding.{Encoded}
use Rattle.smap_mappings.proofs.EncodingLemmas.{goes_on, front_kept}
use Rattle.smap_mappings.proofs.encoder.Encoder.push.Goals as goal
use Rattle.smap_mappings.proofs.encoder.Encoder.push.Goals.{then-len-self+in_ok-grow, else-len-self}

pub returns : goal.returns
returns c tokens e h =
    let t = c.args.token in
    let old = c.args.self.now in
    let room = c.if-len-self.self.1.0 in
    let out = c.put_token-self.new.out in
    let here : Running = at_line old.running old.lines t.line in
    let front : take old.at room.items ≡ take old.at old.room.items = elim c.if-len-self.branch [
      | then-len-self+in_ok-grow w ↦ rw w.self-is w.grow.ensures.front
      | else-len-self w ↦ rw w.self-is refl
    ] in
    let next : List ℕ = take c.put_token-self.result (take room.len (out ++ drop (length out) room.items)) in
    let kept : next ≡ take c.put_token-self.result out =
    front_kept room.len c.put_token-self.result out (drop (length out) room.items)
    (omega (arith, c.put_token-self.ensures.room, c.as_mut_slice.ensures.len))
    c.put_token-self.ensures.place in
    let text : next ≡ (take old.at old.room.items ++ separator old.lines t.line) ++ segment_from here t =
    rw (kept, c.put_token-self.ensures.text, c.as_mut_slice.ensures.value, front)
    (ap (λ (r : Running). (take old.at old.room.items ++ separator old.lines t.line) ++ segment_from r t)
    c.on_line-running.ensures) in
    let after = c.after-self.ensures ∙ ap (λ (r : Running). running_after r t) c.on_line-running.ensures in
    subst (λ (r : Running). Encoded (tokens ++ t ∷ []) next r (t.line + 1)) (sym after)
    (goes_on tokens (take old.at old.room.items) next old.running old.lines t e h text)
