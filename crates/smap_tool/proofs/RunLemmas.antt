-- A run from its parts.
use Rattle.std.proofs.Common.{◌≡◌, ◌∙◌, ℕ, List, Option, Result, Ok, Err, ap, take, subst}
use Rattle.std.specs.Global.{Vec}
use Rattle.smap_io.specs.declared.device.Device.{Device}
use Rattle.smap_io.specs.Streams.{streams}
use Rattle.smap_io.specs.Writing.{Took}
use Rattle.smap_tool.specs.Run.{WritesOutput, ReadsInput, Runs, WritesAnswer}
use Rattle.smap_tool.specs.declared.outcome.Outcome.{Outcome}
use Rattle.smap_tool.specs.declared.outcome.RunFault.{RunFault}
use Rattle.smap_tool.specs.declared.outcome.RunFault.TheVariants as run

-- An input was read, and what is said of it was written.
pub answered : {R W : Type 0} (remaining : R → Option (List ℕ)) (contents : W → Option (List ℕ))
    (ro rn : Device R) (wo wn : Device W)
    (output : List ℕ → List ℕ × Outcome) (input : Vec ℕ) (text items : List ℕ) (outcome : Outcome)
    (r : Result Outcome RunFault)
    → ReadsInput remaining ro rn (Ok input) → text ≡ items → (items, outcome) ≡ output input.items
    → WritesAnswer contents wo wn text outcome r
    → Runs (WritesOutput output) (streams remaining ro rn contents wo wn) r
answered remaining contents ro rn wo wn output input text items outcome (Ok o) h same is w = record {
  answers = (
    input.items,
    (h.0, h.1.1, h.2),
    subst (Took contents wo wn) (same ∙ ap (λ (p : List ℕ × Outcome). p.0) is) w.0,
    w.1 ∙ ap (λ (p : List ℕ × Outcome). p.1) is,
    h.1.0,
  );
  reader_failures = h.3;
  writer_failures = w.2;
}
answered remaining contents ro rn wo wn output input text items outcome (Err run.Write) h same is w = record {
  answers = (
    input.items,
    w.0.0,
    (h.0, h.1.1, h.2),
    subst (λ (xs : List ℕ). Took contents wo wn (take w.0.0 xs)) (same
        ∙ ap (λ (p : List ℕ × Outcome). p.0) is) w.0.1,
  );
  reader_failures = h.3;
  writer_failures = w.1;
}
answered remaining contents ro rn wo wn output input text items outcome (Err run.Read) h same is w = absurd w
answered remaining contents ro rn wo wn output input text items outcome (Err run.Memory) h same is w =
    absurd w
answered remaining contents ro rn wo wn output input text items outcome (Err run.TooLong) h same is w =
    absurd w
