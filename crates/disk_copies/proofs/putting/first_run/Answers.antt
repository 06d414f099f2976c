use Rattle.std.proofs.Common.{◌≡◌, ◌∙◌, ◌+◌, ◌-◌, length, take, drop, ap, arith}
use Rattle.std.specs.Prelude.{ℕ, replicate}
use Rattle.std.proofs.lemmas.List.{length-drop, length-take}
use Rattle.std.proofs.Math.Nat.{add-mul}
use Rattle.disk_copies.proofs.Pieces.{beq-same, zeros-more}
use Rattle.disk_copies.proofs.putting.first_run.Goals as goal

pub loop-run-preserved : goal.loop-run-preserved
loop-run-preserved c =
    let at = c.loop-run in
    let bytes = c.args.bytes.now in
    let b = c.args.block in
    let same : take (at.run + b - at.run) (drop at.run bytes) ≡ take b (drop at.run bytes) = ap (λ (k : ℕ). take k (drop at.run bytes)) (omega arith) in
    record {
      whole = (at.invariant.whole.0 + 1, omega arith, omega (arith, at.invariant.whole.2, add-mul at.invariant.whole.0 1 b));
      within = omega (arith, c.loop-run-test.true, at.invariant.within);
      zeros = λ zeros.
          let slice = take b (drop at.run bytes) in
          let long : length slice ≡ b = omega (arith, c.loop-run-test.true, at.invariant.within, length-take b (drop at.run bytes), length-drop at.run bytes) in
          let here = rw same at c.is_zero.ensures in
          let all : slice ≡ replicate (length slice) 0 = here (beq-same _ _ c.if-is_zero-zeros.true ∙ zeros) in
          zeros-more at.run b bytes (at.invariant.zeros zeros) (all ∙ ap (λ (k : ℕ). replicate k 0) long);
    }
