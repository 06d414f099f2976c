use Rattle.std.proofs.Common.{◌≡◌, ◌-◌, ◌++◌, ◌≤◌, ◌∙◌, ℕ, ap, arith, rules, length, replicate}
use Rattle.batch_log.specs.Log.{zero_block}
use Rattle.yardsticks.specs.Batches.{held_blocks}
use Rattle.yardsticks.proofs.ImageLaws.{padded-step}
use Rattle.yardsticks.proofs.logs.padded.Goals as goal

pub loop-number-preserved : goal.loop-number-preserved
loop-number-preserved c =
    let size = c.args.geometry.now.block in
    let zeros : c.in_ok-vec.field-0.items ≡ zero_block size = search rules in
    let above : length c.args.blocks.items ≤ c.loop-number._number = omega (arith, c.args.blocks.ok.0) in
    record {
      blocks = padded-step size c.loop-number._number (length c.args.blocks.items) c.args.blocks.items c.loop-number.blocks.items _ c.in_ok-vec.field-0 above c.loop-number.invariant.blocks c.in_ok-push.ensures.items zeros;
      range = omega arith;
    }

pub returns : goal.returns
returns c =
    let all : c.loop-number._number - length c.args.blocks.items ≡ c.args.geometry.now.capacity - length c.args.blocks.items = omega (arith, c.loop-number.invariant.range, c.loop-number-test.false) in
    c.loop-number.invariant.blocks ∙ ap (λ (n : ℕ). held_blocks c.args.blocks.items ++ replicate n (zero_block c.args.geometry.now.block)) all
