use Rattle.std.proofs.Common.{arith}
use Rattle.zone_translator.specs.View.{disk_places}
use Rattle.disk_calls.proofs.ExtentLaws.{alike-more, alike-run, same-bools}
use Rattle.disk_calls.proofs.extents.extent_from.Goals as goal

pub returns-then-is_data-has_data-clause-is : goal.returns-then-is_data-has_data-clause-is
returns-then-is_data-has_data-clause-is g c = λ clean serving.
    alike-run (disk_places c.args.disk.now) c.args.first c.loop-block.block c.is_data-has_data.result (omega (arith, c.loop-block.auto.block)) (c.loop-block.invariant clean serving)

pub loop-block-preserved : goal.loop-block-preserved
loop-block-preserved g c = λ clean serving.
    alike-more (disk_places c.args.disk.now) c.args.first c.loop-block.block c.is_data-has_data.result _ _ (c.loop-block.invariant clean serving) (c.place_of-in-loop-block.ensures clean serving) c.is_data.ensures (same-bools _ _ c.if-is_data-has_data.false)

pub returns-clause-is : goal.returns-clause-is
returns-clause-is g c = λ clean serving.
    alike-run (disk_places c.args.disk.now) c.args.first c.args.end c.is_data-has_data.result c.requires (λ b from to. c.loop-block.invariant clean serving b from (omega (arith, to, c.loop-block-test.false)))
