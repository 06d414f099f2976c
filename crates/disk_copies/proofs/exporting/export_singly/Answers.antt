use Rattle.std.proofs.Common.{refl, ap, arith}
use Rattle.zone_states.specs.declared.geometry.Geometry.{Geometry}
use Rattle.zone_translator.proofs.DiskLaws.{alike-join}
use Rattle.zone_translator.proofs.KeepingLaws.{keeps_again}
use Rattle.disk_copies.proofs.FlatReads.{exports-err, exports-fail, exports-more, goes-more}
use Rattle.disk_copies.proofs.exporting.export_singly.Goals as goal

pub returns-in_err-export_block-clause-exports : goal.returns-in_err-export_block-clause-exports
returns-in_err-export_block-clause-exports g c clean =
    let old = c.args.disk.now in
    let before = c.loop-i in
    let new = c.export_block.new in
    let held = g.W.Write.contents in
    let fault = c.in_err-export_block.field-0.0 in
    exports-err old new.disk c.args.first c.args.blocks (held c.args.writer.now) (held new.writer)
    c.from_residual.result fault c.from_residual.ensures.1
    (exports-fail old before.disk new.disk c.args.first before.i _ 1 c.args.blocks fault (held c.args.writer.now)
    (held before.writer) (held new.writer) refl (omega arith) (omega (arith, c.loop-i-test.true)) c.requires.in_range before.invariant.alike.size
    (before.invariant.exports (c.export_block.ensures.alike.shape.trusted clean))
    (c.in_err-export_block.ensures.exports clean))

pub returns-in_err-export_block-clause-keeps : goal.returns-in_err-export_block-clause-keeps
returns-in_err-export_block-clause-keeps g c clean =
    let was = c.export_block.ensures.alike.shape.trusted clean in
    keeps_again c.args.disk.now c.loop-i.disk c.export_block.new.disk (c.loop-i.invariant.keeps was)
    (c.export_block.ensures.keeps clean)

pub returns-in_err-export_block-clause-alike : goal.returns-in_err-export_block-clause-alike
returns-in_err-export_block-clause-alike g c =
    alike-join c.args.disk.now c.loop-i.disk c.export_block.new.disk c.loop-i.invariant.alike
    c.export_block.ensures.alike

pub loop-i-preserved : goal.loop-i-preserved
loop-i-preserved g c =
    let old = c.args.disk.now in
    let before = c.loop-i in
    let new = c.export_block.new in
    let held = g.W.Write.contents in
    let was = c.export_block.ensures.alike.shape.trusted in
    record {
      exports = λ clean. exports-more old before.disk new.disk c.args.first before.i _ 1 _ (held c.args.writer.now) (held before.writer) (held new.writer) refl refl (before.invariant.exports (was clean)) (c.in_ok-export_block.ensures.exports clean);
      keeps = λ clean. keeps_again old before.disk new.disk (before.invariant.keeps (was clean)) (c.export_block.ensures.keeps clean);
      alike = alike-join old before.disk new.disk before.invariant.alike c.export_block.ensures.alike;
      goes = goes-more old.drive.geometry.block before.disk.drive.geometry.block before.i 1 _ (held c.args.writer.now) (held before.writer) (held new.writer) (ap (λ (h : Geometry). h.block) before.invariant.alike.shape.geometry) refl before.invariant.goes c.in_ok-export_block.ensures.whole;
    }
