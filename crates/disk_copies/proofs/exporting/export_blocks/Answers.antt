use Rattle.std.proofs.Common.{◌≡◌, ℕ, Err, refl, ap, arith}
use Rattle.zone_states.specs.declared.geometry.Geometry.{Geometry}
use Rattle.zone_translator.proofs.DiskLaws.{alike-join}
use Rattle.zone_translator.proofs.KeepingLaws.{keeps_again}
use Rattle.zone_translator.specs.View.{disk_size}
use Rattle.disk_copies.specs.declared.stream_fault.ExportFault.TheVariants as exports
use Rattle.disk_copies.proofs.FlatReads.{exports-err, exports-fail, exports-more, goes-more, past-size, within-size}
use Rattle.disk_copies.proofs.exporting.export_blocks.Goals as goal

-- ---- what a piece asks for

pub export_piece-requires-clause-some : goal.export_piece-requires-clause-some
export_piece-requires-clause-some g c = omega (arith, c.min-count.ensures, c.loop-done-test.true, c.piece_blocks.ensures)

pub export_piece-requires-clause-in_range : goal.export_piece-requires-clause-in_range
export_piece-requires-clause-in_range g c =
    let at = c.loop-done in
    let fits = within-size c.blocks-size.result c.args.first c.args.blocks (disk_size c.args.disk.now)
    c.blocks-size.ensures.size c.if-is_past_end.ensures (omega (arith, c.loop-done-test.true)) in
    omega (arith, fits, c.min-count.ensures, at.invariant.within, at.invariant.alike.size)

pub export_piece-requires-clause-fits : goal.export_piece-requires-clause-fits
export_piece-requires-clause-fits g c =
    let at = c.loop-done in
    let fits = within-size c.blocks-size.result c.args.first c.args.blocks c.blocks-size.result refl c.if-is_past_end.ensures
    (omega (arith, c.loop-done-test.true)) in
    omega (arith, fits, c.min-count.ensures, at.invariant.within, c.blocks-size.ensures.few)

-- ---- pieces

pub returns-in_err-export_piece-clause-exports : goal.returns-in_err-export_piece-clause-exports
returns-in_err-export_piece-clause-exports g c clean =
    let was = c.export_piece.ensures.alike.shape.trusted clean in
    let old = c.args.disk.now in
    let at = c.loop-done in
    let new = c.export_piece.new in
    let held = g.W.Write.contents in
    let fits = within-size c.blocks-size.result c.args.first c.args.blocks (disk_size old) c.blocks-size.ensures.size c.if-is_past_end.ensures (omega (arith, c.loop-done-test.true)) in
    exports-err old new.disk c.args.first c.args.blocks (held c.args.writer.now) (held new.writer) c.from_residual.result c.in_err-export_piece.field-0.0 c.from_residual.ensures.1
    (exports-fail old at.disk new.disk c.args.first at.done _ c.min-count.result c.args.blocks c.in_err-export_piece.field-0.0 (held c.args.writer.now) (held at.writer) (held new.writer)
    refl (omega (arith, c.min-count.ensures, c.loop-done-test.true, c.piece_blocks.ensures)) (omega (arith, c.min-count.ensures, at.invariant.within)) fits at.invariant.alike.size (at.invariant.exports was) (c.in_err-export_piece.ensures.exports clean))

pub returns-in_err-export_piece-clause-keeps : goal.returns-in_err-export_piece-clause-keeps
returns-in_err-export_piece-clause-keeps g c clean = keeps_again c.args.disk.now c.loop-done.disk c.export_piece.new.disk (c.loop-done.invariant.keeps (c.export_piece.ensures.alike.shape.trusted clean)) (c.export_piece.ensures.keeps clean)

pub returns-in_err-export_piece-clause-alike : goal.returns-in_err-export_piece-clause-alike
returns-in_err-export_piece-clause-alike g c = alike-join c.args.disk.now c.loop-done.disk c.export_piece.new.disk c.loop-done.invariant.alike c.export_piece.ensures.alike

pub loop-done-preserved : goal.loop-done-preserved
loop-done-preserved g c =
    let old = c.args.disk.now in
    let at = c.loop-done in
    let new = c.export_piece.new in
    let held = g.W.Write.contents in
    record {
      within = omega (arith, c.min-count.ensures, at.invariant.within);
      exports = λ clean. exports-more old at.disk new.disk c.args.first at.done _ c.min-count.result _ (held c.args.writer.now) (held at.writer) (held new.writer) refl refl (at.invariant.exports (c.export_piece.ensures.alike.shape.trusted clean)) (c.in_ok-export_piece.ensures.exports clean);
      keeps = λ clean. keeps_again old at.disk new.disk (at.invariant.keeps (c.export_piece.ensures.alike.shape.trusted clean)) (c.export_piece.ensures.keeps clean);
      alike = alike-join old at.disk new.disk at.invariant.alike c.export_piece.ensures.alike;
      goes = goes-more old.drive.geometry.block at.disk.drive.geometry.block at.done c.min-count.result _ (held c.args.writer.now) (held at.writer) (held new.writer) (ap (λ (h : Geometry). h.block) at.invariant.alike.shape.geometry) refl at.invariant.goes c.in_ok-export_piece.ensures.whole;
    }

pub returns-in_err-export_piece-clause-past : goal.returns-in_err-export_piece-clause-past
returns-in_err-export_piece-clause-past g c = λ some past.
    let fits = within-size c.blocks-size.result c.args.first c.args.blocks (disk_size c.args.disk.now) c.blocks-size.ensures.size c.if-is_past_end.ensures some in
    let bad : ⊥ = omega (arith, fits, past) in
    absurd bad

pub returns-clause-past : goal.returns-clause-past
returns-clause-past g c = λ some past.
    let fits = within-size c.blocks-size.result c.args.first c.args.blocks (disk_size c.args.disk.now) c.blocks-size.ensures.size c.if-is_past_end.ensures some in
    let bad : ⊥ = omega (arith, fits, past) in
    absurd bad

pub returns-clause-whole : goal.returns-clause-whole
returns-clause-whole g c =
    let all : c.loop-done.done ≡ c.args.blocks = omega (arith, c.loop-done-test.false, c.loop-done.invariant.within) in
    rw all at c.loop-done.invariant.goes

pub returns-then-is_past_end-clause-exports : goal.returns-then-is_past_end-clause-exports
returns-then-is_past_end-clause-exports g c = λ clean. (past-size c.args.disk.now c.blocks-size.result c.args.first c.args.blocks c.blocks-size.ensures.size c.if-is_past_end.ensures, refl, refl)

pub returns-then-is_past_end-clause-past : goal.returns-then-is_past_end-clause-past
returns-then-is_past_end-clause-past g c = λ some past. (ap (λ (n : ℕ). Err (exports.PastEnd n)) c.blocks-size.ensures.size, refl, refl)
