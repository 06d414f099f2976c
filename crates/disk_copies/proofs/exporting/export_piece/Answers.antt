use Rattle.std.proofs.Common.{ap, arith}
use Rattle.zone_states.specs.declared.geometry.Geometry.{Geometry}
use Rattle.zone_translator.proofs.DiskLaws.{alike-join}
use Rattle.zone_translator.proofs.KeepingLaws.{keeps_again, keeps_call}
use Rattle.zone_translator.specs.View.{flat_of}
use Rattle.disk_copies.specs.declared.stream_fault.ExportFault.TheVariants.{Output}
use Rattle.disk_copies.proofs.FlatReads.{exports-all, exports-err, exports-from, exports-unread, exports-unsent}
use Rattle.disk_copies.proofs.FlatReads.{failed-same, goes-alike}
use Rattle.disk_copies.proofs.exporting.export_piece.Goals as goal

-- ---- the drive failed in the piece

pub export_singly-requires-clause-in_range : goal.export_singly-requires-clause-in_range
export_singly-requires-clause-in_range g c = omega (arith, c.read_joined.ensures.alike.size, c.requires.in_range)

pub returns-in-Failed-clause-exports : goal.returns-in-Failed-clause-exports
returns-in-Failed-clause-exports g c clean =
    let old = c.args.disk.now in
    let mid = c.read_joined.new.self in
    let new = c.export_singly.new in
    let read = rw c.in-Failed.is at (c.in-Err.ensures.answers (c.export_singly.ensures.alike.shape.trusted clean)) in
    exports-from old mid new.disk c.args.first c.args.blocks (g.W.Write.contents c.args.writer.now)
    (g.W.Write.contents new.writer) c.export_singly.result
    (failed-same (flat_of old) (flat_of mid) c.args.first c.args.blocks read.flat.shown c.requires.some
    c.requires.in_range read.flat.flat) c.requires.in_range (c.export_singly.ensures.exports clean)

pub returns-in-Failed-clause-keeps : goal.returns-in-Failed-clause-keeps
returns-in-Failed-clause-keeps g c clean =
    let old = c.args.disk.now in
    let mid = c.read_joined.new.self in
    let read = rw c.in-Failed.is at (c.in-Err.ensures.answers (c.export_singly.ensures.alike.shape.trusted clean)) in
    keeps_again old mid c.export_singly.new.disk (keeps_call old mid read.kept) (c.export_singly.ensures.keeps clean)

pub returns-in-Failed-clause-alike : goal.returns-in-Failed-clause-alike
returns-in-Failed-clause-alike g c =
    alike-join c.args.disk.now c.read_joined.new.self c.export_singly.new.disk c.read_joined.ensures.alike
    c.export_singly.ensures.alike

pub returns-in-Failed-clause-whole : goal.returns-in-Failed-clause-whole
returns-in-Failed-clause-whole g c =
    goes-alike c.args.disk.now.drive.geometry.block c.read_joined.new.self.drive.geometry.block c.args.blocks
    (g.W.Write.contents c.args.writer.now) (g.W.Write.contents c.export_singly.new.writer) c.export_singly.result
    (ap (λ (h : Geometry). h.block) c.read_joined.ensures.alike.shape.geometry) c.export_singly.ensures.whole

-- ---- all other answers

pub returns-in_default-fault-clause-exports : goal.returns-in_default-fault-clause-exports
returns-in_default-fault-clause-exports g c clean =
    let read = c.in-Err.ensures.answers clean in
    exports-unread c.args.disk.now c.read_joined.new.self c.args.first c.args.blocks
    (g.W.Write.contents c.args.writer.now) c.in-Err.fault c.read_joined.new.into.items read.flat read.cause c.in_default-fault.not-Failed

pub returns-in_err-write_out-clause-exports : goal.returns-in_err-write_out-clause-exports
returns-in_err-write_out-clause-exports g c clean =
    let old = c.args.disk.now in
    let new = c.read_joined.new.self in
    let written = g.W.Write.contents c.args.writer.now in
    let contents = g.W.Write.contents c.write_out.new.writer in
    exports-err old new c.args.first c.args.blocks written contents c.from_residual.result Output c.from_residual.ensures.1
    (exports-unsent old new c.args.first c.args.blocks written contents c.read_joined.new.into.items
    (c.in_default.ensures.answers clean).flat (rw c.deref.ensures.value at c.in_err-write_out.ensures.err))

pub returns-clause-exports : goal.returns-clause-exports
returns-clause-exports g c clean =
    let written = g.W.Write.contents c.args.writer.now in
    let contents = g.W.Write.contents c.write_out.new.writer in
    exports-all c.args.disk.now c.read_joined.new.self c.args.first c.args.blocks written contents
    c.read_joined.new.into.items (c.in_default.ensures.answers clean).flat
    (rw c.deref.ensures.value at c.in_ok-write_out.ensures.ok)

pub returns-clause-whole : goal.returns-clause-whole
returns-clause-whole g c = record {
  bytes = c.read_joined.new.into.items;
  sent = rw c.deref.ensures.value at c.in_ok-write_out.ensures.ok;
  whole = c.in_default.ensures.whole;
}
