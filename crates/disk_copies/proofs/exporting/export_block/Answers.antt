use Rattle.disk_copies.specs.declared.stream_fault.ExportFault.TheVariants.{Output}
use Rattle.disk_copies.proofs.FlatReads.{exports-all, exports-err, exports-lost, exports-unread, exports-unsent}
use Rattle.disk_copies.proofs.exporting.export_block.Goals as goal

pub returns-in-Failed-clause-exports : goal.returns-in-Failed-clause-exports
returns-in-Failed-clause-exports g c clean =
    let read = rw c.in-Failed.is at (c.in-Err.ensures.answers clean) in
    exports-lost c.args.disk.now c.read.new.self c.args.block (g.W.Write.contents c.args.writer.now)
    c.read.new.into.items read.flat read.cause

pub returns-in_default-fault-clause-exports : goal.returns-in_default-fault-clause-exports
returns-in_default-fault-clause-exports g c clean =
    let read = c.in-Err.ensures.answers clean in
    exports-unread c.args.disk.now c.read.new.self c.args.block 1 (g.W.Write.contents c.args.writer.now)
    c.in-Err.fault c.read.new.into.items read.flat read.cause c.in_default-fault.not-Failed

pub returns-in_err-write_out-clause-exports : goal.returns-in_err-write_out-clause-exports
returns-in_err-write_out-clause-exports g c clean =
    let old = c.args.disk.now in
    let new = c.read.new.self in
    let written = g.W.Write.contents c.args.writer.now in
    let contents = g.W.Write.contents c.write_out.new.writer in
    exports-err old new c.args.block 1 written contents c.from_residual.result Output c.from_residual.ensures.1
    (exports-unsent old new c.args.block 1 written contents c.read.new.into.items (c.in_default.ensures.answers clean).flat
    (rw c.deref.ensures.value at c.in_err-write_out.ensures.err))

pub returns-clause-exports : goal.returns-clause-exports
returns-clause-exports g c clean =
    let written = g.W.Write.contents c.args.writer.now in
    let contents = g.W.Write.contents c.write_out.new.writer in
    exports-all c.args.disk.now c.read.new.self c.args.block 1 written contents c.read.new.into.items
    (c.in_default.ensures.answers clean).flat (rw c.deref.ensures.value at c.in_ok-write_out.ensures.ok)

pub returns-clause-whole : goal.returns-clause-whole
returns-clause-whole g c = record {
  bytes = c.read.new.into.items;
  sent = rw c.deref.ensures.value at c.in_ok-write_out.ensures.ok;
  whole = c.in_default.ensures.whole;
}
