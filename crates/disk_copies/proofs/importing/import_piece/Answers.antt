use Rattle.std.proofs.Common.{◌∙◌, ◌-◌, ℕ, ap, arith}
use Rattle.disk_copies.specs.declared.stream_fault.ImportFault.TheVariants.{Disk, Input}
use Rattle.disk_copies.proofs.Imports.{IsRead, front-whole, import-err, piece-done, piece-gives, piece-past, piece-read}
use Rattle.disk_copies.proofs.Imports.{piece-refused, piece-rest, piece-unread}
use Rattle.disk_copies.proofs.importing.import_piece.Given.{Over}
use Rattle.disk_copies.proofs.importing.import_piece.Goals as goal
use Rattle.disk_copies.proofs.importing.import_piece.Goals.{After-min-blocks}

pub returns-in_err-count-clause-imports : goal.returns-in_err-count-clause-imports
returns-in_err-count-clause-imports g c clean =
    let old = c.args.disk.now in
    let input = g.R.Read.remaining c.args.reader.now in
    let rest = g.R.Read.remaining c.fill.new.reader in
    let long = c.in_err-count.ensures.length ∙ c.requires in
    let unread = piece-unread old c.args.first _ input rest long c.in_err-count.ensures.err in
    import-err old old c.args.first input rest c.from_residual.result _ Input c.from_residual.ensures.1 unread

-- a piece was read
came : (g : Over) (c : goal.After-min-blocks g) →
    IsRead c.args.disk.now c.args.first c.fill.new.buffer c.in_ok-count.count c.min-blocks.result
    c.saturating_sub-room.result (g.R.Read.remaining c.args.reader.now) (g.R.Read.remaining c.fill.new.reader)
came g c =
    let size = c.block_bytes-block.ensures.size in
    let read = c.in_ok-count.ensures in
    piece-read c.args.disk.now c.args.first c.fill.new.buffer c.in_ok-count.count c.min-blocks.result
    c.saturating_sub-room.result (g.R.Read.remaining c.args.reader.now) (g.R.Read.remaining c.fill.new.reader)
    (rw size at c.block_bytes-block.ensures.some) read.ok.0 read.ok.1 read.ok.2 (read.length ∙ c.requires)
    (c.saturating_sub-room.ensures ∙ ap (λ (k : ℕ). k - c.args.first) c.blocks-2.ensures.size)
    (rw size at c.min-blocks.ensures)

pub put-requires-clause-whole : goal.put-requires-clause-whole
put-requires-clause-whole g c =
    let size = c.block_bytes-block.ensures.size in
    let read = came g ((goal.at.put-requires-clause-whole g c).After-min-blocks) in
    rw size (front-whole c.args.disk.now c.args.first c.fill.new.buffer _ _ _ _ _ read)

pub returns-in_err-put-clause-imports : goal.returns-in_err-put-clause-imports
returns-in_err-put-clause-imports g c clean =
    let old = c.args.disk.now in
    let new = c.put.new.disk in
    let fault = c.in_err-put.field-0.0 in
    let size = c.block_bytes-block.ensures.size in
    let read = came g ((goal.at.returns-in_err-put-clause-imports g c).After-min-blocks) in
    import-err old new c.args.first _ _ c.from_residual-in_err-put.result _ (Disk fault)
    c.from_residual-in_err-put.ensures.1
    (piece-refused old new c.args.first c.fill.new.buffer _ _ _ _ _ fault read
    (rw size at (c.in_err-put.ensures.flat clean)) (c.in_err-put.ensures.cause clean))

pub returns-then-whole-room-clause-imports : goal.returns-then-whole-room-clause-imports
returns-then-whole-room-clause-imports g c clean =
    let size = c.block_bytes-block.ensures.size in
    let read = came g ((goal.at.returns-then-whole-room-clause-imports g c).After-min-blocks) in
    piece-past c.args.disk.now c.put.new.disk c.args.first c.fill.new.buffer _ _ _ _ _ read
    (rw size at (c.in_ok-put.ensures.flat clean)) (rw size at c.if-whole-room.true)

pub returns-then-count-block-ne0-clause-imports : goal.returns-then-count-block-ne0-clause-imports
returns-then-count-block-ne0-clause-imports g c clean =
    let size = c.block_bytes-block.ensures.size in
    let read = came g ((goal.at.returns-then-count-block-ne0-clause-imports g c).After-min-blocks) in
    piece-rest c.args.disk.now c.put.new.disk c.args.first c.fill.new.buffer _ _ _ _ _ read
    (rw size at (c.in_ok-put.ensures.flat clean)) (rw size at c.if-whole-room.false)
    (let ne = rw size at c.if-count-block-ne0.true in omega (arith, ne))

pub returns-clause-imports : goal.returns-clause-imports
returns-clause-imports g c clean =
    let size = c.block_bytes-block.ensures.size in
    let read = came g ((goal.at.returns-clause-imports g c).After-min-blocks) in
    piece-done c.args.disk.now c.put.new.disk c.args.first c.fill.new.buffer _ _ _ _ _ read
    (rw size at (c.in_ok-put.ensures.flat clean)) (rw size at c.if-whole-room.false)
    (rw size at c.if-count-block-ne0.false)

pub returns-clause-gives : goal.returns-clause-gives
returns-clause-gives g c =
    let size = c.block_bytes-block.ensures.size in
    let read = came g ((goal.at.returns-clause-gives g c).After-min-blocks) in
    piece-gives c.args.disk.now c.args.first c.fill.new.buffer _ _ _ _ _ read
    (rw size at c.if-whole-room.false) (rw size at c.if-count-block-ne0.false)
