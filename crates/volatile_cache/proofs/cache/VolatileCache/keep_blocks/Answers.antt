use Rattle.std.proofs.Common.{◌≡◌, ◌∙◌, ◌/◌, ◌≤◌, ap, arith, length, rules, take}
use Rattle.zone_states.specs.Zone.{cut_blocks}
use Rattle.nbd_session.specs.Pending.{pieces}
use Rattle.volatile_cache.specs.Cache.{KeepsSome}
use Rattle.volatile_cache.proofs.KeepLaws.{all_cut, cut_long, cut_next, keeps_none, on_err, room_next, slice_long}
use Rattle.volatile_cache.proofs.cache.VolatileCache.keep_blocks.Goals as goal

pub loop-k-init : goal.loop-k-init
loop-k-init g c = keeps_none c.args.self.now

pub overflow_add-first : goal.overflow_add-first
overflow_add-first g c =
    let size : c.block_bytes-size.result ≡ (g.S.Store.view c.args.self.now.store).disk.drive.geometry.block = c.block_bytes-size.ensures.size ∙ ap (λ s. (g.S.Store.view s.store).disk.drive.geometry.block) c.self.view_is in
    let within = rw (← size) at c.requires.room.within in
    search rules

pub keep_block-requires-clause-whole : goal.keep_block-requires-clause-whole
keep_block-requires-clause-whole g c =
    let size : c.block_bytes-size.result ≡ (g.S.Store.view c.args.self.now.store).disk.drive.geometry.block = c.block_bytes-size.ensures.size ∙ ap (λ s. (g.S.Store.view s.store).disk.drive.geometry.block) c.self.view_is in
    rw c.loop-k.invariant.store
    (slice_long c.block_bytes-size.result (length c.args.bytes.now / c.block_bytes-size.result) c.loop-k.k c.args.bytes.now (rw (← size) at c.requires.whole) c.loop-k-test.true ∙ size)

pub keep_block-requires-clause-room : goal.keep_block-requires-clause-room
keep_block-requires-clause-room g c =
    let size : c.block_bytes-size.result ≡ (g.S.Store.view c.args.self.now.store).disk.drive.geometry.block = c.block_bytes-size.ensures.size ∙ ap (λ s. (g.S.Store.view s.store).disk.drive.geometry.block) c.self.view_is in
    let count = length c.args.bytes.now / c.block_bytes-size.result in
    let some : c.loop-k.k ≤ count = omega (arith, c.loop-k-test.true) in
    room_next g.S.Store.view c.args.self.now c.loop-k.self c.args.first count c.loop-k.k (take c.loop-k.k (cut_blocks c.block_bytes-size.result count c.args.bytes.now)) (rw (← size) at c.requires.room) c.loop-k.invariant
    (cut_long c.block_bytes-size.result count c.loop-k.k c.args.bytes.now some) c.loop-k-test.true

pub returns-in_err-keep_block-clause-err : goal.returns-in_err-keep_block-clause-err
returns-in_err-keep_block-clause-err g c =
    let count = length c.args.bytes.now / c.block_bytes-size.result in
    let same = rw c.in_err-keep_block.was at c.keep_block.ensures.err in
    on_err c.from_residual.result (KeepsSome c.args.self.now c.keep_block.new.self)
    (pieces c.args.first (take c.loop-k.k (cut_blocks c.block_bytes-size.result count c.args.bytes.now)), rw same c.loop-k.invariant)

pub loop-k-preserved : goal.loop-k-preserved
loop-k-preserved g c =
    cut_next c.args.self.now c.loop-k.self c.keep_block.new.self c.args.first c.block_bytes-size.result (length c.args.bytes.now / c.block_bytes-size.result) c.loop-k.k c.args.bytes.now c.loop-k.invariant c.loop-k-test.true
    (rw c.in_ok-keep_block.was at c.keep_block.ensures.ok)

pub returns-clause-ok : goal.returns-clause-ok
returns-clause-ok g c =
    let size : c.block_bytes-size.result ≡ (g.S.Store.view c.args.self.now.store).disk.drive.geometry.block = c.block_bytes-size.ensures.size ∙ ap (λ s. (g.S.Store.view s.store).disk.drive.geometry.block) c.self.view_is in
    let count = length c.args.bytes.now / c.block_bytes-size.result in
    let all : c.loop-k.k ≡ count = omega (arith, c.loop-k-test.false, c.loop-k.auto.k-end) in
    rw (← size) (rw (all, all_cut c.block_bytes-size.result count c.args.bytes.now) at c.loop-k.invariant)
