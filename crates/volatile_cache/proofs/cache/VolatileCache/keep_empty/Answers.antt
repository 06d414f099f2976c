use Rattle.std.proofs.Common.{◌≡◌, ◌+◌, refl, replicate, rules}
use Rattle.std.proofs.lemmas.List.{length-replicate}
use Rattle.batch_log.specs.Log.{zero_block}
use Rattle.volatile_cache.proofs.KeepLaws.{keeps_none, room_next, zeros_next}
use Rattle.volatile_cache.proofs.RoomLaws.{adds_of, adds_one, only_same}
use Rattle.volatile_cache.specs.Queue.{bytes_of, is_trim}
use Rattle.volatile_cache.proofs.cache.VolatileCache.keep_empty.Goals as goal

pub loop-k-init : goal.loop-k-init
loop-k-init g c = (keeps_none c.args.self.now, adds_of c.args.is_trim c.args.self.now c.args.self.now (only_same c.args.self.now c.args.self.now refl))

pub keep-requires-clause-room : goal.keep-requires-clause-room
keep-requires-clause-room g c =
    room_next g.S.Store.view c.args.self.now c.loop-k.self c.args.first c.args.blocks c.loop-k.k (replicate c.loop-k.k (zero_block c.block_bytes-size.result)) c.requires c.loop-k.invariant.0
    (length-replicate c.loop-k.k (zero_block c.block_bytes-size.result)) c.loop-k-test.true

pub loop-k-preserved : goal.loop-k-preserved
loop-k-preserved g c =
    let zeros : bytes_of c.if-is_trim.content ≡ zero_block c.block_bytes-size.result = search rules in
    let kind : is_trim c.if-is_trim.content ≡ c.args.is_trim = search rules in (
      zeros_next c.args.self.now c.loop-k.self c.keep.new.self c.args.first c.loop-k.k (zero_block c.block_bytes-size.result) c.loop-k.invariant.0 (rw zeros at (rw c.in_ok-keep.was at c.keep.ensures.ok)),
      adds_one c.args.is_trim c.args.self.now c.loop-k.self c.keep.new.self (record { place = c.args.first + c.loop-k.k; content = c.if-is_trim.content }) c.loop-k.invariant.1 kind (rw c.in_ok-keep.was at c.keep.ensures.added),
    )
