use Rattle.std.proofs.Common.{◌+◌, ◌<◌, ◌∙◌, Ok, Err, length, refl, rules}
use Rattle.volatile_cache.proofs.ApplyLaws.{applies_again, applies_same}
use Rattle.volatile_cache.proofs.RoomLaws.{room_more, room_refused, room_same}
use Rattle.nbd_session.proofs.AnywayLaws.{calls_join, calls_same}
use Rattle.volatile_cache.proofs.cache.VolatileCache.make_room.Goals as goal

pub loop-self-init : goal.loop-self-init
loop-self-init g c = (λ clean. applies_same g.S.Store.view c.args.self.now, room_same c.args.self.now c.args.blocks, refl, calls_same (g.S.Store.view c.args.self.now.store))

pub returns-in-Err-clause-applies : goal.returns-in-Err-clause-applies
returns-in-Err-clause-applies g c = λ clean.
    applies_again g.S.Store.view c.args.self.now c.loop-self.self c.apply_oldest.new.self (Err c.in-Err.fault) (c.loop-self.invariant.0 (c.apply_oldest.ensures.stays.stays.disk.shape.trusted clean)) (rw c.in-Err.is at (c.apply_oldest.ensures.applies clean))

pub returns-in-Err-clause-oldest : goal.returns-in-Err-clause-oldest
returns-in-Err-clause-oldest g c =
    room_refused c.args.self.now c.loop-self.self c.apply_oldest.new.self c.args.blocks c.loop-self.invariant.1 (rw c.in-Err.is at c.apply_oldest.ensures.err)

pub returns-in-Err-clause-most : goal.returns-in-Err-clause-most
returns-in-Err-clause-most g c = c.apply_oldest.ensures.most ∙ c.loop-self.invariant.2

pub loop-self-preserved : goal.loop-self-preserved
loop-self-preserved g c =
    let full : c.loop-self.self.most < length c.loop-self.self.kept + c.args.blocks = c.has_room.ensures.full (search rules) in (
      λ clean. applies_again g.S.Store.view c.args.self.now c.loop-self.self c.apply_oldest.new.self (Ok tt) (c.loop-self.invariant.0 (c.apply_oldest.ensures.stays.stays.disk.shape.trusted clean)) (rw c.in_default.is at (c.apply_oldest.ensures.applies clean)),
      room_more c.args.self.now c.loop-self.self c.apply_oldest.new.self c.args.blocks c.loop-self.invariant.1 c.loop-self.invariant.2 full (rw c.in_default.is at c.apply_oldest.ensures.ok),
      c.apply_oldest.ensures.most ∙ c.loop-self.invariant.2,
      calls_join (g.S.Store.view c.args.self.now.store) (g.S.Store.view c.loop-self.self.store) (g.S.Store.view c.apply_oldest.new.self.store) c.loop-self.invariant.3 c.apply_oldest.ensures.stays,
    )

pub returns-in-Err-clause-stays : goal.returns-in-Err-clause-stays
returns-in-Err-clause-stays g c = calls_join (g.S.Store.view c.args.self.now.store) (g.S.Store.view c.loop-self.self.store) (g.S.Store.view c.apply_oldest.new.self.store) c.loop-self.invariant.3 c.apply_oldest.ensures.stays
