use Rattle.std.proofs.Common.{◌∙◌, Ok, Err, refl}
use Rattle.volatile_cache.proofs.ApplyLaws.{applies_again, applies_same}
use Rattle.volatile_cache.proofs.RoomLaws.{only_again, only_fewer, only_same}
use Rattle.nbd_session.proofs.AnywayLaws.{calls_join, calls_same}
use Rattle.volatile_cache.proofs.cache.VolatileCache.apply_all.Goals as goal

pub loop-self-init : goal.loop-self-init
loop-self-init g c = (λ clean. applies_same g.S.Store.view c.args.self.now, only_same c.args.self.now c.args.self.now refl, refl, calls_same (g.S.Store.view c.args.self.now.store))

pub returns-in-Err-clause-applies : goal.returns-in-Err-clause-applies
returns-in-Err-clause-applies g c = λ clean.
    applies_again g.S.Store.view c.args.self.now c.loop-self.self c.apply_oldest.new.self (Err c.in-Err.fault) (c.loop-self.invariant.0 (c.apply_oldest.ensures.stays.stays.disk.shape.trusted clean)) (rw c.in-Err.is at (c.apply_oldest.ensures.applies clean))

pub returns-in-Err-clause-only : goal.returns-in-Err-clause-only
returns-in-Err-clause-only g c =
    only_again c.args.self.now c.loop-self.self c.apply_oldest.new.self c.loop-self.invariant.1 (only_same c.loop-self.self c.apply_oldest.new.self (rw c.in-Err.is at c.apply_oldest.ensures.err))

pub returns-in-Err-clause-most : goal.returns-in-Err-clause-most
returns-in-Err-clause-most g c = c.apply_oldest.ensures.most ∙ c.loop-self.invariant.2

pub loop-self-preserved : goal.loop-self-preserved
loop-self-preserved g c = (
  λ clean. applies_again g.S.Store.view c.args.self.now c.loop-self.self c.apply_oldest.new.self (Ok tt) (c.loop-self.invariant.0 (c.apply_oldest.ensures.stays.stays.disk.shape.trusted clean)) (rw c.in_default.is at (c.apply_oldest.ensures.applies clean)),
  only_again c.args.self.now c.loop-self.self c.apply_oldest.new.self c.loop-self.invariant.1 (only_fewer c.loop-self.self c.apply_oldest.new.self (rw c.in_default.is at c.apply_oldest.ensures.ok)),
  c.apply_oldest.ensures.most ∙ c.loop-self.invariant.2,
  calls_join (g.S.Store.view c.args.self.now.store) (g.S.Store.view c.loop-self.self.store) (g.S.Store.view c.apply_oldest.new.self.store) c.loop-self.invariant.3 c.apply_oldest.ensures.stays,
)

pub returns-clause-applies : goal.returns-clause-applies
returns-clause-applies g c = c.loop-self.invariant.0

pub returns-clause-only : goal.returns-clause-only
returns-clause-only g c = c.loop-self.invariant.1

pub returns-clause-most : goal.returns-clause-most
returns-clause-most g c = c.loop-self.invariant.2

pub returns-in-Err-clause-stays : goal.returns-in-Err-clause-stays
returns-in-Err-clause-stays g c = calls_join (g.S.Store.view c.args.self.now.store) (g.S.Store.view c.loop-self.self.store) (g.S.Store.view c.apply_oldest.new.self.store) c.loop-self.invariant.3 c.apply_oldest.ensures.stays

pub returns-clause-stays : goal.returns-clause-stays
returns-clause-stays g c = c.loop-self.invariant.3
