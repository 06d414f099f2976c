use Rattle.std.proofs.Common.{◌∙◌, ap, arith, length, refl, rules, Some, Ok, Err}
use Rattle.volatile_cache.proofs.ApplyLaws.{applies_again, applies_same}
use Rattle.volatile_cache.proofs.KeptLaws.{apart-all, apart-before, without-length}
use Rattle.volatile_cache.proofs.RoomLaws.{others_more, others_refused, others_same}
use Rattle.volatile_cache.specs.Queue.{IsFirstPlace}
use Rattle.nbd_session.proofs.AnywayLaws.{calls_join, calls_same}
use Rattle.volatile_cache.proofs.cache.VolatileCache.apply_within.Goals as goal

pub loop-place-init : goal.loop-place-init
loop-place-init g c = (λ clean. applies_same g.S.Store.view c.args.self.now, others_same c.args.first c.args.blocks c.args.self.now, refl, calls_same (g.S.Store.view c.args.self.now.store))

pub returns-then-place-first-clause-applies : goal.returns-then-place-first-clause-applies
returns-then-place-first-clause-applies g c = c.loop-place.invariant.0

pub returns-then-place-first-clause-others : goal.returns-then-place-first-clause-others
returns-then-place-first-clause-others g c = c.loop-place.invariant.1

pub returns-then-place-first-clause-most : goal.returns-then-place-first-clause-most
returns-then-place-first-clause-most g c = c.loop-place.invariant.2

pub returns-then-place-first-clause-apart : goal.returns-then-place-first-clause-apart
returns-then-place-first-clause-apart g c =
    rw (← c.self.view_is) (apart-before c.args.first c.args.blocks c.in-Some.place c.self.inside.queue (rw c.in-Some.is at c.place_from.ensures) c.if-place-first.true)

pub returns-in-Err-clause-applies : goal.returns-in-Err-clause-applies
returns-in-Err-clause-applies g c = λ clean.
    applies_again g.S.Store.view c.args.self.now c.loop-place.self c.apply.new.self (Err c.in-Err.fault) (c.loop-place.invariant.0 (c.apply.ensures.stays.stays.disk.shape.trusted clean)) (rw c.in-Err.is at (c.apply.ensures.applies clean))

pub returns-in-Err-clause-others : goal.returns-in-Err-clause-others
returns-in-Err-clause-others g c =
    others_refused c.args.first c.args.blocks c.args.self.now c.loop-place.self c.apply.new.self c.loop-place.invariant.1 (rw c.in-Err.is at c.apply.ensures.err)

pub returns-in-Err-clause-most : goal.returns-in-Err-clause-most
returns-in-Err-clause-most g c = c.apply.ensures.most ∙ c.loop-place.invariant.2

pub loop-place-smaller : goal.loop-place-smaller
loop-place-smaller g c =
    let found : IsFirstPlace c.args.first c.self.inside.queue (Some c.in-Some.place) = rw c.in-Some.is at c.place_from.ensures in
    let fewer = without-length c.in-Some.place c.self.inside.queue found.1 in
    let left = ap length (rw c.in_default-apply.is at c.apply.ensures.ok) in
    let before = ap (λ k. length k.kept) c.self.view_is in
    search rules

pub loop-place-preserved : goal.loop-place-preserved
loop-place-preserved g c =
    let found : IsFirstPlace c.args.first c.self.inside.queue (Some c.in-Some.place) = rw c.in-Some.is at c.place_from.ensures in (
      λ clean. applies_again g.S.Store.view c.args.self.now c.loop-place.self c.apply.new.self (Ok tt) (c.loop-place.invariant.0 (c.apply.ensures.stays.stays.disk.shape.trusted clean)) (rw c.in_default-apply.is at (c.apply.ensures.applies clean)),
      others_more c.args.first c.args.blocks c.in-Some.place c.args.self.now c.loop-place.self c.apply.new.self c.loop-place.invariant.1 found.0 (omega (arith, c.if-place-first.false)) (rw c.in_default-apply.is at c.apply.ensures.ok),
      c.apply.ensures.most ∙ c.loop-place.invariant.2,
      calls_join (g.S.Store.view c.args.self.now.store) (g.S.Store.view c.loop-place.self.store) (g.S.Store.view c.apply.new.self.store) c.loop-place.invariant.3 c.apply.ensures.stays,
    )

pub returns-clause-applies : goal.returns-clause-applies
returns-clause-applies g c = c.loop-place.invariant.0

pub returns-clause-others : goal.returns-clause-others
returns-clause-others g c = c.loop-place.invariant.1

pub returns-clause-most : goal.returns-clause-most
returns-clause-most g c = c.loop-place.invariant.2

pub returns-clause-apart : goal.returns-clause-apart
returns-clause-apart g c =
    rw (← c.self.view_is) (apart-all c.args.first c.args.blocks c.self.inside.queue (rw c.in_default.is at c.place_from.ensures))

pub returns-in-Err-clause-stays : goal.returns-in-Err-clause-stays
returns-in-Err-clause-stays g c = calls_join (g.S.Store.view c.args.self.now.store) (g.S.Store.view c.loop-place.self.store) (g.S.Store.view c.apply.new.self.store) c.loop-place.invariant.3 c.apply.ensures.stays

pub returns-clause-stays : goal.returns-clause-stays
returns-clause-stays g c = c.loop-place.invariant.3

pub returns-then-place-first-clause-stays : goal.returns-then-place-first-clause-stays
returns-then-place-first-clause-stays g c = c.loop-place.invariant.3
