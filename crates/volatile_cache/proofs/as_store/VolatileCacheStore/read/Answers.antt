use Rattle.std.proofs.Common.{◌≡◌, ◌∙◌, ◌+◌, ◌-◌, arith, refl, rules, sym, None}
use Rattle.nbd_session.specs.Pending.{AreApart}
use Rattle.nbd_session.specs.Store.{store_flat}
use Rattle.zone_translator.specs.Flat.{known_range}
use Rattle.volatile_cache.specs.Queue.{all_pending}
use Rattle.volatile_cache.proofs.ApplyLaws.{known_none, unknown_range}
use Rattle.volatile_cache.proofs.ReadLaws.{read_passed}
use Rattle.volatile_cache.proofs.StayLaws.{calls_cached, stays_are_of}
use Rattle.volatile_cache.proofs.as_store.VolatileCacheStore.read.Goals.{then-is_known-via-then-is_known, then-is_known-via-else-is_known+then-is_clear}
use Rattle.volatile_cache.proofs.as_store.VolatileCacheStore.read.Goals as goal

pub invariant_of-self : goal.invariant_of-self
invariant_of-self g c = (
  stays_are_of (g.S.Store.view c.self.inside.store) (g.S.Store.view c.read.new.self) c.self.inside.queue c.read.ensures.stays.stays c.self.invariant.0,
  c.self.invariant.1,
)

pub returns-then-is_known-clause-shows : goal.returns-then-is_known-clause-shows
returns-then-is_known-clause-shows g c = λ clean.
    let below = g.S.Store.view c.self.inside.store in
    let apart : known_range (store_flat below) c.args.first c.args.blocks ≡ None → AreApart c.args.first c.args.blocks (all_pending c.self.inside.queue) = elim c.then-is_known.branch [
      | then-is_known-via-then-is_known w ↦ λ none. absurd (cc (rw none at (rw (← c.self.view_is) at (sym c.is_known.ensures ∙ w.if-is_known.true))))
      | then-is_known-via-else-is_known+then-is_clear w ↦ λ none. (rw (← c.self.view_is) at w.if-is_clear.ensures.apart) refl
    ] in
    rw (← c.self.view_is) (read_passed below (g.S.Store.view c.read.new.self) (all_pending c.self.inside.queue) c.args.first c.args.blocks c.read.result c.read.new.into.items apart (c.read.ensures.shows clean))

pub overflow_add-first : goal.overflow_add-first
overflow_add-first g c =
    let known = known_none (known_range (store_flat (g.S.Store.view c.args.self.now.store)) c.args.first c.args.blocks) (sym c.is_known.ensures ∙ c.if-is_known.false) in
    let within = (unknown_range (store_flat (g.S.Store.view c.args.self.now.store)) c.args.first c.args.blocks known).within in
    search rules

pub returns-then-is_known-clause-stays : goal.returns-then-is_known-clause-stays
returns-then-is_known-clause-stays g c =
    rw (← c.self.view_is) (calls_cached (g.S.Store.view c.self.inside.store) (g.S.Store.view c.read.new.self) (all_pending c.self.inside.queue) (all_pending c.self.inside.queue) c.read.ensures.stays)

pub returns-clause-stays : goal.returns-clause-stays
returns-clause-stays g c =
    let old = c.args.self.now in
    let new = c.read_pieces.new.self in
    calls_cached (g.S.Store.view old.store) (g.S.Store.view new.store) (all_pending old.kept) (all_pending new.kept) c.read_pieces.ensures.stays

pub returns-then-is_known-clause-whole : goal.returns-then-is_known-clause-whole
returns-then-is_known-clause-whole g c = rw (← c.self.view_is) c.read.ensures.whole

pub returns-clause-whole : goal.returns-clause-whole
returns-clause-whole g c =
    let count : c.args.first + c.args.blocks - c.args.first ≡ c.args.blocks = omega arith in
    rw count at c.read_pieces.ensures.whole
