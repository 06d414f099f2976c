use Rattle.std.proofs.Common.{◌≡◌, ◌==◌, ◌∙◌, ◌+◌, ◌<◌, [], ap, arith, length, refl, rules, sym, true, false}
use Rattle.volatile_cache.specs.Cache.{Cache}
use Rattle.volatile_cache.specs.Fates.{chance_of, coin_of}
use Rattle.volatile_cache.proofs.FailLaws.{apply-fails, sync-fails}
use Rattle.volatile_cache.proofs.FallLaws.{applied_below, below_again, below_same, empty_is, falls, later_outcomes, lost_outcomes, one_fewer, same_outcomes, some_is, sync_array, sync_below, sync_durable}
use Rattle.volatile_cache.proofs.FateLaws.{count_first, count_last, count_lost, fate_first, fate_last, fate_lost}
use Rattle.volatile_cache.proofs.KeepLaws.{length_map}
use Rattle.nbd_session.proofs.AnywayLaws.{calls_join, calls_same, stays_join}
use Rattle.volatile_cache.proofs.cache.VolatileCache.cut_any.Goals as goal

pub loop-coins-init : goal.loop-coins-init
loop-coins-init g c = (
  λ clean. (
    same_outcomes g.S.Store.view c.args.self.now,
    below_same (g.S.Store.view c.args.self.now.store),
    fate_first g.S.Store.view (coin_of c.args.odds) (chance_of c.args.seed) (chance_of c.seed_from_u64-coins.result) c.args.self.now (ap chance_of c.seed_from_u64-coins.ensures.same),
  ),
  omega arith,
  count_first (coin_of c.args.odds) (chance_of c.args.seed) (chance_of c.seed_from_u64-coins.result) c.args.self.now.kept (ap chance_of c.seed_from_u64-coins.ensures.same),
  calls_same (g.S.Store.view c.args.self.now.store),
)

pub loop-coins-preserved-then-random_ratio : goal.loop-coins-preserved-then-random_ratio
loop-coins-preserved-then-random_ratio g c =
    let kept = c.self-in-loop-coins.inside.queue in
    let now : Cache g.row.S.Denot = record { store = c.self-in-loop-coins.inside.store; kept = kept; most = c.self-in-loop-coins.inside.most } in
    let next : Cache g.row.S.Denot = record { store = c.self-in-loop-coins.inside.store; kept = c.pop_oldest.new.self; most = c.self-in-loop-coins.inside.most } in
    let before = rw (← c.self-in-loop-coins.view_is) at c.loop-coins.invariant in
    let some : (length kept == 0) ≡ false = sym c.is_empty.ensures ∙ c.loop-coins-test.true in
    let most : c.len-pending.result < 18446744073709551616 = search rules in
    let count : c.len-pending.result ≡ length c.args.self.now.kept = c.len-pending.ensures ∙ ap (λ k. length k.kept) c.self.view_is in
    let more : c.saturating_add-lost.result ≡ c.loop-coins.lost + 1 = omega (arith, most, count, some_is kept some, before.1, c.saturating_add-lost.ensures) in
    let falls : (true, chance_of c.random_ratio.new.self) ≡ coin_of c.args.odds (chance_of c.loop-coins.coins) = rw (c.min.ensures, c.if-random_ratio.true) at c.random_ratio.ensures.drawn in (
      λ clean.
          (let so_far = before.0 clean in (
            later_outcomes g.S.Store.view c.args.self.now now next so_far.0 (lost_outcomes g.S.Store.view now next refl c.pop_oldest.ensures),
            so_far.1,
            fate_lost g.S.Store.view (coin_of c.args.odds) (chance_of c.args.seed) (chance_of c.loop-coins.coins) (chance_of c.random_ratio.new.self) c.args.self.now now next c.loop-coins.lost c.saturating_add-lost.result so_far.2 (omega (arith, some_is kept some)) falls refl c.pop_oldest.ensures more,
          )),
      rw c.pop_oldest.ensures (one_fewer kept c.loop-coins.lost c.saturating_add-lost.result (length c.args.self.now.kept) 18446744073709551615 some c.saturating_add-lost.ensures before.1),
      count_lost (coin_of c.args.odds) (chance_of c.args.seed) (chance_of c.loop-coins.coins) (chance_of c.random_ratio.new.self) c.args.self.now.kept kept c.pop_oldest.new.self c.loop-coins.lost c.saturating_add-lost.result before.2 (omega (arith, some_is kept some)) falls c.pop_oldest.ensures more,
      before.3,
    )

pub returns-in-Err-clause-cuts : goal.returns-in-Err-clause-cuts
returns-in-Err-clause-cuts g c = λ clean.
    let middle : Cache g.row.S.Denot = record { store = c.self-else-random_ratio.inside.store; kept = c.self-else-random_ratio.inside.queue; most = c.self-else-random_ratio.inside.most } in
    let last : Cache g.row.S.Denot = record { store = c.self-else-random_ratio.inside.store; kept = c.truncate.new.self; most = c.self-else-random_ratio.inside.most } in
    let so_far = c.loop-coins.invariant.0 ((rw (← c.self-else-random_ratio.view_is) at c.apply_oldest.ensures.stays).stays.disk.shape.trusted clean) in (
      falls g.S.Store.view c.args.self.now middle last
          (later_outcomes g.S.Store.view c.args.self.now c.loop-coins.self middle so_far.0 ((rw (← c.self-else-random_ratio.view_is) at c.apply_oldest.ensures.outcomes) clean)) refl c.truncate.ensures
          (below_again (g.S.Store.view c.args.self.now.store) (g.S.Store.view c.loop-coins.self.store) (g.S.Store.view last.store) so_far.1
          (applied_below g.S.Store.view c.loop-coins.self middle c.apply_oldest.result ((rw (← c.self-else-random_ratio.view_is) at c.apply_oldest.ensures.applies) clean))),
      apply-fails g.S.Store.view c.loop-coins.self middle c.in-Err.fault ((rw (← c.self-else-random_ratio.view_is, c.in-Err.is) at c.apply_oldest.ensures.applies) clean),
    )

pub returns-in-Err-clause-anyway : goal.returns-in-Err-clause-anyway
returns-in-Err-clause-anyway g c = record {
  none = c.truncate.ensures;
  counts = tt;
  stays = (calls_join (g.S.Store.view c.args.self.now.store) (g.S.Store.view c.loop-coins.self.store) (g.S.Store.view c.self-else-random_ratio.inside.store) c.loop-coins.invariant.3 (rw (← c.self-else-random_ratio.view_is) at c.apply_oldest.ensures.stays)).stays;
}

pub returns-in-Err-sync-clause-cuts : goal.returns-in-Err-sync-clause-cuts
returns-in-Err-sync-clause-cuts g c = λ clean.
    let middle : Cache g.row.S.Denot = record { store = c.self-2.inside.store; kept = c.self-2.inside.queue; most = c.self-2.inside.most } in
    let last : Cache g.row.S.Denot = record { store = c.sync.new.self; kept = c.self-2.inside.queue; most = c.self-2.inside.most } in
    let so_far = (rw (← c.self-2.view_is) at c.loop-coins.invariant.0) (c.sync.ensures.stays.stays.disk.shape.trusted clean) in
    let syncs = c.sync.ensures.syncs clean in
    let none : c.self-2.inside.queue ≡ [] = ap (λ k. k.kept) (c.self-2.view_is ∙ sym c.self-in-loop-coins.view_is) ∙ empty_is c.self-in-loop-coins.inside.queue (sym c.is_empty.ensures ∙ c.loop-coins-test.false) in (
      falls g.S.Store.view c.args.self.now middle last so_far.0 (sync_array (g.S.Store.view c.self-2.inside.store) (g.S.Store.view c.sync.new.self) c.sync.result syncs) none
          (below_again (g.S.Store.view c.args.self.now.store) (g.S.Store.view middle.store) (g.S.Store.view last.store) so_far.1 (sync_below (g.S.Store.view c.self-2.inside.store) (g.S.Store.view c.sync.new.self) c.sync.result syncs)),
      sync-fails (g.S.Store.view c.self-2.inside.store) (g.S.Store.view c.sync.new.self) c.in-Err-sync.fault (rw c.in-Err-sync.is at syncs),
    )

pub returns-in-Err-sync-clause-anyway : goal.returns-in-Err-sync-clause-anyway
returns-in-Err-sync-clause-anyway g c = record {
  none = ap (λ k. k.kept) (c.self-2.view_is ∙ sym c.self-in-loop-coins.view_is) ∙ empty_is c.self-in-loop-coins.inside.queue (sym c.is_empty.ensures ∙ c.loop-coins-test.false);
  counts = tt;
  stays = stays_join (g.S.Store.view c.args.self.now.store) (g.S.Store.view c.self-2.inside.store) (g.S.Store.view c.sync.new.self) (rw (← c.self-2.view_is) at c.loop-coins.invariant.3.stays) c.sync.ensures.stays.stays;
}

pub returns-clause-cuts : goal.returns-clause-cuts
returns-clause-cuts g c = λ clean.
    let below = g.S.Store.view c.self-2.inside.store in
    let below' = g.S.Store.view c.sync.new.self in
    let middle : Cache g.row.S.Denot = record { store = c.self-2.inside.store; kept = c.self-2.inside.queue; most = c.self-2.inside.most } in
    let last : Cache g.row.S.Denot = record { store = c.sync.new.self; kept = c.self-2.inside.queue; most = c.self-2.inside.most } in
    let so_far = (rw (← c.self-2.view_is) at c.loop-coins.invariant.0) (c.sync.ensures.stays.stays.disk.shape.trusted clean) in
    let syncs = c.sync.ensures.syncs clean in
    let none : c.self-2.inside.queue ≡ [] = ap (λ k. k.kept) (c.self-2.view_is ∙ sym c.self-in-loop-coins.view_is) ∙ empty_is c.self-in-loop-coins.inside.queue (sym c.is_empty.ensures ∙ c.loop-coins-test.false) in
    let count : c.len-pending.result ≡ length c.args.self.now.kept = c.len-pending.ensures ∙ ap (λ k. length k.kept) c.self.view_is in
    let fate = fate_last g.S.Store.view (coin_of c.args.odds) (chance_of c.args.seed) (chance_of c.loop-coins.coins) c.args.self.now middle last c.loop-coins.lost so_far.2 none (sync_array below below' c.sync.result syncs) in (
      falls g.S.Store.view c.args.self.now middle last so_far.0 (sync_array below below' c.sync.result syncs) none
          (below_again (g.S.Store.view c.args.self.now.store) below below' so_far.1 (sync_below below below' c.sync.result syncs)),
      (sync_durable below below' (rw c.in_default-sync.is at syncs), count ∙ sym (length_map c.args.self.now.kept), omega (arith, count, c.loop-coins.invariant.1), fate.0, fate.1),
    )

pub returns-clause-anyway : goal.returns-clause-anyway
returns-clause-anyway g c =
    let none : c.self-2.inside.queue ≡ [] = ap (λ k. k.kept) (c.self-2.view_is ∙ sym c.self-in-loop-coins.view_is) ∙ empty_is c.self-in-loop-coins.inside.queue (sym c.is_empty.ensures ∙ c.loop-coins-test.false) in
    record {
      none = none;
      counts = (
        c.len-pending.ensures ∙ ap (λ k. length k.kept) c.self.view_is,
        count_last (coin_of c.args.odds) (chance_of c.args.seed) (chance_of c.loop-coins.coins) c.args.self.now.kept c.self-2.inside.queue c.loop-coins.lost (rw (← c.self-2.view_is) at c.loop-coins.invariant.2) none,
      );
      stays = stays_join (g.S.Store.view c.args.self.now.store) (g.S.Store.view c.self-2.inside.store) (g.S.Store.view c.sync.new.self) (rw (← c.self-2.view_is) at c.loop-coins.invariant.3.stays) c.sync.ensures.stays.stays;
    }
