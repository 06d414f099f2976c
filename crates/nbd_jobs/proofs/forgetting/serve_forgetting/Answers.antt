use Rattle.std.proofs.Common.{sym, ◌∙◌}
use Rattle.std.specs.Prelude.{nat_lt}
use Rattle.volatile_cache.specs.Queue.{all_pending}
use Rattle.volatile_cache.proofs.KeepLaws.{length_map}
use Rattle.nbd_jobs.specs.Failing.{fails_in_requests}
use Rattle.nbd_jobs.proofs.ForgetLaws.{forgets-failing}
use Rattle.nbd_jobs.proofs.forgetting.serve_forgetting.Goals as goal

pub returns : goal.returns
returns g c =
    let view = g.S.Store.view in
    let served = c.serve_any_at_most-ended.new.store in
    let cache = c.into_store-cache.result in
    let last = c.end_pending-lost.new.cache in
    let made = c.failing_store-served.ensures in
    let ends = c.end_pending-lost.ensures in
    rw c.into_store.ensures (
      nat_lt 0 served.odds,
      forgets-failing (fails_in_requests c.args.fail) (nat_lt 0 served.odds) c.args.forget _ (view c.args.store) (view cache.store) (view last.store) (all_pending cache.kept) _
          (rw (made.store, made.odds, c.new-cache.ensures.store, c.new-cache.ensures.kept, ← c.into_store-cache.ensures) at c.serve_any_at_most-ended.ensures.serves)
          (rw (made.store, c.new-cache.ensures.store, ← c.into_store-cache.ensures) at c.serve_any_at_most-ended.ensures.keeps)
          (rw (made.store, made.odds, c.new-cache.ensures.store, c.new-cache.ensures.kept, ← c.into_store-cache.ensures) at c.serve_any_at_most-ended.ensures.stays)
          (c.pending-pending.ensures.count ∙ sym (length_map cache.kept))
          ends.leaves ends.kept ends.lost ends.stays,
    )
