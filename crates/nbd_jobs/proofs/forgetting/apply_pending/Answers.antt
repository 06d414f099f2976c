use Rattle.volatile_cache.specs.Queue.{all_pending}
use Rattle.nbd_jobs.proofs.ForgetLaws.{stays_below, sync-applies, sync-kept}
use Rattle.nbd_jobs.proofs.forgetting.apply_pending.Goals as goal

pub returns-in-Ok-clause-applies : goal.returns-in-Ok-clause-applies
returns-in-Ok-clause-applies g c = λ clean.
    let old = c.args.cache.now in
    let new = c.sync.new.self in
    sync-applies (g.S.Store.view old.store) (g.S.Store.view new.store) (all_pending old.kept) (all_pending new.kept) (rw c.in-Ok.is at (c.sync.ensures.syncs clean))

pub returns-in-Ok-clause-kept : goal.returns-in-Ok-clause-kept
returns-in-Ok-clause-kept g c = λ clean.
    let old = c.args.cache.now in
    let new = c.sync.new.self in
    sync-kept (g.S.Store.view old.store) (g.S.Store.view new.store) (all_pending old.kept) (all_pending new.kept) c.sync.result (c.sync.ensures.syncs clean)

pub returns-in-Err-clause-kept : goal.returns-in-Err-clause-kept
returns-in-Err-clause-kept g c = λ clean.
    let old = c.args.cache.now in
    let new = c.sync.new.self in
    sync-kept (g.S.Store.view old.store) (g.S.Store.view new.store) (all_pending old.kept) (all_pending new.kept) c.sync.result (c.sync.ensures.syncs clean)

-- ---- whatever the Reads returned

pub returns-in-Ok-clause-stays : goal.returns-in-Ok-clause-stays
returns-in-Ok-clause-stays g c =
    let old = c.args.cache.now in
    let new = c.sync.new.self in
    stays_below (g.S.Store.view old.store) (g.S.Store.view new.store) (all_pending old.kept) (all_pending new.kept) c.sync.ensures.stays.stays

pub returns-in-Err-clause-stays : goal.returns-in-Err-clause-stays
returns-in-Err-clause-stays g c =
    let old = c.args.cache.now in
    let new = c.sync.new.self in
    stays_below (g.S.Store.view old.store) (g.S.Store.view new.store) (all_pending old.kept) (all_pending new.kept) c.sync.ensures.stays.stays
