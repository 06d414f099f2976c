use Rattle.std.proofs.Common.{Ok, Err}
use Rattle.volatile_cache.specs.Cache.{Cuts}
use Rattle.nbd_jobs.proofs.ForgetLaws.{cut-done, cut-failed, stays_deferring}
use Rattle.nbd_jobs.proofs.forgetting.cut_power.Goals as goal

pub returns-in-Ok-clause-cut : goal.returns-in-Ok-clause-cut
returns-in-Ok-clause-cut g c = λ clean.
    let cuts : Cuts g.S.Store.view c.args.forget.seed c.args.forget.odds c.args.cache.now (Ok c.in-Ok.lost) c.cut_any.new.self = rw c.in-Ok.is at (c.cut_any.ensures.cuts clean) in
    cut-done g.S.Store.view c.args.forget c.args.cache.now c.in-Ok.lost c.cut_any.new.self cuts

pub returns-in-Err-clause-cut : goal.returns-in-Err-clause-cut
returns-in-Err-clause-cut g c = λ clean.
    let cuts : Cuts g.S.Store.view c.args.forget.seed c.args.forget.odds c.args.cache.now (Err c.in-Err.fault) c.cut_any.new.self = rw c.in-Err.is at (c.cut_any.ensures.cuts clean) in
    cut-failed g.S.Store.view c.args.forget c.args.cache.now c.in-Err.fault c.cut_any.new.self cuts

pub returns-in-Ok-clause-kept : goal.returns-in-Ok-clause-kept
returns-in-Ok-clause-kept g c = λ clean. (c.cut_any.ensures.cuts clean).0.keeps.0

pub returns-in-Err-clause-kept : goal.returns-in-Err-clause-kept
returns-in-Err-clause-kept g c = λ clean. (c.cut_any.ensures.cuts clean).0.keeps.0

-- ---- whatever the Reads returned

pub returns-in-Ok-clause-stays : goal.returns-in-Ok-clause-stays
returns-in-Ok-clause-stays g c = stays_deferring (g.S.Store.view c.args.cache.now.store) (g.S.Store.view c.cut_any.new.self.store) c.cut_any.ensures.anyway.stays

pub returns-in-Err-clause-stays : goal.returns-in-Err-clause-stays
returns-in-Err-clause-stays g c = stays_deferring (g.S.Store.view c.args.cache.now.store) (g.S.Store.view c.cut_any.new.self.store) c.cut_any.ensures.anyway.stays
