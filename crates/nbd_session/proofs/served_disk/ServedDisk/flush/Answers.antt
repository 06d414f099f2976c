use Rattle.std.proofs.Common.{inr, arith}
use Rattle.nbd_session.proofs.ServedLaws.{disk_stays, flush_done, flush_fails, flush_hardens}
use Rattle.nbd_session.proofs.served_disk.ServedDisk.flush.Goals as goal

pub returns-in-Err-clause-syncs : goal.returns-in-Err-clause-syncs
returns-in-Err-clause-syncs g c = λ clean.
    let flushes = rw (← c.self.view_is) at c.requires.flushes in
    let serves = rw (← c.self.view_is) at c.requires.serves in
    rw (← c.self.view_is, flushes) (inr (serves, flush_fails c.self.inside.disk c.flush.new.self _ c.self.inside.read_only c.self.inside.cleans c.in-Err.fault serves (c.in-Err.ensures.answers clean) c.flush.ensures.turns c.flush.ensures.completed))

pub returns-in-Err-sync-clause-syncs : goal.returns-in-Err-sync-clause-syncs
returns-in-Err-sync-clause-syncs g c = λ clean.
    let flushes = rw (← c.self.view_is) at c.requires.flushes in
    let serves = rw (← c.self.view_is) at c.requires.serves in
    let done = flush_done c.self.inside.disk c.flush.new.self _ _ c.self.inside.read_only c.self.inside.cleans serves (c.in_default.ensures.answers clean) c.flush.ensures.turns c.flush.ensures.completed c.in-Err-sync.ensures.err in
    rw (← c.self.view_is, c.sync.ensures.flushes, flushes) (serves, done.0, done.1)

pub returns-clause-syncs : goal.returns-clause-syncs
returns-clause-syncs g c = λ clean.
    let flushes = rw (← c.self.view_is) at c.requires.flushes in
    let serves = rw (← c.self.view_is) at c.requires.serves in
    rw (← c.self.view_is, c.sync.ensures.flushes, flushes) (serves, flush_hardens c.self.inside.disk c.flush.new.self _ _ c.self.inside.read_only c.self.inside.cleans serves (c.in_default.ensures.answers clean) c.flush.ensures.turns c.flush.ensures.completed c.in_default-sync.ensures.ok)

-- ---- whatever the Reads returned

pub returns-in-Err-clause-stays : goal.returns-in-Err-clause-stays
returns-in-Err-clause-stays g c =
    rw (← c.self.view_is) (record { stays = disk_stays c.self.inside.disk c.flush.new.self _ _ c.self.inside.read_only c.self.inside.cleans _ c.flush.ensures.alike (omega arith); more = tt })

pub returns-in-Err-sync-clause-stays : goal.returns-in-Err-sync-clause-stays
returns-in-Err-sync-clause-stays g c =
    rw (← c.self.view_is, c.sync.ensures.flushes) (record { stays = disk_stays c.self.inside.disk c.flush.new.self _ _ c.self.inside.read_only c.self.inside.cleans _ c.flush.ensures.alike c.in-Err-sync.ensures.err; more = tt })

pub returns-clause-stays : goal.returns-clause-stays
returns-clause-stays g c =
    rw (← c.self.view_is, c.sync.ensures.flushes) (record {
      stays = disk_stays c.self.inside.disk c.flush.new.self _ _ c.self.inside.read_only c.self.inside.cleans _ c.flush.ensures.alike (omega (arith, c.in_default-sync.ensures.ok));
      more = c.in_default-sync.ensures.ok;
    })
