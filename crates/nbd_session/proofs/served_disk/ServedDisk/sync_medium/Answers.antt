use Rattle.std.proofs.Common.{refl, arith}
use Rattle.zone_translator.proofs.DiskLaws.{alike-same}
use Rattle.nbd_session.proofs.ServedLaws.{disk_stays, silent_hardens, silent_keeps}
use Rattle.nbd_session.proofs.served_disk.ServedDisk.sync_medium.Goals as goal

pub returns-in-Err-clause-syncs : goal.returns-in-Err-clause-syncs
returns-in-Err-clause-syncs g c =
    let silent = rw (← c.self.view_is) at c.requires.silent in
    rw (← c.self.view_is, c.sync.ensures.flushes, silent) (rw (← c.self.view_is) at c.requires.serves, silent_keeps c.self.inside.disk _ _ c.self.inside.read_only c.self.inside.cleans c.in-Err.ensures.err, refl)

pub returns-clause-syncs : goal.returns-clause-syncs
returns-clause-syncs g c =
    let silent = rw (← c.self.view_is) at c.requires.silent in
    rw (← c.self.view_is, c.sync.ensures.flushes, silent) (rw (← c.self.view_is) at c.requires.serves, silent_hardens c.self.inside.disk _ _ c.self.inside.read_only c.self.inside.cleans c.in_default.ensures.ok)

-- ---- whatever the Reads returned

pub returns-in-Err-clause-stays : goal.returns-in-Err-clause-stays
returns-in-Err-clause-stays g c =
    rw (← c.self.view_is, c.sync.ensures.flushes) (record { stays = disk_stays c.self.inside.disk c.self.inside.disk _ _ c.self.inside.read_only c.self.inside.cleans _ (alike-same c.self.inside.disk) c.in-Err.ensures.err; more = tt })

pub returns-clause-stays : goal.returns-clause-stays
returns-clause-stays g c =
    rw (← c.self.view_is, c.sync.ensures.flushes) (record {
      stays = disk_stays c.self.inside.disk c.self.inside.disk _ _ c.self.inside.read_only c.self.inside.cleans _ (alike-same c.self.inside.disk) (omega (arith, c.in_default.ensures.ok));
      more = c.in_default.ensures.ok;
    })
