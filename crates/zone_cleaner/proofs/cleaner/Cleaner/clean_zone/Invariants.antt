use Rattle.std.proofs.Common.{◌≡◌, ◌≢◌, ◌≤◌, ◌<◌, ◌+◌, ◌*◌, ℕ, []}
use Rattle.std.specs.Prelude.{IsFalse, IsTrue}
use Rattle.zone_cleaner.specs.Answering.{StaysSane}
use Rattle.zone_cleaner.proofs.SoFarLaws.{HasTried}
use Rattle.zone_cleaner.proofs.cleaner.Cleaner.clean_zone.Given as goal

abbrev pub invariant-loop : goal.invariant-loop
invariant-loop g l =
    StaysSane l.fn.disk l.disk
    × (l.disk.drive.completed + 2 * l.counter ≤ l.fn.disk.drive.completed + l.counter * (2 * l.fn.disk.drive.geometry.capacity))
    × (IsTrue l.disk.drive.clean → HasTried l.fn.disk l.fn.self l.disk l.self)
    × (1 ≤ l.counter → l.disk.tables.unreadable ≢ [])
