use Rattle.std.proofs.Common.{◌≡◌, ◌≤◌, ◌+◌, ◌*◌, ℕ}
use Rattle.std.specs.Prelude.{IsTrue}
use Rattle.zone_cleaner.specs.Answering.{StaysSane}
use Rattle.zone_cleaner.proofs.SoFarLaws.{HasRun}
use Rattle.zone_cleaner.proofs.cleaner.Cleaner.take_turns.Given as goal

abbrev pub invariant-loop : goal.invariant-loop
invariant-loop g l =
    StaysSane l.fn.disk l.disk
    × (l.disk.drive.completed + 2 ≤ l.fn.disk.drive.completed + 2 * l.counter)
    × ((n : ℕ) → n + 1 ≡ l.counter → IsTrue l.disk.drive.clean → HasRun l.fn.disk l.fn.self n l.disk l.self)
    × (1 ≤ l.counter)
