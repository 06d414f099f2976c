use Rattle.std.proofs.Common.{◌≡◌, ◌<◌, ◌*◌}
use Rattle.std.specs.Prelude.{IsTrue}
use Rattle.zone_translator.specs.Keeping.{KeepsServed}
use Rattle.zone_translator.specs.View.{CompletesAtMost, StaysAlike, flat_of}
use Rattle.zone_translator.specs.declared.status.DiskStatus.TheVariants.{Serving}
use Rattle.disk_runs.specs.Trace.{TakesTurns}
use Rattle.disk_runs.proofs.requests.clean.Given as goal

abbrev pub invariant-loop-turn : goal.invariant-loop-turn
invariant-loop-turn g l =
    (IsTrue l.disk.drive.clean → flat_of l.disk ≡ flat_of l.fn.disk) × (IsTrue l.disk.drive.clean → 0 < l._turn → l.fn.disk.status ≡ Serving)
    × (IsTrue l.disk.drive.clean → KeepsServed l.fn.disk l.disk) × (IsTrue l.disk.drive.clean → TakesTurns l._turn l.fn.disk l.disk)
    × (IsTrue l.disk.drive.clean → l.disk.drive.durable ≡ l.fn.disk.drive.durable) × StaysAlike l.fn.disk l.disk
    × CompletesAtMost l.fn.disk (2 * l._turn) l.disk
