use Rattle.std.proofs.Common.{rules}
use Rattle.drive_inspection.proofs.rehearsing.rehearse_mount.Goals as goal

-- src/rehearsing.rt:33:1
pub returns-clause-ok : goal.returns-clause-ok
returns-clause-ok g c clean = record { tables = c.in_ok-tables.tables; mounts = c.in_ok-tables.ensures.ok clean; counts = search rules; next = search rules }
