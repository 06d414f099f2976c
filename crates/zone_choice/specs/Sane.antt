-- What a mounted disk rests on whatever the Reads of its drive returned: its numbers, and not what its batches say.
use Rattle.std.specs.Prelude.{◌≡◌, ◌⊎◌, ℕ, ◌+◌, ◌≤◌, ◌<◌, ◌^◌, true, IsTrue, [], Result, Ok, Err}
use Rattle.std.specs.List.{AllByRecursion}
use Rattle.zone_states.specs.declared.geometry.Geometry.{Geometry}
use Rattle.zone_states.specs.Geometry.{IsInRange}
use Rattle.drive_port.specs.Drive.{DriveState}
use Rattle.drive_port.specs.declared.calls.PortFault.{PortFault}
use Rattle.drive_port.specs.declared.device.Halt.{Halt}
use Rattle.batch_log.specs.declared.header.Entry.{Entry}
use Rattle.batch_log.specs.Header.{IsHeading}
use Rattle.batch_log.specs.Log.{Batch, batch_size}
use Rattle.logical_map.specs.Places.{IsReady}
use Rattle.zone_choice.specs.declared.roles.Filling.{Filling}
use Rattle.zone_choice.specs.Agreement.{MountedView}
use Rattle.zone_choice.specs.Changes.{IsHalt, fault_halt, roles_alone, size_with}
use Rattle.zone_choice.specs.Roles.{RolesView, fillings, is_filling_at, wrote}
use Rattle.zone_choice.specs.Tables.{AreOfOneDrive, TablesView, size_of}

-- A mounted disk whose numbers are in range: each zone that is being filled is one of the drive's, and no fuller than a
-- zone can be. While no command failed, no data is noted as unreadable.
pub record IsSane (disk : MountedView) : Type 0 where
  pub geometry : IsInRange disk.drive.geometry
  pub one_drive : AreOfOneDrive disk.tables.map disk.tables.roles
  pub zones : disk.tables.map.zones ≡ disk.drive.geometry.zones
  pub short : size_of disk.tables ≤ 2 ^ 31
  pub next : disk.tables.next ≤ 2 ^ 63
  pub fillings_are : AllByRecursion (λ (filling : Filling). (filling.zone < disk.drive.geometry.zones) × (filling.written ≤ disk.drive.geometry.capacity))
      (fillings disk.tables.roles)
  pub readable : IsTrue disk.drive.unfailing → disk.tables.unreadable ≡ []

-- by the tables, the zone has room for that many blocks more
abbrev pub HasRoomIn : Geometry → RolesView → ℕ → ℕ → Type 0
HasRoomIn geometry roles zone blocks = AllByRecursion (λ (filling : Filling). filling.zone ≡ zone → filling.written + blocks ≤ geometry.capacity) (fillings roles)

-- What a batch needs to be sent and placed: numbers of the tables and of the batch alone.
pub record MayPlace (before : MountedView) (zone : ℕ) (batch : Batch) : Type 0 where
  pub sane : IsSane before
  pub filling : is_filling_at before.tables.roles zone ≡ true
  pub heading : IsHeading before.drive.geometry.block batch.heading
  pub grows : size_of before.tables ≤ size_with before.tables batch
  pub short : size_with before.tables batch ≤ 2 ^ 31
  pub few : batch_size batch ≤ before.drive.geometry.transfer
  pub room : HasRoomIn before.drive.geometry before.tables.roles zone (batch_size batch)
  pub next : before.tables.next < 2 ^ 63
  pub in_range : AllByRecursion (λ (e : Entry). e.block < size_of before.tables) batch.heading.entries
  pub ready : AllByRecursion (λ (e : Entry). IsReady before.tables.map e.block) batch.heading.entries

-- the tables with this zone as the only one that may be open, at an open limit of 1
abbrev pub tables_alone : Geometry → TablesView → ℕ → TablesView
tables_alone geometry tables zone = record tables { roles = roles_alone geometry tables.roles zone }

-- the tables count a batch more in a zone
pub record CountsBatch (geometry : Geometry) (old : TablesView) (zone : ℕ) (batch : Batch) (new : TablesView) : Type 0 where
  pub size : size_of new ≡ size_with old batch
  pub zones : new.map.zones ≡ old.map.zones
  pub next : new.next ≡ old.next + 1
  pub given : new.given ≡ old.given
  pub unreadable : new.unreadable ≡ old.unreadable
  pub roles : new.roles ≡ wrote (roles_alone geometry old.roles zone) zone (batch_size batch)

-- What becomes of the tables by the answer to an Append: done, they count the batch; else they are the same, but that
-- they may say that the zone beside was closed.
abbrev pub TablesAfter : Geometry → TablesView → ℕ → Batch → Result (Unit {0}) PortFault → TablesView → Type 0
TablesAfter geometry old zone batch (Ok done) new = CountsBatch geometry old zone batch new
TablesAfter geometry old zone batch (Err fault) new = (new ≡ old) ⊎ (new ≡ tables_alone geometry old zone)

-- the shape of the drive is the same, and it is clean only where it was, and unfailing only where it was
pub record KeepsShape (old new : DriveState) : Type 0 where
  pub geometry : new.geometry ≡ old.geometry
  pub trusted : IsTrue new.clean → IsTrue old.clean
  pub unfailing : IsTrue new.unfailing → IsTrue old.unfailing

-- of a call whose faults are halts: what holds by its halt
abbrev pub ByHalt : {V : Type 0} → (Result V Halt → Type 0) → Result V PortFault → Type 0
ByHalt Holds (Ok value) = Holds (Ok value)
ByHalt Holds (Err fault) = IsHalt fault × Holds (Err (fault_halt fault))
