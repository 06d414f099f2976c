-- The lines by which a program tells its faults.
use Rattle.std.specs.Prelude.{ℕ, List, ◌++◌, codes, decimal, Option}
use Rattle.std.specs.Io.KnownBytes.{Keeps}
use Rattle.disk_files.specs.Output.{AppendsFront}
use Rattle.zone_states.specs.declared.geometry.GeometryFault.{GeometryFault}
use Rattle.zone_states.specs.declared.geometry.GeometryFault.TheVariants as geometry
use Rattle.zone_translator.specs.declared.fault.DiskFault.{DiskFault}
use Rattle.zone_translator.specs.declared.fault.DiskFault.TheVariants as disk
use Rattle.batch_log.specs.declared.fault.LogFault.{LogFault}
use Rattle.batch_log.specs.declared.fault.LogFault.TheVariants as log
use Rattle.drive_survey.specs.declared.fault.MountFault.{MountFault}
use Rattle.drive_survey.specs.declared.fault.MountFault.TheVariants as mount
use Rattle.disk_runs.specs.declared.fault.RunFault.{RunFault}
use Rattle.disk_runs.specs.declared.fault.RunFault.TheVariants.{Line, Long, Disk, Mount, Geometry, Input, Output}
use Rattle.disk_runs.specs.declared.fault.RunFault.TheVariants.{Memory}

-- a refusal: its number in its list, and its name
pub record Refusal : Type 0 where
  pub number : ℕ
  pub name : List ℕ

abbrev pub numbered : ℕ → List ℕ → Refusal
numbered number name = record { number = number; name = name }

abbrev pub disk_refusal : DiskFault → Refusal
disk_refusal disk.OutOfRange = record { number = 1; name = codes "OutOfRange" }
disk_refusal disk.OutOfMemory = record { number = 2; name = codes "OutOfMemory" }
disk_refusal disk.Stopped = record { number = 3; name = codes "Stopped" }
disk_refusal disk.Spent = record { number = 4; name = codes "Spent" }
disk_refusal disk.Unmounted = record { number = 5; name = codes "Unmounted" }
disk_refusal disk.Smaller = record { number = 7; name = codes "Smaller" }
disk_refusal disk.Reserve = record { number = 8; name = codes "Reserve" }
disk_refusal disk.Damaged = record { number = 9; name = codes "Damaged" }
disk_refusal disk.Failed = record { number = 10; name = codes "Failed" }

abbrev pub mount_refusal : MountFault → Refusal
mount_refusal mount.Reserve = record { number = 1; name = codes "Reserve" }
mount_refusal mount.Limits = record { number = 2; name = codes "Limits" }
mount_refusal (mount.ZoneUnusable zone) = record { number = 3; name = codes "ZoneUnusable" }
mount_refusal (mount.Log zone offset cause) = record { number = 4; name = codes "Log" }
mount_refusal mount.SequenceRepeated = record { number = 5; name = codes "SequenceRepeated" }
mount_refusal mount.BlockOutOfRange = record { number = 6; name = codes "BlockOutOfRange" }
mount_refusal mount.TooManyPartial = record { number = 7; name = codes "TooManyPartial" }
mount_refusal mount.NoSpare = record { number = 8; name = codes "NoSpare" }
mount_refusal mount.Spent = record { number = 9; name = codes "Spent" }
mount_refusal mount.Halted = record { number = 10; name = codes "Halted" }
mount_refusal mount.OutOfMemory = record { number = 11; name = codes "OutOfMemory" }
mount_refusal (mount.TornZone zone) = record { number = 13; name = codes "TornZone" }
mount_refusal mount.Damaged = record { number = 14; name = codes "Damaged" }
mount_refusal mount.Failed = record { number = 15; name = codes "Failed" }

-- why a zone holds no log
abbrev pub log_refusal : LogFault → Refusal
log_refusal log.Magic = record { number = 1; name = codes "Magic" }
log_refusal log.Version = record { number = 2; name = codes "Version" }
log_refusal log.Kind = record { number = 3; name = codes "Kind" }
log_refusal log.Count = record { number = 4; name = codes "Count" }
log_refusal log.RestNotZero = record { number = 5; name = codes "RestNotZero" }
log_refusal log.BlockRepeated = record { number = 6; name = codes "BlockRepeated" }
log_refusal log.Torn = record { number = 7; name = codes "Torn" }
log_refusal log.ForeignTail = record { number = 8; name = codes "ForeignTail" }
log_refusal log.Size = record { number = 9; name = codes "Size" }

abbrev pub geometry_refusal : GeometryFault → Refusal
geometry_refusal geometry.Block = record { number = 1; name = codes "Block" }
geometry_refusal geometry.Zones = record { number = 2; name = codes "Zones" }
geometry_refusal geometry.Size = record { number = 3; name = codes "Size" }
geometry_refusal geometry.Capacity = record { number = 4; name = codes "Capacity" }
geometry_refusal geometry.Transfer = record { number = 5; name = codes "Transfer" }
geometry_refusal geometry.Active = record { number = 6; name = codes "Active" }
geometry_refusal geometry.Open = record { number = 7; name = codes "Open" }

abbrev pub refusal_text : List ℕ → Refusal → List ℕ
refusal_text kind refusal =
    codes "fault " ++ kind ++ codes " " ++ decimal refusal.number ++ codes " " ++ refusal.name ++ codes "\n"

-- the refusal of a mount, followed by the zone that it names
abbrev pub zone_text : Refusal → ℕ → List ℕ
zone_text refusal zone =
    codes "fault mount " ++ decimal refusal.number ++ codes " " ++ refusal.name ++ codes " " ++ decimal zone
    ++ codes "\n"

-- followed by a zone and a block of it, and the end of such a line, which names the cause
abbrev pub block_text : Refusal → ℕ → ℕ → List ℕ
block_text refusal zone offset =
    codes "fault mount " ++ decimal refusal.number ++ codes " " ++ refusal.name ++ codes " "
    ++ decimal zone ++ codes " " ++ decimal offset

abbrev pub cause_text : Refusal → List ℕ
cause_text cause = codes " " ++ decimal cause.number ++ codes " " ++ cause.name ++ codes "\n"

abbrev pub mount_text : MountFault → List ℕ
mount_text (mount.ZoneUnusable zone) = zone_text (mount_refusal (mount.ZoneUnusable zone)) zone
mount_text (mount.Log zone offset cause) =
    block_text (mount_refusal (mount.Log zone offset cause)) zone offset ++ cause_text (log_refusal cause)
mount_text (mount.TornZone zone) = zone_text (mount_refusal (mount.TornZone zone)) zone
mount_text fault = refusal_text (codes "mount") (mount_refusal fault)

abbrev pub line_text : List ℕ → ℕ → List ℕ
line_text kind number = codes "fault " ++ kind ++ codes " " ++ decimal number ++ codes "\n"

abbrev pub run_fault_text : RunFault → List ℕ
run_fault_text (Line number) = line_text (codes "line") number
run_fault_text (Long number) = line_text (codes "long") number
run_fault_text (Disk fault) = refusal_text (codes "disk") (disk_refusal fault)
run_fault_text (Mount fault) = mount_text fault
run_fault_text (Geometry fault) = refusal_text (codes "geometry") (geometry_refusal fault)
run_fault_text Input = codes "fault input\n"
run_fault_text Output = codes "fault output\n"
run_fault_text Memory = codes "fault memory\n"

-- why the line of a fault was not written: there was no memory for it, or the writer failed within it
abbrev pub NotWritten : Option (List ℕ) → Option (List ℕ) → List ℕ → RunFault → Type 0
NotWritten old new text Output = AppendsFront old new text
NotWritten old new text Memory = Keeps old new
NotWritten old new text (Line number) = ⊥
NotWritten old new text (Long number) = ⊥
NotWritten old new text (Disk fault) = ⊥
NotWritten old new text (Mount fault) = ⊥
NotWritten old new text (Geometry fault) = ⊥
NotWritten old new text Input = ⊥
