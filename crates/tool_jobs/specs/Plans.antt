-- Plans that a tool makes.
use Rattle.std.specs.Prelude.{◌≡◌, ◌⊎◌, ◌<◌, ℕ, ⊤}
use Rattle.zone_states.specs.declared.geometry.Geometry.{Geometry}
use Rattle.drive_port.specs.Drive.{DriveState}
use Rattle.job_drives.specs.Kept.{IsReadIn}
use Rattle.write_plan.specs.Drives.{most_planned}
use Rattle.write_plan.specs.Rows.{AreAimed, AreRows, IsPlanFault}
use Rattle.write_plan.specs.declared.aims.Aim.{Aim}
use Rattle.write_plan.specs.declared.fault.PlanFault.TheVariants as plans
use Rattle.tool_jobs.specs.Telling.{Bytes, HoldsNone}
use Rattle.tool_jobs.specs.declared.fault.ToolFault.{ToolFault}
use Rattle.tool_jobs.specs.declared.fault.ToolFault.TheVariants as tool
use Rattle.tool_jobs.specs.declared.job.PlannedDrive.{PlannedDrive}
use Rattle.tool_jobs.specs.declared.job.PlannedDrive.TheVariants.{Shape, Image}
use Rattle.tool_jobs.specs.declared.planning.PlanRows.{PlanRows}

-- the shape of the drive that a plan is for: the one that was given, or that of the drive in the file
abbrev pub IsPlannedShape : PlannedDrive → Bytes → Geometry → Type 0
IsPlannedShape (Shape given) file geometry = geometry ≡ given
IsPlannedShape (Image path) file geometry = (saved : DriveState) × IsReadIn file saved × (geometry ≡ saved.geometry)

abbrev pub HasNoShape : PlannedDrive → Bytes → ToolFault → Type 0
HasNoShape (Shape given) file fault = ⊥
HasNoShape (Image path) file fault = HoldsNone file fault

-- a plan of a drive of this shape, with the rows that are asked for
pub record IsPlanOf (geometry : Geometry) (aim : Aim) (plan : PlanRows) : Type 0 where
  pub shape : plan.geometry ≡ geometry
  pub rows : AreRows geometry plan.rows.items
  pub aimed : AreAimed geometry aim plan.rows.items

-- why there is none, unless memory ran out
abbrev pub IsUnplanned : Geometry → Aim → ToolFault → Type 0
IsUnplanned geometry aim (tool.Plan plans.OutOfMemory) = ⊥
IsUnplanned geometry aim (tool.Plan fault) = IsPlanFault geometry aim fault
IsUnplanned geometry aim tool.Memory = ⊤
IsUnplanned geometry aim fault = ⊥

-- a plan for the drive that was given, or for the one in the file
pub record IsPlanFor (drive : PlannedDrive) (aim : Aim) (file : Bytes) (plan : PlanRows) : Type 0 where
  pub geometry : Geometry
  pub shape : IsPlannedShape drive file geometry
  pub is_plan : IsPlanOf geometry aim plan

-- why there is none: there is no drive, or no such plan for it
abbrev pub HasNoPlan : PlannedDrive → Aim → Bytes → ToolFault → Type 0
HasNoPlan drive aim file fault =
    HasNoShape drive file fault ⊎ ((geometry : Geometry) × IsPlannedShape drive file geometry × IsUnplanned geometry aim fault)

-- no drive is planned for this number of bytes
abbrev pub HasNoDriveFor : ℕ → ToolFault → Type 0
HasNoDriveFor bytes fault = (fault ≡ tool.Bytes) × (most_planned < bytes)
