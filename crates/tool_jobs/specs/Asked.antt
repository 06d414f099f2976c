-- What the job of a tool asks for, and what it tells.
use Rattle.std.specs.Prelude.{◌≡◌, ℕ, Bool, true, List, Option, Some, None, Result, Ok, Err, string_bytes, ⊤}
use Rattle.tool_forms.specs.Entries.{IsEntryOf}
use Rattle.write_plan.specs.Drives.{IsDriveFor}
use Rattle.tool_jobs.specs.Checks.{AsksNone, FindsFaults, FindsMountable}
use Rattle.tool_jobs.specs.Entries.{HasNoEntry, lines_with}
use Rattle.tool_jobs.specs.Infos.{FindsInfo}
use Rattle.tool_jobs.specs.Pictures.{DrawsNone, FindsPicture}
use Rattle.tool_jobs.specs.Plans.{HasNoDriveFor, HasNoPlan, IsPlanFor}
use Rattle.tool_jobs.specs.Telling.{Bytes, HoldsNone, TellsFound, TellsNothing}
use Rattle.tool_jobs.specs.Zones.{IsSavedDrive, ShowsZones}
use Rattle.tool_jobs.specs.declared.fault.ToolFault.{ToolFault}
use Rattle.tool_jobs.specs.declared.job.PlannedDrive.{PlannedDrive}
use Rattle.tool_jobs.specs.declared.job.PlannedDrive.TheVariants.{Shape, Image}
use Rattle.tool_jobs.specs.declared.job.ToolJob.{ToolJob}
use Rattle.tool_jobs.specs.declared.job.ToolJob.TheVariants.{Check, Info, Plan, Format, Zones, Entry}
use Rattle.tool_jobs.specs.declared.showing.ZonesForm.{ZonesForm}
use Rattle.tool_jobs.specs.declared.showing.ZonesForm.TheVariants.{Svg}

-- ---- the file

-- the path of the file that has the drive of a plan
abbrev pub drive_image : PlannedDrive → Option (List ℕ)
drive_image (Image path) = Some (string_bytes path)
drive_image (Shape geometry) = None

-- the path of the file that a job reads
abbrev pub image_asked : ToolJob → Option (List ℕ)
image_asked (Check job) = Some (string_bytes job.image)
image_asked (Info job) = Some (string_bytes job.image)
image_asked (Zones job) = Some (string_bytes job.image)
image_asked (Plan job) = drive_image job.drive
image_asked job = None

-- ---- what is told

-- of a text nothing is said
abbrev pub any_text : {A : Type 0} → A → List ℕ → Type 0
any_text shown text = ⊤

-- zones are told as a picture of the drive in the file, or in another form of it
abbrev pub TellsZones : ZonesForm → Bytes → Bytes → Bytes → Type 0
TellsZones Svg file old new = TellsFound (FindsPicture file) any_text old new
TellsZones form file old new = TellsFound (IsSavedDrive file) (ShowsZones form) old new

abbrev pub TellsNoZones : ZonesForm → Bytes → ToolFault → Bytes → Bytes → Type 0
TellsNoZones Svg file fault old new = TellsNothing (DrawsNone file) (FindsPicture file) any_text fault old new
TellsNoZones form file fault old new = TellsNothing (HoldsNone file) (IsSavedDrive file) (ShowsZones form) fault old new

-- A job tells what it asks for, of the bytes of its file; and whether all is well, which only a check may deny.
abbrev pub TellsJob : ToolJob → Bytes → Bool → Bytes → Bytes → Type 0
TellsJob (Check job) file well old new = TellsFound (FindsMountable file job.blocks well) any_text old new
TellsJob (Info job) file well old new = (well ≡ true) × TellsFound (FindsInfo file) any_text old new
TellsJob (Plan job) file well old new = (well ≡ true) × TellsFound (IsPlanFor job.drive job.aim file) any_text old new
TellsJob (Format bytes) file well old new = (well ≡ true) × TellsFound (IsDriveFor bytes) any_text old new
TellsJob (Zones job) file well old new = (well ≡ true) × TellsZones job.form file old new
TellsJob (Entry words) file well old new = (well ≡ true) × TellsFound (IsEntryOf words) (lines_with words.beside.items) old new

-- why a job tells nothing, or no text to its end
abbrev pub TellsNoJob : ToolJob → Bytes → ToolFault → Bytes → Bytes → Type 0
TellsNoJob (Check job) file fault old new = TellsNothing (AsksNone file) (FindsFaults file job.blocks) any_text fault old new
TellsNoJob (Info job) file fault old new = TellsNothing (AsksNone file) (FindsInfo file) any_text fault old new
TellsNoJob (Plan job) file fault old new = TellsNothing (HasNoPlan job.drive job.aim file) (IsPlanFor job.drive job.aim file) any_text fault old new
TellsNoJob (Format bytes) file fault old new = TellsNothing (HasNoDriveFor bytes) (IsDriveFor bytes) any_text fault old new
TellsNoJob (Zones job) file fault old new = TellsNoZones job.form file fault old new
TellsNoJob (Entry words) file fault old new = TellsNothing (HasNoEntry words) (IsEntryOf words) (lines_with words.beside.items) fault old new

-- a job that is done is one of which all is well
abbrev pub all_well : Result (Unit {0}) ToolFault → Result Bool ToolFault
all_well (Ok done) = Ok true
all_well (Err fault) = Err fault
