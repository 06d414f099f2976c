-- The job on a device that words ask for, and the new drive that stays in its file.
use Rattle.std.specs.Prelude.{◌≡◌, true, false, List, Option, Some, None, codes, string_bytes}
use Rattle.clap.specs.Words.{Row, Text}
use Rattle.nvme_wire.specs.declared.zone_state.ZoneState.{ZoneState}
use Rattle.tool_jobs.specs.declared.showing.ZonesForm.{ZonesForm}
use Rattle.tool_jobs.specs.declared.showing.ZonesForm.TheVariants as zones
use Rattle.device_jobs.specs.declared.job.DeviceJob.{DeviceJob}
use Rattle.device_jobs.specs.declared.job.DeviceJob.TheVariants as jobs
use Rattle.device_jobs.specs.declared.job.DeviceRun.{DeviceRun}
use Rattle.disk_runs.specs.declared.taking.Taking.TheVariants.{All}
use Rattle.asked_tasks.specs.declared.place.Place.TheVariants as places
use Rattle.asked_tasks.specs.DriveWords.{AsksForCopy, AsksForNbd, AsksForRepair, AsksForRescue}
use Rattle.asked_tasks.specs.ToolWords.{AsksForCheck, AsksForInfo, HasZonesForm, part_names}
use Rattle.asked_tasks.specs.Values.{HasDevice, HasFlag, HasGeometry, HasHabit, HasImage, HasNumber, HasStop, is_set, lacks_all}

-- the lines of a report: all, or those of the zones in a state
abbrev pub lines_of : Option ZoneState → Option ZonesForm
lines_of (Some state) = Some (zones.Lines state)
lines_of None = None

pub record AsksForRun (rows : List Row) (job : DeviceRun) : Type 0 where
  pub device : HasDevice rows (string_bytes job.device)
  pub blocks : HasNumber 64 rows (codes "blocks") job.blocks
  pub zones : HasFlag rows (codes "zones") job.zones
  pub statistics : HasFlag rows (codes "statistics") job.statistics
  pub stop : HasStop rows job.stop
  pub habit : HasHabit rows job.habit
  pub takes : job.takes ≡ All
  pub progress : HasFlag rows (codes "progress") job.progress

-- What the job of a subcommand holds is what its options were given. A format has no part of a geometry, and makes no new drive.
abbrev pub AsksForDevice : Text → List Row → DeviceJob → Type 0
AsksForDevice name rows (jobs.Format path force) =
    (name ≡ codes "format") × HasDevice rows (string_bytes path) × (lacks_all rows part_names ≡ true)
    × (is_set rows (codes "in-place") ≡ false) × HasFlag rows (codes "force") force
AsksForDevice name rows (jobs.Create path geometry) = ⊥
AsksForDevice name rows (jobs.Run job) = (name ≡ codes "run") × AsksForRun rows job
AsksForDevice name rows (jobs.Report path state) = (name ≡ codes "report") × HasDevice rows (string_bytes path) × HasZonesForm rows (lines_of state)
AsksForDevice name rows (jobs.Nvme path explain habit sync) =
    (name ≡ codes "nvme") × HasDevice rows (string_bytes path) × HasFlag rows (codes "explain") explain × HasHabit rows habit × (sync ≡ false)
AsksForDevice name rows (jobs.Nbd job) = (name ≡ codes "nbd") × AsksForNbd places.Device rows job
AsksForDevice name rows (jobs.Check job) = (name ≡ codes "check") × AsksForCheck places.Device rows job
AsksForDevice name rows (jobs.Info job) = (name ≡ codes "info") × AsksForInfo places.Device rows job
AsksForDevice name rows (jobs.Zones job) = ⊥
AsksForDevice name rows (jobs.Plan path aim form) = ⊥
AsksForDevice name rows (jobs.Copy job) = AsksForCopy places.Device name rows job
AsksForDevice name rows (jobs.Rescue job) = (name ≡ codes "rescue") × AsksForRescue places.Device rows job
AsksForDevice name rows (jobs.Repair job) = (name ≡ codes "repair") × AsksForRepair places.Device rows job

-- A new drive that stays in its file has the shape that was given, and nothing is replaced by it.
abbrev pub AsksForNew : List Row → DeviceJob → Type 0
AsksForNew rows (jobs.Create path geometry) =
    (is_set rows (codes "in-place") ≡ true) × (is_set rows (codes "force") ≡ false) × HasImage rows (string_bytes path) × HasGeometry rows geometry
AsksForNew rows job = ⊥
