-- The jobs whose drive is in a file, or behind a device.
use Rattle.std.specs.Prelude.{◌≡◌, ◌&&◌, ℕ, true, false, List, [], ◌∷◌, Option, Some, None, codes, min, not, option_map, string_bytes}
use Rattle.clap.specs.Words.{Row, Text, first_of}
use Rattle.disk_copies.specs.declared.job.CopyJob.{CopyJob}
use Rattle.disk_copies.specs.declared.job.CopyJob.TheVariants as copies
use Rattle.device_jobs.specs.declared.job.ConvertJob.{ConvertJob}
use Rattle.nbd_jobs.specs.declared.job.Fail.{Fail}
use Rattle.nbd_jobs.specs.declared.job.Forget.{Forget}
use Rattle.nbd_jobs.specs.declared.job.NbdJob.{NbdJob}
use Rattle.repair_jobs.specs.declared.job.RepairJob.{RepairJob}
use Rattle.rescue_jobs.specs.declared.job.RescueJob.{RescueJob}
use Rattle.asked_tasks.specs.declared.place.Place.{Place}
use Rattle.asked_tasks.specs.Values.{HasDrive, HasFlag, HasHabit, HasImage, HasNumber, HasNumberIf, HasNumberOr, HasStop, HasTextIf, is_missing, is_set, lacks_all}

-- How a disk forgets that is not read only. More than 100 of 100 blocks are not lost.
pub record HasForgetting (rows : List Row) (forget : Forget) : Type 0 where
  pub written : is_set rows (codes "read-only") ≡ false
  pub seed : HasNumber 64 rows (codes "forget") forget.seed
  pub odds : (n : ℕ) × HasNumberOr 50 rows (codes "odds") n × (forget.odds ≡ min n 100)
  pub cut_after : HasNumberIf rows (codes "cut-after") forget.cut_after

-- whether a disk forgets: not, if none of these options was given
abbrev pub HasForget : List Row → Option Forget → Type 0
HasForget rows (Some forget) = HasForgetting rows forget
HasForget rows None = lacks_all rows (codes "forget" ∷ codes "odds" ∷ codes "cut-after" ∷ []) ≡ true

-- By which chance a medium fails. More than 100 of 100 requests do not.
pub record HasFailing (rows : List Row) (fail : Fail) : Type 0 where
  pub seed : HasNumber 64 rows (codes "fail") fail.seed
  pub odds : (n : ℕ) × HasNumber 64 rows (codes "fail-odds") n × (fail.odds ≡ min n 100)

-- whether a medium fails: not, if neither of these options was given
abbrev pub HasFail : List Row → Option Fail → Type 0
HasFail rows (Some fail) = HasFailing rows fail
HasFail rows None = lacks_all rows (codes "fail" ∷ codes "fail-odds" ∷ []) ≡ true

pub record AsksForNbd (place : Place) (rows : List Row) (job : NbdJob) : Type 0 where
  pub path : HasDrive place rows (string_bytes job.image)
  pub blocks : HasNumberIf rows (codes "blocks") job.blocks
  pub stop : HasStop rows job.stop
  pub forget : HasForget rows job.forget
  pub fail : HasFail rows job.fail
  pub habit : HasHabit rows job.habit
  pub statistics : HasFlag rows (codes "statistics") job.statistics
  pub idle : HasFlag rows (codes "idle") job.idle
  pub read_only : HasFlag rows (codes "read-only") job.read_only
  -- a drive that is only read takes no turn of cleaning
  pub rests : (is_set rows (codes "idle") && is_set rows (codes "read-only")) ≡ false

-- what a copy of blocks holds is what its options were given
abbrev pub AsksForCopy : Place → Text → List Row → CopyJob → Type 0
AsksForCopy place name rows (copies.Export job) =
    (name ≡ codes "export") × HasDrive place rows (string_bytes job.image) × HasNumberOr 0 rows (codes "first") job.first
    × HasNumberIf rows (codes "count") job.count × HasFlag rows (codes "progress") job.progress
AsksForCopy place name rows (copies.Import job) =
    (name ≡ codes "import") × HasDrive place rows (string_bytes job.image) × HasNumberIf rows (codes "blocks") job.blocks
    × HasNumberOr 0 rows (codes "first") job.first × HasFlag rows (codes "sparse") job.sparse × HasFlag rows (codes "progress") job.progress

-- what a rescue holds is what its options were given
pub record AsksForRescue (place : Place) (rows : List Row) (job : RescueJob) : Type 0 where
  pub path : HasDrive place rows (string_bytes job.image)
  pub blocks : HasNumberIf rows (codes "blocks") job.blocks
  pub to_is : HasTextIf rows (codes "to") (option_map string_bytes job.to)
  pub json : HasTextIf rows (codes "json") (option_map string_bytes job.json)
  pub progress : HasFlag rows (codes "progress") job.progress
  -- it is not shown how far it is with a new drive
  pub shown : (is_set rows (codes "progress") && not (is_missing rows (codes "to"))) ≡ false

-- a repair changes the drive only if that is forced
pub record AsksForRepair (place : Place) (rows : List Row) (job : RepairJob) : Type 0 where
  pub path : HasDrive place rows (string_bytes job.image)
  pub forced : HasFlag rows (codes "force") job.force

-- A drive is put into another file, whose path is given too.
pub record AsksForConvert (rows : List Row) (job : ConvertJob) : Type 0 where
  pub image : HasImage rows (string_bytes job.image)
  pub to_is : first_of (codes "to") rows ≡ Some (string_bytes job.to)
