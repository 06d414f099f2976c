-- Whether zones can be mounted, put together from its clauses.
use Rattle.std.proofs.Common.{◌≡◌, ℕ, ◌≤◌, ◌^◌, Bool, true, List, [], ◌∷◌, Vec}
use Rattle.std.specs.declared.alloc.Global.{Global}
use Rattle.std.specs.List.{AllByRecursion, count_by}
use Rattle.zone_states.specs.declared.geometry.Geometry.{Geometry}
use Rattle.zone_states.proofs.ListLaws.{all-map, all-unmap}
use Rattle.drive_port.specs.Contents.{Content, is_usable}
use Rattle.batch_log.specs.Log.{Batch}
use Rattle.yardsticks.specs.declared.batches.Batch as yardstick
use Rattle.yardsticks.specs.Batches.{batch_of}
use Rattle.yardsticks.specs.declared.logs.ZoneImage.{ZoneImage}
use Rattle.drive_array.specs.Mountable.{AreMountable, IsInside, is_partly_written}
use Rattle.drive_array.specs.Repair.{CanRepair}
use Rattle.drive_array.specs.Sizes.{encoded_size}
use Rattle.drive_array.proofs.ClearingLaws.{one_clearing}
use Rattle.yardsticks.specs.Zones.{AreOfDisk, AreZoneLogs, HasClearing, image_content, image_contents, held_logs}

-- what holds of each image holds of all contents
pub images-all : (P : Content → Type 0) (images : List ZoneImage) → AllByRecursion (λ image. P (image_content image)) images → AllByRecursion P (image_contents images)
images-all P [] all = tt
images-all P (z ∷ zs) all = (all.0, images-all P zs all.1)

-- and the other way round
pub all-images : (P : Content → Type 0) (images : List ZoneImage) → AllByRecursion P (image_contents images) → AllByRecursion (λ image. P (image_content image)) images
all-images P [] all = tt
all-images P (z ∷ zs) all = (all.0, all-images P zs all.1)

-- batches that are within a size are so as they are held
pub logs-inside : (size : ℕ) (logs : List (Vec yardstick.Batch Global)) → AllByRecursion (λ (log : Vec yardstick.Batch Global). AllByRecursion (λ batch. IsInside size (batch_of batch)) log.items) logs
    → AllByRecursion (AllByRecursion (IsInside size)) (held_logs logs)
logs-inside size [] all = tt
logs-inside size (log ∷ logs) all = (all-map (IsInside size) batch_of log.items all.0, logs-inside size logs all.1)

-- and the other way round
pub inside-logs : (size : ℕ) (logs : List (Vec yardstick.Batch Global)) → AllByRecursion (AllByRecursion (IsInside size)) (held_logs logs)
    → AllByRecursion (λ (log : Vec yardstick.Batch Global). AllByRecursion (λ batch. IsInside size (batch_of batch)) log.items) logs
inside-logs size [] all = tt
inside-logs size (log ∷ logs) all = (all-unmap (IsInside size) batch_of log.items all.0, inside-logs size logs all.1)

-- ---- a disk, and its repair

-- the logs of a mountable drive are a disk's
pub disk-logs : (geometry : Geometry) (zones : List Content) (n : ℕ) (logs : List (List Batch)) (tails : List Bool) → AreZoneLogs geometry zones logs tails → AreMountable geometry zones n → AreOfDisk geometry n logs
disk-logs geometry zones n logs tails are mountable = rw are.logs_are (record { sound = mountable.disk.sound; reserve = mountable.disk.reserve; spare = mountable.disk.spare })

-- what is left after its clearing can be repaired
pub repair-left : (geometry : Geometry) (zones : List Content) (n : ℕ) (logs left : List (List Batch)) (tails : List Bool) → AreZoneLogs geometry zones logs tails → HasClearing geometry.block n logs left
    → AreMountable geometry zones n → CanRepair geometry (2 ^ 63) (encoded_size n logs) left tails
repair-left geometry zones n logs left tails are clears mountable =
    rw (clears.left_is, are.tails_are, are.logs_are) (mountable.repair clears.zones (rw are.logs_are at clears.clears))

-- a drive with all of this can be mounted
pub mountable-is : (geometry : Geometry) (zones : List Content) (n : ℕ) (logs left : List (List Batch)) (tails : List Bool) → AreZoneLogs geometry zones logs tails
    → AllByRecursion (λ (zone : Content). is_usable zone.usage ≡ true) zones → count_by is_partly_written zones ≤ 2 → AreOfDisk geometry n logs
    → HasClearing geometry.block n logs left → CanRepair geometry (2 ^ 63) (encoded_size n logs) left tails → AreMountable geometry zones n
mountable-is geometry zones n logs left tails are usable few disk clears can = record {
  disk = record {
    usable = usable;
    few_partial = few;
    logs = are.have;
    sound = rw (← are.logs_are) disk.sound;
    reserve = rw (← are.logs_are) disk.reserve;
    spare = rw (← are.logs_are) disk.spare;
  };
  repair = λ resets is.
      let same : resets ≡ clears.zones = one_clearing geometry.block n logs resets clears.zones (rw are.logs_are is) clears.clears in
      rw (same, ← are.logs_are, ← are.tails_are, ← clears.left_is) can;
}
