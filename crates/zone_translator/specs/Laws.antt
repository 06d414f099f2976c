-- What holds of the flat disk, and of a disk whose drive stops.
use Rattle.std.specs.Prelude.{◌≡◌, ◌⊎◌, ℕ, ◌+◌, ◌<◌, ◌≤◌, List, [], ◌∷◌, Contains, IsPermutation, length, map, nat_eq, slice_index_or, IfErr, Ok, Err, Result}
use Rattle.std.specs.List.{IsDistinct, concat}
use Rattle.zone_states.specs.Zone.{Zone}
use Rattle.drive_port.specs.Drive.{DriveState}
use Rattle.drive_port.specs.Run.{restarted, restarted_zone}
use Rattle.drive_survey.specs.Scan.{IsInterruption}
use Rattle.drive_survey.specs.declared.fault.MountFault.{MountFault}
use Rattle.remount.specs.Mount.{IsToMount}
use Rattle.zone_translator.specs.Answers.{Answers, AnswersRead, HardensBy, IsMounted, Remounts}
use Rattle.zone_translator.specs.Flat.{Answer, Call, FlatCall, FlatDisk, FlatRemount, Put, flush, read, replaced, with_nothing, write, write_list}
use Rattle.zone_translator.specs.Mount.{GivesBack, MountsDisk}
use Rattle.zone_translator.specs.View.{DiskCause, DiskView, KeepsDisk, disk_array, flat_of, given_size}
use Rattle.zone_translator.specs.declared.fault.DiskFault.{DiskFault}

-- ---- the flat disk

-- blocks that are written to this disk and then read are those that were written
abbrev pub WrittenReadsBack : FlatDisk → Type 0
WrittenReadsBack old =
    (middle new : FlatDisk) (first : ℕ) (blocks shown : List (List ℕ)) → FlatCall old (write first blocks) (with_nothing (Ok tt)) middle
    → FlatCall middle (read first (length blocks)) (record { result = Ok tt; shown = shown }) new → shown ≡ blocks

-- a write changes no other block
abbrev pub WriteKeepsOthers : Type 0
WriteKeepsOthers =
    (array blocks : List (List ℕ)) (first block : ℕ) → (block < first) ⊎ (first + length blocks ≤ block)
    → slice_index_or (replaced array first blocks) block [] ≡ slice_index_or array block []

-- ---- a stop, a restart, and a mount

-- the drive below can be mounted, with as many logical blocks as the disk was given
abbrev pub CanMountAgain : DiskView → Type 0
CanMountAgain disk = IsToMount disk.drive (given_size disk)

-- so it is once a disk is mounted, after each call, and after each remount, whatever they answer
abbrev pub MountedCan : Type 0
MountedCan = (old : DriveState) (n : ℕ) (disk : DiskView) → IsMounted old n disk → CanMountAgain disk

abbrev pub CalledCan : Type 0
CalledCan = (old new : DiskView) → CanMountAgain old → KeepsDisk old new → CanMountAgain new

abbrev pub RemountedCan : Type 0
RemountedCan = (old new : DiskView) (result : Result (Unit {0}) MountFault) → CanMountAgain old → Remounts old result new → CanMountAgain new

-- Then the drive, stopped or not, is restarted. It can be mounted, and each disk that is mounted on it has the array that was
-- left. Only a stop or a failed allocation refuses that mount.
pub record FindsAgain (left : DiskView) : Type 0 where
  pub can : IsToMount (restarted left.drive) (given_size left)
  pub found : (again : DiskView) → MountsDisk (restarted left.drive) (given_size left) again → disk_array again ≡ disk_array left
  pub halts : (fault : MountFault) (back : DriveState) → GivesBack (restarted left.drive) (given_size left) fault back → IsInterruption back fault

abbrev pub LeftIsFound : Type 0
LeftIsFound = (left : DiskView) → CanMountAgain left → FindsAgain left

-- ---- lists of calls

-- a call with its answer, or a remount with its result
pub data Step : Type 0 where
  call : Call → Answer → Step
  remount : Result (Unit {0}) MountFault → Step

-- a flat disk is called with this answer, or mounted again with this result
abbrev pub FlatStep : FlatDisk → Step → FlatDisk → Type 0
FlatStep old (call asked answer) new = FlatCall old asked answer new
FlatStep old (remount result) new = FlatRemount old result new

-- what of the drive a call keeps, and makes durable, which is refused only for a cause; and what a remount keeps
abbrev pub KeepsByStep : DiskView → Step → DiskView → Type 0
KeepsByStep old (call asked answer) new = KeepsDisk old new × HardensBy old asked answer.result new × IfErr answer.result (DiskCause new)
KeepsByStep old (remount result) new = Remounts old result new

-- a disk is called, or mounted again
pub record Steps (old : DiskView) (step : Step) (new : DiskView) : Type 0 where
  pub flat : FlatStep (flat_of old) step (flat_of new)
  pub keeps : KeepsByStep old step new

-- the steps follow one another
abbrev pub AllSteps : {S : Type 0} → (S → Step → S → Type 0) → S → List Step → S → Type 0
AllSteps Takes old [] new = new ≡ old
AllSteps {S} Takes old (step ∷ steps) new = (middle : S) × Takes old step middle × AllSteps Takes middle steps new

-- a block is written by a call of its own, which is done
abbrev pub written_alone : Put → Step
written_alone put = call (write put.block (put.content ∷ [])) (with_nothing (Ok tt))

-- A list that is done leaves the disk that its blocks leave where each is written by a call of its own, in any order.
abbrev pub ListIsItsWrites : Type 0
ListIsItsWrites =
    (old new last : FlatDisk) (puts order : List Put) → IsDistinct nat_eq (map (λ (p : Put). p.block) puts) → IsPermutation puts order
    → FlatCall old (write_list puts) (with_nothing (Ok tt)) new → AllSteps FlatStep old (map written_alone order) last → new ≡ last

-- each call of a disk is a step: a read with the blocks that it showed, any other call with nothing shown, and a remount
pub record CallsAreSteps : Type 0 where
  pub calls : (old new : DiskView) (asked : Call) (result : Result (Unit {0}) DiskFault)
      → Answers old asked result new → Steps old (call asked (with_nothing result)) new
  pub reads : (old new : DiskView) (first n : ℕ) (result : Result (Unit {0}) DiskFault) (bytes : List ℕ) → AnswersRead old first n result bytes new
      → (shown : List (List ℕ)) × (bytes ≡ concat shown) × Steps old (call (read first n) (record { result = result; shown = shown })) new
  pub remounts : (old new : DiskView) (result : Result (Unit {0}) MountFault) → Remounts old result new → Steps old (remount result) new

-- Whatever steps a disk took since the mount of this drive: each answer was a flat disk's, and no command was refused. The drive that is left,
-- once restarted, is mounted again with the array that the last step left.
pub record ListLeaves (old : DriveState) (first : DiskView) (steps : List Step) (last : DiskView) : Type 0 where
  pub flat : AllSteps FlatStep (flat_of first) steps (flat_of last)
  pub refused : last.drive.refused ≡ old.refused
  pub found : FindsAgain last

abbrev pub ListIsFound : Type 0
ListIsFound =
    (old : DriveState) (n : ℕ) (first last : DiskView) (steps : List Step) → IsMounted old n first → AllSteps Steps first steps last → ListLeaves old first steps last

-- ---- a loss of power

-- A loss of power leaves these zones: those of the disk's drive, on which a mount finds the disk's array.
pub record LeavesDisk (disk : DiskView) (zones : List Zone) : Type 0 where
  pub zones_are : zones ≡ map restarted_zone disk.drive.zones
  pub found : FindsAgain disk

-- What it leaves after a flush of a disk: the disk, if the flush was done; if it was refused, the disk or what it might
-- have left before.
abbrev pub LeftAfter : (List Zone → Type 0) → Result (Unit {0}) DiskFault → DiskView → List Zone → Type 0
LeftAfter Before (Ok done) disk zones = LeavesDisk disk zones
LeftAfter Before (Err fault) disk zones = Before zones ⊎ LeavesDisk disk zones

-- What it leaves after a list of steps: the disk of the last flush that was done, or that of a flush after it that was
-- refused. Where no flush was done it may also leave what it might have left before the first step.
abbrev pub LossLeaves : (List Zone → Type 0) → (first : DiskView) → (steps : List Step) → (last : DiskView) → AllSteps Steps first steps last → List Zone → Type 0
LossLeaves Before first [] last all zones = Before zones
LossLeaves Before first (call flush answer ∷ steps) last all zones = LossLeaves (LeftAfter Before answer.result all.0) all.0 steps last all.2 zones
LossLeaves Before first (step ∷ steps) last all zones = LossLeaves Before all.0 steps last all.2 zones

abbrev pub LossIsFound : Type 0
LossIsFound =
    (old : DriveState) (n : ℕ) (first last : DiskView) (steps : List Step) → IsMounted old n first → (all : AllSteps Steps first steps last)
    → (zones : List Zone) → Contains last.drive.durable zones → LossLeaves (Contains old.durable) first steps last all zones
