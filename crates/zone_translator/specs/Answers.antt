-- What the calls of a disk promise.
use Rattle.std.specs.Prelude.{◌≡◌, ◌⊎◌, ℕ, ◌+◌, ◌-◌, ◌*◌, ◌<◌, ◌≤◌, Bool, true, false, List, length, IsTrue}
use Rattle.std.specs.Prelude.{slice_index_or, Some, None, IfErr, IfSome, OnOk, OnErr, Result, Ok, Err}
use Rattle.logical_map.specs.declared.place.Place.{Place}
use Rattle.logical_map.specs.declared.place.Place.TheVariants as places
use Rattle.batch_log.specs.declared.header.Entry.{Entry}
use Rattle.drive_survey.specs.declared.fault.MountFault.{MountFault}
use Rattle.remount.specs.Kept.{KeepsMountable}
use Rattle.drive_survey.specs.Scan.{IsInterruption}
use Rattle.zone_states.specs.Geometry.{IsInRange}
use Rattle.drive_port.specs.Calls.{block_count, data_blocks}
use Rattle.drive_port.specs.Drive.{DriveState}
use Rattle.drive_port.specs.Durable.{IsDurable, MayBeDurable}
use Rattle.zone_choice.specs.Changes.{sequence_end}
use Rattle.drive_array.specs.Mountable.{IsMountable}
use Rattle.drive_array.specs.Reserve.{FitsReserve}
use Rattle.zone_cleaner.specs.Clean.{CleanView}
use Rattle.zone_cleaner.specs.Start.{TurnsFewer}
use Rattle.zone_cleaner.specs.Clean.{trims}
use Rattle.zone_translator.specs.declared.fault.DiskFault.{DiskFault}
use Rattle.zone_translator.specs.declared.fault.DiskFault.TheVariants.{Stopped}
use Rattle.zone_translator.specs.declared.status.DiskStatus.TheVariants as statuses
use Rattle.zone_translator.specs.declared.write.Content.{Content}
use Rattle.zone_translator.specs.Batches.{LogsAreCut, blocks_of}
use Rattle.zone_translator.specs.Calls.{IsTurn, Reads, is_known}
use Rattle.zone_translator.specs.Changes.{Names, batch_commands}
use Rattle.zone_translator.specs.Cleaning.{AreNewer, log_in_zone}
use Rattle.zone_translator.specs.Flat.{Call, FlatCall, FlatRemount, flush, read, with_nothing, write, write_list}
use Rattle.zone_translator.specs.Listed.{NamesAll, last_block, list_puts}
use Rattle.zone_translator.specs.Mount.{MountsDisk}
use Rattle.zone_translator.specs.View.{CostsBatches, DiskCause, DiskView, KeepsDisk, disk_size, disk_turns, flat_of, given_size}
use Rattle.zone_translator.specs.View.{logs_of, mounted_of, most_batches, next_sequence, disk_places, size_on}

-- ---- what is asked, and what it takes

-- a write of this content, of n blocks
abbrev pub write_content : DiskView → ℕ → ℕ → Content → Call
write_content disk first n content = write first (blocks_of disk.drive.geometry.block n content)

-- a write of these bytes, which are whole blocks
abbrev pub write_bytes : DiskView → ℕ → List ℕ → Call
write_bytes disk first bytes = write first (data_blocks disk.drive.geometry bytes)

-- a write of the blocks that these entries name, with these data for those that are not trimmed
abbrev pub write_entries : DiskView → List Entry → List ℕ → Call
write_entries disk entries bytes = write_list (list_puts disk entries bytes)

-- how many blocks these bytes are
abbrev pub count_of_blocks : DiskView → List ℕ → ℕ
count_of_blocks disk bytes = block_count disk.drive.geometry bytes

-- the bytes are whole blocks
abbrev pub AreBlocksOf : DiskView → List ℕ → Type 0
AreBlocksOf disk bytes = length bytes ≡ count_of_blocks disk bytes * disk.drive.geometry.block

-- at most how many commands a write of n blocks takes, while none fails
abbrev pub write_commands : Bool → DiskView → ℕ → ℕ
write_commands trim disk n = most_batches trim disk n * batch_commands disk.drive.geometry

-- at most how many commands a list of so many entries takes, while none fails
abbrev pub list_commands : DiskView → ℕ → ℕ
list_commands disk n = n * batch_commands disk.drive.geometry

-- ---- every call

-- What is durable of the drive after a call. A flush that is done made durable what the drive holds; one that was
-- refused may have done so. No other call changes what is durable.
abbrev pub HardensBy : DiskView → Call → Result (Unit {0}) DiskFault → DiskView → Type 0
HardensBy old flush (Ok done) new = IsDurable new.drive
HardensBy old flush (Err fault) new = MayBeDurable old.drive new.drive
HardensBy old call result new = new.drive.durable ≡ old.drive.durable

-- The answer is a flat array's, and so is the array afterwards. An answer that is known before anything is done
-- changes nothing. Whatever the answer, the drive can be mounted again, and a refusal has its cause.
pub record Answers (old : DiskView) (call : Call) (result : Result (Unit {0}) DiskFault) (new : DiskView) : Type 0 where
  pub flat : FlatCall (flat_of old) call (with_nothing result) (flat_of new)
  pub untouched : is_known (flat_of old) call ≡ true → new ≡ old
  pub kept : KeepsDisk old new
  pub durable : HardensBy old call result new
  pub cause : IfErr result (DiskCause new)

-- ---- reads

-- one of n blocks from a given one on has data on the drive, by its newest record
abbrev pub HasData : List Place → ℕ → ℕ → Type 0
HasData all first n = (block : ℕ) × (first ≤ block) × (block < first + n) × (trims (slice_index_or all block places.None) ≡ Some false)

-- The same of a read of n blocks, whose bytes are shown. The drive is asked for blocks with data only: a disk that
-- serves finds that its drive has stopped only where one of the blocks has data.
pub record AnswersRead (old : DiskView) (first n : ℕ) (result : Result (Unit {0}) DiskFault) (bytes : List ℕ) (new : DiskView) : Type 0 where
  pub flat : Reads (flat_of old) first n result bytes (flat_of new)
  pub untouched : is_known (flat_of old) (read first n) ≡ true → new ≡ old
  pub kept : KeepsDisk old new
  pub durable : new.drive.durable ≡ old.drive.durable
  pub cause : IfErr result (DiskCause new)
  pub stops : old.status ≡ statuses.Serving → result ≡ Err Stopped → HasData (disk_places old) first n

-- ---- writes

-- Once n blocks from a given one on are written, their newest records say that they have data or, of a trim, that they
-- have none; those of all other blocks say what they said. The newest header has the disk's size, and the sequences kept
-- for repairs are left. Each batch is as long as it can be, also where the write was refused midway.
pub record Stores (trim : Bool) (old : DiskView) (first n : ℕ) (result : Result (Unit {0}) DiskFault) (new : DiskView) : Type 0 where
  pub names : OnOk result (Names trim (disk_places old) first n (disk_places new))
  pub says : OnOk result (1 ≤ n → size_on new ≡ Some (disk_size new))
  pub early : OnOk result (1 ≤ n → next_sequence new ≤ sequence_end old.drive.geometry)
  pub cut : LogsAreCut old.drive.geometry (logs_of old) (first + n - 1) (logs_of new)

-- The same of a list of entries: the newest record of each of their blocks says what its entry says. Its last block is
-- that of its last entry.
pub record StoresList (old : DiskView) (entries : List Entry) (result : Result (Unit {0}) DiskFault) (new : DiskView) : Type 0 where
  pub names : OnOk result (NamesAll entries (disk_places old) (disk_places new))
  pub says : OnOk result (1 ≤ length entries → size_on new ≡ Some (disk_size new))
  pub early : OnOk result (1 ≤ length entries → next_sequence new ≤ sequence_end old.drive.geometry)
  pub cut : LogsAreCut old.drive.geometry (logs_of old) (last_block entries) (logs_of new)

-- a clean still runs, of the same zone, and has as many turns left as before, or fewer
pub record RunsOn (clean : CleanView) (old new : DiskView) : Type 0 where
  pub same : CleanView
  pub runs : new.clean ≡ Some same
  pub victim : same.victim ≡ clean.victim
  pub turns : disk_turns new ≤ disk_turns old

-- The clean that ran before a call is not thrown back: it still runs, or it has ended in the call, and its victim was
-- emptied, in which only batches of the call are. Another clean may run then.
abbrev pub ThrowsNone : DiskView → DiskView → Type 0
ThrowsNone old new = IfSome old.clean (λ clean. RunsOn clean old new ⊎ AreNewer (next_sequence old) (log_in_zone new.drive clean.victim))

-- So it is while no command fails. Else the clean may be given up.
abbrev pub KeepsClean : DiskView → DiskView → Type 0
KeepsClean old new = IsTrue new.drive.unfailing → ThrowsNone old new

-- What a write costs, whatever it answers: the commands of so many batches at most. One that is done adds no turns of a
-- clean, and one after which the disk serves throws none back that runs.
pub record CostsAtMost (old : DiskView) (batches : ℕ) (result : Result (Unit {0}) DiskFault) (new : DiskView) : Type 0 where
  pub turns : OnOk result (disk_turns new ≤ disk_turns old)
  pub clean : new.status ≡ statuses.Serving → KeepsClean old new
  pub completed : CostsBatches old batches new

-- once a growth is done, a header that was written says the size, and the sequences kept for repairs are left
pub record SaysSize (old : DiskView) (size : ℕ) (new : DiskView) : Type 0 where
  pub says : size_on new ≡ Some size
  pub written : old.drive.appended < new.drive.appended
  pub early : next_sequence new ≤ sequence_end old.drive.geometry

-- ---- turns

-- A disk that serves takes a turn; once it is done a clean that ran has fewer left. A refused turn takes none.
pub record TakesTurn (old : DiskView) (result : Result (Unit {0}) DiskFault) (new : DiskView) : Type 0 where
  pub turn : old.status ≡ statuses.Serving → IsTurn old result new
  pub turns : old.status ≡ statuses.Serving → OnOk result (TurnsFewer (mounted_of old) (mounted_of new) old.clean new.clean)
  pub refused : OnErr result (disk_turns new ≡ disk_turns old)

-- ---- mounts

-- a drive was mounted: what the disk is, whose geometry and size the reserve allows; it can be mounted again
pub record IsMounted (old : DriveState) (n : ℕ) (disk : DiskView) : Type 0 where
  pub mounts : MountsDisk old n disk
  pub range : IsInRange disk.drive.geometry
  pub fits : FitsReserve disk.drive.geometry (disk_size disk)
  pub kept : KeepsMountable n old disk.drive
  pub mountable : IsMountable disk.drive (given_size disk)

-- A disk was mounted again, or that was refused by a failed allocation or a stop. The array stays, the drive can be
-- mounted again, and no clean runs.
pub record Remounts (old : DiskView) (result : Result (Unit {0}) MountFault) (new : DiskView) : Type 0 where
  pub flat : FlatRemount (flat_of old) result (flat_of new)
  pub mounts : OnOk result (MountsDisk old.drive (given_size old) new)
  pub cause : IfErr result (IsInterruption new.drive)
  pub kept : KeepsMountable (given_size old) old.drive new.drive
  pub given : given_size new ≡ given_size old
  pub mountable : IsMountable new.drive (given_size new)
  pub clean : new.clean ≡ None
