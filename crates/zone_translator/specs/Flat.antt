-- The flat disk: an array of blocks, and what a conventional disk that can grow answers to a call.
use Rattle.std.specs.Prelude.{◌≡◌, ◌⊎◌, ℕ, zero, suc, ◌+◌, ◌≤◌, ◌==◌, nat_lt, if◌then◌else◌, Bool, true, false, List, []}
use Rattle.std.specs.Prelude.{◌∷◌, length, map, replicate, slice_set, take, drop, MatchOption, Option, Some, None, Result, Ok, Err}
use Rattle.std.specs.List.{list_all}
use Rattle.batch_log.specs.Log.{zero_block}
use Rattle.drive_array.specs.Sizes.{extended}
use Rattle.drive_survey.specs.declared.fault.MountFault.{MountFault}
use Rattle.drive_survey.specs.declared.fault.MountFault.TheVariants as mount
use Rattle.zone_translator.specs.declared.fault.DiskFault.{DiskFault}
use Rattle.zone_translator.specs.declared.fault.DiskFault.TheVariants.{OutOfRange, OutOfMemory, Stopped, Spent, Unmounted, Smaller, Reserve, Damaged, Failed}
use Rattle.zone_translator.specs.declared.status.DiskStatus.{DiskStatus}
use Rattle.zone_translator.specs.declared.status.DiskStatus.TheVariants as statuses

-- ---- arrays

-- a list in which the elements from a place on are these, as far as the list goes
abbrev pub replaced : {X : Type 0} → List X → ℕ → List X → List X
replaced [] first ys = []
replaced (x ∷ xs) (suc first) ys = x ∷ replaced xs first ys
replaced (x ∷ xs) zero [] = x ∷ xs
replaced (x ∷ xs) zero (y ∷ ys) = y ∷ replaced xs zero ys

-- n blocks from the block `first` on
abbrev pub blocks_from : List (List ℕ) → ℕ → ℕ → List (List ℕ)
blocks_from array first n = take n (drop first array)

-- a front of a write: only its first blocks are written, none and all of them included
pub record IsFront (old : List (List ℕ)) (first : ℕ) (blocks : List (List ℕ)) (new : List (List ℕ)) : Type 0 where
  pub done : ℕ
  pub within : done ≤ length blocks
  pub written : new ≡ replaced old first (take done blocks)

-- one block that is written, and its new content
pub record Put : Type 0 where
  pub block : ℕ
  pub content : List ℕ

-- an array in which these blocks are written, one after the other
abbrev pub put_all : List (List ℕ) → List Put → List (List ℕ)
put_all array [] = array
put_all array (p ∷ ps) = put_all (slice_set array p.block p.content) ps

-- a front of a list of blocks: only the first of them are written, none and all of them included
pub record IsListFront (old : List (List ℕ)) (puts : List Put) (new : List (List ℕ)) : Type 0 where
  pub done : ℕ
  pub within : done ≤ length puts
  pub written : new ≡ put_all old (take done puts)

-- ---- the disk

-- An array, and whether the disk serves it, has answered `Stopped`, or has refused a remount. The size is the number
-- of blocks that may be named: it is that of the array while the disk serves. `block` is how many bytes a block has,
-- `most` the greatest size that the drive's reserve allows.
pub record FlatDisk : Type 0 where
  pub array : List (List ℕ)
  pub size : ℕ
  pub status : DiskStatus
  pub block : ℕ
  pub most : ℕ

-- ---- calls

-- what a host asks of a disk: to show n blocks from a given one on, to write these blocks from a given one on, to write
-- the blocks of a list, to have that many blocks, to make its array durable, to clean for one turn, or to report the
-- drive's zones
pub data Call : Type 0 where
  read : ℕ → ℕ → Call
  write : ℕ → List (List ℕ) → Call
  write_list : List Put → Call
  grow : ℕ → Call
  flush : Call
  idle : Call
  report : Call

-- a fill of n blocks writes blocks of one byte
abbrev pub fill : ℕ → ℕ → ℕ → ℕ → Call
fill block_bytes first n byte = write first (replicate n (replicate block_bytes byte))

-- a trim of n blocks makes them zeros
abbrev pub trim : ℕ → ℕ → ℕ → Call
trim block_bytes first n = write first (replicate n (zero_block block_bytes))

-- the blocks that a call shows which is done
abbrev pub shown_by : FlatDisk → Call → List (List ℕ)
shown_by disk (read first n) = blocks_from disk.array first n
shown_by disk call = []

-- the disk after a call that is done: a write replaces its blocks, a list the blocks that it names, blocks that are new
-- are zeros, and nothing else changes
abbrev pub disk_after : FlatDisk → Call → FlatDisk
disk_after disk (write first blocks) = record disk { array = replaced disk.array first blocks }
disk_after disk (write_list puts) = record disk { array = put_all disk.array puts }
disk_after disk (grow size) = record disk { array = extended (zero_block disk.block) size disk.array; size = size }
disk_after disk call = disk

-- The array after a call that was refused midway: a front of a write or of a list, and the same array after any other.
-- Where the drive stopped inside a growth, the array may have grown.
abbrev pub IsAfterFront : FlatDisk → Call → DiskFault → List (List ℕ) → Type 0
IsAfterFront disk (write first blocks) fault new = IsFront disk.array first blocks new
IsAfterFront disk (write_list puts) fault new = IsListFront disk.array puts new
IsAfterFront disk (grow size) Stopped new = (new ≡ disk.array) ⊎ (new ≡ extended (zero_block disk.block) size disk.array)
IsAfterFront disk call fault new = new ≡ disk.array

-- why a call may be refused midway: any because an allocation failed or the drive stopped; one that may append a batch also for lack of sequences
abbrev pub may_refuse : Call → DiskFault → Bool
may_refuse call OutOfMemory = true
may_refuse call Failed = true
may_refuse call Stopped = true
may_refuse (write first blocks) Spent = true
may_refuse (write_list puts) Spent = true
may_refuse (grow size) Spent = true
may_refuse idle Spent = true
may_refuse call fault = false

-- ---- answers

-- whether a call is done or why not, and the blocks that it showed
pub record Answer : Type 0 where
  pub result : Result (Unit {0}) DiskFault
  pub shown : List (List ℕ)

-- the answer to a call that shows nothing
abbrev pub with_nothing : Result (Unit {0}) DiskFault → Answer
with_nothing result = record { result = result; shown = [] }

-- a disk that serves calls knows no answer beforehand; one that answered `Stopped` does so again, and one that refused a remount answers `Unmounted`
abbrev pub answer_while : DiskStatus → Option (Result (Unit {0}) DiskFault)
answer_while statuses.Serving = None
answer_while statuses.Stopped = Some (Err Stopped)
answer_while statuses.Unmounted = Some (Err Unmounted)

-- Of a call that names n blocks, the answer that is known before anything is done, in this order: a call of no block
-- is done, one past the end is out of range, and a disk that does not serve says so.
abbrev pub known_range : FlatDisk → ℕ → ℕ → Option (Result (Unit {0}) DiskFault)
known_range disk first n =
    if n == 0 then Some (Ok tt)
    else if nat_lt disk.size (first + n) then Some (Err OutOfRange)
    else answer_while disk.status

-- of a call that names each of its blocks, in the same order
abbrev pub known_blocks : FlatDisk → List ℕ → Option (Result (Unit {0}) DiskFault)
known_blocks disk [] = Some (Ok tt)
known_blocks disk blocks =
    if list_all (λ block. nat_lt block disk.size) blocks then answer_while disk.status
    else Some (Err OutOfRange)

-- of a growth: a size below the disk's is refused, and then one above the reserve
abbrev pub known_growth : FlatDisk → ℕ → Option (Result (Unit {0}) DiskFault)
known_growth disk size =
    if nat_lt size disk.size then Some (Err Smaller)
    else if nat_lt disk.most size then Some (Err Reserve)
    else answer_while disk.status

-- the answer to a call that is known before anything is done
abbrev pub known_answer : FlatDisk → Call → Option (Result (Unit {0}) DiskFault)
known_answer disk (read first n) = known_range disk first n
known_answer disk (write first blocks) = known_range disk first (length blocks)
known_answer disk (write_list puts) = known_blocks disk (map (λ (p : Put). p.block) puts)
known_answer disk (grow size) = known_growth disk size
known_answer disk call = answer_while disk.status

-- a disk that answers `Stopped` or `Damaged` serves no more
abbrev pub status_after : Result (Unit {0}) DiskFault → DiskStatus
status_after (Err Stopped) = statuses.Stopped
status_after (Err Damaged) = statuses.Stopped
status_after result = statuses.Serving

-- A call that was begun on a disk that serves: done, it shows its blocks, and the disk is that after it; refused, it shows nothing, and a front of it is done.
abbrev pub Begun : FlatDisk → Call → Result (Unit {0}) DiskFault → List (List ℕ) → FlatDisk → Type 0
Begun old call (Ok done) shown new = (shown ≡ shown_by old call) × (new ≡ disk_after old call)
Begun old call (Err fault) shown new =
    (may_refuse call fault ≡ true) × (shown ≡ []) × IsAfterFront old call fault new.array
    × (new ≡ record old { array = new.array; status = status_after (Err fault) })

-- What a disk answers to a call, and what it is afterwards.
abbrev pub FlatCall : FlatDisk → Call → Answer → FlatDisk → Type 0
FlatCall old call answer new =
    MatchOption (known_answer old call)
    (Begun old call answer.result answer.shown new)
    (λ result. (answer ≡ with_nothing result) × (new ≡ old))

-- ---- mounting again

-- A remount, whatever the disk answered before. Done, the disk serves, by the size of its array: where a growth was
-- stopped, that may be the greater one. Refused, by an allocation that failed or a drive that has stopped, it is
-- unmounted. The array stays.
abbrev pub FlatRemount : FlatDisk → Result (Unit {0}) MountFault → FlatDisk → Type 0
FlatRemount old (Ok done) new = new ≡ record old { size = length old.array; status = statuses.Serving }
FlatRemount old (Err fault) new = ((fault ≡ mount.OutOfMemory) ⊎ (fault ≡ mount.Halted) ⊎ (fault ≡ mount.Failed)) × (new ≡ record old { status = statuses.Unmounted })
