-- A device whose changes are written after an image, before its drive has them.
use Rattle.std.specs.Prelude.{◌≡◌, ◌⊎◌, ℕ, ◌<◌, ◌==◌, ◌||◌, Bool, true, false, if◌then◌else◌, List, [], length, take}
use Rattle.std.specs.Prelude.{drop}
use Rattle.std.specs.Prelude.{Option, IfSome, Result, Ok, Err}
use Rattle.std.specs.Io.KnownBytes.{Appends}
use Rattle.nvme_wire.specs.Completion.{code_in}
use Rattle.nvme_wire.specs.Entry.{decode_of}
use Rattle.disk_files.specs.Output.{AppendsFront}
use Rattle.drive_port.specs.Drive.{DriveState, IsLawful}
use Rattle.drive_port.specs.Halting.{SubmitAdds}
use Rattle.drive_port.specs.declared.device.Halt.{Halt}
use Rattle.drive_port.specs.declared.device.Halt.TheVariants.{Memory, Failed, Stopped}
use Rattle.zone_states.specs.Zone.{Zone}
use Rattle.zone_states.specs.declared.geometry.Geometry.{Geometry}
use Rattle.drive_journal.specs.Change.{Sum, changes, start, sum_for, written_for}
use Rattle.drive_journal.specs.File.{IsStored, IsStoredWhole}
use Rattle.drive_journal.specs.Tail.{IsCutOff}
use Rattle.drive_journal.specs.declared.loss.Loss.{Loss}
use Rattle.drive_journal.specs.declared.loss.Loss.TheVariants.{Nothing, Completion}

-- The drive that is shown, whether a change or a completion was lost, the bytes that the store holds, where they are
-- known, and the sum from which the next change goes on.
pub record Journaled : Type 0 where
  pub drive : DriveState
  pub lost : Bool
  pub contents : Option (List ℕ)
  pub sum : Sum

abbrev pub is_lost : Loss → Bool
is_lost Nothing = false
is_lost loss = true

-- the zones that are shown: where a change was written that the drive within could not do, those that it would have
-- left
abbrev pub shown_zones : Loss → List Zone → List Zone → List Zone
shown_zones Completion zones next = next
shown_zones loss zones next = zones

-- The drive that is shown: the one within, stopped where something was lost.
abbrev pub shown_drive : Loss → DriveState → List Zone → DriveState
shown_drive loss inner next =
    record inner { zones = shown_zones loss inner.zones next; stopped = is_lost loss || inner.stopped }

-- the entry and the data of a change, where they are kept together
abbrev pub changed_entry_in : List ℕ → List ℕ
changed_entry_in kept = take 64 kept

abbrev pub changed_data_in : List ℕ → List ℕ
changed_data_in kept = drop 64 kept

-- What is always so: the bytes of the store, where they are known, store the drive that is shown, and while nothing was
-- lost no change in them is cut off. A device that lost something has stopped.
pub record IsInStep (j : Journaled) : Type 0 where
  pub stored : IfSome j.contents (λ bytes. IsStored bytes j.drive)
  pub whole : j.lost ≡ false → IfSome j.contents (λ bytes. IsStoredWhole bytes j.drive j.sum)
  pub stops : j.lost ≡ true → j.drive.stopped ≡ true
  pub lawful : j.lost ≡ true → IsLawful j.drive

-- ---- what is written

-- The bytes of the store before a change is written, and the sum from which the change goes on: those that there were,
-- or others that store the same drive, and the sum starts again. A command that changes nothing has none written anew.
abbrev pub MayRenew : Journaled → List ℕ → Option (List ℕ) → Sum → Type 0
MayRenew old entry held sum =
    ((held ≡ old.contents) × (sum ≡ old.sum))
    ⊎ ((changes (decode_of entry) ≡ true) × (sum ≡ start) × IfSome held (λ bytes. IsStoredWhole bytes old.drive start))

-- for a command that was completed: its change, unless it was refused
abbrev pub written_by : Sum → List ℕ → List ℕ → List ℕ → List ℕ
written_by sum completion entry bytes = if code_in completion == 0 then written_for sum entry bytes else []

-- and the sum after it
abbrev pub sum_by : Sum → List ℕ → List ℕ → List ℕ → Sum
sum_by sum completion entry bytes = if code_in completion == 0 then sum_for sum entry bytes else sum

-- each beginning of these bytes, unless it is all of them, is a change that was cut off after this sum
abbrev pub AreCutOff : Geometry → Sum → List ℕ → Type 0
AreCutOff geometry sum bytes = (n : ℕ) → n < length bytes → IsCutOff geometry sum (take n bytes)

-- these bytes were written, or after a fault of the store a beginning of them
abbrev pub WritesAll : Geometry → Sum → Option (List ℕ) → List ℕ → Journaled → Type 0
WritesAll geometry sum held bytes new = Appends held new.contents bytes × AreCutOff geometry sum bytes

abbrev pub WritesFront : Geometry → Sum → Option (List ℕ) → List ℕ → Journaled → Type 0
WritesFront geometry sum held bytes new = AppendsFront held new.contents bytes × AreCutOff geometry sum bytes

abbrev pub WritesSome : Geometry → Sum → Option (List ℕ) → List ℕ → Journaled → Type 0
WritesSome geometry sum held bytes new = WritesFront geometry sum held bytes new ⊎ WritesAll geometry sum held bytes new

-- A submit writes the change of a command that was completed, and nothing where memory is missing or the device fails.
-- The sum goes on over what was written. Where the device stops, nothing was written; or the store failed, and has a
-- beginning of the change; or it has the change, and the completion was lost.
abbrev pub Writes : Journaled → Option (List ℕ) → Sum → List ℕ → List ℕ → Result (List ℕ) Halt → Journaled → Type 0
Writes old held sum entry bytes (Ok completion) new =
    (new.lost ≡ false) × (new.sum ≡ sum_by sum completion entry bytes)
    × WritesAll old.drive.geometry sum held (written_by sum completion entry bytes) new
Writes old held sum entry bytes (Err Memory) new = (new.lost ≡ false) × (new.sum ≡ sum) × (new.contents ≡ held)
Writes old held sum entry bytes (Err Failed) new = (new.lost ≡ false) × (new.sum ≡ sum) × (new.contents ≡ held)
Writes old held sum entry bytes (Err Stopped) new =
    (new.contents ≡ held)
    ⊎ ((new.lost ≡ true) × WritesSome old.drive.geometry sum held (written_for sum entry bytes) new)

-- the bytes of the store were perhaps written anew, and then the change of the command was written
pub record WritesChange (old : Journaled) (entry bytes : List ℕ) (result : Result (List ℕ) Halt)
    (new : Journaled) : Type 0 where
  pub held : Option (List ℕ)
  pub sum : Sum
  pub renewed : MayRenew old entry held sum
  pub written : Writes old held sum entry bytes result new

-- an answer to an entry, whose bytes come after those that were held
pub record AnswersInStep (old : Journaled) (entry bytes held : List ℕ) (result : Result (List ℕ) Halt) (items : List ℕ)
    (new : Journaled) : Type 0 where
  pub gives : SubmitAdds old.drive entry bytes held result items new.drive
  pub was_lawful : IsLawful old.drive
  pub lawful : IsLawful new.drive
  pub writes : WritesChange old entry bytes result new
  pub was_kept : IsInStep old
  pub kept : IsInStep new
