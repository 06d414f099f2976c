-- A run of submits, and the moments of it.
use Rattle.std.specs.Prelude.{◌≡◌, false, List, ℕ, length, Option, Some, Result}
use Rattle.drive_port.specs.declared.device.Halt.{Halt}
use Rattle.drive_port.specs.Halting.{SubmitGives}
use Rattle.drive_journal.specs.Change.{Sum}
use Rattle.drive_journal.specs.File.{IsStored}
use Rattle.drive_journal.specs.Journaling.{IsInStep, Journaled, MayRenew, Writes}

-- a device that had not stopped was submitted an entry, and answered; its store held these bytes when the change was
-- written, and the change goes on from this sum
pub record Submits (old : Journaled) (held : Option (List ℕ)) (new : Journaled) : Type 0 where
  pub entry : List ℕ
  pub bytes : List ℕ
  pub result : Result (List ℕ) Halt
  pub returned : List ℕ
  pub sum : Sum
  pub runs : old.drive.stopped ≡ false
  pub gives : SubmitGives old.drive entry bytes result returned new.drive
  pub renewed : MayRenew old entry held sum
  pub writes : Writes old held sum entry bytes result new
  pub was_kept : IsInStep old
  pub kept : IsInStep new

-- a device came from one moment to another by submits, one after the other
pub data RunsTo (first : Journaled) : Journaled → Type 0 where
  here : RunsTo first first
  later : (moment last : Journaled) (held : Option (List ℕ)) → RunsTo first moment → Submits moment held last
      → RunsTo first last

-- The same, with how many bytes the store held at the first moment, or when they were last written anew.
pub data RunsSince (first : Journaled) : ℕ → Journaled → Type 0 where
  begins : (bytes : List ℕ) → first.contents ≡ Some bytes → RunsSince first (length bytes) first
  goes_on : (since : ℕ) (moment last : Journaled)
      → RunsSince first since moment → Submits moment moment.contents last → RunsSince first since last
  anew : (since : ℕ) (moment last : Journaled) (held : List ℕ)
      → RunsSince first since moment → Submits moment (Some held) last → RunsSince first (length held) last

-- these bytes store the drive of a moment between these two
pub record IsOfAMoment (first last : Journaled) (bytes : List ℕ) : Type 0 where
  pub moment : Journaled
  pub before : RunsTo first moment
  pub after : RunsTo moment last
  pub stored : IsStored bytes moment.drive
