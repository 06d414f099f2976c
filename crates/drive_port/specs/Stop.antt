-- A device that lets a number of commands of another complete and has then stopped, or tears an Append and stops.
use Rattle.std.specs.Prelude.{◌≡◌, ℕ, ◌-◌, ◌*◌, ◌||◌, ◌&&◌, nat_eq, nat_le, nat_lt, Bool, true, false}
use Rattle.std.specs.Prelude.{if◌then◌else◌, List, take, Option, Some, None, Result, Ok, Err}
use Rattle.nvme_wire.specs.declared.command.Command.{Command}
use Rattle.nvme_wire.specs.declared.command.Command.TheVariants.{Append}
use Rattle.nvme_wire.specs.declared.command.DecodeFault.{DecodeFault}
use Rattle.drive_port.specs.declared.calls.PortFault.{PortFault}
use Rattle.drive_port.specs.declared.calls.PortFault.TheVariants as faults
use Rattle.drive_port.specs.declared.device.Halt.{Halt}
use Rattle.drive_port.specs.declared.device.Halt.TheVariants.{Memory, Failed, Stopped}
use Rattle.drive_port.specs.declared.progress.Progress.{Progress}
use Rattle.drive_port.specs.declared.progress.Progress.TheVariants.{Going, OverAppended, OverRefused}
use Rattle.drive_port.specs.Drive.{DriveState}
use Rattle.drive_port.specs.Calls.{CallGives}

-- the drive within; how many commands it may complete, and how many it has; and how many blocks the Append after them
-- leaves, 0 where it stops without one more command
pub record Stopping : Type 0 where
  pub inner : DriveState
  pub limit : ℕ
  pub tear : ℕ
  pub completed : ℕ
  pub progress : Progress

abbrev pub is_over : Progress → Bool
is_over Going = false
is_over progress = true

-- a torn Append that the drive within completed does not count
abbrev pub refused_here : Progress → ℕ → ℕ
refused_here OverRefused n = n - 1
refused_here progress n = n

abbrev pub appended_here : Progress → ℕ → ℕ
appended_here OverAppended n = n - 1
appended_here progress n = n

-- the drive within, as a client sees it
abbrev pub drive_of : Stopping → DriveState
drive_of s = record s.inner {
  completed = s.completed;
  refused = refused_here s.progress s.inner.refused;
  appended = appended_here s.progress s.inner.appended;
  stopped = s.inner.stopped || (is_over s.progress || (nat_eq s.tear 0 && nat_le s.limit s.completed));
}

-- ---- the command that stops

-- where an Append goes whose first j blocks are to be left: none where the command is another, or has fewer blocks, or
-- where j is 0, or the data are fewer than j blocks
abbrev pub torn_at : ℕ → ℕ → Result Command DecodeFault → ℕ → Option ℕ
torn_at block j (Ok (Append start blocks)) len = if nat_lt 0 j && (nat_le j blocks && nat_le (j * block) len) then Some start else None
torn_at block j command len = None

-- out of memory and a failure are passed on, and the device continues; it stops after every other answer
abbrev pub halt_after : Result ℕ PortFault → Halt
halt_after (Err faults.Memory) = Memory
halt_after (Err faults.Failed) = Failed
halt_after result = Stopped

-- one submit of an Append of the first j blocks
pub record Tears (old : DriveState) (start j : ℕ) (bytes : List ℕ) (halt : Halt) (new : DriveState) : Type 0 where
  pub result : Result ℕ PortFault
  pub returned : List ℕ
  pub gives : CallGives old (Append start j) (take (j * old.geometry.block) bytes) result returned new
  pub halt_is : halt ≡ halt_after result

-- what the drive within does of the command that stops
abbrev pub TearsAt : Option ℕ → DriveState → ℕ → List ℕ → Halt → DriveState → Type 0
TearsAt None old j bytes halt new = (halt ≡ Stopped) × (new ≡ old)
TearsAt (Some start) old j bytes halt new = Tears old start j bytes halt new

-- no completion, and this of the halt
abbrev pub HaltsBy : Result (List ℕ) Halt → (Halt → Type 0) → Type 0
HaltsBy (Ok completion) P = ⊥
HaltsBy (Err halt) P = P halt
