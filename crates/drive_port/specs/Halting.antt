-- What a device leaves that completes no command.
use Rattle.std.specs.Prelude.{◌≡◌, ◌⊎◌, ℕ, ◌*◌, ◌≤◌, true, false, IsTrue, List, [], ◌++◌, take, Result, Ok, Err}
use Rattle.nvme_wire.specs.Entry.{decode_of}
use Rattle.nvme_wire.specs.declared.command.Command.{Command}
use Rattle.nvme_wire.specs.declared.command.Command.TheVariants.{Append}
use Rattle.nvme_wire.specs.declared.command.DecodeFault.{DecodeFault}
use Rattle.nvme_wire.specs.declared.status.Status.{Status}
use Rattle.nvme_wire.specs.declared.status.Status.TheVariants.{Success}
use Rattle.zone_states.specs.declared.geometry.Geometry.{Geometry}
use Rattle.zone_states.specs.Zone.{Zone}
use Rattle.drive_port.specs.declared.device.Halt.{Halt}
use Rattle.drive_port.specs.declared.device.Halt.TheVariants.{Memory, Failed, Stopped}
use Rattle.drive_port.specs.Drive.{DriveState, IsClosing}
use Rattle.drive_port.specs.Durable.{MayHarden}
use Rattle.drive_port.specs.Step.{Completes, Effect}
use Rattle.drive_port.specs.Contents.{SameCounts}

-- ---- a stop inside a command

-- the command had its effect, and its completion was lost
pub record WholeCommand (geometry : Geometry) (old : List Zone) (command : Result Command DecodeFault) (bytes : List ℕ) (new : List Zone) : Type 0 where
  pub status : Status
  pub value : ℕ
  pub returned : List ℕ
  pub effect : Effect geometry old command bytes status value returned new

-- of an Append of these blocks the first j were written, as an Append of these alone writes them where it succeeds
pub record TornAppend (geometry : Geometry) (old : List Zone) (start blocks : ℕ) (bytes : List ℕ) (new : List Zone) : Type 0 where
  pub j : ℕ
  pub some : 1 ≤ j
  pub few : j ≤ blocks
  pub value : ℕ
  pub returned : List ℕ
  pub effect : Effect geometry old (Ok (Append start j)) (take (j * geometry.block) bytes) Success value returned new

-- only an Append can be torn
abbrev pub Torn : Geometry → List Zone → Result Command DecodeFault → List ℕ → List Zone → Type 0
Torn geometry old (Ok (Append start blocks)) bytes new = TornAppend geometry old start blocks bytes new
Torn geometry old command bytes new = ⊥

-- a stop inside a command leaves the zones except for a closing, or as the whole command leaves them, or as a torn one does
abbrev pub LeftBy : Geometry → List Zone → Result Command DecodeFault → List ℕ → List Zone → Type 0
LeftBy geometry old command bytes new = IsClosing old new ⊎ (WholeCommand geometry old command bytes new ⊎ Torn geometry old command bytes new)

-- The drive had stopped, and nothing changed; or it stopped inside this command, which counts for nothing.
pub record Stops (old : DriveState) (command : Result Command DecodeFault) (bytes : List ℕ) (new : DriveState) : Type 0 where
  pub already : old.stopped ≡ true → new ≡ old
  pub stopped : new.stopped ≡ true
  pub geometry : new.geometry ≡ old.geometry
  pub trusted : IsTrue new.clean → IsTrue old.clean
  pub fair : IsTrue old.clean → IsTrue new.clean
  pub unfailing : new.unfailing ≡ old.unfailing
  pub counts : SameCounts old new
  pub left : LeftBy old.geometry old.zones command bytes new.zones
  pub hardens : MayHarden command old new

-- ---- halts

-- A command failed, and had no effect: nothing changed but that the controller may have closed zones. It counts for nothing.
pub record Fails (old new : DriveState) : Type 0 where
  pub running : old.stopped ≡ false
  pub closing : IsClosing old.zones new.zones
  pub others : new ≡ record old { zones = new.zones; unfailing = false }

-- No completion of this command: the device was out of memory, had not stopped, and nothing changed; or it failed at the
-- command; or it has stopped.
abbrev pub Halts : DriveState → Result Command DecodeFault → List ℕ → Halt → DriveState → Type 0
Halts old command bytes Memory new = (old.stopped ≡ false) × (new ≡ old)
Halts old command bytes Failed new = Fails old new
Halts old command bytes Stopped new = Stops old command bytes new

-- What a device answers to a submit: the completion of a step, only if it had not stopped; or a halt, with no bytes.
abbrev pub SubmitGives : DriveState → List ℕ → List ℕ → Result (List ℕ) Halt → List ℕ → DriveState → Type 0
SubmitGives old entry bytes (Ok completion) returned new = (old.stopped ≡ false) × Completes old entry bytes completion returned new
SubmitGives old entry bytes (Err halt) returned new = (returned ≡ []) × Halts old (decode_of entry) bytes halt new

-- ---- bytes after others

-- What a buffer holds after a command: what it held before, followed by the bytes that the command returned, of which this holds.
pub record Adds (held : List ℕ) (Given : List ℕ → Type 0) (items : List ℕ) : Type 0 where
  pub returned : List ℕ
  pub joined : items ≡ held ++ returned
  pub given : Given returned

-- What a device answers to a submit that keeps what the buffer held: the same, with the bytes after those.
abbrev pub SubmitAdds : DriveState → List ℕ → List ℕ → List ℕ → Result (List ℕ) Halt → List ℕ → DriveState → Type 0
SubmitAdds old entry bytes held result items new = Adds held (λ returned. SubmitGives old entry bytes result returned new) items
