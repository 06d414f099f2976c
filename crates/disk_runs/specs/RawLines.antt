-- What a drive replies to raw lines: each is one submission entry, and its data.
use Rattle.std.specs.Prelude.{◌≡◌, ℕ, ◌||◌, if◌then◌else◌, Bool, false, List, [], Option, Some, None, is_some}
use Rattle.drive_port.specs.Drive.{DriveState}
use Rattle.drive_port.specs.Entry.{decode_of}
use Rattle.drive_port.specs.Halting.{Halts}
use Rattle.drive_port.specs.Step.{Completes}
use Rattle.drive_port.specs.declared.device.Halt.TheVariants as halts
use Rattle.drive_port.specs.declared.device.Halt.TheVariants.{Memory}
use Rattle.disk_files.specs.RawLine.{raw_line, raw_reply_text}
use Rattle.disk_files.specs.TraceLine.{is_skipped}
use Rattle.zone_translator.specs.declared.fault.DiskFault.TheVariants.{OutOfMemory, Failed, Stopped}
use Rattle.disk_runs.specs.Run.{Language}
use Rattle.disk_runs.specs.declared.fault.RunFault.{RunFault}
use Rattle.disk_runs.specs.declared.fault.RunFault.TheVariants.{Disk}

-- the entry that a line asks to submit, and its data; a line that is skipped asks for none
abbrev pub submitted_entry : List ℕ → Option (List ℕ × List ℕ)
submitted_entry line = if is_skipped line then None else raw_line line

-- whether a line is skipped or in the grammar
abbrev pub is_raw : List ℕ → Bool
is_raw line = is_skipped line || is_some (raw_line line)

-- the entry is submitted to a drive that has not stopped, and the reply is its completion and the data that came back
pub record RepliesToEntry (old : DriveState) (entry bytes reply : List ℕ) (new : DriveState) : Type 0 where
  pub completion : List ℕ
  pub returned : List ℕ
  pub runs : old.stopped ≡ false
  pub completes : Completes old entry bytes completion returned new
  pub reply_is : reply ≡ raw_reply_text completion returned

abbrev pub AnswersEntry : DriveState → Option (List ℕ × List ℕ) → List ℕ → DriveState → Type 0
AnswersEntry old None reply new = (reply ≡ []) × (new ≡ old)
AnswersEntry old (Some call) reply new = RepliesToEntry old call.0 call.1 reply new

-- only a line that asks to submit an entry is refused: the drive halted
abbrev pub RefusesEntry : DriveState → Option (List ℕ × List ℕ) → RunFault → DriveState → Type 0
RefusesEntry old (Some call) (Disk OutOfMemory) new = Halts old (decode_of call.0) call.1 Memory new
RefusesEntry old (Some call) (Disk Failed) new = Halts old (decode_of call.0) call.1 halts.Failed new
RefusesEntry old (Some call) (Disk Stopped) new = Halts old (decode_of call.0) call.1 halts.Stopped new
RefusesEntry old call fault new = ⊥

-- raw lines, as a drive answers them
abbrev pub raw : Language DriveState
raw = record {
  is_legal = λ drive line. is_raw line;
  Answers = λ old line reply new. AnswersEntry old (submitted_entry line) reply new;
  Refuses = λ old line fault new. RefusesEntry old (submitted_entry line) fault new;
  Same = λ old new. new ≡ old;
}

-- the reply that is held: none, or a completion and the data that came back
abbrev pub held_reply : Option (List ℕ) → List ℕ → List ℕ
held_reply None returned = []
held_reply (Some completion) returned = raw_reply_text completion returned
