-- What each typed call promises, whatever it answers: which submit it is, what it shows where it succeeded, what it
-- leaves, when a drive must not refuse it, and that it obeys what binds every call.
use Rattle.std.specs.Prelude.{◌≡◌, ℕ, ◌+◌, ◌<◌, ◌≤◌, ◌↔◌, Bool, true, false, IsTrue, IsFalse, List, [], Result, Err, IfOk, OnOk, OnErr}
use Rattle.nvme_wire.specs.declared.command.ReportingOptions.{ReportingOptions}
use Rattle.nvme_wire.specs.declared.command.ReportingOptions.TheVariants.{InState}
use Rattle.nvme_wire.specs.declared.zone_state.ZoneState.TheVariants.{Empty}
use Rattle.drive_port.specs.declared.calls.PortFault.{PortFault}
use Rattle.drive_port.specs.declared.calls.PortFault.TheVariants.{Failed, Stopped}
use Rattle.drive_port.specs.Drive.{DriveState, IsLawful}
use Rattle.drive_port.specs.Step.{end_of}
use Rattle.drive_port.specs.Halting.{Adds}
use Rattle.drive_port.specs.Contents.{AreEmpty, SameContents, SameCounts, contents}
use Rattle.drive_port.specs.Calls.{AppendGives, AppendKeeps, AppendLeaves, Appended, CanAppend, block_count}
use Rattle.drive_port.specs.Calls.{CanClose, CanFinish, CanRead, CanReset, CloseGives, CloseLeaves, ClosedZone}
use Rattle.drive_port.specs.Calls.{Counted, FinishGives, FinishKeeps, FinishLeaves, Finished, FlushGives, FlushKeeps, Flushed}
use Rattle.drive_port.specs.Calls.{IsNotRefused, Obeys}
use Rattle.drive_port.specs.Calls.{OnlyCloses, ReadGives, ReadShows, ReportGives, Reported}
use Rattle.drive_port.specs.Calls.{ResetGives, ResetKeeps, ResetLeaves, ResetZone}

-- ---- calls that change a zone

-- An Append of these bytes to the zone that starts there.
pub record AppendAnswers (old : DriveState) (start : ℕ) (bytes : List ℕ) (result : Result ℕ PortFault)
    (new : DriveState) : Type 0 where
  -- it is one submit of the command
  pub gives : AppendGives old start bytes result new
  -- where it succeeded, the zone has the blocks from this address on
  pub appended : IfOk result (λ address. Appended old new start bytes address)
  -- where it did not, the contents are the same, or the device stopped and the zone has a front of the blocks
  pub kept : AppendKeeps old start bytes result new
  -- which zones it leaves
  pub leaves : AppendLeaves old start bytes result new
  -- a drive that can take the blocks does not refuse them
  pub taken : CanAppend old start (block_count old.geometry bytes) → IsNotRefused result
  -- what binds every call
  pub obeys : Obeys old result new

-- A Finish of the zone that starts there.
pub record FinishAnswers {V : Type 0} (old : DriveState) (start : ℕ) (result : Result V PortFault)
    (new : DriveState) : Type 0 where
  pub gives : FinishGives old start result new
  -- where it succeeded, the zone is full
  pub finished : OnOk result (Finished old new start)
  -- where it did not, the contents are the same, or the device stopped and the zone may be full
  pub kept : FinishKeeps old start result new
  pub leaves : FinishLeaves old start result new
  pub taken : CanFinish old start → IsNotRefused result
  pub obeys : Obeys old result new

-- A Close of the zone that starts there. The contents are the same, whatever it answers.
pub record CloseAnswers {V : Type 0} (old : DriveState) (start : ℕ) (result : Result V PortFault)
    (new : DriveState) : Type 0 where
  pub gives : CloseGives old start result new
  pub closed : OnOk result (ClosedZone old new start)
  pub kept : SameContents old new
  pub leaves : CloseLeaves old start result new
  pub taken : CanClose old start → IsNotRefused result
  pub obeys : Obeys old result new

-- A Reset of the zone that starts there.
pub record ResetAnswers {V : Type 0} (old : DriveState) (start : ℕ) (result : Result V PortFault)
    (new : DriveState) : Type 0 where
  pub gives : ResetGives old start result new
  -- where it succeeded, the zone is empty
  pub reset : OnOk result (ResetZone old new start)
  -- where it did not, the contents are the same, or the device stopped and the zone may be empty
  pub kept : ResetKeeps old start result new
  pub leaves : ResetLeaves old start result new
  pub taken : CanReset old start → IsNotRefused result
  pub obeys : Obeys old result new

-- ---- a Flush: no zone changes, up to closings

-- A Flush. No drive refuses it.
pub record FlushAnswers {V : Type 0} (old : DriveState) (result : Result V PortFault) (new : DriveState) : Type 0 where
  pub gives : FlushGives old result new
  -- where it succeeded, a loss of power leaves the zones as they are
  pub flushed : OnOk result (Flushed old new)
  -- where it did not, it leaves what it might have left before, or where the device stopped the zones as they are
  pub durable : FlushKeeps old result new
  pub kept : OnlyCloses old new
  pub taken : IsNotRefused result
  pub trusted : IsTrue new.clean → IsTrue old.clean
  pub unfailing : IsTrue new.unfailing → IsTrue old.unfailing
  pub fails : result ≡ Err Failed → IsFalse new.unfailing × SameCounts old new
  -- a drive that had stopped answers just that and does not change; one that answers so has stopped, and counts nothing
  pub lawful : IsLawful new
  pub already : old.stopped ≡ true → (result ≡ Err Stopped) × (new ≡ old)
  pub stops : result ≡ Err Stopped → (new.stopped ≡ true) × SameCounts old new
  pub completed : new.completed ≤ old.completed + 1

-- ---- calls that only ask: no zone changes, up to closings

-- A Read of that many blocks, whose bytes a buffer holds then; after a fault it is empty.
pub record ReadAnswers {V : Type 0} (old : DriveState) (address blocks : ℕ) (result : Result V PortFault)
    (items : List ℕ) (new : DriveState) : Type 0 where
  pub gives : ReadGives old address blocks result items new
  pub shown : OnOk result (ReadShows old new address blocks [] items)
  pub err : OnErr result (items ≡ [])
  pub kept : OnlyCloses old new
  pub taken : CanRead old address blocks → IsNotRefused result
  pub obeys : Obeys old result new

-- The same, with the bytes after those that the buffer held; after a fault it holds just these.
pub record ReadExtends {V : Type 0} (old : DriveState) (address blocks : ℕ) (held : List ℕ)
    (result : Result V PortFault) (items : List ℕ) (new : DriveState) : Type 0 where
  pub gives : Adds held (λ returned. ReadGives old address blocks result returned new) items
  pub shown : OnOk result (ReadShows old new address blocks held items)
  pub err : OnErr result (items ≡ held)
  pub kept : OnlyCloses old new
  pub taken : CanRead old address blocks → IsNotRefused result
  pub obeys : Obeys old result new

-- A report of the chosen zones from an address on, which a buffer holds then; after a fault it is empty.
pub record ReportAnswers {V : Type 0} (old : DriveState) (address : ℕ) (options : ReportingOptions)
    (partial : Bool) (dwords : ℕ) (result : Result V PortFault)
    (items : List ℕ) (new : DriveState) : Type 0 where
  pub gives : ReportGives old address options partial dwords result items new
  pub shown : OnOk result (Reported old new address options partial dwords items)
  pub err : OnErr result (items ≡ [])
  pub kept : OnlyCloses old new
  pub taken : address < end_of old.geometry → IsNotRefused result
  pub obeys : Obeys old result new

-- A count of the chosen zones, by a report with room only for its head.
pub record CountAnswers (old : DriveState) (options : ReportingOptions) (result : Result ℕ PortFault)
    (items : List ℕ) (new : DriveState) : Type 0 where
  pub gives : ReportGives old 0 options false 16 result items new
  pub counted : IfOk result (λ number. Counted old new options number)
  -- all zones are empty exactly where all of them are chosen as such
  pub empty : options ≡ InState Empty → IfOk result (λ number. (number ≡ old.geometry.zones) ↔ AreEmpty (contents old.zones))
  pub err : OnErr result (items ≡ [])
  pub kept : OnlyCloses old new
  pub taken : 0 < end_of old.geometry → IsNotRefused result
  pub obeys : Obeys old result new
