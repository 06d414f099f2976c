-- What a command gives, by what was sent for it.
use Rattle.std.proofs.Common.{◌≡◌, ℕ, Bool, true, false, List, [], Result, Ok, Err, refl, sym, ap, ◌∙◌, arith}
use Rattle.std.specs.Prelude.{IfErr, IfOk}
use Rattle.nvme_wire.specs.declared.command.Action.{Action}
use Rattle.nvme_wire.specs.declared.command.Command.{Command}
use Rattle.nvme_wire.specs.declared.command.Command.TheVariants.{Flush, Read, Write, Append, Send, Receive}
use Rattle.nvme_wire.specs.declared.status.Status.{Status}
use Rattle.nvme_wire.specs.declared.status.Status.TheVariants.{Success}
use Rattle.zone_states.specs.Zone.{Zone}
use Rattle.zone_states.specs.declared.geometry.Geometry.{Geometry}
use Rattle.drive_port.specs.declared.device.Halt.{Halt}
use Rattle.drive_port.specs.declared.device.Halt.TheVariants.{Memory, Failed, Stopped}
use Rattle.drive_port.specs.Drive.{DriveState}
use Rattle.drive_port.specs.Durable.{Hardens}
use Rattle.drive_port.specs.Halting.{Adds}
use Rattle.nvme_wire.specs.declared.command.DecodeFault.{DecodeFault}
use Rattle.drive_port.specs.Step.{Effect, Performs, decode_status, outcome}
use Rattle.drive_port.proofs.ClosingLaws.{IsClosing-refl}
use Rattle.drive_port.proofs.CallLaws.{adds-also, adds-nothing}
use Rattle.passthrough.specs.Asking.{Asks, HaltsSo, counted}
use Rattle.passthrough.proofs.ReadyLaws.{effect-bare, is_bare, left-bare}

-- a command without data does not look at what is handed in with it
pub asked-bare : (geometry : Geometry) (old new : List Zone) (command : Command) (bytes held items : List ℕ) (result : Result ℕ Halt) → is_bare command ≡ true
    → IfOk result (λ value. (value ≡ 0) × Adds held (λ returned. Effect geometry old (Ok command) [] Success 0 returned new) items)
    → IfOk result (λ value. Adds held (λ returned. Effect geometry old (Ok command) bytes Success value returned new) items)
asked-bare geometry old new command bytes held items (Ok value) bare given =
    rw given.0 (adds-also held items _ _ (λ returned effect. effect-bare geometry old new command bytes returned Success 0 bare effect) given.1)
asked-bare geometry old new command bytes held items (Err halt) bare given = tt

-- a Flush that was completed
pub flushed-ok : (geometry : Geometry) (old new : List Zone) (bytes held : List ℕ) (result : Result ℕ Halt)
    → IfOk result (λ value. (value ≡ 0) × Effect geometry old (Ok Flush) [] Success 0 [] new)
    → IfOk result (λ value. Adds held (λ returned. Effect geometry old (Ok Flush) bytes Success value returned new) held)
flushed-ok geometry old new bytes held (Ok value) given = rw given.0 (adds-nothing held _ (effect-bare geometry old new Flush bytes [] Success 0 refl given.1))
flushed-ok geometry old new bytes held (Err halt) given = tt

-- an action that was completed
pub sent-ok : (geometry : Geometry) (old new : List Zone) (slba : ℕ) (action : Action) (all : Bool) (bytes held : List ℕ) (result : Result ℕ Halt) → all ≡ false
    → Asks geometry old (Send slba action false) [] result [] new
    → IfOk result (λ value. Adds held (λ returned. Effect geometry old (Ok (Send slba action all)) bytes Success value returned new) held)
sent-ok geometry old new slba action all bytes held (Ok value) one asks =
    rw one (adds-nothing held _ (effect-bare geometry old new (Send slba action false) bytes [] Success value refl asks))
sent-ok geometry old new slba action all bytes held (Err halt) one asks = tt

-- and one that is not believed to be
pub sent-err : (geometry : Geometry) (old new : List Zone) (slba : ℕ) (action : Action) (all : Bool) (bytes : List ℕ) (result : Result ℕ Halt) → all ≡ false
    → Asks geometry old (Send slba action false) [] result [] new → IfErr result (λ halt. HaltsSo halt geometry old (Ok (Send slba action all)) bytes new)
sent-err geometry old new slba action all bytes (Ok value) one asks = tt
sent-err geometry old new slba action all bytes (Err Memory) one asks = asks
sent-err geometry old new slba action all bytes (Err Failed) one asks = asks
sent-err geometry old new slba action all bytes (Err Stopped) one asks = rw one (left-bare geometry old new slba action bytes asks)

-- an entry that holds no command is refused, and changes nothing
pub faulty-effect : (geometry : Geometry) (zones : List Zone) (fault : DecodeFault) (bytes : List ℕ) → Effect geometry zones (Err fault) bytes (decode_status fault) 0 [] zones
unfolding outcome
faulty-effect geometry zones fault bytes = record {
  middle = zones;
  before = IsClosing-refl zones;
  status_is = refl;
  value_is = refl;
  returned_is = refl;
  after = IsClosing-refl zones;
}

-- of a drive that says nothing of a loss of power, every command changes what is durable as it must
pub hardens-silent : (command : Result Command DecodeFault) (old new : DriveState) → old.durable ≡ [] → new.durable ≡ [] → Hardens command old new
hardens-silent (Err fault) old new was is = is ∙ sym was
hardens-silent (Ok Flush) old new was is = λ zones left. absurd (omega (arith, (rw is at left).1))
hardens-silent (Ok (Read slba blocks)) old new was is = is ∙ sym was
hardens-silent (Ok (Write slba blocks)) old new was is = is ∙ sym was
hardens-silent (Ok (Append zslba blocks)) old new was is = is ∙ sym was
hardens-silent (Ok (Send slba action all)) old new was is = is ∙ sym was
hardens-silent (Ok (Receive slba dwords options partial)) old new was is = is ∙ sym was

-- a command that was done and counted is performed, by a drive that is clean before and after it
pub performs-counted : (old middle new : DriveState) (command : Result Command DecodeFault) (bytes returned : List ℕ) (status : Status) (value : ℕ) → old.clean ≡ true
    → middle ≡ record old { zones = middle.zones } → new ≡ counted middle command status → Hardens command old new
    → Effect old.geometry old.zones command bytes status value returned middle.zones → Performs old command bytes status value returned new
performs-counted old middle new command bytes returned status value clean others is hardens effect =
    let whole : new ≡ counted (record old { zones = middle.zones }) command status = is ∙ ap (λ (d : DriveState). counted d command status) others in
    record {
      held = returned;
      effect = rw (ap (λ (d : DriveState). d.zones) is) effect;
      told = λ told. refl;
      length_is = refl;
      trusted = λ after. clean;
      fair = λ before same. ap (λ (d : DriveState). d.clean) whole ∙ clean;
      unfailing = ap (λ (d : DriveState). d.unfailing) whole;
      geometry = ap (λ (d : DriveState). d.geometry) whole;
      completed = ap (λ (d : DriveState). d.completed) whole;
      refused = ap (λ (d : DriveState). d.refused) whole;
      appended = ap (λ (d : DriveState). d.appended) whole;
      hardens = hardens;
    }
