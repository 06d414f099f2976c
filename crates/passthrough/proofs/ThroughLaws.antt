-- What a device's answer to a command says of a way to it.
use Rattle.std.proofs.Common.{◌≡◌, ℕ, zero, suc, ◌^◌, ◌*◌, ◌<◌, ◌≤◌, ◌∙◌, Bool, true, false, IsTrue, not, ◌||◌, List, length, None, Result, Ok, refl, sym, ap, arith, inl, inr}
use Rattle.std.proofs.lemmas.Bool.{leb-false}
use Rattle.nvme_wire.specs.Completion.{IsEncodable, completion_bytes}
use Rattle.nvme_wire.specs.Entry.{decode_of, id_of}
use Rattle.nvme_wire.specs.declared.command.Command.{Command}
use Rattle.nvme_wire.specs.declared.command.Command.TheVariants.{Flush, Read, Write, Append, Send, Receive}
use Rattle.nvme_wire.specs.declared.command.DecodeFault.{DecodeFault}
use Rattle.nvme_wire.specs.declared.command.ReportingOptions.TheVariants.{AnyState, InState}
use Rattle.nvme_wire.specs.declared.completion.Completion.{Completion}
use Rattle.nvme_wire.specs.declared.status.Status.TheVariants.{Success}
use Rattle.zone_states.specs.declared.geometry.Geometry.{Geometry}
use Rattle.zone_states.specs.Zone.{Zone}
use Rattle.drive_port.specs.declared.device.Halt.{Halt}
use Rattle.drive_port.specs.declared.device.Halt.TheVariants.{Memory, Failed, Stopped}
use Rattle.drive_port.specs.Drive.{DriveState, IsLawful}
use Rattle.drive_port.specs.Halting.{Halts, LeftBy}
use Rattle.drive_port.specs.Step.{Completes, Effect, end_of, is_read, is_told}
use Rattle.drive_port.proofs.ClosingLaws.{IsClosing-refl}
use Rattle.drive_port.proofs.StepLaws.{outcome-passes, succeeded}
use Rattle.passthrough.specs.Premise.{Answers, IsDone, IsSent, Recalls, Reports}
use Rattle.passthrough.proofs.ShowLaws.{reports}

-- ---- no success

-- a device that halts leaves what a stop inside the command leaves
pub halted-left : (old new : DriveState) (command : Result Command DecodeFault) (bytes : List ℕ) (halt : Halt)
    → Halts old command bytes halt new → LeftBy old.geometry old.zones command bytes new.zones
halted-left old new command bytes Memory halts = rw halts.1 (inl (IsClosing-refl old.zones))
halted-left old new command bytes Failed halts = inl halts.closing
halted-left old new command bytes Stopped halts = halts.left

-- what is answered where nothing is told
pub silent-answers : (geometry : Geometry) (old new : List Zone) (command : Command) (bytes : List ℕ) (status value : ℕ) (room : List ℕ)
    → 1 ≤ status → LeftBy geometry old (Ok command) bytes new → Answers geometry old command bytes status value room new
silent-answers geometry old new command bytes status value room bad left = record { believed = λ e a. absurd (omega (arith, e)); left = left }

-- ---- success

-- a command that succeeded, and of whose answer everything is told, is done
done-told : (geometry : Geometry) (old new : List Zone) (command : Command) (bytes : List ℕ) (value : ℕ) (returned : List ℕ)
    → Effect geometry old (Ok command) bytes Success value returned new → value ≡ 0 → Effect geometry old (Ok command) bytes Success 0 returned new
done-told geometry old new command bytes value returned effect zero_is = rw zero_is at effect

some-size : (zones size address : ℕ) → address < zones * size → 1 ≤ size
some-size zones zero address low = absurd (omega (arith, low))
some-size zones (suc size) address low = omega arith

-- a report that succeeded shows the zones
report-done : (old new : DriveState) (slba dwords end : ℕ) (bytes : List ℕ) (value : ℕ) (room : List ℕ) → IsLawful old
    → IsSent old.geometry old.zones (Receive slba dwords AnyState true) bytes end (length room)
    → Effect old.geometry old.zones (Ok (Receive slba dwords AnyState true)) bytes Success value room new.zones
    → Reports old.geometry old.zones slba room new.zones
report-done old new slba dwords end bytes value room lawful sent effect =
    let command : Result Command DecodeFault = Ok (Receive slba dwords AnyState true) in
    let s = succeeded old.geometry old.zones new.zones command bytes room value effect in
    let gives = outcome-passes old.geometry effect.middle command bytes s.passed in
    let asked = sent.1 in
    let low : slba < end_of old.geometry = leb-false _ _ s.passed.0 in
    let some : 1 ≤ old.geometry.size = some-size old.geometry.zones old.geometry.size slba low in
    reports old.geometry old.zones effect.middle new.zones slba asked.first asked.count dwords room
    lawful.geometry lawful.count lawful.zones some asked.starts asked.in_range (omega (arith, asked.whole, asked.returned))
    effect.before (rw gives at effect.after) asked.returned s.returned_is

-- a command that was sent and succeeded is done
success-done : (old new : DriveState) (command : Command) (end : ℕ) (bytes : List ℕ) (value : ℕ) (room : List ℕ) → IsLawful old
    → IsSent old.geometry old.zones command bytes end (length room) → Effect old.geometry old.zones (Ok command) bytes Success value room new.zones
    → IsDone old.geometry old.zones command bytes value room new.zones
success-done old new Flush end bytes value room lawful sent effect =
    done-told old.geometry old.zones new.zones Flush bytes value room effect (succeeded old.geometry old.zones new.zones (Ok Flush) bytes room value effect).value_is
success-done old new (Read slba blocks) end bytes value room lawful sent effect =
    done-told old.geometry old.zones new.zones (Read slba blocks) bytes value room effect (succeeded old.geometry old.zones new.zones (Ok (Read slba blocks)) bytes room value effect).value_is
success-done old new (Write slba blocks) end bytes value room lawful sent effect = absurd sent
success-done old new (Append zslba blocks) end bytes value room lawful sent effect = effect
success-done old new (Send slba action true) end bytes value room lawful sent effect = absurd sent
success-done old new (Send slba action false) end bytes value room lawful sent effect =
    done-told old.geometry old.zones new.zones (Send slba action false) bytes value room effect (succeeded old.geometry old.zones new.zones (Ok (Send slba action false)) bytes room value effect).value_is
success-done old new (Receive slba dwords AnyState true) end bytes value room lawful sent effect = report-done old new slba dwords end bytes value room lawful sent effect
success-done old new (Receive slba dwords AnyState false) end bytes value room lawful sent effect = absurd sent
success-done old new (Receive slba dwords (InState state) partial) end bytes value room lawful sent effect = absurd sent

-- the bytes of a drive that is clean are told
told-clean : (command : Result Command DecodeFault) (clean : Bool) → IsTrue clean → IsTrue (is_told command clean)
told-clean command clean is = either (not (is_read command)) clean is
  where
    either : (a b : Bool) → IsTrue b → IsTrue (a || b)
    either true b is = refl
    either false b is = is

-- a completion that says Success is of a command that succeeded, with its value
pub told-effect : (old new : DriveState) (entry bytes completion returned : List ℕ) (told : Completion) → IsTrue new.clean → id_of entry < 2 ^ 16
    → ((c : Completion) → IsEncodable c → completion ≡ completion_bytes c → ◌≡◌ {A = Result Completion DecodeFault} (Ok told) (Ok c)) → told.status ≡ Success
    → Completes old entry bytes completion returned new
    → Effect old.geometry old.zones (decode_of entry) bytes Success told.result returned new.zones
told-effect old new entry bytes completion returned told clean id decodes success done =
    let made : Completion = record { result = done.value; id = id_of entry; status = done.status } in
    let is : ◌≡◌ {A = Result Completion DecodeFault} (Ok told) (Ok made) = decodes made (done.fits, id) done.encoded in
    let same : told ≡ made = cc in
    let status : Success ≡ done.status = sym success ∙ ap (λ (c : Completion). c.status) same in
    let value : told.result ≡ done.value = ap (λ (c : Completion). c.result) same in
    rw (status, value, done.performs.told (told-clean (decode_of entry) new.clean clean)) done.performs.effect

-- so what is answered then is that
pub success-answers : (old new : DriveState) (command : Command) (bytes : List ℕ) (value size end : ℕ) (returned room : List ℕ) → IsLawful old
    → IsSent old.geometry old.zones command bytes end size → length room ≡ size → room ≡ returned → Effect old.geometry old.zones (Ok command) bytes Success value returned new.zones
    → Answers old.geometry old.zones command bytes 0 value room new.zones
success-answers old new command bytes value size end returned room lawful sent long same effect =
    let filled : Effect old.geometry old.zones (Ok command) bytes Success value room new.zones = rw same effect in
    record {
      believed = λ e agrees. success-done old new command end bytes value room lawful (rw long sent) filled;
      left = inr (inl (record { status = Success; value = value; returned = room; effect = filled }));
    }

-- ---- after a command that failed

-- where nothing is told, nothing is believed
pub silent-recalls : (geometry : Geometry) (old new : List Zone) (command : Command) (status : ℕ) (room : List ℕ) → 1 ≤ status
    → Recalls geometry old None command status room new None
silent-recalls geometry old new Flush status room bad = tt
silent-recalls geometry old new (Read slba blocks) status room bad = tt
silent-recalls geometry old new (Write slba blocks) status room bad = tt
silent-recalls geometry old new (Append zslba blocks) status room bad = λ error. tt
silent-recalls geometry old new (Send slba action all) status room bad = λ error. tt
silent-recalls geometry old new (Receive slba dwords options partial) status room bad = λ done shows. absurd (omega (arith, done, bad))

done-recalls : (geometry : Geometry) (old new : List Zone) (command : Command) (bytes : List ℕ) (value : ℕ) (room : List ℕ) → IsDone geometry old command bytes value room new
    → Recalls geometry old None command 0 room new None
done-recalls geometry old new Flush bytes value room done = tt
done-recalls geometry old new (Read slba blocks) bytes value room done = tt
done-recalls geometry old new (Write slba blocks) bytes value room done = tt
done-recalls geometry old new (Append zslba blocks) bytes value room done = λ error. tt
done-recalls geometry old new (Send slba action all) bytes value room done = λ error. tt
done-recalls geometry old new (Receive slba dwords options partial) bytes value room done = λ told shows. done

-- and what is told is what is there
pub success-recalls : (old new : DriveState) (command : Command) (bytes : List ℕ) (value size end : ℕ) (returned room : List ℕ) → IsLawful old
    → IsSent old.geometry old.zones command bytes end size → length room ≡ size → room ≡ returned → Effect old.geometry old.zones (Ok command) bytes Success value returned new.zones
    → Recalls old.geometry old.zones None command 0 room new.zones None
success-recalls old new command bytes value size end returned room lawful sent long same effect =
    let filled : Effect old.geometry old.zones (Ok command) bytes Success value room new.zones = rw same effect in
    done-recalls old.geometry old.zones new.zones command bytes value room (success-done old new command end bytes value room lawful (rw long sent) filled)
