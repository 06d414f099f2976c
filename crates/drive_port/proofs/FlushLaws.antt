-- What a Flush leaves, and that no drive refuses it.
use Rattle.std.proofs.Common.{◌≡◌, ◌+◌, ◌≤◌, true, [], Result, Ok, Err, refl, sym, ◌∙◌, ap, arith}
use Rattle.std.specs.Prelude.{IsTrue, IsFalse, OnOk}
use Rattle.nvme_wire.specs.declared.command.Command.TheVariants.{Flush}
use Rattle.drive_port.specs.declared.calls.PortFault.{PortFault}
use Rattle.drive_port.specs.declared.calls.PortFault.TheVariants.{Refused, Memory, Failed, Stopped}
use Rattle.drive_port.specs.Drive.{DriveState}
use Rattle.drive_port.specs.Step.{outcome}
use Rattle.drive_port.specs.Contents.{SameCounts}
use Rattle.drive_port.specs.Calls.{FlushGives, FlushKeeps, Flushed, IsNotRefused, OnlyCloses, with_zero}
use Rattle.drive_port.proofs.StepLaws.{counts-success}
use Rattle.drive_port.proofs.HaltLaws.{query-closes}

-- no drive refuses it
pub flush-is_taken : {V : Type 0} (old new : DriveState) (result : Result V PortFault) → FlushGives old result new → IsNotRefused result
unfolding outcome
flush-is_taken old new (Ok value) gives = tt
flush-is_taken old new (Err (Refused status)) gives = gives.1.1 gives.1.3.effect.status_is
flush-is_taken old new (Err Memory) gives = tt
flush-is_taken old new (Err Failed) gives = tt
flush-is_taken old new (Err Stopped) gives = tt

-- where it succeeded, a loss of power leaves the zones as they are
pub flush-if_ok : {V : Type 0} (old new : DriveState) (result : Result V PortFault) → FlushGives old result new → OnOk result (Flushed old new)
flush-if_ok old new (Ok value) gives = record { counts = counts-success old new (Ok Flush) [] gives.0 0 gives.1.1; durable = gives.1.1.hardens }
flush-if_ok old new (Err fault) gives = tt

-- where it did not, what was durable is
pub flush-keeps : {V : Type 0} (old new : DriveState) (result : Result V PortFault) → FlushGives old result new → FlushKeeps old result new
unfolding outcome
flush-keeps old new (Ok value) gives = tt
flush-keeps old new (Err (Refused status)) gives = absurd (gives.1.1 gives.1.3.effect.status_is)
flush-keeps old new (Err Memory) gives = ap (λ (d : DriveState). d.durable) gives.1.1.1
flush-keeps old new (Err Failed) gives = ap (λ (d : DriveState). d.durable) gives.1.1.others
flush-keeps old new (Err Stopped) gives = gives.1.1.hardens

-- what it keeps of a drive that had stopped
pub flush-already : {V : Type 0} (old new : DriveState) (result : Result V PortFault) → FlushGives old result new → old.stopped ≡ true → (result ≡ Err Stopped) × (new ≡ old)
flush-already old new (Ok value) gives e = absurd (cc (e, gives.1.0))
flush-already old new (Err (Refused status)) gives e = absurd (cc (e, gives.1.0))
flush-already old new (Err Memory) gives e = absurd (cc (e, gives.1.1.0))
flush-already old new (Err Failed) gives e = absurd (cc (e, gives.1.1.running))
flush-already old new (Err Stopped) gives e = (refl, gives.1.1.already e)

-- a drive that answers that it has stopped has, and counts nothing
pub flush-stops : {V : Type 0} (old new : DriveState) (result : Result V PortFault) → FlushGives old result new → result ≡ Err Stopped → (new.stopped ≡ true) × SameCounts old new
flush-stops old new (Ok value) gives e = absurd (cc e)
flush-stops old new (Err (Refused status)) gives e = absurd (cc e)
flush-stops old new (Err Memory) gives e = absurd (cc e)
flush-stops old new (Err Failed) gives e = absurd (cc e)
flush-stops old new (Err Stopped) gives e = (gives.1.1.stopped, gives.1.1.counts)

-- no more than one command is completed
pub flush-completed : {V : Type 0} (old new : DriveState) (result : Result V PortFault) → FlushGives old result new → new.completed ≤ old.completed + 1
flush-completed old new (Ok value) gives = omega (arith, gives.1.1.completed)
flush-completed old new (Err (Refused status)) gives = omega (arith, gives.1.3.completed)
flush-completed old new (Err Memory) gives = rw gives.1.1.1 (omega arith)
flush-completed old new (Err Failed) gives = rw gives.1.1.others (omega arith)
flush-completed old new (Err Stopped) gives = omega (arith, gives.1.1.counts.completed)

-- it is not clean where it was not
pub flush-trusted : {V : Type 0} (old new : DriveState) (result : Result V PortFault) → FlushGives old result new → IsTrue new.clean → IsTrue old.clean
flush-trusted old new (Ok value) gives = gives.1.1.trusted
flush-trusted old new (Err (Refused status)) gives = gives.1.3.trusted
flush-trusted old new (Err Memory) gives = rw gives.1.1.1 (λ clean. clean)
flush-trusted old new (Err Failed) gives = rw gives.1.1.others (λ clean. clean)
flush-trusted old new (Err Stopped) gives = gives.1.1.trusted

-- it is not unfailing where it was not
pub flush-unfailing : {V : Type 0} (old new : DriveState) (result : Result V PortFault) → FlushGives old result new → IsTrue new.unfailing → IsTrue old.unfailing
flush-unfailing old new (Ok value) gives = λ is. sym gives.1.1.unfailing ∙ is
flush-unfailing old new (Err (Refused status)) gives = λ is. sym gives.1.3.unfailing ∙ is
flush-unfailing old new (Err Memory) gives = rw gives.1.1.1 (λ is. is)
flush-unfailing old new (Err Failed) gives = rw gives.1.1.others (λ is. absurd (cc is))
flush-unfailing old new (Err Stopped) gives = λ is. sym gives.1.1.unfailing ∙ is

-- nor where it failed, and then it counts nothing
pub flush-fails : {V : Type 0} (old new : DriveState) (result : Result V PortFault) → FlushGives old result new → result ≡ Err Failed → IsFalse new.unfailing × SameCounts old new
flush-fails old new (Ok value) gives e = absurd (cc e)
flush-fails old new (Err (Refused status)) gives e = absurd (cc e)
flush-fails old new (Err Memory) gives e = absurd (cc e)
flush-fails old new (Err Failed) gives e = rw gives.1.1.others (refl, record { completed = refl; refused = refl; appended = refl })
flush-fails old new (Err Stopped) gives e = absurd (cc e)

-- the geometry is the same
flush-geometry : {V : Type 0} (old new : DriveState) (result : Result V PortFault) → FlushGives old result new → new.geometry ≡ old.geometry
flush-geometry old new (Ok value) gives = gives.1.1.geometry
flush-geometry old new (Err (Refused status)) gives = gives.1.3.geometry
flush-geometry old new (Err Memory) gives = ap (λ (d : DriveState). d.geometry) gives.1.1.1
flush-geometry old new (Err Failed) gives = ap (λ (d : DriveState). d.geometry) gives.1.1.others
flush-geometry old new (Err Stopped) gives = gives.1.1.geometry

-- it does no more to the zones than the controller may by itself
pub flush-closes : {V : Type 0} (old new : DriveState) (result : Result V PortFault) → FlushGives old result new → OnlyCloses old new
flush-closes old new result gives = query-closes old new Flush [] gives.0 (with_zero result) refl (flush-geometry old new result gives) gives.1
