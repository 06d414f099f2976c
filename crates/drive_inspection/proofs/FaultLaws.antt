-- Which faults tell something of what a drive holds.
use Rattle.std.proofs.Common.{◌≡◌, inl, inr, ℕ, Bool, true, false, List, [], ◌∷◌, Option, Some, None, subst, sym}
use Rattle.std.specs.Prelude.{◌^◌, nat_le, if◌then◌else◌, IsFalse}
use Rattle.std.specs.List.{list_any}
use Rattle.std.specs.Ordering.{nat_cmp}
use Rattle.std.specs.BTreeSet.{insert_key}
use Rattle.std.specs.BTreeMap.{is_at}
use Rattle.zone_states.specs.declared.geometry.Geometry.{Geometry}
use Rattle.drive_port.specs.Contents.{Content}
use Rattle.drive_port.specs.Drive.{DriveState}
use Rattle.batch_log.specs.Ending.{Ending, ended, failed, torn}
use Rattle.batch_log.specs.Log.{Batch}
use Rattle.drive_survey.specs.declared.fault.MountFault.{MountFault}
use Rattle.drive_survey.specs.declared.fault.MountFault.TheVariants.{Log, SequenceRepeated, Spent, Reserve, Limits, ZoneUnusable, BlockOutOfRange, TooManyPartial, NoSpare, Halted, OutOfMemory, Failed, Damaged, TornZone}
use Rattle.drive_survey.specs.Scan.{FailsBy, FailsIn, IsInterruption, ending_fault, fault_or, heading_fault, log_fault}
use Rattle.remount.specs.Mount.{MountFails}
use Rattle.drive_inspection.specs.Findings.{Refuses}
use Rattle.drive_inspection.specs.Found.{IsEnd, IsNoFinding, IsRefusal, IsTellable}

-- ---- of a zone by itself

-- a fault that the batches of a zone can have by themselves
abbrev IsOfBatches : MountFault → Type 0
IsOfBatches Spent = Unit {0}
IsOfBatches SequenceRepeated = Unit {0}
IsOfBatches (Log zone offset cause) = Unit {0}
IsOfBatches fault = ⊥

of-heading : (a b : Bool) (fault : MountFault) → (if a then Some Spent else if b then Some SequenceRepeated else None) ≡ Some fault → IsOfBatches fault
of-heading true b fault e = let same : Spent ≡ fault = cc in subst IsOfBatches same tt
of-heading false true fault e = let same : SequenceRepeated ≡ fault = cc in subst IsOfBatches same tt
of-heading false false fault e = absurd (cc)

-- a fault of the first batch, or of the others
of-either : (first others : Option MountFault) (fault : MountFault) → (first ≡ Some fault → IsOfBatches fault) → (others ≡ Some fault → IsOfBatches fault) → fault_or first others ≡ Some fault → IsOfBatches fault
of-either None others fault one rest e = rest e
of-either (Some f) others fault one rest e = one e

of-log : (seen : List ℕ) (log : List Batch) (fault : MountFault) → log_fault seen log ≡ Some fault → IsOfBatches fault
of-log seen [] fault e = absurd (cc)
of-log seen (b ∷ bs) fault e =
    of-either (heading_fault seen b.heading) (log_fault (insert_key nat_cmp seen b.heading.sequence) bs) fault
    (of-heading (nat_le (2 ^ 63) b.heading.sequence) (list_any (is_at (nat_cmp b.heading.sequence)) seen) fault)
    (of-log (insert_key nat_cmp seen b.heading.sequence) bs fault) e

of-ending : (zone offset : ℕ) (ending : Ending) (fault : MountFault) → ending_fault zone offset ending ≡ Some fault → IsOfBatches fault
of-ending zone offset ended fault e = absurd (cc)
of-ending zone offset torn fault e = absurd (cc)
of-ending zone offset (failed cause) fault e = let same : Log zone offset cause ≡ fault = cc in subst IsOfBatches same tt

of-zone : (geometry : Geometry) (content : Content) (zone : ℕ) (seen : List ℕ) (fault : MountFault) → FailsIn geometry content zone seen fault → IsOfBatches fault
of-zone geometry content zone seen fault fails = elim fails.first as (λ _. IsOfBatches fault) [
  | inl batch ↦ of-log seen fails.log fault batch
  | inr ends ↦ of-ending zone _ _ fault ends.2
]

tells : (fault : MountFault) → IsNoFinding fault → IsOfBatches fault → ⊥
tells fault (inl memory) is = subst IsOfBatches memory is
tells fault (inr (inl halted)) is = subst IsOfBatches halted is
tells fault (inr (inr (inl failing))) is = subst IsOfBatches failing is
tells fault (inr (inr (inr damaged))) is = subst IsOfBatches damaged is

-- if the fault of a scan tells nothing, the drive halted or memory ran out
pub scan-interrupted : (drive : DriveState) (geometry : Geometry) (content : Content) (zone : ℕ) (seen : List ℕ) (fault : MountFault) → IsNoFinding fault → FailsBy (FailsIn geometry content zone seen) drive fault → IsInterruption drive fault
scan-interrupted drive geometry content zone seen fault none (inl memory) = inl memory
scan-interrupted drive geometry content zone seen fault none (inr (inl halted)) = inr (inl halted)
scan-interrupted drive geometry content zone seen fault none (inr (inr fails)) = absurd (tells fault none (of-zone geometry content zone seen fault fails))

-- if the drive is told to have failed in a zone, it has
pub scan-failed : (drive : DriveState) (geometry : Geometry) (content : Content) (zone : ℕ) (seen : List ℕ) → FailsBy (FailsIn geometry content zone seen) drive Failed → IsFalse drive.unfailing
scan-failed drive geometry content zone seen (inl memory) = absurd (cc)
scan-failed drive geometry content zone seen (inr (inl (inl halted))) = absurd (cc (halted.0))
scan-failed drive geometry content zone seen (inr (inl (inr failing))) = failing.1
scan-failed drive geometry content zone seen (inr (inr fails)) = absurd (of-zone geometry content zone seen Failed fails)

-- a fault that tells something is the first one of the zone
pub scan-fails : (drive : DriveState) (geometry : Geometry) (content : Content) (zone : ℕ) (seen : List ℕ) (fault : MountFault) → FailsBy (FailsIn geometry content zone seen) drive fault → IsRefusal fault → FailsIn geometry content zone seen fault
scan-fails drive geometry content zone seen fault (inl memory) is = absurd (is.0 memory)
scan-fails drive geometry content zone seen fault (inr (inl (inl halted))) is = absurd (is.1 halted.0)
scan-fails drive geometry content zone seen fault (inr (inl (inr failing))) is = absurd (is.2 failing.0)
scan-fails drive geometry content zone seen fault (inr (inr fails)) is = fails

-- ---- of a mount

-- what ends a check tells nothing
pub end-tells : (fault : MountFault) → IsEnd fault → IsNoFinding fault
end-tells fault (inl memory) = inl memory
end-tells fault (inr (inl halted)) = inr (inl halted)
end-tells fault (inr (inr damaged)) = inr (inr (inr damaged))

refused-tells : (drive : DriveState) (n : ℕ) (fault : MountFault) → IsNoFinding fault → MountFails drive n fault → ⊥
refused-tells drive n fault (inl memory) fails = subst (MountFails drive n) memory fails
refused-tells drive n fault (inr (inl halted)) fails = subst (MountFails drive n) halted fails
refused-tells drive n fault (inr (inr (inl failing))) fails = subst (MountFails drive n) failing fails
refused-tells drive n fault (inr (inr (inr damaged))) fails = subst (MountFails drive n) damaged fails

-- if the fault of a mount tells nothing, the drive halted or memory ran out
pub mount-interrupted : (drive last : DriveState) (n : ℕ) (fault : MountFault) → IsNoFinding fault → FailsBy (MountFails drive n) last fault → IsInterruption last fault
mount-interrupted drive last n fault none (inl memory) = inl memory
mount-interrupted drive last n fault none (inr (inl halted)) = inr (inl halted)
mount-interrupted drive last n fault none (inr (inr fails)) = absurd (refused-tells drive n fault none fails)

-- a fault by which a mount is refused is told as its refusal
pub mount-refuses : (drive last : DriveState) (n : ℕ) (fault : MountFault) → MountFails drive n fault → Refuses drive last n (Some fault)
mount-refuses drive last n Reserve fails = fails
mount-refuses drive last n Limits fails = fails
mount-refuses drive last n (ZoneUnusable zone) fails = fails
mount-refuses drive last n (Log zone offset cause) fails = fails
mount-refuses drive last n SequenceRepeated fails = fails
mount-refuses drive last n BlockOutOfRange fails = fails
mount-refuses drive last n TooManyPartial fails = fails
mount-refuses drive last n NoSpare fails = fails
mount-refuses drive last n Spent fails = fails
mount-refuses drive last n (TornZone zone) fails = fails
mount-refuses drive last n Halted fails = fails
mount-refuses drive last n OutOfMemory fails = fails
mount-refuses drive last n Damaged fails = fails
mount-refuses drive last n Failed fails = absurd fails

-- so is a command that failed, if the drive has failed to the end
pub refuses : (drive middle last : DriveState) (n : ℕ) (fault : MountFault) → FailsBy (MountFails drive n) middle fault → (IsFalse middle.unfailing → IsFalse last.unfailing) → IsTellable fault → Refuses drive last n (Some fault)
refuses drive middle last n fault (inl memory) on is = absurd (is.0 memory)
refuses drive middle last n fault (inr (inl (inl halted))) on is = absurd (is.1 halted.0)
refuses drive middle last n fault (inr (inl (inr failing))) on is = subst (λ (f : MountFault). Refuses drive last n (Some f)) (sym failing.0) (on failing.1)
refuses drive middle last n fault (inr (inr fails)) on is = mount-refuses drive last n fault fails

-- ---- interruptions

-- an interruption tells nothing
pub interrupts : (drive : DriveState) (fault : MountFault) → IsInterruption drive fault → IsNoFinding fault
interrupts drive fault (inl memory) = inl memory
interrupts drive fault (inr (inl (inl halted))) = inr (inl halted.0)
interrupts drive fault (inr (inl (inr failing))) = inr (inr (inl failing.0))
interrupts drive fault (inr (inr none)) = absurd none
