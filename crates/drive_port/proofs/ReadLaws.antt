-- What a Read that succeeded showed, and which Read a drive can't refuse.
use Rattle.std.proofs.Common.{◌≡◌, ℕ, zero, suc, ◌+◌, ◌*◌, ◌/◌, ◌%◌, false, List, [], ◌∷◌, ◌++◌, length, Result, Ok, Err, refl, ap, ◌∙◌, inl, inr, arith}
use Rattle.std.specs.List.{AllByRecursion}
use Rattle.std.proofs.lemmas.Bool.{eq-eqb, le-ltb}
use Rattle.std.proofs.lemmas.List.{length-append, length-replicate}
use Rattle.nvme_wire.specs.declared.command.Command.TheVariants.{Read}
use Rattle.nvme_wire.specs.declared.status.Status.TheVariants.{Success}
use Rattle.nvme_wire.specs.declared.zone_state.ZoneState.TheVariants.{Offline}
use Rattle.zone_states.specs.declared.geometry.Geometry.{Geometry}
use Rattle.zone_states.specs.Zone.{Zone, IsLawfulZone}
use Rattle.drive_port.specs.declared.calls.PortFault.{PortFault}
use Rattle.drive_port.specs.declared.calls.PortFault.TheVariants.{Refused, Memory, Failed, Stopped}
use Rattle.drive_port.specs.Drive.{DriveState, ClosesOne, IsClosing, IsLawful}
use Rattle.drive_port.specs.Step.{Performs, block_in, bytes_from, is_state, read_checks, zone_at}
use Rattle.drive_port.specs.Contents.{bytes_at, contents}
use Rattle.drive_port.specs.Calls.{CanRead, IsNotRefused, ReadGives, ReadShows}
use Rattle.drive_port.proofs.ClosingLaws.{content_at-closing, content_at-contents, zone_at-closing}
use Rattle.drive_port.proofs.StepLaws.{counts-success, succeeded, succeeds}
use Rattle.drive_port.proofs.CheckLaws.{AllPass}

-- ---- lengths

length-block_in : (size : ℕ) (blocks : List (List ℕ)) (offset : ℕ) → AllByRecursion (λ block. length block ≡ size) blocks → length (block_in size blocks offset) ≡ size
length-block_in size [] offset whole = length-replicate size 0
length-block_in size (b ∷ bs) zero whole = whole.0
length-block_in size (b ∷ bs) (suc offset) whole = length-block_in size bs offset whole.1

length-bytes_from : (size : ℕ) (blocks : List (List ℕ)) (offset count : ℕ) → AllByRecursion (λ block. length block ≡ size) blocks
    → length (bytes_from size blocks offset count) ≡ count * size
length-bytes_from size blocks offset zero whole = omega arith
length-bytes_from size blocks offset (suc count) whole =
    let one = length-block_in size blocks offset whole in
    let rest = length-bytes_from size blocks (offset + 1) count whole in
    omega (arith, one, rest, length-append (block_in size blocks offset) (bytes_from size blocks (offset + 1) count))

whole-at : (geometry : Geometry) (zones : List Zone) (i : ℕ) → AllByRecursion (IsLawfulZone geometry) zones → AllByRecursion (λ block. length block ≡ geometry.block) (zone_at zones i).blocks
whole-at geometry [] i all = tt
whole-at geometry (z ∷ zs) zero all = all.0.whole
whole-at geometry (z ∷ zs) (suc i) all = whole-at geometry zs i all.1

length-bytes_at : (drive : DriveState) (address count : ℕ) → IsLawful drive → length (bytes_at drive.geometry (contents drive.zones) address count) ≡ count * drive.geometry.block
length-bytes_at drive address count lawful =
    let index = address / drive.geometry.size in
    rw (content_at-contents drive.zones index) (length-bytes_from drive.geometry.block (zone_at drive.zones index).blocks (address % drive.geometry.size) count (whole-at drive.geometry drive.zones index lawful.zones))

-- ---- a Read that succeeded

-- a Read that succeeded put the bytes of its blocks after those that the buffer held
pub read-shows : (old new : DriveState) (address blocks : ℕ) (bytes returned held items : List ℕ) (value : ℕ) → IsLawful old
    → Performs old (Ok (Read address blocks)) bytes Success value returned new → items ≡ held ++ returned → ReadShows old new address blocks held items
read-shows old new address blocks bytes returned held items value lawful step joined =
    let s = succeeded old.geometry old.zones new.zones (Ok (Read address blocks)) bytes step.held value step.effect in
    let shown = s.returned_is ∙ rw (content_at-closing old.zones step.effect.middle (address / old.geometry.size) step.effect.before) refl in
    let whole = length-bytes_at old address blocks lawful in
    record {
      bytes = λ clean. joined ∙ ap (λ (bytes : List ℕ). held ++ bytes) (step.told clean ∙ shown);
      length_is = rw (joined, length-append held returned, step.length_is, shown, whole) refl;
      counts = counts-success old new (Ok (Read address blocks)) bytes returned value step;
    }

-- ---- a Read that isn't refused

offline-closes : (z y : Zone) → ClosesOne z y → is_state Offline z.state ≡ false → is_state Offline y.state ≡ false
offline-closes z y one e =
    elim one.state [
      | inl same ↦ rw same e
      | inr closed ↦ rw closed.1 refl
    ]

read-passes : (old : DriveState) (address blocks : ℕ) (middle : List Zone) → IsClosing old.zones middle → CanRead old address blocks
    → AllPass (read_checks old.geometry (zone_at middle (address / old.geometry.size)) address blocks)
read-passes old address blocks middle closing can =
    let index = address / old.geometry.size in
    let readable = offline-closes (zone_at old.zones index) (zone_at middle index) (zone_at-closing old.zones middle index closing) can.readable in
    (le-ltb _ _ can.few, (le-ltb _ _ can.in_range, (rw (eq-eqb _ _ can.one_zone) refl, (readable, tt))))

-- blocks that can be read are not refused
pub read-is_taken : {V : Type 0} (old new : DriveState) (address blocks : ℕ) (returned : List ℕ) (result : Result V PortFault)
    → ReadGives old address blocks result returned new → CanRead old address blocks → IsNotRefused result
read-is_taken old new address blocks returned (Ok value) gives can = tt
read-is_taken old new address blocks returned (Err (Refused status)) gives can =
    let step = gives.3 in
    gives.1 (succeeds old.geometry old.zones new.zones (Ok (Read address blocks)) [] step.held status gives.2 step.effect (read-passes old address blocks step.effect.middle step.effect.before can))
read-is_taken old new address blocks returned (Err Memory) gives can = tt
read-is_taken old new address blocks returned (Err Failed) gives can = tt
read-is_taken old new address blocks returned (Err Stopped) gives can = tt
