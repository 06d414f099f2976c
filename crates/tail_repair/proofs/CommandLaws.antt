-- What the commands of a repair leave.
use Rattle.std.proofs.Common.{◌≡◌, ◌⊎◌, inl, inr, ℕ, ◌+◌, ◌*◌, ◌/◌, ◌<◌, ◌^◌, IsTrue, Option, List, length, take, Result, Ok, Err, refl, sym, subst, ◌∙◌, arith}
use Rattle.zone_states.specs.Geometry.{IsInRange}
use Rattle.drive_port.specs.Answering.{AppendAnswers, FinishAnswers, ReadAnswers, ResetAnswers}
use Rattle.drive_port.specs.Calls.{AppendKeeps, Appended, AppendedFront, FinishKeeps, Finished, FinishedContents, Obeys, ResetContents, ResetKeeps, ResetZone, data_blocks}
use Rattle.drive_port.specs.Contents.{Appends, Finishes, Resets, SameContents, contents}
use Rattle.drive_port.specs.Drive.{DriveState}
use Rattle.drive_port.specs.declared.calls.PortFault.{PortFault}
use Rattle.drive_port.specs.declared.calls.PortFault.TheVariants as port
use Rattle.std.proofs.lemmas.Nat.{div-mul-add}
use Rattle.tail_repair.specs.Repair.{BatchesEnd, Extends, IsMoved, KeepsDrive}
use Rattle.tail_repair.proofs.KeepLaws.{ResetLeaves, append-extends, extends-same, finish-extends, keeps-same, reset-keeps, reset-leaves-in, same-leaves-in}

same-count : {V : Type 0} (old new : DriveState) (result : Result V PortFault) → Obeys old result new → length new.zones ≡ length old.zones
same-count old new result obeys = obeys.lawful.count ∙ rw obeys.geometry (sym obeys.was_lawful.count)

-- the zone that starts there
start-zone : (old : DriveState) (zone start : ℕ) → IsInRange old.geometry → start ≡ zone * old.geometry.size → start / old.geometry.size ≡ zone
start-zone old zone start range is =
    let at : (zone * old.geometry.size + 0) / old.geometry.size ≡ zone = div-mul-add zone old.geometry.size 0 (omega (arith, range.size)) in
    let plain : start ≡ zone * old.geometry.size + 0 = omega (arith, is) in
    rw plain at

stays-same : {V : Type 0} (old new : DriveState) (to : ℕ) (result : Result V PortFault) → Obeys old result new → contents new.zones ≡ contents old.zones → Extends old new to
stays-same old new to result obeys same = extends-same old new to obeys.geometry obeys.lawful (same-count old new result obeys) obeys.trusted same

-- ---- a Read

pub read-extends : {V : Type 0} (old new : DriveState) (to address blocks : ℕ) (bytes : List ℕ) (result : Result V PortFault) → ReadAnswers old address blocks result bytes new → Extends old new to
read-extends old new to address blocks bytes result answers = stays-same old new to result answers.obeys answers.kept.contents.contents

-- ---- an Append

pub append-leaves : (old new : DriveState) (to start : ℕ) (bytes : List ℕ) (result : Result ℕ PortFault) → IsInRange old.geometry → start ≡ to * old.geometry.size → AppendAnswers old start bytes result new → Extends old new to
append-leaves old new to start bytes result range is answers = at result refl
  where
    number : start / old.geometry.size ≡ to
    number = start-zone old to start range is

    obeys : Obeys old result new
    obeys = answers.obeys

    grown : (blocks : List (List ℕ)) → Appends (contents old.zones) (contents new.zones) old.geometry.capacity (start / old.geometry.size) blocks → Extends old new to
    grown blocks appends = append-extends old new to blocks obeys.geometry obeys.lawful (same-count old new result obeys) obeys.trusted (subst (λ (i : ℕ). Appends (contents old.zones) (contents new.zones) old.geometry.capacity i blocks) number appends)

    kept : (SameContents old new ⊎ AppendedFront old new start bytes) → Extends old new to
    kept (inl same) = stays-same old new to result obeys same.contents
    kept (inr front) = grown (take front.j (data_blocks old.geometry bytes)) front.contents

    at : (r : Result ℕ PortFault) → result ≡ r → Extends old new to
    at (Ok address) e = let done : Appended old new start bytes address = rw e at answers.appended in grown (data_blocks old.geometry bytes) done.contents
    at (Err port.Stopped) e = let left : AppendKeeps old start bytes (Err port.Stopped) new = rw e at answers.kept in kept left
    at (Err port.Memory) e = let left : AppendKeeps old start bytes (Err port.Memory) new = rw e at answers.kept in stays-same old new to result obeys left.contents
    at (Err port.Failed) e = let left : AppendKeeps old start bytes (Err port.Failed) new = rw e at answers.kept in stays-same old new to result obeys left.contents
    at (Err (port.Refused status)) e = let left : AppendKeeps old start bytes (Err (port.Refused status)) new = rw e at answers.kept in stays-same old new to result obeys left.contents

-- ---- a Finish

pub finish-leaves : (old new : DriveState) (to start : ℕ) (result : Result (Unit {0}) PortFault) → IsInRange old.geometry → start ≡ to * old.geometry.size → FinishAnswers old start result new → Extends old new to
finish-leaves old new to start result range is answers = at result refl
  where
    number : start / old.geometry.size ≡ to
    number = start-zone old to start range is

    obeys : Obeys old result new
    obeys = answers.obeys

    full_now : Finishes (contents old.zones) (contents new.zones) (start / old.geometry.size) → Extends old new to
    full_now finishes = finish-extends old new to obeys.geometry obeys.lawful (same-count old new result obeys) obeys.trusted (subst (Finishes (contents old.zones) (contents new.zones)) number finishes)

    kept : (SameContents old new ⊎ FinishedContents old new start) → Extends old new to
    kept (inl same) = stays-same old new to result obeys same.contents
    kept (inr done) = full_now done.contents

    at : (r : Result (Unit {0}) PortFault) → result ≡ r → Extends old new to
    at (Ok u) e = let done : Finished old new start = rw e at answers.finished in full_now done.contents
    at (Err port.Stopped) e = let left : FinishKeeps {V = Unit {0}} old start (Err port.Stopped) new = rw e at answers.kept in kept left
    at (Err port.Memory) e = let left : FinishKeeps {V = Unit {0}} old start (Err port.Memory) new = rw e at answers.kept in stays-same old new to result obeys left.contents
    at (Err port.Failed) e = let left : FinishKeeps {V = Unit {0}} old start (Err port.Failed) new = rw e at answers.kept in stays-same old new to result obeys left.contents
    at (Err (port.Refused status)) e = let left : FinishKeeps {V = Unit {0}} old start (Err (port.Refused status)) new = rw e at answers.kept in stays-same old new to result obeys left.contents

-- ---- a Reset

block-small : (drive : DriveState) → (drive.geometry.block ≡ 512) ⊎ (drive.geometry.block ≡ 4096) → drive.geometry.block < 2 ^ 32
block-small drive (inl is) = omega (arith, is)
block-small drive (inr is) = omega (arith, is)

-- What it leaves, whatever it answers.
pub record LeavesZones (old new : DriveState) (zone : ℕ) (to : Option ℕ) : Type 0 where
  pub kept : KeepsDrive old new
  pub batches : IsTrue new.clean → ResetLeaves old new zone to

pub reset-leaves : (old new : DriveState) (zone start blocks : ℕ) (to : Option ℕ) (result : Result (Unit {0}) PortFault) → IsInRange old.geometry → start ≡ zone * old.geometry.size
    → (IsTrue old.clean → BatchesEnd old zone blocks) → (IsTrue old.clean → IsMoved old zone blocks to) → ResetAnswers old start result new → LeavesZones old new zone to
reset-leaves old new zone start blocks to result range is ends moved answers = at result refl
  where
    number : start / old.geometry.size ≡ zone
    number = start-zone old zone start range is

    obeys : Obeys old result new
    obeys = answers.obeys

    small : old.geometry.block < 2 ^ 32
    small = block-small old range.block

    same : contents new.zones ≡ contents old.zones → LeavesZones old new zone to
    same c = record {
      kept = record { geometry = obeys.geometry; lawful = obeys.lawful; trusted = obeys.trusted; batches = λ clean. keeps-same old new obeys.geometry c (same-count old new result obeys) };
      batches = λ clean. let was = obeys.trusted clean in same-leaves-in old new zone blocks to small obeys.geometry (ends was) (moved was) c;
    }

    empty_now : Resets (contents old.zones) (contents new.zones) (start / old.geometry.size) → LeavesZones old new zone to
    empty_now resets = record {
      kept = record { geometry = obeys.geometry; lawful = obeys.lawful; trusted = obeys.trusted; batches = λ clean. reset-keeps old new zone blocks to (moved (obeys.trusted clean)) (same-count old new result obeys) (leaves clean) };
      batches = leaves;
    }
      where
        leaves : IsTrue new.clean → ResetLeaves old new zone to
        leaves clean =
            let was = obeys.trusted clean in
            let now : Resets (contents old.zones) (contents new.zones) zone = subst (Resets (contents old.zones) (contents new.zones)) number resets in
            reset-leaves-in old new zone blocks to small obeys.geometry (ends was) (moved was) now

    kept : (SameContents old new ⊎ ResetContents old new start) → LeavesZones old new zone to
    kept (inl c) = same c.contents
    kept (inr done) = empty_now done.contents

    at : (r : Result (Unit {0}) PortFault) → result ≡ r → LeavesZones old new zone to
    at (Ok u) e = let done : ResetZone old new start = rw e at answers.reset in empty_now done.contents
    at (Err port.Stopped) e = let left : ResetKeeps {V = Unit {0}} old start (Err port.Stopped) new = rw e at answers.kept in kept left
    at (Err port.Memory) e = let left : ResetKeeps {V = Unit {0}} old start (Err port.Memory) new = rw e at answers.kept in same left.contents
    at (Err port.Failed) e = let left : ResetKeeps {V = Unit {0}} old start (Err port.Failed) new = rw e at answers.kept in same left.contents
    at (Err (port.Refused status)) e = let left : ResetKeeps {V = Unit {0}} old start (Err (port.Refused status)) new = rw e at answers.kept in same left.contents
