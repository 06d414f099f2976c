-- A disk, by what its parts change.
use Rattle.std.proofs.Common.{◌≡◌, ℕ, Bool, true, false, List, length, Option, Some, None, is_some, Result, Ok, Err, inl, inr, refl, sym, ap, subst, ◌≤◌, ◌∙◌, arith}
use Rattle.std.specs.Prelude.{OnOk, IsTrue}
use Rattle.zone_states.specs.declared.geometry.Geometry.{Geometry}
use Rattle.zone_choice.specs.Agreement.{MountedView, mounted_array}
use Rattle.drive_array.specs.ZoneLogs.{drive_logs}
use Rattle.zone_choice.specs.Changes.{KeepsArray}
use Rattle.zone_choice.specs.Roles.{empty_count}
use Rattle.zone_choice.specs.Sane.{IsSane, KeepsShape}
use Rattle.zone_choice.specs.Tables.{size_of}
use Rattle.zone_choice.proofs.AgreementLaws.{size-encoded}
use Rattle.drive_array.proofs.WholeLaws.{length-encoded}
use Rattle.drive_array.specs.Mountable.{IsMountable}
use Rattle.drive_array.specs.Reserve.{FitsReserve, batch_most}
use Rattle.zone_cleaner.specs.declared.fault.CleanFault.{CleanFault}
use Rattle.zone_cleaner.specs.declared.fault.CleanFault.TheVariants as faults
use Rattle.zone_cleaner.specs.Clean.{CleanView, turns_left}
use Rattle.zone_cleaner.specs.Start.{AgreesWithClean, GoesOn, IsCleaningCause, KeepsByCleaning}
use Rattle.zone_cleaner.proofs.NextLaws.{cleaning_kept, cleaned_kept}
use Rattle.zone_cleaner.proofs.SaneLaws.{sane-same}
use Rattle.zone_cleaner.proofs.TurnLaws.{cleans_mountable}
use Rattle.zone_translator.specs.declared.fault.DiskFault.{DiskFault}
use Rattle.zone_translator.specs.declared.fault.DiskFault.TheVariants.{OutOfRange, OutOfMemory, Stopped, Spent, Unmounted, Smaller, Reserve, Damaged, Failed}
use Rattle.zone_translator.specs.declared.status.DiskStatus.{DiskStatus}
use Rattle.zone_translator.specs.declared.status.DiskStatus.TheVariants as statuses
use Rattle.zone_translator.specs.Calls.{HoldsClean, status_left}
use Rattle.zone_translator.specs.Changes.{GrowLeaves, Keeps, Names, NoMoreTurns, StopKeeps, WriteLeaves, cleaning_fault}
use Rattle.zone_translator.specs.declared.write.Rest.{Rest}
use Rattle.zone_translator.specs.Answers.{KeepsClean, ThrowsNone}
use Rattle.zone_translator.specs.Batches.{IsTaken, WritesRest, is_trim}
use Rattle.zone_translator.specs.Cleaning.{AddsNewer, GoesOnOrEnds, KeepsCleaning, OnlyNewer}
use Rattle.zone_translator.specs.Parts.{KeepsByRead, ReadStops, WroteSome}
use Rattle.zone_translator.proofs.CleaningLaws.{StaysClean, goes-on, newer-log}
use Rattle.zone_translator.proofs.ContentLaws.{took-names}
use Rattle.zone_translator.specs.Flat.{IsAfterFront, IsFront, grow}
use Rattle.zone_translator.specs.Read.{IsBlockFault, IsReadFault}
use Rattle.zone_translator.proofs.WriteLaws.{front-none}
use Rattle.zone_translator.proofs.RoomLaws.{room-stops}
use Rattle.zone_translator.specs.Answering.{StaysOfSize}
use Rattle.zone_translator.specs.View.{AreBelowNext, DiskView, StaysAlike, KeepsDisk, KeepsDurable, disk_turns, flat_of, given_size, disk_places}

-- what a disk of these parts is seen as
abbrev pub view_of : MountedView → Option CleanView → DiskStatus → DiskView
view_of disk clean status = record { drive = disk.drive; tables = disk.tables; clean = clean; status = status }

-- whatever the Reads returned, its shape and size stay
pub alike-of : (a b : MountedView) (x y : Option CleanView) (was is : DiskStatus) → StaysOfSize a b → StaysAlike (view_of a x was) (view_of b y is)
alike-of a b x y was is stays = record { shape = stays.range.shape; size = stays.size }

-- a command went that changed no tables
pub alike-sent : (a b : MountedView) (x : Option CleanView) (was is : DiskStatus) → KeepsShape a.drive b.drive → b.tables ≡ a.tables → StaysAlike (view_of a x was) (view_of b x is)
alike-sent a b x was is shape tables = record { shape = shape; size = ap size_of tables }

-- the numbers stay in range
pub sane-sent : (a b : MountedView) → KeepsShape a.drive b.drive → b.tables ≡ a.tables → IsSane a → IsSane b
sane-sent a b shape tables sane = rw tables (sane-same a.drive b.drive a.tables shape sane)

-- one after the other
pub alike-same : (a : DiskView) → StaysAlike a a
alike-same a = record { shape = record { geometry = refl; trusted = λ t. t; unfailing = λ up. up }; size = refl }

pub alike-join : (a b c : DiskView) → StaysAlike a b → StaysAlike b c → StaysAlike a c
alike-join a b c one two = record { shape = record { geometry = two.shape.geometry ∙ one.shape.geometry; trusted = λ t. one.shape.trusted (two.shape.trusted t); unfailing = λ up. one.shape.unfailing (two.shape.unfailing up) }; size = two.size ∙ one.size }

-- while the disk serves, the array has its number of blocks; and on a drive that can be mounted each is a whole block
pub length-array : (disk : MountedView) (clean : Option CleanView) → AgreesWithClean disk clean → length (mounted_array disk) ≡ size_of disk.tables
length-array disk clean serves = length-encoded disk.drive disk.tables.given ∙ sym (size-encoded disk serves.0)

-- no refusal of these unmounts a disk
pub refused-status : (fault : DiskFault) (was : DiskStatus) → status_left fault ≡ statuses.Unmounted → was ≡ statuses.Unmounted
refused-status OutOfRange was e = absurd (cc)
refused-status OutOfMemory was e = absurd (cc)
refused-status Failed was e = absurd (cc)
refused-status Stopped was e = absurd (cc)
refused-status Spent was e = absurd (cc)
refused-status Unmounted was e = absurd (cc)
refused-status Damaged was e = absurd (cc)
refused-status Smaller was e = absurd (cc)
refused-status Reserve was e = absurd (cc)

-- tables that agree with a drive have a next sequence above all that are on it
pub below-next : (b : MountedView) (clean : Option CleanView) (is : DiskStatus) → AgreesWithClean b clean → AreBelowNext (view_of b clean is)
below-next b clean is serves = λ e. serves.0.sound.numbers

-- what a part of a call keeps, a disk keeps
pub keeps-disk : (a b : MountedView) (clean clean' : Option CleanView) (was is : DiskStatus) → (is ≡ statuses.Unmounted → was ≡ statuses.Unmounted) → AreBelowNext (view_of b clean' is) → Keeps a b → KeepsDurable (view_of a clean was) (view_of b clean' is)
keeps-disk a b clean clean' was is unmounted below keeps = record {
  kept = record {
    given = keeps.given;
    geometry = keeps.geometry;
    mountable = keeps.mountable;
    refused = keeps.refused;
    next = keeps.next;
    appended = keeps.appended;
    below = λ was_below. below;
    unmounted = unmounted;
    unfailing = keeps.unfailing;
  };
  durable = keeps.durable;
}

-- turns of cleaning keep the disk
pub cleaned-disk : (a b : MountedView) (clean clean' : Option CleanView) (was is : DiskStatus) → (is ≡ statuses.Unmounted → was ≡ statuses.Unmounted) → AreBelowNext (view_of b clean' is) → KeepsByCleaning a b → KeepsDurable (view_of a clean was) (view_of b clean' is)
cleaned-disk a b clean clean' was is unmounted below keeps = record {
  kept = record {
    given = keeps.given;
    geometry = keeps.geometry;
    mountable = keeps.mountable;
    refused = keeps.refused;
    next = keeps.next;
    appended = keeps.appended;
    below = λ was_below. below;
    unmounted = unmounted;
    unfailing = keeps.unfailing;
  };
  durable = keeps.durable;
}

-- what a disk keeps where only commands went that change nothing
pub kept-disk : (a b : MountedView) (clean : Option CleanView) (was is : DiskStatus) → (is ≡ statuses.Unmounted → was ≡ statuses.Unmounted) → AgreesWithClean a clean → KeepsArray a b → KeepsDurable (view_of a clean was) (view_of b clean is)
kept-disk a b clean was is unmounted serves kept = cleaned-disk a b clean clean was is unmounted (below-next b clean is (cleaned_kept a b clean serves kept)) (cleaning_kept a b clean serves kept)

-- and as many turns are left
pub turns-same : (a b : MountedView) (clean : Option CleanView) (was is : DiskStatus) → b.tables ≡ a.tables → b.drive.geometry ≡ a.drive.geometry → disk_turns (view_of b clean is) ≡ disk_turns (view_of a clean was)
turns-same a b clean was is tables same = rw (tables, same) refl

-- the drive has the same newest records
places-same : (a b : MountedView) (clean : Option CleanView) (was is : DiskStatus) → KeepsArray a b → disk_places (view_of b clean is) ≡ disk_places (view_of a clean was)
places-same a b clean was is kept = rw (kept.logs, kept.geometry, kept.given) refl

-- no more turns, as the disk shows them
pub turns-on : (a b : MountedView) (clean clean' : Option CleanView) (was is : DiskStatus) → b.drive.geometry ≡ a.drive.geometry → NoMoreTurns a clean b clean' → disk_turns (view_of b clean' is) ≤ disk_turns (view_of a clean was)
turns-on a b clean clean' was is same turns = subst (λ (g : Geometry). turns_left (batch_most g) b.tables clean' ≤ turns_left (batch_most a.drive.geometry) a.tables clean) (sym same) turns

-- as many turns
pub turns-back : (a b : MountedView) (clean clean' : Option CleanView) (was is : DiskStatus) → b.drive.geometry ≡ a.drive.geometry → turns_left (batch_most a.drive.geometry) b.tables clean' ≡ turns_left (batch_most a.drive.geometry) a.tables clean
    → disk_turns (view_of b clean' is) ≡ disk_turns (view_of a clean was)
turns-back a b clean clean' was is same turns = subst (λ (g : Geometry). turns_left (batch_most g) b.tables clean' ≡ turns_left (batch_most a.drive.geometry) a.tables clean) (sym same) turns

-- what keeps a disk twice keeps it
pub kept-join : (a b c : DiskView) → KeepsDisk a b → KeepsDisk b c → KeepsDisk a c
kept-join a b c p q = record {
  given = q.given ∙ p.given;
  geometry = q.geometry ∙ p.geometry;
  mountable = q.mountable;
  refused = q.refused ∙ p.refused;
  next = omega (arith, p.next, q.next);
  appended = omega (arith, p.appended, q.appended);
  below = λ below. q.below (p.below below);
  unmounted = λ e. p.unmounted (q.unmounted e);
  unfailing = λ up. p.unfailing (q.unfailing up);
}

-- what changes nothing keeps it
pub kept-refl : (a : DiskView) → IsMountable a.drive (given_size a) → KeepsDisk a a
kept-refl a mountable = record { given = refl; geometry = refl; mountable = mountable; refused = refl; next = refl; appended = omega arith; below = λ below. below; unmounted = λ e. e; unfailing = λ up. up }

-- the same with what is durable
pub still-join : (a b c : DiskView) → KeepsDurable a b → KeepsDurable b c → KeepsDurable a c
still-join a b c p q = record { kept = kept-join a b c p.kept q.kept; durable = q.durable ∙ p.durable }

pub still-refl : (a : DiskView) → IsMountable a.drive (given_size a) → KeepsDurable a a
still-refl a mountable = record { kept = kept-refl a mountable; durable = refl }

-- ---- the parts of a disk

-- the reserve allows the number that the mount was given, as before
pub reserve-kept : (a b : MountedView) → b.drive.geometry ≡ a.drive.geometry → b.tables.given ≡ a.tables.given → FitsReserve a.drive.geometry a.tables.given → FitsReserve b.drive.geometry b.tables.given
reserve-kept a b same given fits = rw (same, given) fits

-- a disk that serves, by the agreement of its tables and its drive
pub holds-serving : (disk : MountedView) (clean : Option CleanView) → FitsReserve disk.drive.geometry disk.tables.given → AgreesWithClean disk clean → HoldsClean disk clean statuses.Serving
holds-serving disk clean fits serves = record {
  mountable = cleans_mountable disk clean serves;
  reserve = fits;
  agrees = serves;
  stopped = λ e. absurd (cc);
}

-- one whose drive stopped
holds-stopped : (a b : MountedView) (clean clean' : Option CleanView) → FitsReserve a.drive.geometry a.tables.given → AgreesWithClean a clean → StopKeeps a b → HoldsClean b clean' statuses.Stopped
holds-stopped a b clean clean' fits serves stops = record {
  mountable = stops.keeps.mountable;
  reserve = reserve-kept a b stops.keeps.geometry stops.keeps.given fits;
  agrees = tt;
  stopped = λ e. stops.stopped;
}

-- one that was read, and continues or has stopped
pub holds-kept : (a b : MountedView) (clean : Option CleanView) → FitsReserve a.drive.geometry a.tables.given → AgreesWithClean a clean → KeepsArray a b → HoldsClean b clean statuses.Serving
holds-kept a b clean fits serves kept = holds-serving b clean (reserve-kept a b kept.geometry kept.given fits) (cleaned_kept a b clean serves kept)

-- a read leaves what a disk holds
pub holds-read : (a b : MountedView) (clean : Option CleanView) (fault : DiskFault) → FitsReserve a.drive.geometry a.tables.given → AgreesWithClean a clean → KeepsArray a b → IsReadFault b.drive fault → HoldsClean b clean (status_left fault)
holds-read a b clean OutOfRange fits serves kept cause = absurd cause
holds-read a b clean OutOfMemory fits serves kept cause = holds-kept a b clean fits serves kept
holds-read a b clean Failed fits serves kept cause = holds-kept a b clean fits serves kept
holds-read a b clean Stopped fits serves kept cause =
    let now = cleaned_kept a b clean serves kept in
    record {
      mountable = cleans_mountable b clean now;
      reserve = reserve-kept a b kept.geometry kept.given fits;
      agrees = tt;
      stopped = λ e. cause;
    }
holds-read a b clean Spent fits serves kept cause = absurd cause
holds-read a b clean Smaller fits serves kept cause = absurd cause
holds-read a b clean Reserve fits serves kept cause = absurd cause
holds-read a b clean Unmounted fits serves kept cause = absurd cause
holds-read a b clean Damaged fits serves kept cause = absurd cause

-- ---- a part of a call that was refused

-- the parts of the disk, and what it keeps
pub record Refused (a b : MountedView) (clean clean' : Option CleanView) (fault : DiskFault) (was : DiskStatus) : Type 0 where
  pub holds : HoldsClean b clean' (status_left fault)
  pub kept : KeepsDurable (view_of a clean was) (view_of b clean' (status_left fault))
  pub size : size_of b.tables ≡ size_of a.tables

pub refused-serving : (a b : MountedView) (clean clean' : Option CleanView) (fault : DiskFault) (was : DiskStatus) → FitsReserve a.drive.geometry a.tables.given → status_left fault ≡ statuses.Serving → KeepsByCleaning a b × AgreesWithClean b clean' → Refused a b clean clean' fault was
refused-serving a b clean clean' fault was fits is kept = record {
  holds = rw is (holds-serving b clean' (reserve-kept a b kept.0.geometry kept.0.given fits) kept.1);
  kept = cleaned-disk a b clean clean' was (status_left fault) (refused-status fault was) (below-next b clean' (status_left fault) kept.1) kept.0;
  size = kept.0.size;
}

pub refused-stopped : (a b : MountedView) (clean clean' : Option CleanView) (was : DiskStatus) → FitsReserve a.drive.geometry a.tables.given → AgreesWithClean a clean → StopKeeps a b → Refused a b clean clean' Stopped was
refused-stopped a b clean clean' was fits serves stops = record {
  holds = holds-stopped a b clean clean' fits serves stops;
  kept = keeps-disk a b clean clean' was statuses.Stopped (refused-status Stopped was) (λ e. absurd (cc)) stops.keeps;
  size = stops.size;
}

-- a turn that was not done
pub refused-turn : (a b : MountedView) (clean clean' : Option CleanView) (cause : CleanFault) (was : DiskStatus) → FitsReserve a.drive.geometry a.tables.given → AgreesWithClean a clean → KeepsByCleaning a b → GoesOn (Err cause) b clean' → IsCleaningCause b.drive b.tables.next cause
    → Refused a b clean clean' (cleaning_fault cause) was
refused-turn a b clean clean' faults.OutOfMemory was fits serves kept on cause = refused-serving a b clean clean' OutOfMemory was fits refl (kept, on)
refused-turn a b clean clean' faults.Failed was fits serves kept on cause = refused-serving a b clean clean' Failed was fits refl (kept, on)
refused-turn a b clean clean' faults.Stopped was fits serves kept on cause = refused-stopped a b clean clean' was fits serves (room-stops a b kept cause)
refused-turn a b clean clean' faults.Spent was fits serves kept on cause = refused-serving a b clean clean' Spent was fits refl (kept, on)
refused-turn a b clean clean' faults.Damaged was fits serves kept on cause = absurd cause

-- with the front of a write that was made
pub record RefusedWrite (a b : MountedView) (clean clean' : Option CleanView) (first : ℕ) (blocks : List (List ℕ)) (fault : DiskFault) (was : DiskStatus) : Type 0 where
  pub refused : Refused a b clean clean' fault was
  pub front : IsFront (mounted_array a) first blocks (mounted_array b)

-- a write that was refused midway
pub refused-write : (a b : MountedView) (clean clean' : Option CleanView) (trim : Bool) (first : ℕ) (blocks : List (List ℕ)) (fault : DiskFault) (was : DiskStatus) → FitsReserve a.drive.geometry a.tables.given → AgreesWithClean a clean
    → WriteLeaves trim a b clean' first blocks (Err fault) → RefusedWrite a b clean clean' first blocks fault was
refused-write a b clean clean' trim first blocks fault was fits serves leaves = by fault leaves
  where
    same : (fault : DiskFault) → status_left fault ≡ statuses.Serving → KeepsByCleaning a b × AgreesWithClean b clean' → RefusedWrite a b clean clean' first blocks fault was
    same fault is kept = record { refused = refused-serving a b clean clean' fault was fits is kept; front = front-none (mounted_array a) (mounted_array b) first blocks kept.0.array }

    by : (fault : DiskFault) → WriteLeaves trim a b clean' first blocks (Err fault) → RefusedWrite a b clean clean' first blocks fault was
    by OutOfRange leaves = same OutOfRange refl leaves
    by OutOfMemory leaves = same OutOfMemory refl leaves
    by Failed leaves = same Failed refl leaves
    by Stopped leaves = record { refused = refused-stopped a b clean clean' was fits serves leaves.0; front = leaves.1 }
    by Spent leaves = same Spent refl leaves
    by Smaller leaves = same Smaller refl leaves
    by Reserve leaves = same Reserve refl leaves
    by Unmounted leaves = same Unmounted refl leaves
    by Damaged leaves = absurd leaves

-- with the array of a growth, which is the old one but where the drive stopped
pub record RefusedGrowth (a b : MountedView) (clean clean' : Option CleanView) (size : ℕ) (fault : DiskFault) (was : DiskStatus) : Type 0 where
  pub refused : Refused a b clean clean' fault was
  pub front : IsAfterFront (flat_of (view_of a clean was)) (grow size) fault (mounted_array b)

-- and a growth
pub refused-growth : (a b : MountedView) (clean clean' : Option CleanView) (size : ℕ) (fault : DiskFault) (was : DiskStatus) → FitsReserve a.drive.geometry a.tables.given → AgreesWithClean a clean
    → GrowLeaves a b clean' size (Err fault) → RefusedGrowth a b clean clean' size fault was
refused-growth a b clean clean' size OutOfRange was fits serves leaves = record { refused = refused-serving a b clean clean' OutOfRange was fits refl leaves; front = leaves.0.array }
refused-growth a b clean clean' size OutOfMemory was fits serves leaves = record { refused = refused-serving a b clean clean' OutOfMemory was fits refl leaves; front = leaves.0.array }
refused-growth a b clean clean' size Failed was fits serves leaves = record { refused = refused-serving a b clean clean' Failed was fits refl leaves; front = leaves.0.array }
refused-growth a b clean clean' size Stopped was fits serves leaves = record { refused = refused-stopped a b clean clean' was fits serves leaves.0; front = leaves.1 }
refused-growth a b clean clean' size Spent was fits serves leaves = record { refused = refused-serving a b clean clean' Spent was fits refl leaves; front = leaves.0.array }
refused-growth a b clean clean' size Smaller was fits serves leaves = record { refused = refused-serving a b clean clean' Smaller was fits refl leaves; front = leaves.0.array }
refused-growth a b clean clean' size Reserve was fits serves leaves = record { refused = refused-serving a b clean clean' Reserve was fits refl leaves; front = leaves.0.array }
refused-growth a b clean clean' size Unmounted was fits serves leaves = record { refused = refused-serving a b clean clean' Unmounted was fits refl leaves; front = leaves.0.array }
refused-growth a b clean clean' size Damaged was fits serves leaves = absurd leaves

-- while it serves, its tables agree with its drive
pub holds-agrees : (disk : MountedView) (clean : Option CleanView) (status : DiskStatus) → status ≡ statuses.Serving → HoldsClean disk clean status → AgreesWithClean disk clean
holds-agrees disk clean statuses.Serving e holds = holds.agrees
holds-agrees disk clean statuses.Stopped e holds = absurd (cc)
holds-agrees disk clean statuses.Unmounted e holds = absurd (cc)

-- and a zone is kept empty for the next clean
pub none-spare : (disk : MountedView) (clean : Option CleanView) → is_some clean ≡ false → AgreesWithClean disk clean → 1 ≤ empty_count disk.tables.roles
none-spare disk None none serves = serves.1.0
none-spare disk (Some c) none serves = absurd (cc)

-- ---- the tables name the places that the drive has

-- the places of the tables are the disk's
pub places-on : (disk : MountedView) (clean : Option CleanView) (status : DiskStatus) → AgreesWithClean disk clean → disk.tables.map.places ≡ disk_places (view_of disk clean status)
places-on disk clean status serves = serves.0.places

-- and what they name
names-on : (a b : MountedView) (clean clean' : Option CleanView) (trim : Bool) (first count : ℕ) (was is : DiskStatus) → AgreesWithClean a clean → AgreesWithClean b clean' → Names trim a.tables.map.places first count b.tables.map.places
    → Names trim (disk_places (view_of a clean was)) first count (disk_places (view_of b clean' is))
names-on a b clean clean' trim first count was is serves after names = rw (places-on a clean was serves, places-on b clean' is after) at names

-- ---- one batch of a write

-- a batch of a write is a part of it
pub wrote-some : (a b : MountedView) (clean clean' : Option CleanView) (was is : DiskStatus) (rest : Rest) (count : ℕ) → is ≡ statuses.Serving → AgreesWithClean a clean → IsTaken a.drive.geometry rest count → WritesRest a rest (Ok count) b clean'
    → WroteSome (view_of a clean was) rest (view_of b clean' is) count
wrote-some a b clean clean' was is rest count serving serves taken leaves = record {
  taken = taken;
  array = leaves.array;
  names = names-on a b clean clean' (is_trim rest.content) rest.first count was is serves leaves.serves
      (took-names (is_trim rest.content) a.tables.map.places b.tables.map.places rest.first count rest.left a.drive.geometry.block rest.content taken.1 leaves.names);
  says = leaves.says;
  early = leaves.early;
  serving = serving;
}

-- ---- the clean that ran

-- a clean that continues or ends is not thrown back
pub goes-clean : (a b : MountedView) (x y : Option CleanView) (was is : DiskStatus) → b.drive.geometry ≡ a.drive.geometry → GoesOnOrEnds a x b y → ThrowsNone (view_of a x was) (view_of b y is)
goes-clean a b None y was is same goes = tt
goes-clean a b (Some u) None was is same goes = inr goes
goes-clean a b (Some u) (Some v) was is same goes =
    inl (record { same = v; runs = refl; victim = goes.0; turns = turns-on a b (Some u) (Some v) was is same goes.1 })

-- once a write is done
pub done-clean : (a b : MountedView) (x y : Option CleanView) (was is : DiskStatus) → StaysClean a x b y → KeepsClean (view_of a x was) (view_of b y is)
done-clean a b x y was is stays = λ up. goes-clean a b x y was is stays.geometry (stays.goes up)

-- where nothing was done
pub same-clean : (disk : DiskView) → KeepsClean disk disk
same-clean disk = λ up. by disk.clean refl
  where
    by : (x : Option CleanView) → disk.clean ≡ x → ThrowsNone disk disk
    by None e = rw e tt
    by (Some u) e = rw e (inl (record { same = u; runs = refl; victim = refl; turns = omega arith }))

-- where a batch was refused, after some were written
newer-unless : (b c : MountedView) (fault : DiskFault) → status_left fault ≡ statuses.Serving → AddsNewer {V = ℕ} b (Err fault) c → OnlyNewer b.tables.next (drive_logs b.drive) (drive_logs c.drive)
newer-unless b c OutOfRange serves newer = newer
newer-unless b c OutOfMemory serves newer = newer
newer-unless b c Failed serves newer = newer
newer-unless b c Stopped serves newer = absurd (cc)
newer-unless b c Spent serves newer = newer
newer-unless b c Smaller serves newer = newer
newer-unless b c Reserve serves newer = newer
newer-unless b c Unmounted serves newer = newer
newer-unless b c Damaged serves newer = newer

goes-turns : (b c : MountedView) (v : CleanView) (z : Option CleanView) → GoesOnOrEnds b (Some v) c z → NoMoreTurns b (Some v) c z
goes-turns b c v None goes = omega arith
goes-turns b c v (Some w) goes = goes.1

-- a refusal throws no clean back
pub refused-clean : (a b c : MountedView) (x y z : Option CleanView) (was is : DiskStatus) (fault : DiskFault) → c.drive.geometry ≡ a.drive.geometry → StaysClean a x b y → KeepsCleaning {V = ℕ} b y (Err fault) c z → status_left fault ≡ statuses.Serving
    → KeepsClean (view_of a x was) (view_of c z is)
refused-clean a b c x y z was is fault same stays keeps serves = λ up. by x y stays.goes stays.unfailing (keeps.clean up) (keeps.unfailing up)
  where
    by : (x y : Option CleanView) → (IsTrue b.drive.unfailing → GoesOnOrEnds a x b y) → (IsTrue b.drive.unfailing → IsTrue a.drive.unfailing) → GoesOnOrEnds b y c z → IsTrue b.drive.unfailing → ThrowsNone (view_of a x was) (view_of c z is)
    by None y goes mono then up = tt
    by (Some u) None goes mono then up = inr (newer-log a.tables.next b.tables.next (drive_logs b.drive) (drive_logs c.drive) u.victim stays.next (goes up) (newer-unless b c fault serves keeps.newer))
    by (Some u) (Some v) goes mono then up = goes-clean a c (Some u) z was is same (goes-on a b c (Some u) (Some v) z stays.next stays.geometry refl (goes up) then)

-- one batch leaves no more turns of a clean that ran
pub batch-turns : {V : Type 0} (a b : MountedView) (x y : Option CleanView) (was is : DiskStatus) (result : Result V DiskFault) → b.drive.geometry ≡ a.drive.geometry → KeepsCleaning a x result b y → IsTrue b.drive.unfailing → is_some x ≡ true → disk_turns (view_of b y is) ≤ disk_turns (view_of a x was)
batch-turns a b None y was is result same keeps up runs = absurd (cc)
batch-turns a b (Some u) y was is result same keeps up runs = turns-on a b (Some u) y was is same (goes-turns a b u y (keeps.clean up))

-- ---- reads

-- a read keeps the array, the tables and the turns
pub read-keeps : (a b : MountedView) (clean : Option CleanView) (was is : DiskStatus) → (is ≡ statuses.Unmounted → was ≡ statuses.Unmounted) → AgreesWithClean a clean → b.tables ≡ a.tables → KeepsArray a b → KeepsByRead (view_of a clean was) (view_of b clean is)
read-keeps a b clean was is unmounted serves tables kept = record {
  kept = kept-disk a b clean was is unmounted serves kept;
  array = kept.array;
  size = ap size_of tables;
  places = places-same a b clean was is kept;
  turns = turns-same a b clean was is tables kept.geometry;
}

-- it stops for its cause
pub read-stops : (a b : MountedView) (clean : Option CleanView) (was is : DiskStatus) (block : ℕ) (fault : DiskFault) → is ≡ status_left fault → AgreesWithClean a clean → b.tables ≡ a.tables → IsBlockFault b block fault → ReadStops (view_of a clean was) block (view_of b clean is) fault
read-stops a b clean was is block fault status serves tables why = record {
  status = status;
  cause = why.cause;
  stops = λ stopped. rw (← places-on a clean was serves, ← tables) (why.stops stopped);
}

-- a read of nothing keeps all
pub read-none : (disk : DiskView) → IsMountable disk.drive (given_size disk) → KeepsByRead disk disk
read-none disk mountable = record { kept = still-refl disk mountable; array = refl; size = refl; places = refl; turns = refl }

-- two reads keep all
pub read-join : (a b c : DiskView) → KeepsByRead a b → KeepsByRead b c → KeepsByRead a c
read-join a b c p q = record { kept = still-join a b c p.kept q.kept; array = q.array ∙ p.array; size = q.size ∙ p.size; places = q.places ∙ p.places; turns = q.turns ∙ p.turns }

-- ---- growth

-- the reserve allows what is between the size and the most that it allows
pub growth-fits : (disk : MountedView) (clean : Option CleanView) (blocks most : ℕ) → AgreesWithClean disk clean → FitsReserve disk.drive.geometry most → size_of disk.tables ≤ blocks → blocks ≤ most → FitsReserve disk.drive.geometry blocks
growth-fits disk clean blocks most serves fits low high =
    (omega (arith, serves.0.reserve.0, low), omega (arith, fits.1, high), (fits.2.0, fits.2.1, omega (arith, fits.2.2, high)))

pub on-ok : {V E : Type 0} (result : Result V E) (A B : Type 0) → (A → B) → OnOk result A → OnOk result B
on-ok (Ok value) A B f a = f a
on-ok (Err fault) A B f a = tt
