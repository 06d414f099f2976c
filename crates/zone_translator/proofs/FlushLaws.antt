-- A flush of a disk.
use Rattle.std.proofs.Common.{◌≡◌, List, false, true, None, Some, Ok, Err, refl, ap, inl, arith}
use Rattle.std.specs.Prelude.{Option, IsTrue}
use Rattle.zone_states.specs.Zone.{Zone}
use Rattle.drive_port.specs.Answering.{FlushAnswers}
use Rattle.drive_port.specs.Calls.{OnlyCloses}
use Rattle.drive_port.specs.Drive.{DriveState, IsLawful}
use Rattle.drive_port.specs.Durable.{MayBeDurable}
use Rattle.drive_port.specs.declared.calls.PortFault.{PortFault}
use Rattle.drive_port.specs.declared.calls.PortFault.TheVariants as port
use Rattle.zone_choice.specs.Agreement.{Agrees, MountedView, mounted}
use Rattle.zone_choice.specs.Changes.{IsHalt, KeepsArray, fault_halt}
use Rattle.zone_choice.specs.Tables.{TablesView}
use Rattle.zone_choice.proofs.AgreementLaws.{agrees_same}
use Rattle.zone_choice.proofs.ChangeLaws.{keeps-same}
use Rattle.zone_choice.proofs.OpenLaws.{closing-opens}
use Rattle.zone_cleaner.specs.Clean.{CleanView}
use Rattle.zone_cleaner.specs.Start.{AgreesWithClean}
use Rattle.zone_translator.specs.declared.fault.DiskFault.{DiskFault}
use Rattle.zone_translator.specs.declared.fault.DiskFault.TheVariants.{OutOfRange, OutOfMemory, Stopped, Spent, Unmounted, Smaller, Reserve, Damaged, Failed}
use Rattle.zone_translator.specs.declared.status.DiskStatus.{DiskStatus}
use Rattle.zone_translator.specs.declared.status.DiskStatus.TheVariants as statuses
use Rattle.zone_translator.specs.Calls.{is_known, status_left}
use Rattle.zone_translator.specs.Changes.{disk_fault}
use Rattle.zone_translator.specs.Flat.{FlatCall, answer_while, flush, known_answer, may_refuse, with_nothing}
use Rattle.zone_translator.specs.Read.{IsReadFault, hardened}
use Rattle.zone_translator.specs.View.{DiskView, KeepsDisk, disk_array, disk_size, flat_of}
use Rattle.zone_translator.proofs.CallLaws.{flat-is, flat-refused}
use Rattle.zone_translator.proofs.DiskLaws.{view_of}

-- ---- nothing but what is durable differs

-- a lawful drive is lawful whatever is durable of it
lawful-hardened : (drive : DriveState) (durable : List (List Zone)) → IsLawful drive → IsLawful (record drive { durable = durable })
lawful-hardened drive durable is = record {
  geometry = is.geometry;
  count = is.count;
  zones = is.zones;
  active = is.active;
  open_zones = is.open_zones;
  completed = is.completed;
  stopped = is.stopped;
}

-- and agrees with the same tables
agrees-hardened : (drive : DriveState) (durable : List (List Zone)) (tables : TablesView) → Agrees (mounted drive tables) → Agrees (mounted (record drive { durable = durable }) tables)
agrees-hardened drive durable tables agrees =
    agrees_same drive (record drive { durable = durable }) tables (record { geometry = refl; contents = refl }) (λ zone is. is) (lawful-hardened drive durable agrees.lawful) (λ up. up) agrees

-- and with the same clean
pub clean-hardened : (before after : MountedView) (clean : Option CleanView) → AgreesWithClean before clean → AgreesWithClean (hardened before after) clean
clean-hardened before after None is = (agrees-hardened before.drive after.drive.durable before.tables is.0, is.1)
clean-hardened before after (Some clean) is = (
  agrees-hardened before.drive after.drive.durable before.tables is.0,
  record {
    destination = is.1.destination;
    second = is.1.second;
    victim = is.1.victim;
    gathers = record { within = is.1.gathers.within; few = is.1.gathers.few; gathered = is.1.gathers.gathered };
    room = is.1.room;
    moves = is.1.moves;
    undo = record { all = is.1.undo.all; each = is.1.undo.each; away = is.1.undo.away };
  },
)

-- what is kept of the one disk is kept of the other
pub keeps-hardened : (before after : MountedView) (clean : Option CleanView) (was is : DiskStatus) → KeepsDisk (view_of (hardened before after) clean was) (view_of after clean is) → KeepsDisk (view_of before clean was) (view_of after clean is)
keeps-hardened before after clean was is keeps = record {
  given = keeps.given;
  geometry = keeps.geometry;
  mountable = keeps.mountable;
  refused = keeps.refused;
  next = keeps.next;
  appended = keeps.appended;
  below = keeps.below;
  unmounted = keeps.unmounted;
  unfailing = keeps.unfailing;
}

-- ---- the Flush of the drive

-- it keeps the array
keeps : (old new : DriveState) (tables : TablesView) → Agrees (mounted old tables) → OnlyCloses old new → IsLawful new → (IsTrue new.unfailing → IsTrue old.unfailing) → new.refused ≡ old.refused → new.appended ≡ old.appended → KeepsArray (hardened (mounted old tables) (mounted new tables)) (mounted new tables)
keeps old new tables agrees kept lawful failed refused appended =
    keeps-same (record old { durable = new.durable }) new tables (agrees-hardened old new.durable tables agrees) (record { geometry = kept.contents.geometry; contents = kept.contents.contents })
    (closing-opens old.zones new.zones kept.closing) lawful failed refused refl appended

-- one that was done
pub flush-kept : (old new : DriveState) (tables : TablesView) → Agrees (mounted old tables) → FlushAnswers {V = Unit {0}} old (Ok tt) new → KeepsArray (hardened (mounted old tables) (mounted new tables)) (mounted new tables)
flush-kept old new tables agrees answers = keeps old new tables agrees answers.kept answers.lawful answers.unfailing answers.flushed.counts.refused (omega (arith, answers.flushed.counts.appended))

-- one that was not
pub record FlushFails (old new : DriveState) (fault : PortFault) : Type 0 where
  pub halt : IsHalt fault
  pub may : MayBeDurable old new
  pub cause : IsReadFault new (disk_fault (fault_halt fault))

-- it is not refused
pub flush_fails : (old new : DriveState) (fault : PortFault) → FlushAnswers {V = Unit {0}} old (Err fault) new → FlushFails old new fault
flush_fails old new (port.Refused status) answers = absurd answers.taken
flush_fails old new port.Memory answers = record { halt = tt; may = λ zones left. inl (rw answers.durable at left); cause = tt }
flush_fails old new port.Failed answers = record { halt = tt; may = λ zones left. inl (rw answers.durable at left); cause = (answers.fails refl).0 }
flush_fails old new port.Stopped answers = record { halt = tt; may = answers.durable; cause = (answers.stops refl).0 }

-- and the array is kept
pub flush_keeps : (old new : DriveState) (tables : TablesView) (fault : PortFault) → Agrees (mounted old tables) → FlushAnswers {V = Unit {0}} old (Err fault) new → KeepsArray (hardened (mounted old tables) (mounted new tables)) (mounted new tables)
flush_keeps old new tables (port.Refused status) agrees answers = absurd answers.taken
flush_keeps old new tables port.Memory agrees answers =
    let same = answers.gives.1.1.1 in
    keeps old new tables agrees answers.kept answers.lawful answers.unfailing (ap (λ (drive : DriveState). drive.refused) same) (ap (λ (drive : DriveState). drive.appended) same)
flush_keeps old new tables port.Failed agrees answers =
    let failed = answers.fails refl in
    keeps old new tables agrees answers.kept answers.lawful answers.unfailing failed.1.refused failed.1.appended
flush_keeps old new tables port.Stopped agrees answers =
    let stops = answers.stops refl in
    keeps old new tables agrees answers.kept answers.lawful answers.unfailing stops.1.refused stops.1.appended

-- ---- the answers of a flush

-- a flush that is done
pub flush-done : (old new : DiskView) → old.status ≡ statuses.Serving → disk_array new ≡ disk_array old → disk_size new ≡ disk_size old → new.status ≡ old.status → new.drive.geometry ≡ old.drive.geometry → FlatCall (flat_of old) flush (with_nothing (Ok tt)) (flat_of new)
flush-done old new serves array size status geometry =
    let none : known_answer (flat_of old) flush ≡ None = ap answer_while serves in
    rw none (refl, flat-is old new (disk_array old) (disk_size old) old.status array size status geometry)

refuses : (drive : DriveState) (fault : DiskFault) → IsReadFault drive fault → may_refuse flush fault ≡ true
refuses drive OutOfRange cause = absurd cause
refuses drive OutOfMemory cause = refl
refuses drive Failed cause = refl
refuses drive Stopped cause = refl
refuses drive Spent cause = absurd cause
refuses drive Smaller cause = absurd cause
refuses drive Reserve cause = absurd cause
refuses drive Unmounted cause = absurd cause
refuses drive Damaged cause = absurd cause

-- one that was refused
pub flush-refused : (old new : DiskView) (fault : DiskFault) → old.status ≡ statuses.Serving → disk_array new ≡ disk_array old → disk_size new ≡ disk_size old → new.status ≡ status_left fault → new.drive.geometry ≡ old.drive.geometry → IsReadFault new.drive fault
    → FlatCall (flat_of old) flush (with_nothing (Err fault)) (flat_of new)
flush-refused old new fault serves array size status geometry cause =
    let none : known_answer (flat_of old) flush ≡ None = ap answer_while serves in
    rw none (refuses new.drive fault cause, refl, array, flat-refused old new fault size status geometry)

-- one whose answer is not known continues
pub flush-unknown : (old new : DiskView) → old.status ≡ statuses.Serving → is_known (flat_of old) flush ≡ true → new ≡ old
flush-unknown old new serves known = let e : false ≡ true = rw serves at known in absurd (cc)
