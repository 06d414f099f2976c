-- What a mount gives is a disk.
use Rattle.std.proofs.Common.{◌≡◌, ◌⊎◌, ℕ, ◌+◌, ◌≤◌, List, length, true, Option, Some, None, Ok, Err, refl, sym, ap, ◌∙◌, inl, inr}
use Rattle.std.specs.List.{AllByRecursion}
use Rattle.drive_port.specs.Contents.{Content, content_at, contents}
use Rattle.drive_port.specs.Drive.{DriveState}
use Rattle.zone_choice.specs.declared.roles.Filling.{Filling}
use Rattle.zone_choice.specs.declared.roles.Second.{Second}
use Rattle.zone_choice.specs.declared.roles.Second.TheVariants.{Next, Destination}
use Rattle.zone_choice.specs.Agreement.{MountedView, mounted}
use Rattle.drive_array.specs.ZoneLogs.{encoded}
use Rattle.drive_array.specs.Mountable.{is_partly_written}
use Rattle.drive_array.specs.Reserve.{FitsReserve}
use Rattle.zone_choice.specs.Roles.{RolesView, fillings}
use Rattle.zone_choice.specs.Tables.{TablesView}
use Rattle.zone_cleaner.specs.Clean.{CleanView, HasNoDestination}
use Rattle.drive_survey.specs.declared.fault.MountFault.{MountFault}
use Rattle.drive_survey.specs.declared.fault.MountFault.TheVariants.{Halted, OutOfMemory, Failed}
use Rattle.remount.specs.Kept.{AreSane, KeepsMountable, Stays}
use Rattle.remount.specs.Mount.{HostIsBelow, IsToMount, MountFails, Mounts}
use Rattle.drive_survey.specs.Scan.{FailsBy}
use Rattle.drive_survey.specs.Survey.{MayAsk}
use Rattle.zone_choice.specs.Sane.{IsSane}
use Rattle.remount.proofs.RefusalLaws.{only-halts}
use Rattle.zone_translator.specs.declared.status.DiskStatus.{DiskStatus}
use Rattle.zone_translator.specs.declared.status.DiskStatus.TheVariants.{Serving, Unmounted}
use Rattle.zone_states.specs.Geometry.{IsInRange}
use Rattle.zone_translator.specs.Calls.{HoldsClean}
use Rattle.zone_cleaner.specs.Start.{AgreesWithClean}
use Rattle.zone_cleaner.proofs.TurnLaws.{cleans_mountable}
use Rattle.zone_translator.specs.Flat.{FlatRemount}
use Rattle.zone_translator.specs.Answers.{IsMounted, Remounts}
use Rattle.zone_translator.specs.Mount.{MountsDisk}
use Rattle.zone_translator.specs.View.{DiskView, disk_array, disk_size, flat_of, given_size, mounted_of}
use Rattle.zone_translator.proofs.CallLaws.{flat-is}
use Rattle.zone_translator.proofs.DiskLaws.{length-array, view_of}

-- the lower of the two zones is the host zone, so the other is the next one
no-destination : (capacity : ℕ) (zones : List Content) (roles : RolesView) → AllByRecursion (λ (filling : Filling). (is_partly_written (content_at zones filling.zone) ≡ true) × (filling.written + 2 ≤ capacity)) (fillings roles)
    → HostIsBelow roles.host roles.second → HasNoDestination capacity roles.second
no-destination capacity zones roles written order = by roles.host roles.second refl refl
  where
    by : (host : Option Filling) (second : Option Second) → roles.host ≡ host → roles.second ≡ second → HasNoDestination capacity roles.second
    by host None e f = rw f tt
    by None (Some second) e f = absurd (rw (e, f) at order)
    by (Some host) (Some (Destination filling)) e f = absurd (rw (e, f) at order)
    by (Some host) (Some (Next filling)) e f = let both = rw (e, f) at written in rw f both.1.0.1

-- tables and drive agree after a mount
pub mounted-serves : (old new : DriveState) (n : ℕ) (tables : TablesView) → Mounts old new n tables → AgreesWithClean (mounted new tables) None
mounted-serves old new n tables mounts =
    let roles = mounts.roles in
    (mounts.agrees, (roles.empty, no-destination new.geometry.capacity (contents new.zones) tables.roles roles.written roles.order))

-- and the size fits the reserve
pub mounted-fits : (old new : DriveState) (n : ℕ) (tables : TablesView) → new.geometry ≡ old.geometry → Mounts old new n tables → FitsReserve new.geometry tables.given
mounted-fits old new n tables same mounts = rw (same, mounts.given) mounts.can.reserve

-- a mount makes a disk
mounts-disk : (old new : DriveState) (n : ℕ) (tables : TablesView) → Mounts old new n tables → MountsDisk old n (view_of (mounted new tables) None Serving)
mounts-disk old new n tables mounts =
    record {
      can = mounts.can;
      array = rw mounts.given mounts.array;
      size = sym (length-array (mounted new tables) None (mounted-serves old new n tables mounts));
      leaves = mounts.leaves;
      given = mounts.given;
      next = mounts.next;
      roles = mounts.roles;
      clean = refl;
      status = refl;
    }

-- as it is promised
pub is-mounted : (old new : DriveState) (n : ℕ) (tables : TablesView) → KeepsMountable n old new → Mounts old new n tables → IsMounted old n (view_of (mounted new tables) None Serving)
is-mounted old new n tables kept mounts =
    let serves = mounted-serves old new n tables mounts in
    record {
      mounts = mounts-disk old new n tables mounts;
      range = serves.0.geometry;
      fits = serves.0.reserve;
      kept = kept;
      mountable = cleans_mountable (mounted new tables) None serves;
    }

-- ---- mounting again

-- the drive of a disk can be mounted
holds-mount : (drive : DriveState) (tables : TablesView) (clean : Option CleanView) (status : DiskStatus) → IsInRange drive.geometry → HoldsClean (mounted drive tables) clean status → IsToMount drive tables.given
holds-mount drive tables clean status range holds = record { geometry = range; reserve = holds.reserve; mountable = holds.mountable }

-- a remount does so, too
remounted : (old : DiskView) (new : DriveState) (n : ℕ) (tables : TablesView) → n ≡ given_size old → Mounts old.drive new n tables → MountsDisk old.drive (given_size old) (view_of (mounted new tables) None Serving)
remounted old new n tables is mounts = mounts-disk old.drive new (given_size old) tables (rw is at mounts)

-- and is the remount of a flat array
remounted-flat : (old : DiskView) (new : DriveState) (n : ℕ) (tables : TablesView) (clean : Option CleanView) → n ≡ given_size old → new.geometry ≡ old.drive.geometry → Mounts old.drive new n tables
    → FlatRemount (flat_of old) (Ok tt) (flat_of (view_of (mounted new tables) clean Serving))
remounted-flat old new n tables clean is same mounts =
    let disk = remounted old new n tables is mounts in
    flat-is old (view_of (mounted new tables) clean Serving) (disk_array old) (length (disk_array old)) Serving disk.array (disk.size ∙ ap length disk.array) refl same

-- one that was refused
remount-halts : (drive new : DriveState) (tables : TablesView) (clean : Option CleanView) (status : DiskStatus) (n : ℕ) (fault : MountFault) → n ≡ tables.given → IsInRange drive.geometry → HoldsClean (mounted drive tables) clean status → FailsBy (MountFails drive n) new fault → FailsBy (λ _. ⊥) new fault
remount-halts drive new tables clean status n fault is range holds fails = only-halts drive new n fault (rw is (holds-mount drive tables clean status range holds)) fails

-- one that was refused is a flat array's, too
refused-flat : (old : DiskView) (new : DriveState) (n : ℕ) (clean : Option CleanView) (fault : MountFault) → n ≡ given_size old → IsInRange old.drive.geometry → HoldsClean (mounted_of old) old.clean old.status → KeepsMountable n old.drive new → FailsBy (MountFails old.drive n) new fault
    → FlatRemount (flat_of old) (Err fault) (flat_of (view_of (mounted new old.tables) clean Unmounted))
refused-flat old new n clean fault is range holds kept fails =
    let array : encoded new (given_size old) ≡ disk_array old = (rw is at kept).array holds.mountable in
    (stops (remount-halts old.drive new old.tables old.clean old.status n fault is range holds fails), flat-is old (view_of (mounted new old.tables) clean Unmounted) (disk_array old) (disk_size old) Unmounted array refl refl kept.geometry)
  where
    stops : FailsBy (λ _. ⊥) new fault → (fault ≡ OutOfMemory) ⊎ (fault ≡ Halted) ⊎ (fault ≡ Failed)
    stops (inl memory) = inl memory
    stops (inr (inl (inl halted))) = inr (inl halted.0)
    stops (inr (inl (inr failed))) = inr (inr failed.0)
    stops (inr (inr none)) = absurd none

-- ---- after a remount

-- all of a remount that is done
pub remounts : (old : DiskView) (new : MountedView) (clean : Option CleanView) → clean ≡ None → KeepsMountable (given_size old) old.drive new.drive → Mounts old.drive new.drive (given_size old) new.tables → Remounts old (Ok tt) (view_of new clean Serving)
remounts old new clean none kept mounts =
    let serves = mounted-serves old.drive new.drive (given_size old) new.tables mounts in
    record {
      flat = remounted-flat old new.drive (given_size old) new.tables clean refl kept.geometry mounts;
      mounts = rw none (remounted old new.drive (given_size old) new.tables refl mounts);
      cause = tt;
      kept = kept;
      given = mounts.given;
      mountable = cleans_mountable new None serves;
      clean = none;
    }

-- and of one that is not
pub remount-refused : (old : DiskView) (new : MountedView) (clean : Option CleanView) (fault : MountFault) → clean ≡ None → new.tables ≡ old.tables → IsInRange old.drive.geometry → HoldsClean (mounted_of old) old.clean old.status → KeepsMountable (given_size old) old.drive new.drive
    → FailsBy (MountFails old.drive (given_size old)) new.drive fault → Remounts old (Err fault) (view_of new clean Unmounted)
remount-refused old new clean fault none tables range holds kept fails = record {
  flat = rw tables (refused-flat old new.drive (given_size old) clean fault refl range holds kept fails);
  mounts = tt;
  cause = remount-halts old.drive new.drive old.tables old.clean old.status (given_size old) fault refl range holds fails;
  kept = kept;
  given = ap (λ (t : TablesView). t.given) tables;
  mountable = rw tables (kept.mountable holds.mountable);
  clean = none;
}

-- a disk of which a remount was refused
pub holds-unmounted : (old new : MountedView) (clean clean' : Option CleanView) (status : DiskStatus) → new.tables ≡ old.tables → KeepsMountable old.tables.given old.drive new.drive → HoldsClean old clean status → HoldsClean new clean' Unmounted
holds-unmounted old new clean clean' status tables kept holds = record {
  mountable = rw tables (kept.mountable holds.mountable);
  reserve = rw (tables, kept.geometry) holds.reserve;
  agrees = tt;
  stopped = λ e. absurd (cc);
}

-- whatever the Reads returned, the numbers of a disk that was mounted are in range
pub mounted-sane : (old new : DriveState) (tables : TablesView) (n : ℕ) → Stays old new → MayAsk old n → AreSane new.geometry tables → IsSane (mounted new tables)
mounted-sane old new tables n stays asked are = record {
  geometry = rw stays.geometry asked.geometry;
  one_drive = are.one_drive;
  zones = are.zones;
  short = are.short;
  next = are.next;
  fillings_are = are.fillings_are;
  readable = λ up. are.readable;
}
