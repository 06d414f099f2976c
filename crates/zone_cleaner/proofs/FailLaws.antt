-- A step that is not done leaves the clean unchanged.
use Rattle.std.proofs.Common.{◌≡◌, ◌≢◌, ◌⊎◌, ℕ, ◌+◌, ◌<◌, ◌≤◌, ◌^◌, true, List, [], ◌∷◌, get_or, refl, sym, ap, subst, ◌∙◌, inl, inr, arith}
use Rattle.std.specs.List.{AllByRecursion, slice_get}
use Rattle.logical_map.specs.declared.place.Place.{Place}
use Rattle.logical_map.specs.declared.place.Place.TheVariants as places
use Rattle.std.specs.Prelude.{IsFalse}
use Rattle.drive_port.specs.Drive.{DriveState}
use Rattle.zone_choice.specs.Agreement.{Agrees, MountedView, mounted, mounted_array}
use Rattle.drive_array.specs.ZoneLogs.{drive_logs}
use Rattle.zone_choice.specs.Changes.{KeepsArray}
use Rattle.drive_array.specs.Reserve.{batch_most}
use Rattle.zone_choice.specs.declared.unreadable.Unreadable.{Unreadable}
use Rattle.zone_choice.specs.Tables.{TablesView, size_of}
use Rattle.zone_choice.proofs.AgreementLaws.{agrees_mountable}
use Rattle.zone_cleaner.specs.declared.fault.CleanFault.{CleanFault}
use Rattle.zone_cleaner.specs.declared.fault.CleanFault.TheVariants as faults
use Rattle.zone_cleaner.specs.declared.step.Step.TheVariants.{Gather}
use Rattle.zone_cleaner.specs.Clean.{CleanView, IsClean}
use Rattle.zone_cleaner.specs.LiveRecords.{LiveRecord}
use Rattle.zone_cleaner.specs.Reading.{IsGatherFault}
use Rattle.zone_cleaner.specs.Turns.{NotesLost, StepFails, StopsClean, next_step, step_due}
use Rattle.zone_cleaner.proofs.OnlyLaws.{only-same}
use Rattle.zone_cleaner.proofs.CarryLaws.{gathered-below}
use Rattle.zone_cleaner.proofs.CleanLaws.{clean_kept, clean_spare, gather-next}
use Rattle.logical_map.specs.Live.{blocks_in_zone}
use Rattle.logical_map.proofs.Parts.{first-parts}
use Rattle.zone_cleaner.proofs.RecordLaws.{AreBetween, next-within}
use Rattle.zone_cleaner.proofs.StepLaws.{gather-due}

-- a stop that kept the array
pub stops_kept : (before after : MountedView) (c : CleanView) → Agrees before → IsClean before c → KeepsArray before after → after.tables ≡ before.tables → after.drive.stopped ≡ true → StopsClean before after
stops_kept before after c agrees is kept same stopped = record {
  stopped = stopped;
  moves = only-same (drive_logs before.drive) (drive_logs after.drive) kept.logs;
  mountable = agrees_mountable after.drive after.tables kept.agrees (clean_spare after c kept.agrees (clean_kept before after c agrees kept is));
  array = kept.array;
  tables = inl same;
  geometry = kept.geometry;
  refused = kept.refused;
  durable = kept.durable;
  appended = kept.appended;
  unfailing = kept.unfailing;
}

-- data that could not be read is noted: the array is the same
pub keeps-lost : (before middle after : MountedView) → KeepsArray before middle → middle.tables ≡ before.tables → after.drive ≡ middle.drive → IsFalse middle.drive.unfailing → (lost : List Unreadable) → after.tables ≡ record before.tables { unreadable = lost } → KeepsArray before after
keeps-lost before middle after kept same drive failed lost noted = rw (sided after ∙ made) (record {
  agrees = record {
    geometry = kept.agrees.geometry;
    reserve = kept.agrees.reserve;
    lawful = kept.agrees.lawful;
    logs = kept.agrees.logs;
    sound = kept.agrees.sound;
    next = kept.agrees.next;
    zones = kept.agrees.zones;
    zone_size = kept.agrees.zone_size;
    places = kept.agrees.places;
    roles = kept.agrees.roles;
    few = kept.agrees.few;
    open_zones = kept.agrees.open_zones;
    readable = λ up. absurd (let down = failed in cc);
  };
  logs = kept.logs;
  array = kept.array;
  places = kept.places;
  next = kept.next;
  given = kept.given;
  spare = kept.spare;
  sealed = kept.sealed;
  second = kept.second;
  geometry = kept.geometry;
  refused = kept.refused;
  durable = kept.durable;
  appended = kept.appended;
  unfailing = kept.unfailing;
})
  where
    sided : (d : MountedView) → d ≡ mounted d.drive d.tables
    sided d = refl

    made : mounted after.drive after.tables ≡ mounted middle.drive (record middle.tables { unreadable = lost })
    made = rw (drive, noted, same) refl

same-disk : (middle after : MountedView) → after.drive ≡ middle.drive → after.tables ≡ middle.tables → after ≡ middle
same-disk middle after drive tables = ap (λ (d : DriveState). mounted d after.tables) drive ∙ ap (mounted middle.drive) tables

-- a record that was not read; data that could not be read is noted
pub lost_gives : (before middle after : MountedView) (c : CleanView) (block : ℕ) (place : Place) (fault result : CleanFault) → Agrees before → IsClean before c → KeepsArray before middle → middle.tables ≡ before.tables → IsGatherFault middle.drive fault → after.drive ≡ middle.drive
    → (result ≡ faults.Failed → NotesLost block place middle.tables after.tables) → (result ≢ faults.Failed → after.tables ≡ middle.tables) → (result ≡ fault) ⊎ (result ≡ faults.OutOfMemory) → StepFails (Gather block place) result before after
lost_gives before middle after c block place fault faults.OutOfMemory agrees is kept same cause drive notes other which =
    let one = same-disk middle after drive (other (λ bad. absurd (cc))) in
    rw one (kept, inl same)
lost_gives before middle after c block place fault faults.Failed agrees is kept same cause drive notes other which =
    let was : fault ≡ faults.Failed = elim which as (λ _. fault ≡ faults.Failed) [ inl is_fault ↦ sym is_fault | inr bad ↦ absurd (cc) ] in
    let failed : IsFalse middle.drive.unfailing = rw was at cause in
    let noted : NotesLost block place before.tables after.tables = subst (λ (t : TablesView). NotesLost block place t after.tables) same (notes refl) in
    (keeps-lost before middle after kept same drive failed _ noted, noted, rw drive failed)
lost_gives before middle after c block place fault faults.Stopped agrees is kept same cause drive notes other which =
    let one = same-disk middle after drive (other (λ bad. absurd (cc))) in
    let was : fault ≡ faults.Stopped = elim which as (λ _. fault ≡ faults.Stopped) [ inl is_fault ↦ sym is_fault | inr bad ↦ absurd (cc) ] in
    rw one (stops_kept before middle c agrees is kept same (rw was at cause))
lost_gives before middle after c block place fault faults.Spent agrees is kept same cause drive notes other which =
    let was : fault ≡ faults.Spent = elim which as (λ _. fault ≡ faults.Spent) [ inl is_fault ↦ sym is_fault | inr bad ↦ absurd (cc) ] in
    absurd (rw was at cause)
lost_gives before middle after c block place fault faults.Damaged agrees is kept same cause drive notes other which =
    let was : fault ≡ faults.Damaged = elim which as (λ _. fault ≡ faults.Damaged) [ inl is_fault ↦ sym is_fault | inr bad ↦ absurd (cc) ] in
    absurd (rw was at cause)

-- what is known of the next record
pub record NextRecord (disk : MountedView) (c : CleanView) (block : ℕ) (place : Place) : Type 0 where
  pub in_range : block < size_of disk.tables
  pub place_is : place ≡ get_or disk.tables.map.places block places.None
  pub above : AllByRecursion (λ (r : LiveRecord). r.block < block) c.gathered
  pub few : block + 1 < 2 ^ 32

-- the record that is gathered next
pub next_record : (disk : MountedView) (c : CleanView) (block : ℕ) (place : Place) → Agrees disk → IsClean disk c → next_step (batch_most disk.drive.geometry) disk.tables c ≡ Gather block place → NextRecord disk c block place
next_record disk c block place agrees is due =
    let next = gather-next disk c block place is (gather-due disk (batch_most disk.drive.geometry) c block place due).found in
    record {
      in_range = next.0;
      place_is = next.2;
      above = go c.gathered next.1 (gathered-below disk c is);
      few = omega (arith, next.0, agrees.reserve.1);
    }
  where
    go : (rs : List LiveRecord) → c.cursor ≤ block → AreBetween 0 c.cursor rs → AllByRecursion (λ (r : LiveRecord). r.block < block) rs
    go [] le all = tt
    go (r ∷ rs) le all = (omega (arith, all.0.1, le), go rs le all.1)

-- whatever the Reads returned, it is not below the cursor, and its block is the disk's
pub due-within : (disk : MountedView) (c : CleanView) (block : ℕ) (place : Place) → step_due disk c ≡ Gather block place → (c.cursor ≤ block) × (block < size_of disk.tables)
due-within disk c block place due =
    let m = disk.tables.map in
    let found = (gather-due disk (batch_most disk.drive.geometry) c block place due).found in
    let parts = first-parts (λ b. get_or m.places b places.None) (slice_get (blocks_in_zone m c.victim c.cursor) 0) block place found in
    next-within (mounted_array disk) m.zone_size c.victim c.cursor block m.places parts.0
