-- A zone is made the only one that may be open, and then a batch is appended to it.
use Rattle.std.proofs.Common.{◌≡◌, ◌⊎◌, ℕ, nat_lt, ◌+◌, ◌<◌, Bool, true, false, cond, Result, Ok, Err, refl, sym, ap, subst, ◌∙◌, inl, inr}
use Rattle.zone_states.specs.declared.geometry.Geometry.{Geometry}
use Rattle.drive_port.specs.Contents.{SameContents}
use Rattle.drive_port.specs.Drive.{DriveState}
use Rattle.drive_port.specs.declared.device.Halt.{Halt}
use Rattle.drive_port.specs.declared.device.Halt.TheVariants as halt
use Rattle.batch_log.specs.Log.{Batch}
use Rattle.zone_choice.specs.Agreement.{Agrees, MountedView, mounted_array}
use Rattle.drive_array.specs.ZoneLogs.{drive_logs}
use Rattle.zone_choice.specs.Builder.{BuilderView, IsBuilt, built}
use Rattle.zone_choice.specs.Changes.{AloneLeaves, BatchLeaves, CanPlace, ClosesBeside, KeepsArray, KeepsContents, Places, StopsInside, roles_alone, tables_closed}
use Rattle.drive_array.specs.Mountable.{IsMountable}
use Rattle.zone_choice.specs.Roles.{RolesView, closed_beside, closed_unless}
use Rattle.drive_array.specs.Spare.{HasSpare}
use Rattle.zone_choice.specs.Tables.{TablesView}
use Rattle.zone_choice.proofs.AgreementLaws.{agrees_mountable, encoded_same}
use Rattle.zone_choice.proofs.ChangeLaws.{keeps-refl}
use Rattle.zone_choice.proofs.MarkLaws.{sealed-with}
use Rattle.zone_choice.proofs.RolesLaws.{closed-zone, closed_beside-twice, filling_at-with, same-second}

-- ---- the zone is the only one that may be open

-- once the other zone is closed, it stays so
alone-twice : (geometry : Geometry) (roles : RolesView) (zone : ℕ) → roles_alone geometry (roles_alone geometry roles zone) zone ≡ roles_alone geometry roles zone
alone-twice geometry roles zone = at (nat_lt 1 geometry.open) refl
  where
    at : (b : Bool) → nat_lt 1 geometry.open ≡ b → roles_alone geometry (cond b roles (closed_beside roles zone)) zone ≡ cond b roles (closed_beside roles zone)
    at true e = rw e refl
    at false e = rw e (closed_beside-twice roles zone)

closed-twice : (tables : TablesView) (zone : ℕ) → tables_closed (tables_closed tables zone) zone ≡ tables_closed tables zone
closed-twice tables zone = ap (λ (r : RolesView). record tables { roles = r }) (closed_beside-twice tables.roles zone)

-- ---- then the batch can be placed

-- after the zone beside was closed
can-closed : (a b : MountedView) (zone : ℕ) (batch : Batch) → ClosesBeside a b zone → CanPlace a zone batch → CanPlace b zone batch
can-closed a b zone batch closes can =
    let same = closes.kept.same in
    let roles : b.tables.roles ≡ closed_beside a.tables.roles zone = ap (λ (t : TablesView). t.roles) closes.tables in
    record {
      agrees = closes.kept.agrees;
      filling = rw roles (filling_at-with (closed_unless zone) (closed-zone zone) a.tables.roles zone ∙ can.filling);
      heading = rw same.geometry can.heading;
      size = rw closes.tables can.size;
      grows = rw closes.tables can.grows;
      reserve = rw (closes.tables, same.geometry) can.reserve;
      few = rw same.geometry can.few;
      few_entries = rw same.geometry can.few_entries;
      room = rw (same.geometry, same.contents) can.room;
      sequence = rw closes.tables can.sequence;
      next = rw (closes.tables, same.geometry) can.next;
      in_range = rw closes.tables can.in_range;
      ready = rw closes.tables can.ready;
    }

can-alone : (a b : MountedView) (zone : ℕ) (batch : Batch) → AloneLeaves a b zone (Ok tt) → CanPlace a zone batch → CanPlace b zone batch
can-alone a b zone batch leaves can = elim leaves.1 as (λ _. CanPlace b zone batch) [
  | inl same ↦ subst (λ (m : MountedView). CanPlace m zone batch) (sym same) can
  | inr closes ↦ can-closed a b zone batch closes can
]

geometry-alone : (a b : MountedView) (zone : ℕ) → AloneLeaves a b zone (Ok tt) → b.drive.geometry ≡ a.drive.geometry
geometry-alone a b zone leaves = elim leaves.1 as (λ _. b.drive.geometry ≡ a.drive.geometry) [ inl same ↦ ap (λ (m : MountedView). m.drive.geometry) same | inr closes ↦ closes.kept.same.geometry ]

-- the batch is built for its geometry
pub is-built : (a b : MountedView) (zone : ℕ) (builder : BuilderView) → AloneLeaves a b zone (Ok tt) → IsBuilt a.drive.geometry.block builder → IsBuilt b.drive.geometry.block builder
is-built a b zone builder leaves is = rw (geometry-alone a b zone leaves) is

-- the batch can be placed after that, too
pub can-built : (a b : MountedView) (zone : ℕ) (builder : BuilderView) → AloneLeaves a b zone (Ok tt) → CanPlace a zone (built a.drive.geometry.block builder) → CanPlace b zone (built b.drive.geometry.block builder)
can-built a b zone builder leaves can = subst (λ (g : Geometry). CanPlace b zone (built g.block builder)) (sym (geometry-alone a b zone leaves)) (can-alone a b zone (built a.drive.geometry.block builder) leaves can)

-- and the tables note it
pub noted-alone : (a b : MountedView) (zone : ℕ) → AloneLeaves a b zone (Ok tt) → roles_alone b.drive.geometry b.tables.roles zone ≡ b.tables.roles
noted-alone a b zone leaves = rw (geometry-alone a b zone leaves, leaves.0) (alone-twice a.drive.geometry a.tables.roles zone)

-- ---- and what its Append leaves

logs-same : (a b : DriveState) → SameContents a b → drive_logs b ≡ drive_logs a
logs-same a b same = rw (same.geometry, same.contents) refl

places-closed : (a b c : MountedView) (zone : ℕ) (batch : Batch) → ClosesBeside a b zone → b.tables.roles ≡ roles_alone a.drive.geometry a.tables.roles zone → Places b c zone batch → Places a c zone batch
places-closed a b c zone batch closes noted placed =
    let same = closes.kept.same in
    let array : mounted_array b ≡ mounted_array a = rw closes.tables (encoded_same a.drive b.drive a.tables.given same) in
    let twice = alone-twice a.drive.geometry a.tables.roles zone in
    record {
      agrees = placed.agrees;
      logs = placed.logs ∙ rw (logs-same a.drive b.drive same) refl;
      size = placed.size ∙ rw closes.tables refl;
      places = placed.places ∙ rw (closes.tables, same.geometry, same.contents) refl;
      array = placed.array ∙ rw (array, same.geometry) refl;
      next = placed.next ∙ rw closes.tables refl;
      given = placed.given ∙ rw closes.tables refl;
      unreadable = placed.unreadable ∙ rw closes.tables refl;
      roles = placed.roles ∙ rw (same.geometry, noted, twice) refl;
      geometry = placed.geometry ∙ same.geometry;
      refused = placed.refused ∙ closes.kept.refused;
      durable = placed.durable ∙ closes.kept.durable;
      appended = placed.appended ∙ ap (λ (n : ℕ). n + 1) closes.kept.appended;
      unfailing = λ up. closes.kept.unfailing (placed.unfailing up);
    }

contents-join : (a b c : MountedView) → KeepsContents a b → KeepsContents b c → KeepsContents a c
contents-join a b c p q = record {
  agrees = q.agrees;
  same = record { geometry = q.same.geometry ∙ p.same.geometry; contents = q.same.contents ∙ p.same.contents };
  refused = q.refused ∙ p.refused;
  durable = q.durable ∙ p.durable;
  appended = q.appended ∙ p.appended;
  unfailing = λ up. p.unfailing (q.unfailing up);
}

closes-join : (a b c : MountedView) (zone : ℕ) → ClosesBeside a b zone → ClosesBeside b c zone → ClosesBeside a c zone
closes-join a b c zone p q = record {
  limit = p.limit;
  other = p.other;
  beside = p.beside;
  tables = q.tables ∙ ap (λ (t : TablesView). tables_closed t zone) p.tables ∙ closed-twice a.tables zone;
  kept = contents-join a b c p.kept q.kept;
}

closes-same : (a b c : MountedView) (zone : ℕ) → ClosesBeside a b zone → c.tables ≡ b.tables → KeepsContents b c → ClosesBeside a c zone
closes-same a b c zone p tables kept = record { limit = p.limit; other = p.other; beside = p.beside; tables = tables ∙ p.tables; kept = contents-join a b c p.kept kept }

stops-closed : (a b c : MountedView) (zone : ℕ) (batch : Batch) → ClosesBeside a b zone → StopsInside b c zone batch → StopsInside a c zone batch
stops-closed a b c zone batch closes stops =
    let same = closes.kept.same in
    let array : mounted_array b ≡ mounted_array a = rw closes.tables (encoded_same a.drive b.drive a.tables.given same) in
    let given : b.tables.given ≡ a.tables.given = ap (λ (t : TablesView). t.given) closes.tables in
    record {
      stopped = stops.stopped;
      tables = elim stops.tables as (λ _. (c.tables ≡ a.tables) ⊎ ((a.drive.geometry.open < 2) × (c.tables ≡ tables_closed a.tables zone))) [
        | inl kept ↦ inr (closes.limit, kept ∙ closes.tables)
        | inr more ↦ inr (closes.limit, more.1 ∙ ap (λ (t : TablesView). tables_closed t zone) closes.tables ∙ closed-twice a.tables zone)
      ];
      left = rw (array, given, logs-same a.drive b.drive same, same.geometry) at stops.left;
      mountable = rw (given, same.geometry) at stops.mountable;
      geometry = stops.geometry ∙ same.geometry;
      refused = stops.refused ∙ closes.kept.refused;
      durable = stops.durable ∙ closes.kept.durable;
      appended = stops.appended ∙ closes.kept.appended;
      unfailing = λ up. closes.kept.unfailing (stops.unfailing up);
    }

append-closed : (a b c : MountedView) (zone : ℕ) (batch : Batch) (result : Result (Unit {0}) Halt) → ClosesBeside a b zone → b.tables.roles ≡ roles_alone a.drive.geometry a.tables.roles zone → BatchLeaves b c zone batch result → BatchLeaves a c zone batch result
append-closed a b c zone batch (Ok done) closes noted leaves = places-closed a b c zone batch closes noted leaves
append-closed a b c zone batch (Err halt.Memory) closes noted leaves = elim leaves as (λ _. (c ≡ a) ⊎ ClosesBeside a c zone) [
  | inl same ↦ inr (subst (λ (m : MountedView). ClosesBeside a m zone) (sym same) closes)
  | inr more ↦ inr (closes-join a b c zone closes more)
]
append-closed a b c zone batch (Err halt.Failed) closes noted leaves = (
  leaves.0,
  elim leaves.1 as (λ _. ((c.tables ≡ a.tables) × KeepsContents a c) ⊎ ClosesBeside a c zone) [
    | inl same ↦ inr (closes-same a b c zone closes same.0 same.1)
    | inr more ↦ inr (closes-join a b c zone closes more)
  ],
)
append-closed a b c zone batch (Err halt.Stopped) closes noted leaves = stops-closed a b c zone batch closes leaves

append-with : (a b c : MountedView) (zone : ℕ) (batch : Batch) (result : Result (Unit {0}) Halt) → AloneLeaves a b zone (Ok tt) → BatchLeaves b c zone batch result → BatchLeaves a c zone batch result
append-with a b c zone batch result alone leaves = elim alone.1 as (λ _. BatchLeaves a c zone batch result) [
  | inl same ↦ subst (λ (m : MountedView). BatchLeaves m c zone batch result) same leaves
  | inr closes ↦ append-closed a b c zone batch result closes alone.0 leaves
]

-- what the Append leaves is what both leave
pub append-alone : (a b c : MountedView) (zone : ℕ) (builder : BuilderView) (result : Result (Unit {0}) Halt) → AloneLeaves a b zone (Ok tt) → BatchLeaves b c zone (built b.drive.geometry.block builder) result → BatchLeaves a c zone (built a.drive.geometry.block builder) result
append-alone a b c zone builder result alone leaves = append-with a b c zone (built a.drive.geometry.block builder) result alone (subst (λ (g : Geometry). BatchLeaves b c zone (built g.block builder) result) (geometry-alone a b zone alone) leaves)

-- ---- where the device halted before

stops-before : (a b : MountedView) (zone : ℕ) (batch : Batch) → (b.drive.stopped ≡ true) × (b.tables ≡ a.tables) × KeepsContents a b → StopsInside a b zone batch
stops-before a b zone batch stops =
    let kept = stops.2 in
    let block : b.drive.geometry.block ≡ a.drive.geometry.block = ap (λ (g : Geometry). g.block) kept.same.geometry in
    let given : b.tables.given ≡ a.tables.given = ap (λ (t : TablesView). t.given) stops.1 in
    record {
      stopped = stops.0;
      tables = inl stops.1;
      left = inl (record { logs_are = logs-same a.drive b.drive kept.same; array_is = encoded_same a.drive b.drive a.tables.given kept.same });
      mountable = λ spare. subst (IsMountable b.drive) given (agrees_mountable b.drive b.tables kept.agrees (subst (λ (n : ℕ). HasSpare n b.tables.given (drive_logs b.drive)) (sym block) (subst (λ (n : ℕ). HasSpare a.drive.geometry.block n (drive_logs b.drive)) (sym given) spare)));
      geometry = kept.same.geometry;
      refused = kept.refused;
      durable = kept.durable;
      appended = kept.appended;
      unfailing = kept.unfailing;
    }

halts-before : (a b : MountedView) (zone : ℕ) (batch : Batch) (fault : Halt) → AloneLeaves a b zone (Err fault) → BatchLeaves a b zone batch (Err fault)
halts-before a b zone batch halt.Memory leaves = inl leaves
halts-before a b zone batch halt.Failed leaves = (leaves.0, inl (leaves.1, leaves.2))
halts-before a b zone batch halt.Stopped leaves = stops-before a b zone batch leaves

-- the Close halted, and no batch was appended
pub halted-before : (a b : MountedView) (zone : ℕ) (batch : Batch) (fault : Halt) (result : Result (Unit {0}) Halt) → result ≡ Err fault → AloneLeaves a b zone (Err fault) → BatchLeaves a b zone batch result
halted-before a b zone batch fault result is leaves = rw is (halts-before a b zone batch fault leaves)

-- ---- what callers see of it

-- the empty zones are the same
pub alone-empty : (geometry : Geometry) (roles : RolesView) (zone : ℕ) → (roles_alone geometry roles zone).empty ≡ roles.empty
alone-empty geometry roles zone = at (nat_lt 1 geometry.open)
  where
    at : (b : Bool) → (cond b roles (closed_beside roles zone)).empty ≡ roles.empty
    at true = refl
    at false = refl

closes-keeps : (a b : MountedView) (zone : ℕ) → ClosesBeside a b zone → KeepsArray a b
closes-keeps a b zone closes =
    let kept = closes.kept in
    let tables = closes.tables in
    record {
      agrees = kept.agrees;
      logs = logs-same a.drive b.drive kept.same;
      array = rw tables (encoded_same a.drive b.drive a.tables.given kept.same);
      places = rw tables refl;
      next = rw tables refl;
      given = rw tables refl;
      spare = λ some. rw tables some;
      sealed = λ other is. rw tables (sealed-with (closed_unless zone) (closed-zone zone) a.tables.roles other is);
      second = rw tables (same-second a.tables.roles zone);
      geometry = kept.same.geometry;
      refused = kept.refused;
      durable = kept.durable;
      appended = kept.appended;
      unfailing = kept.unfailing;
    }

-- where memory failed, the array is the same
pub memory-keeps : (a b : MountedView) (zone : ℕ) (batch : Batch) → Agrees a → BatchLeaves a b zone batch (Err halt.Memory) → KeepsArray a b
memory-keeps a b zone batch agrees leaves = elim leaves as (λ _. KeepsArray a b) [
  | inl same ↦ subst (KeepsArray a) (sym same) (keeps-refl a.drive a.tables agrees)
  | inr closes ↦ closes-keeps a b zone closes
]

same-keeps : (a b : MountedView) → b.tables ≡ a.tables → KeepsContents a b → KeepsArray a b
same-keeps a b tables kept = record {
  agrees = kept.agrees;
  logs = logs-same a.drive b.drive kept.same;
  array = rw tables (encoded_same a.drive b.drive a.tables.given kept.same);
  places = rw tables refl;
  next = rw tables refl;
  given = rw tables refl;
  spare = λ some. rw tables some;
  sealed = λ zone is. rw tables is;
  second = rw tables refl;
  geometry = kept.same.geometry;
  refused = kept.refused;
  durable = kept.durable;
  appended = kept.appended;
  unfailing = kept.unfailing;
}

-- nor where a command failed
pub failed-keeps : (a b : MountedView) (zone : ℕ) (batch : Batch) → BatchLeaves a b zone batch (Err halt.Failed) → KeepsArray a b
failed-keeps a b zone batch leaves = elim leaves.1 as (λ _. KeepsArray a b) [
  | inl same ↦ same-keeps a b same.0 same.1
  | inr closes ↦ closes-keeps a b zone closes
]

-- where the drive stopped, the tables are the same except for the roles
pub record SameBut (old new : TablesView) : Type 0 where
  pub map : new.map ≡ old.map
  pub next : new.next ≡ old.next
  pub given : new.given ≡ old.given

-- after a stop the tables are the same, except for what is closed
pub stops-tables : (a b : MountedView) (zone : ℕ) (batch : Batch) → StopsInside a b zone batch → SameBut a.tables b.tables
stops-tables a b zone batch stops = elim stops.tables as (λ _. SameBut a.tables b.tables) [
  | inl same ↦ rw same (record { map = refl; next = refl; given = refl })
  | inr closed ↦ rw closed.1 (record { map = refl; next = refl; given = refl })
]
