-- What holds whatever the Reads returned: it follows while tables and drive agree, and a batch keeps it.
use Rattle.std.proofs.Common.{◌≡◌, ℕ, nat_lt, ◌+◌, ◌<◌, ◌≤◌, Bool, true, false, cond, eqb, List, [], ◌∷◌, length, map, Result, Ok, Err, refl, sym, ap, subst, ◌∙◌, inl, inr, arith}
use Rattle.std.specs.List.{AllByRecursion}
use Rattle.std.proofs.lemmas.Bool.{eqb-true}
use Rattle.std.proofs.lemmas.List.{length-map}
use Rattle.zone_states.specs.declared.geometry.Geometry.{Geometry}
use Rattle.drive_port.specs.Contents.{content_of, contents}
use Rattle.drive_port.specs.declared.calls.PortFault.{PortFault}
use Rattle.batch_log.specs.Log.{Batch, batch_size}
use Rattle.drive_array.specs.ZoneLogs.{drive_logs}
use Rattle.drive_array.proofs.AllLaws.{all-map, all-weaker}
use Rattle.zone_choice.specs.declared.roles.Filling.{Filling}
use Rattle.zone_choice.specs.Agreement.{Agrees, HoldsFilling, MountedView}
use Rattle.zone_choice.specs.Builder.{BuilderView, built}
use Rattle.zone_choice.specs.Changes.{AloneLeaves, BatchLeaves, CanPlace, fault_halt, roles_alone}
use Rattle.zone_choice.specs.Roles.{IsOccupied, RolesView, closed_beside, closed_unless, fillings, grown, is_filling_at}
use Rattle.zone_choice.specs.Sane.{ByHalt, CountsBatch, IsSane, KeepsShape, MayPlace, TablesAfter, tables_alone}
use Rattle.zone_choice.proofs.AloneLaws.{append-alone, halted-before}
use Rattle.zone_choice.proofs.CommandLaws.{fillings-few}
use Rattle.zone_choice.proofs.RolesLaws.{all-filling, closed-zone, filling_at-with, fillings-with}

-- it is one of the drive's, and no fuller than a zone can be
abbrev IsWithin : Geometry → Filling → Type 0
IsWithin g f = (f.zone < g.zones) × (f.written ≤ g.capacity)

-- a zone that is being filled is one of the drive's
pub filling-within : (disk : MountedView) (zone : ℕ) → IsSane disk → is_filling_at disk.tables.roles zone ≡ true → zone < disk.drive.geometry.zones
filling-within disk zone sane here =
    let g = disk.drive.geometry in
    all-filling (λ z. z < g.zones) (fillings disk.tables.roles) zone (all-weaker (IsWithin g) (λ f. f.zone < g.zones) (fillings disk.tables.roles) (λ f within. within.0) sane.fillings_are) here

-- ---- while tables and drive agree

-- the numbers of the disk are in range
pub agrees-sane : (disk : MountedView) → Agrees disk → IsSane disk
agrees-sane disk agrees = record {
  geometry = agrees.geometry;
  one_drive = omega (arith, agrees.roles.count, agrees.zones, agrees.lawful.count, length-map disk.drive.zones content_of);
  zones = omega (arith, agrees.zones, agrees.lawful.count, length-map disk.drive.zones content_of);
  short = agrees.reserve.1;
  next = agrees.next;
  fillings_are = within (fillings disk.tables.roles) agrees.roles.apart.occupied (fillings-few disk.drive disk.tables agrees);
  readable = agrees.readable;
}
  where
    within : (fs : List Filling) → AllByRecursion (IsOccupied disk.tables.roles.empty) fs → AllByRecursion (λ f. f.written ≤ disk.drive.geometry.capacity) fs → AllByRecursion (IsWithin disk.drive.geometry) fs
    within [] occupied few = tt
    within (f ∷ fs) occupied few =
        ((omega (arith, occupied.0.in_range, agrees.roles.count, agrees.lawful.count, length-map disk.drive.zones content_of), few.0), within fs occupied.1 few.1)

-- and a batch that can be placed may be
pub can-may : (disk : MountedView) (zone : ℕ) (batch : Batch) → CanPlace disk zone batch → MayPlace disk zone batch
can-may disk zone batch can = record {
  sane = agrees-sane disk can.agrees;
  filling = can.filling;
  heading = can.heading;
  grows = can.grows;
  short = can.reserve.1;
  few = can.few;
  room = all-weaker (HoldsFilling disk.drive.geometry.capacity (contents disk.drive.zones) (drive_logs disk.drive)) (λ f. f.zone ≡ zone → f.written + batch_size batch ≤ disk.drive.geometry.capacity) (fillings disk.tables.roles) (λ f holds same. omega (arith, rw same at holds.written, can.room)) can.agrees.roles.fillings_are;
  next = omega (arith, can.next);
  in_range = can.in_range;
  ready = can.ready;
}

-- ---- the zone beside is closed

closed-alike : (zone : ℕ) (f : Filling) → (closed_unless zone f).written ≡ f.written
closed-alike zone f = at (eqb f.zone zone)
  where
    at : (b : Bool) → (cond b f (record { zone = f.zone; written = f.written; may_open = false })).written ≡ f.written
    at true = refl
    at false = refl

-- what holds of the numbers of each zone that is being filled still does
alone-all : (P : ℕ → ℕ → Type 0) (g : Geometry) (roles : RolesView) (zone : ℕ) → AllByRecursion (λ f. P f.zone f.written) (fillings roles) → AllByRecursion (λ f. P f.zone f.written) (fillings (roles_alone g roles zone))
alone-all P g roles zone all = at (nat_lt 1 g.open)
  where
    at : (b : Bool) → AllByRecursion (λ f. P f.zone f.written) (fillings (cond b roles (closed_beside roles zone)))
    at true = all
    at false =
        subst (AllByRecursion (λ f. P f.zone f.written)) (sym (fillings-with (closed_unless zone) roles))
        (all-map (λ f. P f.zone f.written) (closed_unless zone) (fillings roles) (all-weaker (λ f. P f.zone f.written) (λ f. P (closed_unless zone f).zone (closed_unless zone f).written) (fillings roles) (λ f is. rw (closed-zone zone f, closed-alike zone f) is) all))

alone-filling : (g : Geometry) (roles : RolesView) (zone k : ℕ) → is_filling_at (roles_alone g roles zone) k ≡ is_filling_at roles k
alone-filling g roles zone k = at (nat_lt 1 g.open)
  where
    at : (b : Bool) → is_filling_at (cond b roles (closed_beside roles zone)) k ≡ is_filling_at roles k
    at true = refl
    at false = filling_at-with (closed_unless zone) (closed-zone zone) roles k

alone-long : (g : Geometry) (roles : RolesView) (zone : ℕ) → length (roles_alone g roles zone).empty ≡ length roles.empty
alone-long g roles zone = at (nat_lt 1 g.open)
  where
    at : (b : Bool) → length (cond b roles (closed_beside roles zone)).empty ≡ length roles.empty
    at true = refl
    at false = refl

-- the numbers stay in range
pub alone-sane : (a b : MountedView) (zone : ℕ) → KeepsShape a.drive b.drive → b.tables ≡ tables_alone a.drive.geometry a.tables zone → IsSane a → IsSane b
alone-sane a b zone shape tables sane =
    let g = a.drive.geometry in
    rw (tables, shape.geometry) (record {
      geometry = sane.geometry;
      one_drive = alone-long g a.tables.roles zone ∙ sane.one_drive;
      zones = sane.zones;
      short = sane.short;
      next = sane.next;
      fillings_are = alone-all (λ z n. (z < g.zones) × (n ≤ g.capacity)) g a.tables.roles zone sane.fillings_are;
      readable = λ up. sane.readable (shape.unfailing up);
    })

-- and a batch that may be placed still may
pub alone-may : (a b : MountedView) (zone : ℕ) (batch : Batch) → KeepsShape a.drive b.drive → b.tables ≡ tables_alone a.drive.geometry a.tables zone → MayPlace a zone batch → MayPlace b zone batch
alone-may a b zone batch shape tables may =
    let g = a.drive.geometry in
    let geometry = shape.geometry in
    record {
      sane = alone-sane a b zone shape tables may.sane;
      filling = rw tables (alone-filling g a.tables.roles zone zone ∙ may.filling);
      heading = rw geometry may.heading;
      grows = rw tables may.grows;
      short = rw tables may.short;
      few = rw geometry may.few;
      room = rw (tables, geometry) (alone-all (λ z n. z ≡ zone → n + batch_size batch ≤ g.capacity) g a.tables.roles zone may.room);
      next = rw tables may.next;
      in_range = rw tables may.in_range;
      ready = rw tables may.ready;
    }

-- ---- a batch is counted

wrote-within : (g : Geometry) (zone blocks : ℕ) (fs : List Filling) → AllByRecursion (IsWithin g) fs → AllByRecursion (λ f. f.zone ≡ zone → f.written + blocks ≤ g.capacity) fs → AllByRecursion (IsWithin g) (map (grown zone blocks) fs)
wrote-within g zone blocks [] within room = tt
wrote-within g zone blocks (f ∷ fs) within room = (at (eqb f.zone zone) refl, wrote-within g zone blocks fs within.1 room.1)
  where
    at : (b : Bool) → eqb f.zone zone ≡ b → IsWithin g (cond b (record { zone = f.zone; written = f.written + blocks; may_open = true }) f)
    at true e = (within.0.0, room.0 (eqb-true f.zone zone e))
    at false e = within.0

-- the numbers stay in range
pub counts-sane : (a b : MountedView) (zone : ℕ) (batch : Batch) → KeepsShape a.drive b.drive → MayPlace a zone batch → CountsBatch a.drive.geometry a.tables zone batch b.tables → IsSane b
counts-sane a b zone batch shape may counts =
    let g = a.drive.geometry in
    let geometry = shape.geometry in
    let alone = roles_alone g a.tables.roles zone in
    record {
      geometry = rw geometry may.sane.geometry;
      one_drive = ap (λ (r : RolesView). length r.empty) counts.roles ∙ alone-long g a.tables.roles zone ∙ may.sane.one_drive ∙ sym counts.zones;
      zones = rw geometry (counts.zones ∙ may.sane.zones);
      short = omega (arith, counts.size, may.short);
      next = omega (arith, counts.next, may.next);
      fillings_are = rw (geometry, counts.roles) (subst (AllByRecursion (IsWithin g)) (sym (fillings-with (grown zone (batch_size batch)) alone))
          (wrote-within g zone (batch_size batch) (fillings alone)
          (alone-all (λ z n. (z < g.zones) × (n ≤ g.capacity)) g a.tables.roles zone may.sane.fillings_are)
          (alone-all (λ z n. z ≡ zone → n + batch_size batch ≤ g.capacity) g a.tables.roles zone may.room)));
      readable = λ up. counts.unreadable ∙ may.sane.readable (shape.unfailing up);
    }

-- and so they do whatever the Append answers
pub after-sane : (a b : MountedView) (zone : ℕ) (batch : Batch) (result : Result (Unit {0}) PortFault) → KeepsShape a.drive b.drive → MayPlace a zone batch → TablesAfter a.drive.geometry a.tables zone batch result b.tables → IsSane b
after-sane a b zone batch (Ok done) shape may counts = counts-sane a b zone batch shape may counts
after-sane a b zone batch (Err fault) shape may left = elim left as (λ _. IsSane b) [
  | inl same ↦ rw (same, shape.geometry) (record { geometry = may.sane.geometry; one_drive = may.sane.one_drive; zones = may.sane.zones; short = may.sane.short; next = may.sane.next; fillings_are = may.sane.fillings_are; readable = λ up. may.sane.readable (shape.unfailing up) })
  | inr alone ↦ alone-sane a b zone shape alone may.sane
]

-- ---- by the answers of the two calls of an Append

-- once the zone beside is closed, the batch may be placed
pub may-built : (a b : MountedView) (zone : ℕ) (builder : BuilderView) → KeepsShape a.drive b.drive → b.tables ≡ tables_alone a.drive.geometry a.tables zone → MayPlace a zone (built a.drive.geometry.block builder) → MayPlace b zone (built b.drive.geometry.block builder)
may-built a b zone builder shape tables may = subst (λ (g : Geometry). MayPlace b zone (built g.block builder)) (sym shape.geometry) (alone-may a b zone (built a.drive.geometry.block builder) shape tables may)

-- the Close was not done, and no batch was appended
pub refused-before : (a b : MountedView) (zone : ℕ) (batch : Batch) (fault : PortFault) (result : Result (Unit {0}) PortFault) → result ≡ Err fault → ByHalt (AloneLeaves a b zone) (Err fault) → ByHalt (BatchLeaves a b zone batch) result
refused-before a b zone batch fault result is leaves = rw is (leaves.0, halted-before a b zone batch (fault_halt fault) (Err (fault_halt fault)) refl leaves.1)

-- what the Append leaves is what both leave
pub append-both : (a b c : MountedView) (zone : ℕ) (builder : BuilderView) (result : Result (Unit {0}) PortFault) → AloneLeaves a b zone (Ok tt) → ByHalt (BatchLeaves b c zone (built b.drive.geometry.block builder)) result → ByHalt (BatchLeaves a c zone (built a.drive.geometry.block builder)) result
append-both a b c zone builder (Ok done) alone leaves = append-alone a b c zone builder (Ok done) alone leaves
append-both a b c zone builder (Err fault) alone leaves = (leaves.0, append-alone a b c zone builder (Err (fault_halt fault)) alone leaves.1)
