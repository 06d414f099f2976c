-- The zone beside one is closed, where the drive holds one zone open at most.
use Rattle.std.proofs.Common.{◌≡◌, ◌≢◌, ◌⊎◌, ℕ, ◌*◌, ◌/◌, ◌≤◌, ◌<◌, Bool, true, false, not, ◌&&◌, cond, eqb, List, [], ◌∷◌, length, set, Some, None, Ok, Err, nat_lt, refl, sym, ap, subst, ◌∙◌, inl, inr, arith}
use Rattle.std.specs.List.{AllByRecursion, find}
use Rattle.std.proofs.lemmas.Bool.{le-ltb}
use Rattle.std.proofs.lemmas.List.{get_or-set_same, length-map}
use Rattle.nvme_wire.specs.declared.zone_state.ZoneState.TheVariants as states
use Rattle.zone_states.specs.Zone.{Zone}
use Rattle.drive_port.specs.Calls.{CanClose, CloseGives, IsNotRefused, Obeys}
use Rattle.drive_port.specs.Calls.{CloseLeaves as PortLeaves}
use Rattle.drive_port.specs.Contents.{Counts, SameContents, content_of, contents}
use Rattle.drive_port.specs.Drive.{DriveState, IsLawful}
use Rattle.drive_port.specs.Step.{nowhere, zone_at}
use Rattle.drive_port.specs.declared.calls.PortFault.{PortFault}
use Rattle.drive_port.specs.declared.calls.PortFault.TheVariants as port
use Rattle.zone_choice.specs.declared.roles.Filling.{Filling}
use Rattle.zone_choice.specs.Agreement.{Agrees, HoldsFilling, IsShut, mounted}
use Rattle.drive_array.specs.ZoneLogs.{drive_logs}
use Rattle.zone_choice.specs.Changes.{AloneLeaves, CloseBesideLeaves, ClosesBeside, IsHalt, KeepsContents, fault_halt, roles_alone, tables_closed}
use Rattle.zone_choice.specs.Roles.{IsOccupied, RolesView, fillings, is_filling_at, is_open_beside, open_beside}
use Rattle.zone_choice.specs.Tables.{TablesView}
use Rattle.zone_choice.proofs.AgreementLaws.{StaysFailed, agrees_close, agrees_same}
use Rattle.zone_choice.proofs.CommandLaws.{can_close, filling-full, zone-start}
use Rattle.zone_choice.proofs.OpenLaws.{OpensNone, close-opens, closing-opens, settled-shut, shut-beside, tells-kept}
use Rattle.zone_choice.proofs.RolesLaws.{closed_beside-none, few-fillings}

-- ---- the zone beside

-- what is found is one of the list
found : {X : Type 0} (P : X → Type 0) (test : X → Bool) (xs : List X) (x : X) → find test xs ≡ Some x → AllByRecursion P xs → P x × (test x ≡ true)
found P test [] x e all = absurd (cc)
found {X} P test (y ∷ ys) x e all = at (test y) refl e (λ rest. found P test ys x rest all.1)
  where
    at : (b : Bool) → test y ≡ b → cond b (Some y) (find test ys) ≡ Some x → (find test ys ≡ Some x → P x × (test x ≡ true)) → P x × (test x ≡ true)
    at true is e rest = let same : y ≡ x = cc in (subst P same all.0, subst (λ z. test z ≡ true) same is)
    at false is e rest = rest e

may-open : (zone : ℕ) (f : Filling) → is_open_beside zone f ≡ true → f.may_open ≡ true
may-open zone f is = at (eqb f.zone zone) is
  where
    at : (b : Bool) → (not b && f.may_open) ≡ true → f.may_open ≡ true
    at true h = absurd (cc)
    at false h = h

-- the zone beside, which may be open
record IsBeside (drive : DriveState) (other : Filling) : Type 0 where
  in_range : other.zone < length drive.zones
  holds : HoldsFilling drive.geometry.capacity (contents drive.zones) (drive_logs drive) other
  may : other.may_open ≡ true

is-beside : (drive : DriveState) (tables : TablesView) (zone : ℕ) (other : Filling) → Agrees (mounted drive tables) → open_beside tables.roles zone ≡ Some other → IsBeside drive other
is-beside drive tables zone other agrees e =
    let occupied = found (IsOccupied tables.roles.empty) (is_open_beside zone) (fillings tables.roles) other e agrees.roles.apart.occupied in
    let holds = found (HoldsFilling drive.geometry.capacity (contents drive.zones) (drive_logs drive)) (is_open_beside zone) (fillings tables.roles) other e agrees.roles.fillings_are in
    record {
      in_range = omega (arith, occupied.0.in_range, agrees.roles.count, length-map drive.zones content_of);
      holds = holds.0;
      may = may-open zone other holds.1;
    }

-- ---- it is closed

-- if no zone is open that wasn't, and it is not
closed-kept : (old new : DriveState) (tables : TablesView) (zone : ℕ) → Agrees (mounted old tables) → is_filling_at tables.roles zone ≡ true → SameContents old new → OpensNone old.zones new.zones → IsLawful new → StaysFailed old new
    → new.refused ≡ old.refused → new.durable ≡ old.durable → new.appended ≡ old.appended → ((other : Filling) → open_beside tables.roles zone ≡ Some other → IsShut new.zones other.zone) → KeepsContents (mounted old tables) (mounted new (tables_closed tables zone))
closed-kept old new tables zone agrees here same opens lawful failed refused durable appended shut = record {
  agrees = agrees_close old new tables zone same opens lawful failed (shut-beside new.zones zone (fillings tables.roles) (few-fillings tables.roles) here (tells-kept old.zones new.zones (fillings tables.roles) opens agrees.open_zones) shut) agrees;
  same = same;
  refused = refused;
  durable = durable;
  appended = appended;
  unfailing = failed;
}

-- it is full
pub other_full : (drive : DriveState) (tables : TablesView) (zone : ℕ) (other : Filling) → Agrees (mounted drive tables) → is_filling_at tables.roles zone ≡ true → open_beside tables.roles zone ≡ Some other → other.written ≡ drive.geometry.capacity
    → KeepsContents (mounted drive tables) (mounted drive (tables_closed tables zone))
other_full drive tables zone other agrees here is all =
    let beside = is-beside drive tables zone other agrees is in
    let shut : IsShut drive.zones other.zone = settled-shut drive.zones other.zone (inr (filling-full drive tables other agrees beside.in_range beside.holds all)) in
    closed-kept drive drive tables zone agrees here (record { geometry = refl; contents = refl }) (λ k h. h) agrees.lawful (λ none. none) refl refl refl (λ f e. let same : other ≡ f = (let both : Some other ≡ Some f = sym is ∙ e in cc) in subst (λ (x : Filling). IsShut drive.zones x.zone) same shut)

-- it was sent Close
pub other_closed : (old new : DriveState) (tables : TablesView) (zone start : ℕ) (other : Filling) → Agrees (mounted old tables) → is_filling_at tables.roles zone ≡ true → open_beside tables.roles zone ≡ Some other → start ≡ other.zone * old.geometry.size
    → SameContents old new → PortLeaves {V = Unit {0}} old start (Ok tt) new → IsLawful new → StaysFailed old new → new.durable ≡ old.durable → Counts old new 0 → KeepsContents (mounted old tables) (mounted new (tables_closed tables zone))
other_closed old new tables zone start other agrees here is start-is same leaves lawful failed durable counts =
    let beside = is-beside old tables zone other agrees is in
    let index : start / old.geometry.size ≡ other.zone = rw start-is (zone-start other.zone old.geometry.size agrees.geometry.size.0).0 in
    let at = start / old.geometry.size in
    let made : Zone = record { state = states.Closed; blocks = (zone_at old.zones at).blocks } in
    let there : IsShut (set old.zones at made) at = rw (get_or-set_same old.zones at made nowhere (omega (arith, index, beside.in_range))) refl in
    let shut : IsShut new.zones other.zone = subst (IsShut new.zones) index (closing-opens (set old.zones at made) new.zones leaves at there) in
    closed-kept old new tables zone agrees here same (close-opens {V = Unit {0}} old new start (Ok tt) leaves) lawful failed counts.refused durable (omega (arith, counts.appended)) (λ f e. let one : other ≡ f = (let both : Some other ≡ Some f = sym is ∙ e in cc) in subst (λ (x : Filling). IsShut new.zones x.zone) one shut)

-- a Close that did not succeed
pub record CloseHalts (old new : DriveState) (tables : TablesView) (zone : ℕ) (fault : PortFault) : Type 0 where
  pub halt : IsHalt fault
  pub leaves : CloseBesideLeaves old tables zone new (Err (fault_halt fault))

-- the Close of the other zone that is being filled is not refused, and the result is kept
pub close_halts : (old new : DriveState) (tables : TablesView) (zone start : ℕ) (other : Filling) (fault : PortFault) → Agrees (mounted old tables) → open_beside tables.roles zone ≡ Some other → other.written ≢ old.geometry.capacity → start ≡ other.zone * old.geometry.size
    → CloseGives {V = Unit {0}} old start (Err fault) new → SameContents old new → PortLeaves {V = Unit {0}} old start (Err fault) new → Obeys {V = Unit {0}} old (Err fault) new → (CanClose old start → IsNotRefused {V = Unit {0}} (Err fault)) → CloseHalts old new tables zone fault
close_halts old new tables zone start other (port.Refused status) agrees is room start-is gives same leaves obeys passed =
    let beside = is-beside old tables zone other agrees is in
    absurd (passed (can_close old tables other start agrees beside.in_range beside.holds beside.may room start-is))
close_halts old new tables zone start other port.Memory agrees is room start-is gives same leaves obeys passed = record { halt = tt; leaves = gives.1.1.1 }
close_halts old new tables zone start other port.Failed agrees is room start-is gives same leaves obeys passed =
    let failed = obeys.fails refl in
    record {
      halt = tt;
      leaves = (
        failed.0,
        record {
          agrees = agrees_same old new tables same (close-opens {V = Unit {0}} old new start (Err port.Failed) leaves) obeys.lawful obeys.unfailing agrees;
          same = same;
          refused = failed.1.refused;
          durable = obeys.durable;
          appended = failed.1.appended;
          unfailing = obeys.unfailing;
        },
      );
    }
close_halts old new tables zone start other port.Stopped agrees is room start-is gives same leaves obeys passed = record {
  halt = tt;
  leaves = (
    obeys.stops refl,
    record {
      agrees = agrees_same old new tables same (close-opens {V = Unit {0}} old new start (Err port.Stopped) leaves) obeys.lawful obeys.unfailing agrees;
      same = same;
      refused = (obeys.counts refl).refused;
      durable = obeys.durable;
      appended = (obeys.counts refl).appended;
      unfailing = obeys.unfailing;
    },
  );
}

-- ---- the tables say so

-- and then the zone is the only one that may be open
pub leaves-alone : (old new : DriveState) (tables after : TablesView) (zone : ℕ) → old.geometry.open ≤ 1 → after ≡ tables_closed tables zone → CloseBesideLeaves old tables zone new (Ok tt) → AloneLeaves (mounted old tables) (mounted new after) zone (Ok tt)
leaves-alone old new tables after zone few after-is leaves =
    let one : nat_lt 1 old.geometry.open ≡ false = le-ltb 1 old.geometry.open few in
    let roles : after.roles ≡ roles_alone old.geometry tables.roles zone = rw (after-is, one) refl in
    (roles, by leaves)
  where
    by : ((open_beside tables.roles zone ≡ None) × (new ≡ old)) ⊎ ((other : Filling) × (open_beside tables.roles zone ≡ Some other) × KeepsContents (mounted old tables) (mounted new (tables_closed tables zone)))
        → (mounted new after ≡ mounted old tables) ⊎ ClosesBeside (mounted old tables) (mounted new after) zone
    by (inl none) =
        let same : after ≡ tables = after-is ∙ ap (λ (r : RolesView). record tables { roles = r }) (closed_beside-none tables.roles zone none.0) in
        inl (ap (λ (d : DriveState). mounted d after) none.1 ∙ ap (mounted old) same)
    by (inr some) = inr (record { limit = omega (arith, few); other = some.0; beside = some.1; tables = after-is; kept = rw after-is some.2 })
