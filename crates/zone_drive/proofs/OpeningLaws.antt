-- Commands that may open a zone: their checks, then its resources' checks, then their effect, once the drive has made its choice.
use Rattle.std.proofs.Common.{◌≡◌, ℕ, ◌+◌, ◌≤◌, Bool, true, false, cond, leb, ◌&&◌, List, [], ◌∷◌, ◌++◌, Option, Some, None, Ok, Err, refl, ap, arith}
use Rattle.std.proofs.lemmas.Bool.{lt-leb}
use Rattle.nvme_wire.specs.declared.zone_state.ZoneState.{ZoneState}
use Rattle.nvme_wire.specs.declared.zone_state.ZoneState.TheVariants.{Closed}
use Rattle.nvme_wire.specs.declared.status.Status.{Status}
use Rattle.nvme_wire.specs.declared.status.Status.TheVariants.{TooManyActiveZones, TooManyOpenZones}
use Rattle.zone_states.specs.declared.geometry.Geometry.{Geometry}
use Rattle.zone_states.specs.Checks.{first_failing}
use Rattle.zone_states.specs.Transition.{is_active, is_open}
use Rattle.zone_states.specs.Zone.{Zone}
use Rattle.zone_states.proofs.CheckLaws.{first_failing-back, first_failing-front}
use Rattle.drive_port.specs.Drive.{active_count, open_count}
use Rattle.drive_port.specs.Step.{Outcome, one_if, resource_checks, unless_refused, zone_at}
use Rattle.zone_drive.specs.declared.habit.Habit.{Habit}
use Rattle.zone_drive.specs.Habits.{makes_room}
use Rattle.zone_drive.specs.Choice.{IsLowestOpened, RoomGives, close_lowest, wants_open_resource, with_room}
use Rattle.zone_drive.proofs.CountLaws.{active-set, open-set}
use Rattle.zone_drive.proofs.RoomLaws.{apart, zone_at-closing}

-- the command on these zones: its first checks look only at one zone
abbrev pub opening : Geometry → (Zone → List (Bool × Status)) → (List Zone → Outcome) → ℕ → List Zone → Outcome
opening geometry first effect index zones =
    unless_refused (first_failing (first (zone_at zones index) ++ resource_checks geometry zones (zone_at zones index))) zones (effect zones)

-- the command on the zones that the drive chooses
abbrev pub by_choice : Habit → (List Zone → Outcome) → List Zone → Outcome
by_choice habit gives zones = gives (cond (wants_open_resource (gives zones).status && makes_room habit) (close_lowest zones) zones)

-- none of the checks has the status of the open resources
abbrev pub AllOther : List (Bool × Status) → Type 0
AllOther [] = Unit {0}
AllOther (check ∷ checks) = (wants_open_resource check.1 ≡ false) × AllOther checks

-- a check of another cause wants no open resource
pub other : (checks : List (Bool × Status)) (status : Status) → AllOther checks → Some status ≡ first_failing checks → wants_open_resource status ≡ false
other [] status all e = absurd (cc e)
other ((true, s) ∷ checks) status all e = let same : status ≡ s = cc in rw same all.0
other ((false, s) ∷ checks) status all e = other checks status all.1 e

-- ---- refused

same_choice : (habit : Habit) (gives : List Zone → Outcome) (zones : List Zone) (given : Outcome) → gives zones ≡ given → wants_open_resource given.status ≡ false → by_choice habit gives zones ≡ given
same_choice habit gives zones given is none = rw (is, none) is

-- a command that opens a zone, and fails one of its first checks
pub opening-refused : (habit : Habit) (geometry : Geometry) (first : Zone → List (Bool × Status)) (effect : List Zone → Outcome) (index : ℕ) (zones : List Zone) (status : Status)
    → AllOther (first (zone_at zones index)) → Some status ≡ first_failing (first (zone_at zones index))
    → by_choice habit (opening geometry first effect index) zones ≡ unless_refused (Some status) zones (effect zones)
opening-refused habit geometry first effect index zones status all e =
    let checks = first (zone_at zones index) in
    let front = first_failing-front checks (resource_checks geometry zones (zone_at zones index)) status e in
    same_choice habit (opening geometry first effect index) zones (unless_refused (Some status) zones (effect zones)) (rw (← front) refl) (other checks status all e)

no_closing : (wants : Bool) (closed zones : List Zone) → (wants ≡ true → closed ≡ zones) → cond wants closed zones ≡ zones
no_closing true closed zones none = none refl
no_closing false closed zones none = refl

-- one that finds no room for an open zone
pub opening-no_room : (habit : Habit) (geometry : Geometry) (first : Zone → List (Bool × Status)) (effect : List Zone → Outcome) (index : ℕ) (zones : List Zone) (status : Status)
    → None ≡ first_failing (first (zone_at zones index)) → RoomGives habit geometry zones (zone_at zones index) (Err status)
    → by_choice habit (opening geometry first effect index) zones ≡ unless_refused (Some status) zones (effect zones)
opening-no_room habit geometry first effect index zones status passed (needs, none) =
    let checks = first (zone_at zones index) in
    let gives = opening geometry first effect index in
    let back = first_failing-back checks (resource_checks geometry zones (zone_at zones index)) (Some status) passed needs in
    let is : gives zones ≡ unless_refused (Some status) zones (effect zones) = rw (← back) refl in
    let wants : wants_open_resource (gives zones).status ≡ wants_open_resource status = ap (λ (o : Outcome). wants_open_resource o.status) is in
    let choice : cond (wants_open_resource (gives zones).status && makes_room habit) (close_lowest zones) zones ≡ zones = rw wants (no_closing (wants_open_resource status && makes_room habit) _ zones none) in
    rw choice is

-- ---- done

-- where only an open resource is missing, there is an active one
active_resource : (a b : Bool) → Some TooManyOpenZones ≡ first_failing ((a, TooManyActiveZones) ∷ (b, TooManyOpenZones) ∷ []) → a ≡ false
active_resource true b e = absurd (cc e)
active_resource false b e = refl

no_failing : (a b : Bool) → a ≡ false → b ≡ false → None ≡ first_failing ((a, TooManyActiveZones) ∷ (b, TooManyOpenZones) ∷ [])
no_failing a b no_active no_open = rw (no_active, no_open) refl

and-false : (a b : Bool) → b ≡ false → (a && b) ≡ false
and-false true b e = e
and-false false b e = refl

-- once the lowest implicitly opened zone is closed, there is an open resource
pub closing-passes : (geometry : Geometry) (zones : List Zone) (zone : Zone) (low : ℕ) → open_count zones ≤ geometry.open
    → Some TooManyOpenZones ≡ first_failing (resource_checks geometry zones zone) → IsLowestOpened zones low → None ≡ first_failing (resource_checks geometry (close_lowest zones) zone)
closing-passes geometry zones zone low most needs lowest =
    let after : Zone = record { state = Closed; blocks = (zone_at zones low).blocks } in
    let opened = ap (λ (s : ZoneState). one_if (is_open s)) lowest.opened in
    let was_active = ap (λ (s : ZoneState). one_if (is_active s)) lowest.opened in
    let active_same : active_count (close_lowest zones) ≡ active_count zones = rw lowest.closes (omega (arith, active-set zones low after lowest.in_range, was_active)) in
    let fewer : open_count (close_lowest zones) + 1 ≡ open_count zones = rw lowest.closes (omega (arith, open-set zones low after lowest.in_range, opened)) in
    let room : leb geometry.open (open_count (close_lowest zones)) ≡ false = lt-leb _ _ (omega (arith, fewer, most)) in
    no_failing _ _ (rw active_same (active_resource _ _ needs)) (and-false _ _ room)

-- one that is done
pub opening-done : (habit : Habit) (geometry : Geometry) (first : Zone → List (Bool × Status)) (effect : List Zone → Outcome) (index : ℕ) (zones : List Zone) (closing : Option ℕ)
    → ((middle : List Zone) → wants_open_resource (effect middle).status ≡ false) → open_count zones ≤ geometry.open
    → None ≡ first_failing (first (zone_at zones index)) → RoomGives habit geometry zones (zone_at zones index) (Ok closing)
    → by_choice habit (opening geometry first effect index) zones ≡ effect (with_room zones closing)
opening-done habit geometry first effect index zones None succeeds most passed needs =
    let all = first_failing-back (first (zone_at zones index)) (resource_checks geometry zones (zone_at zones index)) None passed needs in
    same_choice habit (opening geometry first effect index) zones (effect zones) (rw (← all) refl) (succeeds zones)
opening-done habit geometry first effect index zones (Some low) succeeds most passed (needs, makes, lowest) =
    let gives = opening geometry first effect index in
    let wanting = first_failing-back (first (zone_at zones index)) (resource_checks geometry zones (zone_at zones index)) (Some TooManyOpenZones) passed needs in
    let is : gives zones ≡ unless_refused (Some TooManyOpenZones) zones (effect zones) = rw (← wanting) refl in
    let wants : wants_open_resource (gives zones).status ≡ true = ap (λ (o : Outcome). wants_open_resource o.status) is in
    let zone : zone_at (close_lowest zones) index ≡ zone_at zones index = zone_at-closing zones index low (apart geometry zones index low needs lowest) lowest in
    let closed = closing-passes geometry zones (zone_at zones index) low most needs lowest in
    let all = first_failing-back (first (zone_at zones index)) (resource_checks geometry (close_lowest zones) (zone_at zones index)) None passed closed in
    rw (wants, makes, zone, ← all) refl
