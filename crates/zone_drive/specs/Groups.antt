-- What is counted of the zones: how many are active and open, and how many of each group are implicitly opened, so that
-- the lowest of them is found without looking at all zones.
use Rattle.std.specs.Prelude.{◌≡◌, ℕ, ◌+◌, ◌*◌, ◌<◌, ◌≤◌, Bool, List, length, take, count_by, slice_index}
use Rattle.nvme_wire.specs.declared.zone_state.ZoneState.{ZoneState}
use Rattle.nvme_wire.specs.declared.zone_state.ZoneState.TheVariants.{ImplicitlyOpened}
use Rattle.zone_states.specs.Stored.{StoredZone}
use Rattle.zone_states.specs.Transition.{is_active, is_open, is_state}
use Rattle.zone_drive.specs.declared.resources.Resources.{Resources}

abbrev pub is_implicit : StoredZone → Bool
is_implicit zone = is_state ImplicitlyOpened zone.state

-- how many of the zones below a number pass a test
abbrev pub passing_below : {X : Type 0} → (X → Bool) → List X → ℕ → ℕ
passing_below passes zones number = count_by passes (take number zones)

-- The group g has the 256 zones from number 256 g on: those that it counts are what passes a test below its end and not below its start.
pub record IsGrouped {X : Type 0} (passes : X → Bool) (zones : List X) (counts : List ℕ) : Type 0 where
  pub few : length zones ≤ 65536
  pub groups : length counts ≡ 256
  pub each : (group : ℕ) → group < 256 → passing_below passes zones (256 * group) + slice_index counts group ≡ passing_below passes zones (256 * group + 256)

-- The resources of a drive are those that zones in these states hold.
pub record IsCounted {X : Type 0} (state : X → ZoneState) (zones : List X) (resources : Resources) : Type 0 where
  pub active : resources.active_zones ≡ count_by (λ zone. is_active (state zone)) zones
  pub open_zones : resources.open_zones ≡ count_by (λ zone. is_open (state zone)) zones
  pub grouped : IsGrouped (λ zone. is_state ImplicitlyOpened (state zone)) zones resources.implicit
