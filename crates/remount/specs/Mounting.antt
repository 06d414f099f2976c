-- What a mount makes of the zones by their report.
use Rattle.std.specs.Prelude.{◌≡◌, ℕ, ◌+◌, ◌<◌, ◌≤◌, Bool, true, false, List, map, slice_get, Option, Some, None}
use Rattle.std.specs.List.{range_with_len}
use Rattle.nvme_wire.specs.declared.zone_state.ZoneState.TheVariants.{Empty}
use Rattle.zone_states.specs.Transition.{is_open, is_state}
use Rattle.zone_choice.specs.declared.roles.Filling.{Filling}
use Rattle.zone_choice.specs.Roles.{RolesView, mounted_as}
use Rattle.drive_survey.specs.declared.reported.ReportedZone.{ReportedZone}
use Rattle.drive_survey.specs.Survey.{is_partly_reported}

-- a zone was reported Empty
abbrev pub is_empty_reported : Option ReportedZone → Bool
is_empty_reported None = false
is_empty_reported (Some reported) = is_state reported.state Empty

-- the zones of a drive with that many that were reported Empty
abbrev pub empties : List ReportedZone → ℕ → List Bool
empties reported zones = map (λ zone. is_empty_reported (slice_get reported zone)) (range_with_len 0 zones)

-- a zone was reported partly written
abbrev pub is_partly_found : Option ReportedZone → Bool
is_partly_found None = false
is_partly_found (Some reported) = is_partly_reported reported

abbrev pub is_partly_at : List ReportedZone → ℕ → Bool
is_partly_at reported zone = is_partly_found (slice_get reported zone)

-- a partly written zone, to which batches continue
abbrev pub filling_in : ℕ → ReportedZone → Filling
filling_in zone reported = record { zone = zone; written = reported.blocks; may_open = is_open reported.state }

-- The zone is the lowest from one on, and before an end, that was reported partly written.
pub record IsLowestPartly (reported : List ReportedZone) (from end : ℕ) (filling : Filling) : Type 0 where
  pub after : from ≤ filling.zone
  pub before : filling.zone < end
  pub found : ReportedZone
  pub there : slice_get reported filling.zone ≡ Some found
  pub partly : is_partly_reported found ≡ true
  pub is : filling ≡ filling_in filling.zone found
  pub lowest : (zone : ℕ) → from ≤ zone → zone < filling.zone → is_partly_at reported zone ≡ false

-- that zone, or that there is none
abbrev pub FindsPartly : List ReportedZone → ℕ → ℕ → Option Filling → Type 0
FindsPartly reported from end None = (zone : ℕ) → from ≤ zone → zone < end → is_partly_at reported zone ≡ false
FindsPartly reported from end (Some filling) = IsLowestPartly reported from end filling

-- the lowest one after the first, if there is a first
abbrev pub FindsNext : List ReportedZone → ℕ → Option Filling → Option Filling → Type 0
FindsNext reported end None next = next ≡ None
FindsNext reported end (Some first) next = FindsPartly reported (first.zone + 1) end next

-- The zones of a drive with that many have roles by their report: of two that are partly written the lower is the host zone, and the other the next one.
pub record MountsRoles (reported : List ReportedZone) (zones : ℕ) (roles : RolesView) : Type 0 where
  pub host : Option Filling
  pub next : Option Filling
  pub is : roles ≡ mounted_as (empties reported zones) host next
  pub host_is : FindsPartly reported 0 zones host
  pub next_is : FindsNext reported zones host next
