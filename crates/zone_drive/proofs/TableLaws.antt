-- What is counted where one zone changes.
use Rattle.std.proofs.Common.{◌≡◌, ℕ, ◌+◌, ◌-◌, ◌/◌, ◌<◌, ◌≤◌, List, length, set, get_or, ap, ◌∙◌, arith}
use Rattle.std.proofs.lemmas.List.{get_or-set_same, length-set, set-get_or, set-set}
use Rattle.nvme_wire.specs.declared.zone_state.ZoneState.{ZoneState}
use Rattle.nvme_wire.specs.declared.zone_state.ZoneState.TheVariants.{ImplicitlyOpened}
use Rattle.zone_states.specs.Transition.{is_active, is_open, is_state}
use Rattle.drive_port.specs.Step.{one_if}
use Rattle.zone_drive.specs.declared.resources.Resources.{Resources}
use Rattle.zone_drive.specs.Groups.{IsCounted}
use Rattle.zone_drive.proofs.CountLaws.{count-set}
use Rattle.zone_drive.proofs.GroupLaws.{grouped-counts, grouped-set}

-- a zone that was another one before
pub counted-follow : {X : Type 0} (state : X → ZoneState) (zones : List X) (old new : Resources) (index : ℕ) (was now : X) → IsCounted state (set zones index was) old → index < length zones → now ≡ get_or zones index now
    → new.active_zones ≡ old.active_zones + one_if (is_active (state now)) - one_if (is_active (state was))
    → new.open_zones ≡ old.open_zones + one_if (is_open (state now)) - one_if (is_open (state was))
    → new.implicit ≡ set old.implicit (index / 256) (get_or old.implicit (index / 256) 0 + one_if (is_state ImplicitlyOpened (state now)) - one_if (is_state ImplicitlyOpened (state was)))
    → IsCounted state zones new
counted-follow {X = X} state zones old new index was now counted lt read active open_zones implicit =
    let before = set zones index was in
    let low : index < length before = omega (arith, lt, length-set zones index was) in
    let here : get_or before index now ≡ was = get_or-set_same zones index was now lt in
    let same : set before index now ≡ zones = set-set zones index was now ∙ ap (set zones index) read ∙ set-get_or zones index now in
    rw (← same) (record {
      active = omega (arith, active, counted.active, rw here at (count-set (λ (zone : X). is_active (state zone)) before index now now low));
      open_zones = omega (arith, open_zones, counted.open_zones, rw here at (count-set (λ (zone : X). is_open (state zone)) before index now now low));
      grouped = rw implicit (rw here at (grouped-set (λ (zone : X). is_state ImplicitlyOpened (state zone)) before old.implicit index now now counted.grouped low));
    })

-- the counts of Implicitly Opened zones count the one that is changed
pub implicit-follow : {X : Type 0} (state : X → ZoneState) (zones : List X) (old : Resources) (index : ℕ) (was : X) → IsCounted state (set zones index was) old → index < length zones
    → one_if (is_state ImplicitlyOpened (state was)) ≤ get_or old.implicit (index / 256) 0
implicit-follow {X = X} state zones old index was counted lt =
    let before = set zones index was in
    rw (get_or-set_same zones index was was lt) at (grouped-counts (λ (zone : X). is_state ImplicitlyOpened (state zone)) before old.implicit index was counted.grouped (omega (arith, lt, length-set zones index was)))

-- a change that is taken back
pub counted-back : {X : Type 0} (state : X → ZoneState) (zones : List X) (resources : Resources) (index : ℕ) (was now : X) → was ≡ get_or zones index was → IsCounted state zones resources
    → IsCounted state (set (set zones index now) index was) resources
counted-back state zones resources index was now read counted = rw (set-set zones index now was, read, set-get_or zones index was) counted
