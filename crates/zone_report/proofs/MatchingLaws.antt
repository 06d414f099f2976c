-- The descriptors of the zones from one on, by what that zone is.
use Rattle.std.proofs.Common.{◌≡◌, ℕ, ◌+◌, ◌<◌, true, false, List, [], ◌∷◌, length, drop, get_or, refl}
use Rattle.std.proofs.lemmas.List.{drop_more}
use Rattle.nvme_wire.specs.declared.zone_state.ZoneState.TheVariants.{Offline}
use Rattle.nvme_wire.specs.declared.command.ReportingOptions.{ReportingOptions}
use Rattle.zone_states.specs.declared.geometry.Geometry.{Geometry}
use Rattle.zone_states.specs.Zone.{Zone}
use Rattle.zone_report.specs.declared.status.ZoneStatus.{ZoneStatus}
use Rattle.zone_report.specs.Report.{zone_status, is_chosen, descriptor_of, matching}

nowhere : Zone
nowhere = record { state = Offline; blocks = [] }

-- one zone that isn't chosen
pub matching-skips :
    (geometry : Geometry) (options : ReportingOptions) (number : ℕ) (zones : List Zone) (status : ZoneStatus) →
    number < length zones → ((none : Zone) → status ≡ zone_status (get_or zones number none)) → is_chosen options status.state ≡ false →
    matching geometry options number (drop number zones) ≡ matching geometry options (number + 1) (drop (number + 1) zones)
matching-skips geometry options number zones status lt is chosen =
    let other : is_chosen options (get_or zones number nowhere).state ≡ false = rw (is nowhere) at chosen in
    rw (drop_more zones number nowhere lt, other) refl

-- one that is
pub matching-takes :
    (geometry : Geometry) (options : ReportingOptions) (number : ℕ) (zones : List Zone) (status : ZoneStatus) →
    number < length zones → ((none : Zone) → status ≡ zone_status (get_or zones number none)) → is_chosen options status.state ≡ true →
    matching geometry options number (drop number zones) ≡ descriptor_of geometry number status ∷ matching geometry options (number + 1) (drop (number + 1) zones)
matching-takes geometry options number zones status lt is chosen =
    let other : is_chosen options (get_or zones number nowhere).state ≡ true = rw (is nowhere) at chosen in
    rw (drop_more zones number nowhere lt, other, is nowhere) refl
