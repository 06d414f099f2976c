-- A restart of a drive.
use Rattle.std.specs.Prelude.{false, map}
use Rattle.nvme_wire.specs.declared.zone_state.ZoneState.{ZoneState}
use Rattle.nvme_wire.specs.declared.zone_state.ZoneState.TheVariants.{ImplicitlyOpened, ExplicitlyOpened, Closed}
use Rattle.zone_states.specs.Zone.{Zone}
use Rattle.drive_port.specs.Drive.{DriveState}

-- a restart closes the open zones
abbrev pub restarted_state : ZoneState → ZoneState
restarted_state ImplicitlyOpened = Closed
restarted_state ExplicitlyOpened = Closed
restarted_state state = state

abbrev pub restarted_zone : Zone → Zone
restarted_zone zone = record zone { state = restarted_state zone.state }

-- nothing else of the zones changes, nor what is durable of them; the counts begin again, and the drive continues
abbrev pub restarted : DriveState → DriveState
restarted drive = record { geometry = drive.geometry; zones = map restarted_zone drive.zones; durable = drive.durable; completed = 0; refused = 0; appended = 0; stopped = false; clean = drive.clean; unfailing = drive.unfailing }
