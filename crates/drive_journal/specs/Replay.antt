-- What changes make of zones when they are done again. Nothing is checked, since each of them succeeded once.
use Rattle.std.specs.Prelude.{ℕ, ◌/◌, true, false, List, [], ◌∷◌, map, slice_set, Result, Ok}
use Rattle.std.specs.List.{AllByRecursion}
use Rattle.nvme_wire.specs.Entry.{decode_of}
use Rattle.nvme_wire.specs.declared.command.Command.{Command}
use Rattle.nvme_wire.specs.declared.command.Command.TheVariants.{Write, Append, Send}
use Rattle.nvme_wire.specs.declared.command.DecodeFault.{DecodeFault}
use Rattle.zone_states.specs.declared.geometry.Geometry.{Geometry}
use Rattle.zone_states.specs.Sending.{zone_after}
use Rattle.zone_states.specs.Stored.{AreWholeBlocks, StoredZone, stored_write}
use Rattle.zone_states.specs.Transition.{state_after}
use Rattle.zone_states.specs.Zone.{Zone}
use Rattle.drive_port.specs.Run.{restarted_zone}
use Rattle.drive_port.specs.Step.{sent_zone, write_effect, zone_at}
use Rattle.zone_drive.specs.Table.{sent_in, sent_stored, stored_at}
use Rattle.drive_journal.specs.Change.{Change}

-- what a command that succeeds makes of the zones
abbrev pub changed : Geometry → List Zone → Result Command DecodeFault → List ℕ → List Zone
changed geometry zones (Ok (Write slba blocks)) bytes = write_effect geometry zones (slba / geometry.size) blocks bytes
changed geometry zones (Ok (Append zslba blocks)) bytes =
    write_effect geometry zones (zslba / geometry.size) blocks bytes
changed geometry zones (Ok (Send slba action true)) bytes = map (sent_zone action) zones
changed geometry zones (Ok (Send slba action false)) bytes =
    let index = slba / geometry.size in
    let zone = zone_at zones index in
    slice_set zones index (zone_after action zone (state_after zone.state action))
changed geometry zones command bytes = zones

abbrev pub replayed : Geometry → List Zone → List Change → List Zone
replayed geometry zones [] = zones
replayed geometry zones (change ∷ changes) =
    replayed geometry (changed geometry zones (decode_of change.entry) change.bytes) changes

-- the zones as a restart leaves them: none is open
abbrev pub at_rest : List Zone → List Zone
at_rest zones = map restarted_zone zones

-- ---- the same of zones as they are stored

-- each zone has whole blocks of a size
abbrev pub HaveWholeBlocks : ℕ → List StoredZone → Type 0
HaveWholeBlocks block zones = AllByRecursion (λ zone. AreWholeBlocks block zone.bytes) zones

abbrev pub written_in : Geometry → List StoredZone → ℕ → List ℕ → List StoredZone
written_in geometry zones index bytes = slice_set zones index (stored_write geometry (stored_at zones index) bytes)

abbrev pub stored_changed : Geometry → List StoredZone → Result Command DecodeFault → List ℕ → List StoredZone
stored_changed geometry zones (Ok (Write slba blocks)) bytes = written_in geometry zones (slba / geometry.size) bytes
stored_changed geometry zones (Ok (Append zslba blocks)) bytes = written_in geometry zones (zslba / geometry.size) bytes
stored_changed geometry zones (Ok (Send slba action true)) bytes = map (sent_stored action) zones
stored_changed geometry zones (Ok (Send slba action false)) bytes = sent_in zones (slba / geometry.size) action
stored_changed geometry zones command bytes = zones

abbrev pub stored_replayed : Geometry → List StoredZone → List Change → List StoredZone
stored_replayed geometry zones [] = zones
stored_replayed geometry zones (change ∷ changes) =
    stored_replayed geometry (stored_changed geometry zones (decode_of change.entry) change.bytes) changes
