-- A zone that is written or opened, and the zone that is closed for it.
use Rattle.std.proofs.Common.{◌≡◌, ◌≢◌, ℕ, ◌+◌, ◌/◌, ◌<◌, ◌≤◌, Bool, true, false, cond, leb, eqb, ◌&&◌, ◌||◌, List, [], ◌++◌, length, set, Option, Some, None, Ok, refl, sym, ap, ◌∙◌, arith}
use Rattle.std.proofs.lemmas.Bool.{leb-false}
use Rattle.std.proofs.lemmas.List.{get_or-set_other, length-map, map-set, set_comm}
use Rattle.nvme_wire.specs.declared.command.Action.{Action}
use Rattle.nvme_wire.specs.declared.command.Action.TheVariants.{Close, Open}
use Rattle.nvme_wire.specs.declared.zone_state.ZoneState.{ZoneState}
use Rattle.nvme_wire.specs.declared.zone_state.ZoneState.TheVariants.{Empty, Closed, Full, Offline}
use Rattle.zone_states.specs.declared.geometry.Geometry.{Geometry}
use Rattle.zone_states.specs.Checks.{first_failing}
use Rattle.zone_states.specs.Geometry.{IsInRange}
use Rattle.zone_states.specs.Stored.{AreWholeBlocks, StoredZone, stored_after, stored_write, zone_stored}
use Rattle.zone_states.specs.Transition.{is_active, is_open, is_state, state_after}
use Rattle.zone_states.specs.Writing.{append_bytes_checks}
use Rattle.zone_states.specs.Zone.{IsLawfulZone, Zone, opened_by_write}
use Rattle.zone_states.proofs.Cutting.{stored_write-after}
use Rattle.drive_port.specs.Drive.{active_count, open_count}
use Rattle.drive_port.specs.Step.{one_if, resource_checks, write_effect, zone_at}
use Rattle.zone_drive.specs.declared.habit.Habit.{Habit}
use Rattle.zone_drive.specs.Choice.{RoomGives, with_room}
use Rattle.zone_drive.specs.Sending.{sent_to}
use Rattle.zone_drive.specs.Stored.{AreZones, zones_of}
use Rattle.zone_drive.specs.Table.{closed_in, sent_in, stored_at}
use Rattle.zone_drive.proofs.OpeningLaws.{closing-passes}
use Rattle.zone_drive.proofs.RoomLaws.{apart, closes-one}
use Rattle.zone_drive.proofs.SendLaws.{are-sent, lawful-after, whole-after, zone_of-after, zones_of-sent_in}
use Rattle.zone_drive.proofs.WriteLaws.{Takes, all-passed, are-set, lawful-at, lawful-written, whole-at, whole-checked, zone_at-is}

-- ---- the resources that a zone needs

-- a state that takes no more than the checks of resources look for
record Needs (old new : ZoneState) : Type 0 where
  active : one_if (is_active new) ≤ one_if (is_active old) + one_if (is_state Empty old)
  open_zones : one_if (is_open new) ≤ one_if (is_open old) + one_if (is_state Empty old || is_state Closed old)

needs-write : (full : Bool) (state : ZoneState) → Needs state (cond full Full (opened_by_write state))
needs-write true state = record { active = omega arith; open_zones = omega arith }
needs-write false Empty = record { active = omega arith; open_zones = omega arith }
needs-write false Closed = record { active = omega arith; open_zones = omega arith }
needs-write false state = record { active = omega arith; open_zones = omega arith }

needs-open : (zone : StoredZone) → Needs zone.state (stored_after Open zone (state_after zone.state Open)).state
needs-open zone = either zone.state
  where
    either : (state : ZoneState) → Needs state (stored_after Open (record { state = state; bytes = zone.bytes }) (state_after state Open)).state
    either Empty = record { active = omega arith; open_zones = omega arith }
    either state = record { active = omega arith; open_zones = omega arith }

room : (needs : Bool) (limit count : ℕ) → (needs && leb limit count) ≡ false → count ≤ limit → count + one_if needs ≤ limit
room true limit count e le = let lt = leb-false limit count e in omega arith
room false limit count e le = omega arith

takes-needs : (geometry : Geometry) (zones : List Zone) (zone : Zone) (new : ZoneState) → active_count zones ≤ geometry.active → open_count zones ≤ geometry.open
    → None ≡ first_failing (resource_checks geometry zones zone) → Needs zone.state new → Takes geometry zones zone.state new
takes-needs geometry zones zone new active_most open_most passed needs =
    let all = all-passed (resource_checks geometry zones zone) passed in
    record {
      active = omega (arith, needs.active, room (is_state Empty zone.state) geometry.active (active_count zones) all.0 active_most);
      open_zones = omega (arith, needs.open_zones, room (is_state Empty zone.state || is_state Closed zone.state) geometry.open (open_count zones) all.1.0 open_most);
    }

-- ---- the zone that is closed

-- A zone is closed after another one was changed, as if it had been closed before.
record ClosesFirst (geometry : Geometry) (zones : List StoredZone) (index : ℕ) (closing : Option ℕ) : Type 0 where
  are : AreZones geometry (closed_in zones closing)
  in_blocks : zones_of geometry.block (closed_in zones closing) ≡ with_room (zones_of geometry.block zones) closing
  same : stored_at (closed_in zones closing) index ≡ stored_at zones index
  first : (new : StoredZone) → closed_in (set zones index new) closing ≡ set (closed_in zones closing) index new
  passed : None ≡ first_failing (resource_checks geometry (with_room (zones_of geometry.block zones) closing) (zone_at (zones_of geometry.block zones) index))

closes-first : (habit : Habit) (geometry : Geometry) (zones : List StoredZone) (index : ℕ) (closing : Option ℕ) → IsInRange geometry → AreZones geometry zones
    → RoomGives habit geometry (zones_of geometry.block zones) (zone_at (zones_of geometry.block zones) index) (Ok closing) → ClosesFirst geometry zones index closing
closes-first habit geometry zones index None in_range are passed = record { are = are; in_blocks = refl; same = refl; first = λ new. refl; passed = passed }
closes-first habit geometry zones index (Some low) in_range are (wants, makes, lowest) =
    let b = geometry.block in
    let shown = zones_of b zones in
    let below : low < length zones = omega (arith, lowest.in_range, length-map zones (zone_stored b)) in
    let away = apart geometry shown index low wants lowest in
    let closed = stored_after Close (stored_at zones low) (state_after (stored_at zones low).state Close) in
    let none : StoredZone = record { state = Offline; bytes = [] } in
    record {
      are = are-sent geometry zones low Close (λ (e : Close ≡ Open). cc e) in_range are below;
      in_blocks = zones_of-sent_in b zones low Close below ∙ rw (closes-one (zone_at shown low) lowest.opened) (sym lowest.closes);
      same = get_or-set_other zones low index closed none away;
      first = λ new. rw (get_or-set_other zones index low new none (λ (e : low ≡ index). away (sym e))) (set_comm zones index low new closed away);
      passed = closing-passes geometry shown (zone_at shown index) low are.open_zones wants lowest;
    }

-- ---- the zone that is changed

-- These are zones of the drive, and in blocks the other list's.
pub record Leaves (geometry : Geometry) (zones : List StoredZone) (shown : List Zone) : Type 0 where
  pub are : AreZones geometry zones
  pub in_blocks : zones_of geometry.block zones ≡ shown

leaves-changed : (geometry : Geometry) (zones : List StoredZone) (index : ℕ) (new : StoredZone) (closing : Option ℕ) → AreZones geometry zones → index < length zones
    → ClosesFirst geometry zones index closing → AreWholeBlocks geometry.block new.bytes → IsLawfulZone geometry (zone_stored geometry.block new) → Needs (stored_at zones index).state new.state
    → Leaves geometry (closed_in (set zones index new) closing) (set (with_room (zones_of geometry.block zones) closing) index (zone_stored geometry.block new))
leaves-changed geometry zones index new closing are lt closes whole lawful needs =
    let b = geometry.block in
    let middle = closed_in zones closing in
    let below : index < length middle = omega (arith, lt, are.count, closes.are.count) in
    let passed = rw (zone_at-is b zones index lt) at closes.passed in
    let takes = takes-needs geometry (zones_of b middle) (zone_stored b (stored_at zones index)) new.state closes.are.active closes.are.open_zones (rw closes.in_blocks passed) needs in
    record {
      are = rw (closes.first new) (are-set geometry middle index new closes.are below whole lawful (rw closes.same takes));
      in_blocks = rw (closes.first new) (map-set (zone_stored b) middle index new ∙ rw closes.in_blocks refl);
    }

-- the zone that is changed is not the one that is closed
same_zone : (geometry : Geometry) (zones : List StoredZone) (index : ℕ) (closing : Option ℕ) → AreZones geometry zones → index < length zones → ClosesFirst geometry zones index closing
    → zone_at (with_room (zones_of geometry.block zones) closing) index ≡ zone_stored geometry.block (stored_at zones index)
same_zone geometry zones index closing are lt closes =
    let b = geometry.block in
    let below : index < length (closed_in zones closing) = omega (arith, lt, are.count, closes.are.count) in
    rw (← closes.in_blocks) (zone_at-is b (closed_in zones closing) index below ∙ ap (zone_stored b) closes.same)

-- what a zone leaves that was written, after room was made for it
pub leaves-written : (habit : Habit) (geometry : Geometry) (zones : List StoredZone) (index : ℕ) (bytes : List ℕ) (closing : Option ℕ) → IsInRange geometry → AreZones geometry zones → index < geometry.zones
    → None ≡ first_failing (append_bytes_checks geometry (zone_at (zones_of geometry.block zones) index) bytes)
    → RoomGives habit geometry (zones_of geometry.block zones) (zone_at (zones_of geometry.block zones) index) (Ok closing)
    → Leaves geometry (closed_in (set zones index (stored_write geometry (stored_at zones index) bytes)) closing)
    (write_effect geometry (with_room (zones_of geometry.block zones) closing) index (length bytes / geometry.block) bytes)
leaves-written habit geometry zones index bytes closing in_range are below checks gives =
    let b = geometry.block in
    let zone = stored_at zones index in
    let lt : index < length zones = omega (arith, below, are.count) in
    let here = zone_at-is b zones index lt in
    let closes = closes-first habit geometry zones index closing in_range are gives in
    let passed = rw here at checks in
    let whole = whole-checked geometry (zone_stored b zone) bytes passed in
    let after = stored_write-after geometry zone bytes (whole-at geometry zones index are lt) whole in
    let lawful : IsLawfulZone geometry (zone_stored b (stored_write geometry zone bytes)) = rw after.zone (lawful-written geometry (zone_stored b zone) bytes (rw here at (lawful-at geometry zones index are lt)) whole passed) in
    let needs = needs-write (eqb (length (zone.bytes ++ bytes) / b) geometry.capacity) zone.state in
    rw (same_zone geometry zones index closing are lt closes, ← after.zone)
    (leaves-changed geometry zones index (stored_write geometry zone bytes) closing are lt closes after.whole lawful needs)

-- and one that was opened
pub leaves-opened : (habit : Habit) (geometry : Geometry) (zones : List StoredZone) (index : ℕ) (closing : Option ℕ) → IsInRange geometry → AreZones geometry zones → index < geometry.zones
    → RoomGives habit geometry (zones_of geometry.block zones) (zone_at (zones_of geometry.block zones) index) (Ok closing)
    → Leaves geometry (closed_in (sent_in zones index Open) closing) (sent_to (with_room (zones_of geometry.block zones) closing) index Open)
leaves-opened habit geometry zones index closing in_range are below gives =
    let b = geometry.block in
    let zone = stored_at zones index in
    let next = state_after zone.state Open in
    let lt : index < length zones = omega (arith, below, are.count) in
    let closes = closes-first habit geometry zones index closing in_range are gives in
    let after = zone_of-after b Open zone next in
    let was = rw (zone_at-is b zones index lt) at (lawful-at geometry zones index are lt) in
    let lawful : IsLawfulZone geometry (zone_stored b (stored_after Open zone next)) = rw after (lawful-after geometry (zone_stored b zone) Open in_range was) in
    rw (same_zone geometry zones index closing are lt closes, ← after)
    (leaves-changed geometry zones index (stored_after Open zone next) closing are lt closes (whole-after b Open zone next (whole-at geometry zones index are lt)) lawful (needs-open zone))

-- any other action on one zone
pub leaves-sent : (geometry : Geometry) (zones : List StoredZone) (index : ℕ) (action : Action) → action ≢ Open → IsInRange geometry → AreZones geometry zones → index < geometry.zones
    → Leaves geometry (sent_in zones index action) (sent_to (zones_of geometry.block zones) index action)
leaves-sent geometry zones index action other in_range are below =
    let lt : index < length zones = omega (arith, below, are.count) in
    record { are = are-sent geometry zones index action other in_range are lt; in_blocks = zones_of-sent_in geometry.block zones index action lt }
