-- A command that is foreseen gives what it gives.
use Rattle.std.proofs.Common.{◌≡◌, ◌≢◌, ℕ, ◌/◌, ◌%◌, ◌<◌, ◌≤◌, ◌^◌, Bool, true, false, List, [], length, map, Option, Some, None, Result, Ok, Err, ◌&&◌, ◌||◌, inl, inr, refl, sym, ap, ◌∙◌, subst, arith}
use Rattle.std.specs.Prelude.{nat_le, not}
use Rattle.std.specs.Option.{unwrap_or}
use Rattle.std.specs.Result.{result_err}
use Rattle.std.proofs.lemmas.Bool.{le-leb}
use Rattle.std.proofs.lemmas.List.{length-map}
use Rattle.nvme_wire.specs.declared.command.Action.{Action}
use Rattle.nvme_wire.specs.declared.command.Action.TheVariants.{Open}
use Rattle.nvme_wire.specs.declared.command.Command.{Command}
use Rattle.nvme_wire.specs.declared.command.Command.TheVariants.{Append, Read, Receive, Send, Write}
use Rattle.nvme_wire.specs.declared.command.DecodeFault.{DecodeFault}
use Rattle.nvme_wire.specs.declared.command.ReportingOptions.{ReportingOptions}
use Rattle.nvme_wire.specs.declared.status.Status.{Status}
use Rattle.nvme_wire.specs.declared.status.Status.TheVariants.{Success}
use Rattle.zone_report.specs.Report.{report}
use Rattle.zone_states.specs.Checks.{first_failing}
use Rattle.zone_states.specs.Geometry.{IsInRange}
use Rattle.zone_states.specs.Stored.{StoredZone, zone_stored}
use Rattle.zone_states.specs.Writing.{append_bytes_checks}
use Rattle.zone_states.specs.Zone.{Zone}
use Rattle.zone_states.specs.declared.geometry.Geometry.{Geometry}
use Rattle.drive_port.specs.Drive.{DriveState, IsLawful, IsStorable, open_count}
use Rattle.drive_port.specs.Step.{Outcome, bytes_from, end_of, outcome, read_checks, sent_zone, write_effect, zone_at}
use Rattle.zone_drive.specs.declared.habit.Habit.{Habit}
use Rattle.zone_drive.specs.declared.reply.Reply.{Reply}
use Rattle.zone_drive.specs.Choice.{Gives, RoomGives, chosen, performed, wants_open_resource, with_room}
use Rattle.zone_drive.specs.Foreseen.{CouldOpen, CouldWrite, Foresees}
use Rattle.zone_drive.specs.Habits.{MemoryDrive, makes_room, with_zones}
use Rattle.zone_drive.specs.Sending.{send_first, sent_to}
use Rattle.zone_drive.specs.Stored.{AreZones, zones_of}
use Rattle.zone_drive.specs.Table.{sent_stored}
use Rattle.zone_drive.specs.Writing.{append_first, write_first}
use Rattle.zone_drive.proofs.ChangeLaws.{leaves-opened, leaves-sent, leaves-written}
use Rattle.zone_drive.proofs.OutcomeLaws.{append-ended, open-ended, read-done, write-ended}
use Rattle.zone_drive.proofs.ReceiveLaws.{receive-reported}
use Rattle.zone_drive.proofs.SendLaws.{are-all, zones_of-sent}
use Rattle.drive_port.proofs.ClosingLaws.{IsClosing-refl}
use Rattle.zone_drive.proofs.SubmitLaws.{closes-chosen}

-- whether a drive is lawful does not depend on what is durable of it
pub lawful-durable : (drive : DriveState) (durable : List (List Zone)) → IsLawful (record drive { durable = durable }) → IsLawful drive
lawful-durable drive durable lawful = record {
  geometry = lawful.geometry;
  count = lawful.count;
  zones = lawful.zones;
  active = lawful.active;
  open_zones = lawful.open_zones;
  completed = lawful.completed;
  stopped = lawful.stopped;
}

-- what is given on a drive, which is then lawful, is what is foreseen
pub foresees-by : (old new : MemoryDrive) (command : Result Command DecodeFault) (bytes returned : List ℕ) (reply : Reply) → Gives old command bytes reply returned new → IsLawful new.state
    → Foresees old command bytes reply.status
foresees-by old new command bytes returned reply gives lawful = record {
  status_is = sym (ap (λ (o : Outcome). o.status) gives.outcome);
  can = record {
    effect = record {
      middle = chosen old.habit old.state.geometry old.state.zones command bytes;
      before = closes-chosen (wants_open_resource (outcome old.state.geometry old.state.zones command bytes).status && makes_room old.habit) old.state.zones;
      status_is = refl;
      value_is = refl;
      returned_is = refl;
      after = IsClosing-refl (performed old.habit old.state.geometry old.state.zones command bytes).zones;
    };
    lawful = rw (ap (λ (o : Outcome). o.zones) gives.outcome)
        (lawful-durable (record old.state { zones = new.state.zones }) new.state.durable (subst (λ (d : DriveState). IsLawful d) (ap (λ (d : MemoryDrive). d.state) gives.others) lawful));
  };
}

-- ---- the drives that could be left

storable : (geometry : Geometry) → IsInRange geometry → IsStorable geometry
storable geometry in_range = record {
  block = elim in_range.block [ inl small ↦ omega (arith, small) | inr large ↦ omega (arith, large) ];
  zones = omega (arith, in_range.zones.1);
  size = omega (arith, in_range.size.1);
  capacity = omega (arith, in_range.capacity.1, in_range.size.1);
  transfer = omega (arith, in_range.transfer.1);
  active = omega (arith, in_range.active.1);
  open_zones = omega (arith, in_range.open_zones.1, in_range.active.1);
}

or-true : (a b : Bool) → b ≡ true → (a || b) ≡ true
or-true true b e = refl
or-true false b e = e

-- a drive whose zones are stored so
module _ (geometry : Geometry) (zones : List StoredZone) (durable : List (List Zone)) (completed refused appended : ℕ) (habit : Habit) (halted failed : Bool) (in_range : IsInRange geometry) (are : AreZones geometry zones) (most : completed ≤ 2 ^ 63) where
  -- the drive with these zones, counts and habit
  abbrev pub drive : MemoryDrive
  drive = record {
    state = record { geometry = geometry; zones = zones_of geometry.block zones; durable = durable; completed = completed; refused = refused; appended = appended; stopped = halted || nat_le (2 ^ 63) completed; clean = true; unfailing = not failed };
    habit = habit;
  }

  lawful-with : (stored : List StoredZone) (shown : List Zone) → AreZones geometry stored → zones_of geometry.block stored ≡ shown → IsLawful (with_zones drive shown).state
  lawful-with stored shown fits same = rw (← same) (record {
    geometry = storable geometry in_range;
    count = length-map stored (zone_stored geometry.block) ∙ fits.count;
    zones = fits.lawful;
    active = fits.active;
    open_zones = fits.open_zones;
    completed = most;
    stopped = λ e. or-true halted (nat_le (2 ^ 63) completed) (le-leb (2 ^ 63) completed (omega (arith, e)));
  })

  -- a drive whose zones are stored so is lawful
  lawful-drive : IsLawful drive.state
  lawful-drive = lawful-with zones (zones_of geometry.block zones) are refl

  -- and so is a drive that equals it
  pub lawful-now : (now : MemoryDrive) → drive ≡ now → IsLawful now.state
  lawful-now now same = subst (λ (d : MemoryDrive). IsLawful d.state) same lawful-drive

  -- bytes that pass a zone's checks could be written there, or refused where a resource is missing
  pub could-write : (number : ℕ) (bytes : List ℕ) (found : Result (Option ℕ) Status) → number < geometry.zones
      → None ≡ first_failing (append_bytes_checks geometry (zone_at (zones_of geometry.block zones) number) bytes)
      → RoomGives habit geometry (zones_of geometry.block zones) (zone_at (zones_of geometry.block zones) number) found → CouldWrite drive number bytes (result_err found)
  could-write number bytes (Err status) below checks gives = (drive, (gives, refl), lawful-drive)
  could-write number bytes (Ok closing) below checks gives =
      let leaves = leaves-written habit geometry zones number bytes closing in_range are below checks gives in
      (with_zones drive (write_effect geometry (with_room (zones_of geometry.block zones) closing) number (length bytes / geometry.block) bytes), (closing, gives, refl), lawful-with _ _ leaves.are leaves.in_blocks)

  -- a zone could be opened, or the Open refused where a resource is missing
  pub could-open : (number : ℕ) (found : Result (Option ℕ) Status) → number < geometry.zones
      → RoomGives habit geometry (zones_of geometry.block zones) (zone_at (zones_of geometry.block zones) number) found → CouldOpen drive number (result_err found)
  could-open number (Err status) below gives = (drive, (gives, refl), lawful-drive)
  could-open number (Ok closing) below gives =
      let leaves = leaves-opened habit geometry zones number closing in_range are below gives in
      (with_zones drive (sent_to (with_room (zones_of geometry.block zones) closing) number Open), (closing, gives, refl), lawful-with _ _ leaves.are leaves.in_blocks)

  -- an action that is no Open
  pub could-send : (number : ℕ) (action : Action) → action ≢ Open → number < geometry.zones → IsLawful (with_zones drive (sent_to (zones_of geometry.block zones) number action)).state
  could-send number action other below =
      let leaves = leaves-sent geometry zones number action other in_range are below in
      lawful-with _ _ leaves.are leaves.in_blocks

  -- an action that is sent to all zones gives a lawful drive
  pub could-send-all : (action : Action) → IsLawful (with_zones drive (map (sent_zone action) (zones_of geometry.block zones))).state
  could-send-all action = lawful-with (map (sent_stored action) zones) _ (are-all geometry zones action in_range are) (zones_of-sent geometry.block action zones)

-- ---- the commands

-- how an Append ends that passes its first checks
pub append-foreseen : (old : MemoryDrive) (zslba blocks : ℕ) (bytes : List ℕ) (refusal : Option Status)
    → None ≡ first_failing (append_first old.state.geometry (zone_at old.state.zones (zslba / old.state.geometry.size)) zslba blocks bytes)
    → length bytes / old.state.geometry.block ≡ blocks → open_count old.state.zones ≤ old.state.geometry.open → CouldWrite old (zslba / old.state.geometry.size) bytes refusal
    → Foresees old (Ok (Append zslba blocks)) bytes (unwrap_or refusal Success)
append-foreseen old zslba blocks bytes (Some status) passed count most could =
    foresees-by old could.0 (Ok (Append zslba blocks)) bytes [] _ (append-ended old could.0 zslba blocks bytes (Some status) passed count most could.1) could.2
append-foreseen old zslba blocks bytes None passed count most could =
    foresees-by old could.0 (Ok (Append zslba blocks)) bytes [] _ (append-ended old could.0 zslba blocks bytes None passed count most could.1) could.2

-- how a Write does
pub write-foreseen : (old : MemoryDrive) (slba blocks : ℕ) (bytes : List ℕ) (refusal : Option Status)
    → None ≡ first_failing (write_first old.state.geometry (zone_at old.state.zones (slba / old.state.geometry.size)) slba blocks bytes)
    → length bytes / old.state.geometry.block ≡ blocks → open_count old.state.zones ≤ old.state.geometry.open → CouldWrite old (slba / old.state.geometry.size) bytes refusal
    → Foresees old (Ok (Write slba blocks)) bytes (unwrap_or refusal Success)
write-foreseen old slba blocks bytes (Some status) passed count most could =
    foresees-by old could.0 (Ok (Write slba blocks)) bytes [] _ (write-ended old could.0 slba blocks bytes (Some status) passed count most could.1) could.2
write-foreseen old slba blocks bytes None passed count most could =
    foresees-by old could.0 (Ok (Write slba blocks)) bytes [] _ (write-ended old could.0 slba blocks bytes None passed count most could.1) could.2

-- how an Open does
pub open-foreseen : (old : MemoryDrive) (slba : ℕ) (bytes : List ℕ) (refusal : Option Status)
    → None ≡ first_failing (send_first old.state.geometry (zone_at old.state.zones (slba / old.state.geometry.size)) slba Open)
    → open_count old.state.zones ≤ old.state.geometry.open → CouldOpen old (slba / old.state.geometry.size) refusal
    → Foresees old (Ok (Send slba Open false)) bytes (unwrap_or refusal Success)
open-foreseen old slba bytes (Some status) passed most could =
    foresees-by old could.0 (Ok (Send slba Open false)) bytes [] _ (open-ended old could.0 slba bytes (Some status) passed most could.1) could.2
open-foreseen old slba bytes None passed most could =
    foresees-by old could.0 (Ok (Send slba Open false)) bytes [] _ (open-ended old could.0 slba bytes None passed most could.1) could.2

-- ---- commands that change nothing

-- a Read that passes its checks succeeds
pub read-foreseen : (old : MemoryDrive) (slba blocks : ℕ) (bytes : List ℕ)
    → None ≡ first_failing (read_checks old.state.geometry (zone_at old.state.zones (slba / old.state.geometry.size)) slba blocks) → IsLawful old.state
    → Foresees old (Ok (Read slba blocks)) bytes Success
read-foreseen old slba blocks bytes passed lawful =
    foresees-by old old (Ok (Read slba blocks)) bytes _ _
    (read-done old slba blocks bytes (bytes_from old.state.geometry.block (zone_at old.state.zones (slba / old.state.geometry.size)).blocks (slba % old.state.geometry.size) blocks) passed refl) lawful

-- and so does a report from a zone that is there
pub receive-foreseen : (old : MemoryDrive) (slba dwords : ℕ) (options : ReportingOptions) (partial : Bool) (bytes : List ℕ) → slba < end_of old.state.geometry → IsLawful old.state
    → Foresees old (Ok (Receive slba dwords options partial)) bytes Success
receive-foreseen old slba dwords options partial bytes below lawful =
    foresees-by old old (Ok (Receive slba dwords options partial)) bytes _ _
    (receive-reported old slba dwords options partial bytes (report old.state.geometry old.state.zones slba options partial dwords) below refl) lawful
