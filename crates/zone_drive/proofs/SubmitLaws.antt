-- A command that this drive does is a step of a device.
use Rattle.std.proofs.Common.{◌≡◌, ℕ, ◌+◌, ◌<◌, ◌^◌, Bool, true, false, cond, not, ◌&&◌, List, [], ◌∷◌, refl, sym, ap, ◌∙◌, inl, inr, Result}
use Rattle.nvme_wire.specs.Entry.{decode_of, id_of}
use Rattle.nvme_wire.specs.Completion.{completion_bytes}
use Rattle.nvme_wire.specs.declared.command.Command.{Command}
use Rattle.nvme_wire.specs.declared.command.DecodeFault.{DecodeFault}
use Rattle.nvme_wire.specs.declared.zone_state.ZoneState.{ZoneState}
use Rattle.nvme_wire.specs.declared.zone_state.ZoneState.TheVariants.{Empty, ImplicitlyOpened, ExplicitlyOpened, Closed, ReadOnly, Full, Offline}
use Rattle.zone_states.specs.Transition.{is_state}
use Rattle.zone_states.specs.Zone.{Zone}
use Rattle.drive_port.specs.declared.device.Halt.{Halt}
use Rattle.drive_port.specs.declared.device.Halt.TheVariants.{Memory, Failed, Stopped}
use Rattle.drive_port.specs.Drive.{ClosesOne, DriveState, IsClosing}
use Rattle.drive_port.specs.Durable.{MayHarden}
use Rattle.drive_port.specs.Halting.{Halts}
use Rattle.drive_port.specs.Step.{Completes, Outcome, is_append, is_success, one_if, outcome}
use Rattle.drive_port.proofs.ClosingLaws.{IsClosing-refl}
use Rattle.zone_drive.specs.declared.reply.Reply.{Reply}
use Rattle.zone_drive.specs.declared.habit.Habit.{Habit}
use Rattle.zone_drive.specs.declared.habit.Habit.TheVariants as habits
use Rattle.zone_drive.specs.Choice.{Gives, Keeps, chosen, close_lowest, wants_open_resource}
use Rattle.zone_drive.specs.Counts.{counted}
use Rattle.zone_drive.specs.Habits.{MemoryDrive, close_implicit, closed_zone, makes_room, settled, with_zones}
use Rattle.zone_drive.proofs.DurableLaws.{hardens-settled, may_harden-as}

-- ---- the choice is a closing

closes-one : (zone : Zone) → is_state ImplicitlyOpened zone.state ≡ true → ClosesOne zone (closed_zone zone)
closes-one zone opened = record { blocks = refl; state = inr (implicit zone.state opened, refl) }
  where
    implicit : (state : ZoneState) → is_state ImplicitlyOpened state ≡ true → state ≡ ImplicitlyOpened
    implicit ImplicitlyOpened e = refl
    implicit Empty e = absurd (cc e)
    implicit ExplicitlyOpened e = absurd (cc e)
    implicit Closed e = absurd (cc e)
    implicit ReadOnly e = absurd (cc e)
    implicit Full e = absurd (cc e)
    implicit Offline e = absurd (cc e)

closes-lowest : (zones : List Zone) → IsClosing zones (close_lowest zones)
closes-lowest [] = tt
closes-lowest (zone ∷ zones) = either (is_state ImplicitlyOpened zone.state) refl (closes-lowest zones)
  where
    either : (implicit : Bool) → is_state ImplicitlyOpened zone.state ≡ implicit → IsClosing zones (close_lowest zones) → IsClosing (zone ∷ zones) (cond implicit (closed_zone zone ∷ zones) (zone ∷ close_lowest zones))
    either true e rest = (closes-one zone e, IsClosing-refl zones)
    either false e rest = (record { blocks = refl; state = inl refl }, rest)

-- what the drive closes by itself is a closing
pub closes-chosen : (wants : Bool) (zones : List Zone) → IsClosing zones (cond wants (close_lowest zones) zones)
closes-chosen true zones = closes-lowest zones
closes-chosen false zones = IsClosing-refl zones

closes-implicit : (zones : List Zone) → IsClosing zones (close_implicit zones)
closes-implicit [] = tt
closes-implicit (zone ∷ zones) = (either (is_state ImplicitlyOpened zone.state) refl, closes-implicit zones)
  where
    either : (implicit : Bool) → is_state ImplicitlyOpened zone.state ≡ implicit → ClosesOne zone (cond implicit (closed_zone zone) zone)
    either true e = closes-one zone e
    either false e = record { blocks = refl; state = inl refl }

closes-settled : (habit : Habit) (zones : List Zone) → IsClosing zones (settled habit zones)
closes-settled habits.Lazy zones = IsClosing-refl zones
closes-settled habits.Closing zones = closes-implicit zones
closes-settled habits.Strict zones = IsClosing-refl zones

-- ---- the step

-- a submit is a step of the drive, and its completion
pub completes : (old middle closing new : MemoryDrive) (entry bytes returned completion : List ℕ) (reply : Reply) → Gives old (decode_of entry) bytes reply returned middle
    → closing ≡ with_zones middle (settled middle.habit middle.state.zones) → new ≡ record closing { state = counted closing.state (decode_of entry) reply.status } → completion ≡ completion_bytes (record { result = reply.value; id = id_of entry; status = reply.status })
    → reply.value < 2 ^ 64 → Completes old.state entry bytes completion returned new.state
completes old middle closing new entry bytes returned completion reply gives settles counts encoded fits =
    let command = decode_of entry in
    let geometry = old.state.geometry in
    let zones = old.state.zones in
    let others = ap (λ (d : MemoryDrive). d.state) gives.others in
    let ends : new.state ≡ counted (record middle.state { zones = settled middle.habit middle.state.zones }) command reply.status = ap (λ (d : MemoryDrive). d.state) counts ∙ ap (λ (d : MemoryDrive). counted d.state command reply.status) settles in
    record {
      status = reply.status;
      value = reply.value;
      fits = fits;
      encoded = encoded;
      performs = record {
        held = returned;
        told = λ clean. refl;
        length_is = refl;
        trusted = λ clean. rw (ap (λ (d : DriveState). d.clean) others) at (rw (ap (λ (d : DriveState). d.clean) ends) at clean);
        fair = λ clean same. rw (ap (λ (d : DriveState). d.clean) ends, ap (λ (d : DriveState). d.clean) others) clean;
        unfailing = ap (λ (d : DriveState). d.unfailing) ends ∙ ap (λ (d : DriveState). d.unfailing) others;
        effect = record {
          middle = chosen old.habit geometry zones command bytes;
          before = closes-chosen (wants_open_resource (outcome geometry zones command bytes).status && makes_room old.habit) zones;
          status_is = sym (ap (λ (o : Outcome). o.status) gives.outcome);
          value_is = sym (ap (λ (o : Outcome). o.value) gives.outcome);
          returned_is = sym (ap (λ (o : Outcome). o.returned) gives.outcome);
          after = rw (gives.outcome, ends) (closes-settled middle.habit middle.state.zones);
        };
        geometry = ap (λ (d : DriveState). d.geometry) ends ∙ ap (λ (d : DriveState). d.geometry) others;
        completed = ap (λ (d : DriveState). d.completed) ends ∙ ap (λ (d : DriveState). d.completed + 1) others;
        refused = ap (λ (d : DriveState). d.refused) ends ∙ ap (λ (d : DriveState). d.refused + one_if (not (is_success reply.status))) others;
        appended = ap (λ (d : DriveState). d.appended) ends ∙ ap (λ (d : DriveState). d.appended + one_if (is_append command && is_success reply.status)) others;
        hardens = hardens-settled command middle.habit old.state middle.state new.state (ap (λ (d : DriveState). d.durable) ends) (ap (λ (d : DriveState). d.zones) ends) gives.hardens;
      };
    }

-- ---- a halt

-- The device is out of memory, and nothing changed; or it failed at a read, and nothing else changed; or what holds its
-- zones has stopped. Then nothing else changed, but what a Flush may have made durable.
pub halts-noted : (old new : DriveState) (command : Result Command DecodeFault) (bytes : List ℕ) (halt : Halt) → old.stopped ≡ false → (halt ≡ Failed → new ≡ record old { unfailing = false })
    → (halt ≡ Memory → new ≡ old) → (halt ≡ Stopped → new ≡ record old { stopped = true; durable = new.durable }) → (halt ≡ Stopped → MayHarden command old new)
    → Halts old command bytes halt new
halts-noted old new command bytes Memory going fails same stops hardens = (going, same refl)
halts-noted old new command bytes Failed going fails same stops hardens =
    let is = fails refl in
    let zones = ap (λ (d : DriveState). d.zones) is in
    record {
      running = going;
      closing = rw zones (IsClosing-refl old.zones);
      others = is ∙ ap (λ (held : List Zone). record old { zones = held; unfailing = false }) (sym zones);
    }
halts-noted old new command bytes Stopped going fails same stops hardens =
    let is = stops refl in
    record {
      already = λ (e : old.stopped ≡ true). absurd (cc (sym going ∙ e));
      stopped = ap (λ (d : DriveState). d.stopped) is;
      geometry = ap (λ (d : DriveState). d.geometry) is;
      trusted = λ clean. rw (ap (λ (d : DriveState). d.clean) is) at clean;
      fair = λ clean. rw (ap (λ (d : DriveState). d.clean) is) clean;
      unfailing = ap (λ (d : DriveState). d.unfailing) is;
      counts = record {
        completed = ap (λ (d : DriveState). d.completed) is;
        refused = ap (λ (d : DriveState). d.refused) is;
        appended = ap (λ (d : DriveState). d.appended) is;
      };
      left = inl (rw (ap (λ (d : DriveState). d.zones) is) (IsClosing-refl old.zones));
      hardens = hardens refl;
    }

-- what the stop leaves of a drive that was kept
pub noted-stop : (old middle : MemoryDrive) (new : DriveState) (command : Result Command DecodeFault) → Keeps old command middle → new ≡ record middle.state { stopped = true }
    → new ≡ record old.state { stopped = true; durable = new.durable }
noted-stop old middle new command keeps is =
    is ∙ ap (λ (d : MemoryDrive). record d.state { stopped = true }) keeps.others
    ∙ ap (λ (durable : List (List Zone)). record old.state { stopped = true; durable = durable }) (sym (ap (λ (d : DriveState). d.durable) is))

pub noted-hardens : (old middle : MemoryDrive) (new : DriveState) (command : Result Command DecodeFault) → Keeps old command middle → new ≡ record middle.state { stopped = true }
    → MayHarden command old.state new
noted-hardens old middle new command keeps is =
    may_harden-as command old.state middle.state new (ap (λ (d : DriveState). d.durable) is) (ap (λ (d : DriveState). d.zones) is) keeps.hardens
