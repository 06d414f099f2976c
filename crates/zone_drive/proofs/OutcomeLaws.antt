-- What a command gives, by its checks and its effect.
use Rattle.std.proofs.Common.{◌≡◌, ◌≢◌, ℕ, false, true, map, ◌+◌, ◌/◌, ◌%◌, ◌≤◌, List, [], length, Option, Some, None, Result, Ok, Err, refl, sym, ap, ◌∙◌}
use Rattle.nvme_wire.specs.declared.command.Command.{Command}
use Rattle.nvme_wire.specs.declared.command.DecodeFault.{DecodeFault}
use Rattle.nvme_wire.specs.declared.command.Command.TheVariants.{Append, Flush, Read, Send, Write}
use Rattle.nvme_wire.specs.declared.command.DecodeFault.TheVariants as faults
use Rattle.nvme_wire.specs.declared.command.Action.{Action}
use Rattle.nvme_wire.specs.declared.command.Action.TheVariants.{Close, Finish, Open, Reset, Offline}
use Rattle.nvme_wire.specs.declared.status.Status.{Status}
use Rattle.nvme_wire.specs.declared.status.Status.TheVariants.{Success}
use Rattle.zone_states.specs.declared.geometry.Geometry.{Geometry}
use Rattle.zone_states.specs.Checks.{first_failing}
use Rattle.zone_states.specs.Zone.{Zone}
use Rattle.drive_port.specs.Drive.{open_count}
use Rattle.drive_port.specs.Durable.{Hardens, IsDurable}
use Rattle.drive_port.specs.Step.{Outcome, bytes_from, decode_status, done, outcome, read_checks, sent_zone, unless_refused, write_effect, zone_at}
use Rattle.zone_drive.specs.declared.habit.Habit.{Habit}
use Rattle.zone_drive.specs.declared.reply.Reply.{Reply}
use Rattle.zone_drive.specs.Choice.{Gives, RoomGives, performed, wants_open_resource, with_room}
use Rattle.zone_drive.specs.Habits.{MemoryDrive, with_durable, with_zones}
use Rattle.zone_drive.specs.Sending.{Opens, send_first, sent_to}
use Rattle.zone_drive.specs.Writing.{WritesAfter, append_first, write_first}
use Rattle.zone_drive.proofs.OpeningLaws.{AllOther, by_choice, opening, opening-done, opening-no_room, opening-refused, other}
use Rattle.zone_drive.proofs.RoomLaws.{apart, zone_at-closing}

-- the outcome of a Read is the first check that fails, or its blocks
outcome-Read : (geometry : Geometry) (zones : List Zone) (slba blocks : ℕ) (bytes : List ℕ) (refusal : Option Status)
    → refusal ≡ first_failing (read_checks geometry (zone_at zones (slba / geometry.size)) slba blocks)
    → outcome geometry zones (Ok (Read slba blocks)) bytes
    ≡ unless_refused refusal zones (done (bytes_from geometry.block (zone_at zones (slba / geometry.size)).blocks (slba % geometry.size) blocks) zones)
unfolding outcome
outcome-Read geometry zones slba blocks bytes refusal e = rw e refl

-- ---- commands that may open a zone

abbrev append_effect : Geometry → ℕ → ℕ → List ℕ → List Zone → Outcome
append_effect geometry zslba blocks bytes zones =
    let index = zslba / geometry.size in
    record (done [] (write_effect geometry zones index blocks bytes)) { value = zslba + length (zone_at zones index).blocks }

performed-Append : (habit : Habit) (geometry : Geometry) (zones : List Zone) (zslba blocks : ℕ) (bytes : List ℕ)
    → performed habit geometry zones (Ok (Append zslba blocks)) bytes
    ≡ by_choice habit (opening geometry (λ zone. append_first geometry zone zslba blocks bytes) (append_effect geometry zslba blocks bytes) (zslba / geometry.size)) zones
unfolding outcome
performed-Append habit geometry zones zslba blocks bytes = refl

abbrev write_done : Geometry → ℕ → ℕ → List ℕ → List Zone → Outcome
write_done geometry slba blocks bytes zones = done [] (write_effect geometry zones (slba / geometry.size) blocks bytes)

performed-Write : (habit : Habit) (geometry : Geometry) (zones : List Zone) (slba blocks : ℕ) (bytes : List ℕ)
    → performed habit geometry zones (Ok (Write slba blocks)) bytes
    ≡ by_choice habit (opening geometry (λ zone. write_first geometry zone slba blocks bytes) (write_done geometry slba blocks bytes) (slba / geometry.size)) zones
unfolding outcome
performed-Write habit geometry zones slba blocks bytes = refl

AllOther-append : (geometry : Geometry) (zone : Zone) (zslba blocks : ℕ) (bytes : List ℕ) → AllOther (append_first geometry zone zslba blocks bytes)
AllOther-append geometry zone zslba blocks bytes = (refl, (refl, (refl, (refl, (refl, (refl, (refl, (refl, tt))))))))

AllOther-write : (geometry : Geometry) (zone : Zone) (slba blocks : ℕ) (bytes : List ℕ) → AllOther (write_first geometry zone slba blocks bytes)
AllOther-write geometry zone slba blocks bytes = (refl, (refl, (refl, (refl, (refl, (refl, (refl, (refl, tt))))))))

-- a command that is refused, and leaves the drive
pub gives-same : (old : MemoryDrive) (command : Result Command DecodeFault) (bytes : List ℕ) (status : Status) → Hardens command old.state old.state
    → performed old.habit old.state.geometry old.state.zones command bytes ≡ record { status = status; value = 0; returned = []; zones = old.state.zones } → Gives old command bytes (record { status = status; value = 0 }) [] old
gives-same old command bytes status hardens is = record { outcome = is; hardens = hardens; others = refl }

-- an Append that fails one of its first checks
pub append-refused : (old : MemoryDrive) (zslba blocks : ℕ) (bytes : List ℕ) (status : Status)
    → Some status ≡ first_failing (append_first old.state.geometry (zone_at old.state.zones (zslba / old.state.geometry.size)) zslba blocks bytes)
    → Gives old (Ok (Append zslba blocks)) bytes (record { status = status; value = 0 }) [] old
append-refused old zslba blocks bytes status e =
    let index = zslba / old.state.geometry.size in
    let first = λ (zone : Zone). append_first old.state.geometry zone zslba blocks bytes in
    gives-same old (Ok (Append zslba blocks)) bytes status refl
    (performed-Append old.habit old.state.geometry old.state.zones zslba blocks bytes
    ∙ opening-refused old.habit old.state.geometry first (append_effect old.state.geometry zslba blocks bytes) index old.state.zones status (AllOther-append old.state.geometry (zone_at old.state.zones index) zslba blocks bytes) e)

-- the zone itself is not closed to make room for it
zone-with_room : (habit : Habit) (geometry : Geometry) (zones : List Zone) (index : ℕ) (closing : Option ℕ) → RoomGives habit geometry zones (zone_at zones index) (Ok closing) → zone_at (with_room zones closing) index ≡ zone_at zones index
zone-with_room habit geometry zones index None needs = refl
zone-with_room habit geometry zones index (Some low) (needs, makes, lowest) = zone_at-closing zones index low (apart geometry zones index low needs lowest) lowest

-- how a command ended whose resources refused it, or didn't
abbrev pub ended : Option Status → ℕ → Reply
ended (Some status) value = record { status = status; value = 0 }
ended None value = record { status = Success; value = value }

-- one that passes them
pub append-ended : (old new : MemoryDrive) (zslba blocks : ℕ) (bytes : List ℕ) (refusal : Option Status)
    → None ≡ first_failing (append_first old.state.geometry (zone_at old.state.zones (zslba / old.state.geometry.size)) zslba blocks bytes)
    → length bytes / old.state.geometry.block ≡ blocks → open_count old.state.zones ≤ old.state.geometry.open → WritesAfter old (zslba / old.state.geometry.size) bytes refusal new
    → Gives old (Ok (Append zslba blocks)) bytes (ended refusal (zslba + length (zone_at old.state.zones (zslba / old.state.geometry.size)).blocks)) [] new
append-ended old new zslba blocks bytes (Some status) passed count most (needs, same) =
    let index = zslba / old.state.geometry.size in
    let first = λ (zone : Zone). append_first old.state.geometry zone zslba blocks bytes in
    rw same (gives-same old (Ok (Append zslba blocks)) bytes status refl
    (performed-Append old.habit old.state.geometry old.state.zones zslba blocks bytes
    ∙ opening-no_room old.habit old.state.geometry first (append_effect old.state.geometry zslba blocks bytes) index old.state.zones status passed needs))
append-ended old new zslba blocks bytes None passed count most (closing, needs, changed) =
    let index = zslba / old.state.geometry.size in
    let first = λ (zone : Zone). append_first old.state.geometry zone zslba blocks bytes in
    rw changed (record {
      outcome = performed-Append old.habit old.state.geometry old.state.zones zslba blocks bytes
          ∙ opening-done old.habit old.state.geometry first (append_effect old.state.geometry zslba blocks bytes) index old.state.zones closing (λ middle. refl) most passed needs
          ∙ rw (zone-with_room old.habit old.state.geometry old.state.zones index closing needs, count) refl;
      hardens = refl;
      others = refl;
    })

-- a Write that fails one of its first checks
pub write-refused : (old : MemoryDrive) (slba blocks : ℕ) (bytes : List ℕ) (status : Status)
    → Some status ≡ first_failing (write_first old.state.geometry (zone_at old.state.zones (slba / old.state.geometry.size)) slba blocks bytes)
    → Gives old (Ok (Write slba blocks)) bytes (record { status = status; value = 0 }) [] old
write-refused old slba blocks bytes status e =
    let index = slba / old.state.geometry.size in
    let first = λ (zone : Zone). write_first old.state.geometry zone slba blocks bytes in
    gives-same old (Ok (Write slba blocks)) bytes status refl
    (performed-Write old.habit old.state.geometry old.state.zones slba blocks bytes
    ∙ opening-refused old.habit old.state.geometry first (write_done old.state.geometry slba blocks bytes) index old.state.zones status (AllOther-write old.state.geometry (zone_at old.state.zones index) slba blocks bytes) e)

-- one that passes them
pub write-ended : (old new : MemoryDrive) (slba blocks : ℕ) (bytes : List ℕ) (refusal : Option Status)
    → None ≡ first_failing (write_first old.state.geometry (zone_at old.state.zones (slba / old.state.geometry.size)) slba blocks bytes)
    → length bytes / old.state.geometry.block ≡ blocks → open_count old.state.zones ≤ old.state.geometry.open → WritesAfter old (slba / old.state.geometry.size) bytes refusal new
    → Gives old (Ok (Write slba blocks)) bytes (ended refusal 0) [] new
write-ended old new slba blocks bytes (Some status) passed count most (needs, same) =
    let index = slba / old.state.geometry.size in
    let first = λ (zone : Zone). write_first old.state.geometry zone slba blocks bytes in
    rw same (gives-same old (Ok (Write slba blocks)) bytes status refl
    (performed-Write old.habit old.state.geometry old.state.zones slba blocks bytes
    ∙ opening-no_room old.habit old.state.geometry first (write_done old.state.geometry slba blocks bytes) index old.state.zones status passed needs))
write-ended old new slba blocks bytes None passed count most (closing, needs, changed) =
    let index = slba / old.state.geometry.size in
    let first = λ (zone : Zone). write_first old.state.geometry zone slba blocks bytes in
    rw changed (record {
      outcome = performed-Write old.habit old.state.geometry old.state.zones slba blocks bytes
          ∙ opening-done old.habit old.state.geometry first (write_done old.state.geometry slba blocks bytes) index old.state.zones closing (λ middle. refl) most passed needs
          ∙ rw count refl;
      hardens = refl;
      others = refl;
    })

-- ---- an action on one zone

-- a command that wants no open resource has the same outcome whatever the habit
pub performed-plain : (habit : Habit) (geometry : Geometry) (zones : List Zone) (command : Result Command DecodeFault) (bytes : List ℕ) (given : Outcome)
    → outcome geometry zones command bytes ≡ given → wants_open_resource given.status ≡ false → performed habit geometry zones command bytes ≡ given
performed-plain habit geometry zones command bytes given is none = rw (is, none) is

outcome-Send : (geometry : Geometry) (zones : List Zone) (slba : ℕ) (action : Action) (bytes : List ℕ) → action ≢ Open
    → outcome geometry zones (Ok (Send slba action false)) bytes
    ≡ unless_refused (first_failing (send_first geometry (zone_at zones (slba / geometry.size)) slba action)) zones (done [] (sent_to zones (slba / geometry.size) action))
unfolding outcome
outcome-Send geometry zones slba Open bytes other = absurd (other refl)
outcome-Send geometry zones slba Close bytes other = refl
outcome-Send geometry zones slba Finish bytes other = refl
outcome-Send geometry zones slba Reset bytes other = refl
outcome-Send geometry zones slba Offline bytes other = refl

performed-Open : (habit : Habit) (geometry : Geometry) (zones : List Zone) (slba : ℕ) (bytes : List ℕ)
    → performed habit geometry zones (Ok (Send slba Open false)) bytes
    ≡ by_choice habit (opening geometry (λ zone. send_first geometry zone slba Open) (λ middle. done [] (sent_to middle (slba / geometry.size) Open)) (slba / geometry.size)) zones
unfolding outcome
performed-Open habit geometry zones slba bytes = refl

-- none of the first checks of an action has the status of the open resources
send-other : (geometry : Geometry) (zone : Zone) (slba : ℕ) (action : Action) → AllOther (send_first geometry zone slba action)
send-other geometry zone slba action = (refl, (refl, (refl, tt)))

refused-other : (old : MemoryDrive) (slba : ℕ) (action : Action) (bytes : List ℕ) (status : Status) → action ≢ Open
    → Some status ≡ first_failing (send_first old.state.geometry (zone_at old.state.zones (slba / old.state.geometry.size)) slba action)
    → Gives old (Ok (Send slba action false)) bytes (record { status = status; value = 0 }) [] old
refused-other old slba action bytes status apart e =
    let checks = send_first old.state.geometry (zone_at old.state.zones (slba / old.state.geometry.size)) slba action in
    let is : outcome old.state.geometry old.state.zones (Ok (Send slba action false)) bytes ≡ unless_refused (Some status) old.state.zones (done [] old.state.zones) = outcome-Send old.state.geometry old.state.zones slba action bytes apart ∙ rw (← e) refl in
    gives-same old (Ok (Send slba action false)) bytes status refl
    (performed-plain old.habit old.state.geometry old.state.zones (Ok (Send slba action false)) bytes _ is (other checks status (send-other old.state.geometry (zone_at old.state.zones (slba / old.state.geometry.size)) slba action) e))

-- an action that fails one of its first checks
pub send-refused : (old : MemoryDrive) (slba : ℕ) (action : Action) (bytes : List ℕ) (status : Status)
    → Some status ≡ first_failing (send_first old.state.geometry (zone_at old.state.zones (slba / old.state.geometry.size)) slba action)
    → Gives old (Ok (Send slba action false)) bytes (record { status = status; value = 0 }) [] old
send-refused old slba Open bytes status e =
    let index = slba / old.state.geometry.size in
    gives-same old (Ok (Send slba Open false)) bytes status refl
    (performed-Open old.habit old.state.geometry old.state.zones slba bytes
    ∙ opening-refused old.habit old.state.geometry (λ zone. send_first old.state.geometry zone slba Open) (λ middle. done [] (sent_to middle index Open)) index old.state.zones status (send-other old.state.geometry (zone_at old.state.zones index) slba Open) e)
send-refused old slba Close bytes status e = refused-other old slba Close bytes status (λ (same : Close ≡ Open). cc same) e
send-refused old slba Finish bytes status e = refused-other old slba Finish bytes status (λ (same : Finish ≡ Open). cc same) e
send-refused old slba Reset bytes status e = refused-other old slba Reset bytes status (λ (same : Reset ≡ Open). cc same) e
send-refused old slba Offline bytes status e = refused-other old slba Offline bytes status (λ (same : Offline ≡ Open). cc same) e

-- an Open that passes them
pub open-ended : (old new : MemoryDrive) (slba : ℕ) (bytes : List ℕ) (refusal : Option Status)
    → None ≡ first_failing (send_first old.state.geometry (zone_at old.state.zones (slba / old.state.geometry.size)) slba Open)
    → open_count old.state.zones ≤ old.state.geometry.open → Opens old (slba / old.state.geometry.size) refusal new
    → Gives old (Ok (Send slba Open false)) bytes (ended refusal 0) [] new
open-ended old new slba bytes (Some status) passed most (needs, same) =
    let index = slba / old.state.geometry.size in
    rw same (gives-same old (Ok (Send slba Open false)) bytes status refl
    (performed-Open old.habit old.state.geometry old.state.zones slba bytes
    ∙ opening-no_room old.habit old.state.geometry (λ zone. send_first old.state.geometry zone slba Open) (λ middle. done [] (sent_to middle index Open)) index old.state.zones status passed needs))
open-ended old new slba bytes None passed most (closing, needs, changed) =
    let index = slba / old.state.geometry.size in
    rw changed (record {
      outcome = performed-Open old.habit old.state.geometry old.state.zones slba bytes
          ∙ opening-done old.habit old.state.geometry (λ zone. send_first old.state.geometry zone slba Open) (λ middle. done [] (sent_to middle index Open)) index old.state.zones closing (λ middle. refl) most passed needs;
      hardens = refl;
      others = refl;
    })

-- another action that passes them
pub send-done : (old new : MemoryDrive) (slba : ℕ) (action : Action) (bytes : List ℕ) → action ≢ Open
    → None ≡ first_failing (send_first old.state.geometry (zone_at old.state.zones (slba / old.state.geometry.size)) slba action)
    → new ≡ with_zones old (sent_to old.state.zones (slba / old.state.geometry.size) action)
    → Gives old (Ok (Send slba action false)) bytes (record { status = Success; value = 0 }) [] new
send-done old new slba action bytes apart passed changed =
    let is : outcome old.state.geometry old.state.zones (Ok (Send slba action false)) bytes ≡ done [] (sent_to old.state.zones (slba / old.state.geometry.size) action) = outcome-Send old.state.geometry old.state.zones slba action bytes apart ∙ rw (← passed) refl in
    rw changed (record { outcome = performed-plain old.habit old.state.geometry old.state.zones (Ok (Send slba action false)) bytes _ is refl; hardens = refl; others = refl })

-- ---- a Read

read-other : (geometry : Geometry) (zone : Zone) (slba blocks : ℕ) → AllOther (read_checks geometry zone slba blocks)
read-other geometry zone slba blocks = (refl, (refl, (refl, (refl, tt))))

-- a Read that is refused
pub read-refused : (old : MemoryDrive) (slba blocks : ℕ) (bytes : List ℕ) (status : Status)
    → Some status ≡ first_failing (read_checks old.state.geometry (zone_at old.state.zones (slba / old.state.geometry.size)) slba blocks)
    → Gives old (Ok (Read slba blocks)) bytes (record { status = status; value = 0 }) [] old
read-refused old slba blocks bytes status e =
    let zone = zone_at old.state.zones (slba / old.state.geometry.size) in
    let is = outcome-Read old.state.geometry old.state.zones slba blocks bytes (Some status) e in
    gives-same old (Ok (Read slba blocks)) bytes status refl
    (performed-plain old.habit old.state.geometry old.state.zones (Ok (Read slba blocks)) bytes _ is (other (read_checks old.state.geometry zone slba blocks) status (read-other old.state.geometry zone slba blocks) e))

-- a Read that is done returns what the blocks hold
pub read-done : (old : MemoryDrive) (slba blocks : ℕ) (bytes returned : List ℕ)
    → None ≡ first_failing (read_checks old.state.geometry (zone_at old.state.zones (slba / old.state.geometry.size)) slba blocks)
    → returned ≡ bytes_from old.state.geometry.block (zone_at old.state.zones (slba / old.state.geometry.size)).blocks (slba % old.state.geometry.size) blocks
    → Gives old (Ok (Read slba blocks)) bytes (record { status = Success; value = 0 }) returned old
read-done old slba blocks bytes returned passed shown =
    let is : outcome old.state.geometry old.state.zones (Ok (Read slba blocks)) bytes ≡ done returned old.state.zones = outcome-Read old.state.geometry old.state.zones slba blocks bytes None passed ∙ rw shown refl in
    record { outcome = performed-plain old.habit old.state.geometry old.state.zones (Ok (Read slba blocks)) bytes _ is refl; hardens = refl; others = refl }

-- ---- the other commands

fault-performed : (habit : Habit) (geometry : Geometry) (zones : List Zone) (fault : DecodeFault) (bytes : List ℕ)
    → performed habit geometry zones (Err fault) bytes ≡ record { status = decode_status fault; value = 0; returned = []; zones = zones }
unfolding outcome
fault-performed habit geometry zones faults.Opcode bytes = refl
fault-performed habit geometry zones faults.Namespace bytes = refl
fault-performed habit geometry zones faults.Field bytes = refl

flush-performed : (habit : Habit) (geometry : Geometry) (zones : List Zone) (bytes : List ℕ) → performed habit geometry zones (Ok Flush) bytes ≡ done [] zones
unfolding outcome
flush-performed habit geometry zones bytes = refl

all-performed : (habit : Habit) (geometry : Geometry) (zones : List Zone) (slba : ℕ) (action : Action) (bytes : List ℕ)
    → performed habit geometry zones (Ok (Send slba action true)) bytes ≡ done [] (map (sent_zone action) zones)
unfolding outcome
all-performed habit geometry zones slba action bytes = refl

-- an entry that is no command
pub gives-fault : (old : MemoryDrive) (fault : DecodeFault) (bytes : List ℕ) → Gives old (Err fault) bytes (record { status = decode_status fault; value = 0 }) [] old
gives-fault old fault bytes = record { outcome = fault-performed old.habit old.state.geometry old.state.zones fault bytes; hardens = refl; others = refl }

-- a Flush
pub gives-flush : (old new : MemoryDrive) (bytes : List ℕ) → new ≡ with_durable old new.state.durable → IsDurable new.state
    → Gives old (Ok Flush) bytes (record { status = Success; value = 0 }) [] new
gives-flush old new bytes others durable =
    let same : new.state.zones ≡ old.state.zones = ap (λ (d : MemoryDrive). d.state.zones) others in
    record {
      outcome = flush-performed old.habit old.state.geometry old.state.zones bytes ∙ ap (λ (zones : List Zone). record { status = Success; value = 0; returned = []; zones = zones }) (sym same);
      hardens = durable;
      others = others ∙ ap (λ (zones : List Zone). with_durable (with_zones old zones) new.state.durable) (sym same);
    }

-- an action on all zones
pub gives-all : (old new : MemoryDrive) (slba : ℕ) (action : Action) (bytes : List ℕ) → new ≡ with_zones old (map (sent_zone action) old.state.zones)
    → Gives old (Ok (Send slba action true)) bytes (record { status = Success; value = 0 }) [] new
gives-all old new slba action bytes changed = rw changed (record { outcome = all-performed old.habit old.state.geometry old.state.zones slba action bytes; hardens = refl; others = refl })
