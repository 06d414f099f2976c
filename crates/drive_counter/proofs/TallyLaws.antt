-- What a tally counts, and what it has completed.
use Rattle.std.proofs.Common.{◌≡◌, ℕ, ◌+◌, ◌-◌, ◌<◌, ◌^◌, Bool, true, false, List, Some, None, Result, Ok, Err, Option, refl, ap, ◌∙◌, cond, arith}
use Rattle.std.specs.Prelude.{IfOk, OnErr, nat_eq}
use Rattle.nvme_wire.specs.Completion.{code_in}
use Rattle.nvme_wire.specs.Entry.{decode_of}
use Rattle.nvme_wire.specs.declared.command.Action.{Action}
use Rattle.nvme_wire.specs.declared.command.Action.TheVariants as actions
use Rattle.nvme_wire.specs.declared.command.Command.{Command}
use Rattle.nvme_wire.specs.declared.command.Command.TheVariants.{Flush, Read, Write, Append, Send, Receive}
use Rattle.nvme_wire.specs.declared.command.DecodeFault.{DecodeFault}
use Rattle.batch_log.specs.declared.header.Kind.{Kind}
use Rattle.batch_log.specs.declared.header.Kind.TheVariants.{Host, Move}
use Rattle.drive_port.specs.Drive.{DriveState, IsLawful}
use Rattle.drive_port.proofs.StopLaws.{hardens-by, may_harden-by}
use Rattle.drive_port.specs.Halting.{SubmitGives}
use Rattle.drive_port.specs.declared.device.Halt.{Halt}
use Rattle.drive_port.specs.declared.device.Halt.TheVariants.{Memory, Failed, Stopped}
use Rattle.drive_counter.specs.declared.counts.Counts.{Counts}
use Rattle.drive_counter.specs.Counting.{Counting, commands_of, counting_batch, counting_data, counts_after, kind_said, tallied, with_action, with_command}

-- ---- one command more

-- the tally, by the drive within and its counts
abbrev pub tally_of : DriveState → Counts → Counting
tally_of inner counts = record { inner = inner; counts = counts }

by-action : (counts : Counts) (action : Action) → commands_of counts < 2 ^ 64 - 1 → commands_of (with_action counts action) ≡ commands_of counts + 1
by-action counts actions.Close small = omega arith
by-action counts actions.Finish small = omega arith
by-action counts actions.Open small = omega arith
by-action counts actions.Reset small = omega arith
by-action counts actions.Offline small = omega arith

by-command : (counts : Counts) (command : Result Command DecodeFault) → commands_of counts < 2 ^ 64 - 1 → commands_of (with_command counts command) ≡ commands_of counts + 1
by-command counts (Err fault) small = omega arith
by-command counts (Ok Flush) small = omega arith
by-command counts (Ok (Read slba blocks)) small = omega arith
by-command counts (Ok (Write slba blocks)) small = omega arith
by-command counts (Ok (Append zslba blocks)) small = omega arith
by-command counts (Ok (Send slba action all)) small = by-action counts action small
by-command counts (Ok (Receive slba dwords options partial)) small = omega arith

-- its blocks count no command
by-batch : (counts : Counts) (blocks : ℕ) (kind : Option Kind) → commands_of (counting_batch counts blocks kind) ≡ commands_of counts
by-batch counts blocks None = refl
by-batch counts blocks (Some Host) = refl
by-batch counts blocks (Some Move) = refl

by-data : (counts : Counts) (command : Result Command DecodeFault) (bytes : List ℕ) → commands_of (counting_data counts command bytes) ≡ commands_of counts
by-data counts (Err fault) bytes = refl
by-data counts (Ok Flush) bytes = refl
by-data counts (Ok (Read slba blocks)) bytes = refl
by-data counts (Ok (Write slba blocks)) bytes = refl
by-data counts (Ok (Append zslba blocks)) bytes = by-batch counts blocks (kind_said bytes)
by-data counts (Ok (Send slba action all)) bytes = refl
by-data counts (Ok (Receive slba dwords options partial)) bytes = refl

by-status : (b : Bool) (counted : Counts) (command : Result Command DecodeFault) (bytes : List ℕ) → commands_of (cond b (counting_data counted command bytes) counted) ≡ commands_of counted
by-status true counted command bytes = by-data counted command bytes
by-status false counted command bytes = refl

pub one-more : (counts : Counts) (entry bytes completion : List ℕ) → commands_of counts < 2 ^ 64 - 1 → commands_of (counts_after counts entry bytes completion) ≡ commands_of counts + 1
one-more counts entry bytes completion small =
    by-status (nat_eq (code_in completion) 0) (with_command counts (decode_of entry)) (decode_of entry) bytes ∙ by-command counts (decode_of entry) small

-- ---- a submit

-- what was counted is what the drive within completed
abbrev pub IsInStep : ℕ → DriveState → Counts → Type 0
IsInStep before inner counts = before + commands_of counts ≡ inner.completed

-- the counts after a submit are in step with the drive within
pub still-in-step : (before : ℕ) (old new : DriveState) (counts after : Counts) (entry bytes : List ℕ) (result : Result (List ℕ) Halt) (returned : List ℕ)
    → IsInStep before old counts → IsLawful old → SubmitGives old entry bytes result returned new
    → IfOk result (λ completion. after ≡ counts_after counts entry bytes completion) → OnErr result (after ≡ counts) → IsInStep before new after
still-in-step before old new counts after entry bytes (Ok completion) returned step lawful gives counted halted =
    let small : commands_of counts < 2 ^ 64 - 1 = omega (arith, lawful.completed) in
    let one = ap commands_of counted ∙ one-more counts entry bytes completion small in
    omega (arith, one, gives.1.performs.completed)
still-in-step before old new counts after entry bytes (Err Memory) returned step lawful gives counted halted = rw (halted, gives.1.1) step
still-in-step before old new counts after entry bytes (Err Failed) returned step lawful gives counted halted = rw (halted, ap (λ (d : DriveState). d.completed) gives.1.others) step
still-in-step before old new counts after entry bytes (Err Stopped) returned step lawful gives counted halted = rw halted (omega (arith, gives.1.counts.completed))

-- and the tally gives what the drive within gives
pub tally-gives : (before : ℕ) (old new : DriveState) (counts after : Counts) (entry bytes : List ℕ) (result : Result (List ℕ) Halt) (returned : List ℕ)
    → IsInStep before old counts → IsInStep before new after → OnErr result (after ≡ counts) → SubmitGives old entry bytes result returned new
    → SubmitGives (tallied (tally_of old counts)) entry bytes result returned (tallied (tally_of new after))
tally-gives before old new counts after entry bytes (Ok completion) returned was is halted gives =
    let p = gives.1.performs in (
      gives.0,
      record {
        status = gives.1.status;
        value = gives.1.value;
        fits = gives.1.fits;
        encoded = gives.1.encoded;
        performs = record {
          held = p.held;
          effect = p.effect;
          told = p.told;
          length_is = p.length_is;
          trusted = p.trusted;
          fair = p.fair;
          unfailing = p.unfailing;
          geometry = p.geometry;
          completed = omega (arith, p.completed);
          refused = p.refused;
          appended = p.appended;
          hardens = hardens-by (decode_of entry) old new (tallied (tally_of old counts)) (tallied (tally_of new after)) refl refl refl p.hardens;
        };
      },
    )
tally-gives before old new counts after entry bytes (Err Memory) returned was is halted gives = (gives.0, (gives.1.0, rw (gives.1.1, halted) refl))
tally-gives before old new counts after entry bytes (Err Failed) returned was is halted gives = (gives.0, record { running = gives.1.running; closing = gives.1.closing; others = rw (gives.1.others, halted) refl })
tally-gives before old new counts after entry bytes (Err Stopped) returned was is halted gives =
    let s = gives.1 in (
      gives.0,
      record {
        already = λ e. rw (s.already e, halted) refl;
        stopped = s.stopped;
        geometry = s.geometry;
        trusted = s.trusted;
        fair = s.fair;
        unfailing = s.unfailing;
        counts = record { completed = ap commands_of halted; refused = s.counts.refused; appended = s.counts.appended };
        left = s.left;
        hardens = may_harden-by (decode_of entry) old new (tallied (tally_of old counts)) (tallied (tally_of new after)) refl refl refl s.hardens;
      },
    )

-- both in one
pub tally-passes : (before : ℕ) (old new : Counting) (entry bytes : List ℕ) (result : Result (List ℕ) Halt) (returned : List ℕ)
    → IsInStep before old.inner old.counts → IsLawful old.inner
    → IfOk result (λ completion. new.counts ≡ counts_after old.counts entry bytes completion) → OnErr result (new.counts ≡ old.counts)
    → SubmitGives old.inner entry bytes result returned new.inner → SubmitGives (tallied old) entry bytes result returned (tallied new)
tally-passes before old new entry bytes result returned step lawful counted halted gives =
    tally-gives before old.inner new.inner old.counts new.counts entry bytes result returned step
    (still-in-step before old.inner new.inner old.counts new.counts entry bytes result returned step lawful gives counted halted) halted gives
