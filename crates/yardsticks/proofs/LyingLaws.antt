-- What a device answers that may lie at a Read, by what the device within answers.
use Rattle.std.proofs.Common.{◌≡◌, ℕ, Bool, true, false, IsTrue, not, ◌||◌, List, ◌++◌, length, take, drop, Result, Ok, Err, refl, sym, ap, ◌∙◌, arith}
use Rattle.std.specs.Prelude.{IsErrAnd}
use Rattle.std.proofs.lemmas.List.{drop_at, length-append, take_at, take-append-drop}
use Rattle.nvme_wire.specs.Entry.{decode_of}
use Rattle.nvme_wire.specs.declared.command.Command.{Command}
use Rattle.nvme_wire.specs.declared.command.DecodeFault.{DecodeFault}
use Rattle.drive_port.specs.declared.device.Halt.{Halt}
use Rattle.drive_port.specs.declared.device.Halt.TheVariants.{Memory, Failed, Stopped}
use Rattle.drive_port.specs.Drive.{DriveState, IsLawful}
use Rattle.drive_port.specs.Halting.{SubmitAdds, SubmitGives}
use Rattle.drive_port.specs.Step.{is_read, is_told}
use Rattle.drive_port.proofs.StopLaws.{hardens-by, may_harden-by}
use Rattle.yardsticks.specs.Lying.{told_by}

-- the flag says nothing of the zones
pub lawful-told : (drive : DriveState) (lied : Bool) → IsLawful drive → IsLawful (told_by drive lied)
lawful-told drive lied lawful = record {
  geometry = lawful.geometry;
  count = lawful.count;
  zones = lawful.zones;
  active = lawful.active;
  open_zones = lawful.open_zones;
  completed = lawful.completed;
  stopped = lawful.stopped;
}

-- a flag that did not fall was up before
not-lied : (lied : Bool) → IsTrue (not lied) → lied ≡ false
not-lied false is = refl
not-lied true is = sym is

told-clean : (command : Result Command DecodeFault) (clean : Bool) → IsTrue clean → IsTrue (is_told command clean)
told-clean command clean is = either (not (is_read command)) clean is
  where
    either : (a b : Bool) → IsTrue b → IsTrue (a || b)
    either true b is = refl
    either false b is = is

-- What a clean device within returned is changed at a Read alone, and the flag falls exactly where other bytes were returned.
pub record Tells (command : Result Command DecodeFault) (was is : Bool) (held told : List ℕ) : Type 0 where
  pub long : length told ≡ length held
  pub other : is_read command ≡ false → told ≡ held
  pub same : is ≡ false → told ≡ held
  pub before : is ≡ false → was ≡ false
  pub fair : told ≡ held → is ≡ was

-- ---- what is answered

-- a command that was completed
pub tells-completed : (old new : DriveState) (was is : Bool) (entry bytes completion held told : List ℕ) → IsTrue new.clean → Tells (decode_of entry) was is held told
    → SubmitGives old entry bytes (Ok completion) held new → SubmitGives (told_by old was) entry bytes (Ok completion) told (told_by new is)
tells-completed old new was is entry bytes completion held told clean tells gives =
    let done = gives.1 in
    let p = done.performs in
    let true_bytes : held ≡ p.held = p.told (told-clean (decode_of entry) new.clean clean) in (
      gives.0,
      record {
        status = done.status;
        value = done.value;
        fits = done.fits;
        encoded = done.encoded;
        performs = record {
          held = p.held;
          effect = p.effect;
          told = λ up. shown (is_read (decode_of entry)) refl up ∙ true_bytes;
          length_is = tells.long ∙ p.length_is;
          trusted = λ up. rw (tells.before (not-lied is up)) refl;
          fair = λ up same. rw (tells.fair (same ∙ sym true_bytes), not-lied was up) refl;
          unfailing = p.unfailing;
          geometry = p.geometry;
          completed = p.completed;
          refused = p.refused;
          appended = p.appended;
          hardens = hardens-by (decode_of entry) old new (told_by old was) (told_by new is) refl refl refl p.hardens;
        };
      },
    )
  where
    shown : (read : Bool) → is_read (decode_of entry) ≡ read → IsTrue (not read || not is) → told ≡ held
    shown false e up = tells.other e
    shown true e up = tells.same (not-lied is up)

-- a halt
tells-halted : (old new : DriveState) (lied : Bool) (entry bytes returned : List ℕ) (halt : Halt) → SubmitGives old entry bytes (Err halt) returned new
    → SubmitGives (told_by old lied) entry bytes (Err halt) returned (told_by new lied)
tells-halted old new lied entry bytes returned Memory gives = (gives.0, (gives.1.0, ap (λ (d : DriveState). told_by d lied) gives.1.1))
tells-halted old new lied entry bytes returned Failed gives = (gives.0, record { running = gives.1.running; closing = gives.1.closing; others = ap (λ (d : DriveState). told_by d lied) gives.1.others })
tells-halted old new lied entry bytes returned Stopped gives =
    let s = gives.1 in (
      gives.0,
      record {
        already = λ e. ap (λ (d : DriveState). told_by d lied) (s.already e);
        stopped = s.stopped;
        unfailing = s.unfailing;
        geometry = s.geometry;
        trusted = λ up. up;
        fair = λ up. up;
        counts = record { completed = s.counts.completed; refused = s.counts.refused; appended = s.counts.appended };
        left = s.left;
        hardens = may_harden-by (decode_of entry) old new (told_by old lied) (told_by new lied) refl refl refl s.hardens;
      },
    )

-- a halt that is passed on
pub tells-passed : (old new : DriveState) (lied : Bool) (entry bytes returned : List ℕ) (halt : Halt) (result : Result (List ℕ) Halt) → IsErrAnd result (λ given. given ≡ halt)
    → SubmitGives old entry bytes (Err halt) returned new → SubmitGives (told_by old lied) entry bytes result returned (told_by new lied)
tells-passed old new lied entry bytes returned halt (Ok completion) passed gives = absurd passed
tells-passed old new lied entry bytes returned halt (Err given) passed gives = rw passed (tells-halted old new lied entry bytes returned halt gives)

-- and the same after what a buffer holds
pub tells-passed-after : (old new : DriveState) (lied : Bool) (entry bytes before items : List ℕ) (halt : Halt) (result : Result (List ℕ) Halt) → IsErrAnd result (λ given. given ≡ halt)
    → SubmitAdds old entry bytes before (Err halt) items new → SubmitAdds (told_by old lied) entry bytes before result items (told_by new lied)
tells-passed-after old new lied entry bytes before items halt result passed adds =
    record { returned = adds.returned; joined = adds.joined; given = tells-passed old new lied entry bytes adds.returned halt result passed adds.given }

-- ---- bytes after others

-- what a buffer holds after the bytes of a Read were told, after what it held before
pub record TellsAfter (command : Result Command DecodeFault) (was is : Bool) (before returned items : List ℕ) (n : ℕ) : Type 0 where
  pub joined : items ≡ before ++ drop n items
  pub tells : Tells command was is returned (drop n items)

pub tells-after : (command : Result Command DecodeFault) (was is : Bool) (before middle items returned : List ℕ) (n : ℕ) → n ≡ length before → middle ≡ before ++ returned → is_read command ≡ true
    → length items ≡ length middle → take n items ≡ take n middle → (is ≡ false → items ≡ middle) → (is ≡ false → was ≡ false) → (items ≡ middle → is ≡ was)
    → TellsAfter command was is before returned items n
tells-after command was is before middle items returned n count text read long kept told first fair =
    let front : take n items ≡ before = kept ∙ ap (λ (l : List ℕ). take n l) text ∙ take_at before returned n (sym count) in
    let joined : items ≡ before ++ drop n items = sym (take-append-drop n items) ∙ ap (λ (l : List ℕ). l ++ drop n items) front in
    record {
      joined = joined;
      tells = record {
        long = omega (arith, ap length joined, length-append before (drop n items), long, ap length text, length-append before returned);
        other = λ e. absurd (cc (e, read));
        same = λ e. ap (λ (l : List ℕ). drop n l) (told e ∙ text) ∙ drop_at before returned n (sym count);
        before = first;
        fair = λ e. fair (joined ∙ ap (λ (l : List ℕ). before ++ l) e ∙ sym text);
      };
    }
