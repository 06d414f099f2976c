-- What a call answers by what its submit answers, and what a buffer holds after what it held.
use Rattle.std.proofs.Common.{◌≡◌, ℕ, false, List, [], ◌++◌, Result, Ok, Err, refl, sym, ap, ◌∙◌, inl, inr, arith}
use Rattle.std.proofs.lemmas.List.{append-nil}
use Rattle.nvme_wire.specs.Completion.{IsEncodable, completion_bytes}
use Rattle.nvme_wire.specs.Entry.{decode_of, id_of}
use Rattle.nvme_wire.specs.declared.command.Command.{Command}
use Rattle.nvme_wire.specs.declared.command.Command.TheVariants.{Flush, Read, Write, Append, Send, Receive}
use Rattle.nvme_wire.specs.declared.completion.Completion.{Completion}
use Rattle.drive_port.specs.declared.calls.PortFault.{PortFault}
use Rattle.drive_port.specs.declared.calls.PortFault.TheVariants.{Refused, Memory, Failed, Stopped}
use Rattle.drive_port.specs.Drive.{DriveState, IsLawful}
use Rattle.drive_port.specs.Durable.{Hardens, MayHarden, is_flush}
use Rattle.drive_port.specs.Step.{Completes}
use Rattle.drive_port.specs.Halting.{Adds, SubmitGives}
use Rattle.drive_port.specs.Calls.{CallGives, IsCompletion, Obeys, answer_of}
use Rattle.drive_port.proofs.HaltLaws.{success_or}

-- ---- bytes after others

-- where nothing was returned the buffer is unchanged
pub adds-nothing : (held : List ℕ) (Given : List ℕ → Type 0) → Given [] → Adds held Given held
adds-nothing held Given given = record { returned = []; joined = sym (append-nil held); given = given }

-- where nothing is returned, the buffer holds what it held
pub adds-none : (held items : List ℕ) (Given : List ℕ → Type 0) → ((returned : List ℕ) → Given returned → returned ≡ []) → Adds held Given items → items ≡ held
adds-none held items Given none adds = adds.joined ∙ ap (λ (xs : List ℕ). held ++ xs) (none adds.returned adds.given) ∙ append-nil held

-- what was returned has also what follows from it
pub adds-also : (held items : List ℕ) (Given Other : List ℕ → Type 0) → ((returned : List ℕ) → Given returned → Other returned) → Adds held Given items → Adds held Other items
adds-also held items Given Other also adds = record { returned = adds.returned; joined = adds.joined; given = also adds.returned adds.given }

-- ---- answers

-- the completion of an entry
abbrev completion_of : (old new : DriveState) (entry bytes completion returned : List ℕ) → Completes old entry bytes completion returned new → Completion
completion_of old new entry bytes completion returned done = record { result = done.value; id = id_of entry; status = done.status }

-- a submit that completes gives the bytes of a completion
pub is-completion : (old new : DriveState) (entry bytes completion returned : List ℕ) → id_of entry ≡ 0 → Completes old entry bytes completion returned new → IsCompletion completion
is-completion old new entry bytes completion returned id done = record {
  completion = completion_of old new entry bytes completion returned done;
  fits = (done.fits, omega (arith, id));
  encoded = done.encoded;
}

-- what the call answers then is what the completion says
pub call-completed : (old new : DriveState) (entry : List ℕ) (command : Command) (bytes completion returned : List ℕ) (result : Result ℕ PortFault) → id_of entry ≡ 0 → decode_of entry ≡ Ok command
    → ((c : Completion) → IsEncodable c → completion ≡ completion_bytes c → result ≡ answer_of c)
    → SubmitGives old entry bytes (Ok completion) returned new → CallGives old command bytes result returned new
call-completed old new entry command bytes completion returned result id decoded answers gives =
    let done = gives.1 in
    let is = answers (completion_of old new entry bytes completion returned done) (done.fits, omega (arith, id)) done.encoded in
    elim (success_or done.status) [
      | inl good ↦ rw (is, good) (gives.0, rw (decoded, good) at done.performs)
      | inr bad ↦ rw (is, bad.1) (gives.0, bad.0, done.value, rw decoded at done.performs)
    ]

-- a command that is no Flush changes nothing of what is durable
pub hardens-none : (old new : DriveState) (command : Command) → is_flush command ≡ false → Hardens (Ok command) old new → new.durable ≡ old.durable
hardens-none old new Flush other is = absurd (cc other)
hardens-none old new (Read slba blocks) other is = is
hardens-none old new (Write slba blocks) other is = is
hardens-none old new (Append zslba blocks) other is = is
hardens-none old new (Send slba action all) other is = is
hardens-none old new (Receive slba dwords options partial) other is = is

-- nor where the device stops inside it
pub may_harden-none : (old new : DriveState) (command : Command) → is_flush command ≡ false → MayHarden (Ok command) old new → new.durable ≡ old.durable
may_harden-none old new Flush other is = absurd (cc other)
may_harden-none old new (Read slba blocks) other is = is
may_harden-none old new (Write slba blocks) other is = is
may_harden-none old new (Append zslba blocks) other is = is
may_harden-none old new (Send slba action all) other is = is
may_harden-none old new (Receive slba dwords options partial) other is = is

-- whatever a call answers that is no Flush, it keeps what every such call keeps
pub call-obeys : (old new : DriveState) (command : Command) (bytes returned : List ℕ) (result : Result ℕ PortFault) → is_flush command ≡ false → IsLawful old → IsLawful new
    → CallGives old command bytes result returned new → Obeys old result new
call-obeys old new command bytes returned (Ok value) other was lawful gives = record {
  was_lawful = was;
  lawful = lawful;
  geometry = gives.1.geometry;
  durable = hardens-none old new command other gives.1.hardens;
  already = λ e. absurd (cc (e, gives.0));
  stops = λ e. absurd (cc e);
  counts = λ e. absurd (cc e);
  completed = omega (arith, gives.1.completed);
  trusted = gives.1.trusted;
  unfailing = λ is. sym gives.1.unfailing ∙ is;
  fails = λ e. absurd (cc e);
}
call-obeys old new command bytes returned (Err (Refused status)) other was lawful gives = record {
  was_lawful = was;
  lawful = lawful;
  geometry = gives.3.geometry;
  durable = hardens-none old new command other gives.3.hardens;
  already = λ e. absurd (cc (e, gives.0));
  stops = λ e. absurd (cc e);
  counts = λ e. absurd (cc e);
  completed = omega (arith, gives.3.completed);
  trusted = gives.3.trusted;
  unfailing = λ is. sym gives.3.unfailing ∙ is;
  fails = λ e. absurd (cc e);
}
call-obeys old new command bytes returned (Err Memory) other was lawful gives = record {
  was_lawful = was;
  lawful = lawful;
  geometry = ap (λ (d : DriveState). d.geometry) gives.1.1;
  durable = ap (λ (d : DriveState). d.durable) gives.1.1;
  already = λ e. absurd (cc (e, gives.1.0));
  stops = λ e. absurd (cc e);
  counts = λ e. absurd (cc e);
  completed = rw gives.1.1 (omega arith);
  trusted = rw gives.1.1 (λ clean. clean);
  unfailing = rw gives.1.1 (λ is. is);
  fails = λ e. absurd (cc e);
}
call-obeys old new command bytes returned (Err Failed) other was lawful gives = record {
  was_lawful = was;
  lawful = lawful;
  geometry = ap (λ (d : DriveState). d.geometry) gives.1.others;
  durable = ap (λ (d : DriveState). d.durable) gives.1.others;
  already = λ e. absurd (cc (e, gives.1.running));
  stops = λ e. absurd (cc e);
  counts = λ e. absurd (cc e);
  completed = rw gives.1.others (omega arith);
  trusted = rw gives.1.others (λ clean. clean);
  unfailing = rw gives.1.others (λ is. absurd (cc is));
  fails = λ e. rw gives.1.others (refl, record { completed = refl; refused = refl; appended = refl });
}
call-obeys old new command bytes returned (Err Stopped) other was lawful gives = record {
  was_lawful = was;
  lawful = lawful;
  geometry = gives.1.geometry;
  durable = may_harden-none old new command other gives.1.hardens;
  already = λ e. (refl, gives.1.already e);
  stops = λ e. gives.1.stopped;
  counts = λ e. gives.1.counts;
  completed = omega (arith, gives.1.counts.completed);
  trusted = gives.1.trusted;
  unfailing = λ is. sym gives.1.unfailing ∙ is;
  fails = λ e. absurd (cc e);
}
