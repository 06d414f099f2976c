-- What the status of a command says of its checks, its effect and the contents of the drive.
use Rattle.std.proofs.Common.{◌≡◌, ◌≢◌, ℕ, ◌+◌, ◌/◌, ◌%◌, length, Bool, true, false, not, ◌&&◌, List, [], ◌∷◌, map, Option, Some, None, Result, Ok, Err, refl, ap, ◌∙◌, arith}
use Rattle.std.specs.Prelude.{OnErr, slice_set}
use Rattle.std.proofs.lemmas.Bool.{and_parts}
use Rattle.nvme_wire.specs.declared.command.Action.TheVariants as actions
use Rattle.nvme_wire.specs.declared.command.Command.{Command}
use Rattle.nvme_wire.specs.declared.command.Command.TheVariants.{Flush, Read, Write, Append, Send, Receive}
use Rattle.nvme_wire.specs.declared.command.DecodeFault.{DecodeFault}
use Rattle.nvme_wire.specs.declared.command.DecodeFault.TheVariants as faults
use Rattle.nvme_wire.specs.declared.status.Status.{Status}
use Rattle.nvme_wire.specs.declared.status.Status.TheVariants.{Success}
use Rattle.zone_states.specs.declared.geometry.Geometry.{Geometry}
use Rattle.zone_states.specs.Checks.{first_failing}
use Rattle.zone_states.specs.Transition.{state_after}
use Rattle.zone_states.specs.Zone.{Zone}
use Rattle.zone_report.specs.Report.{report}
use Rattle.drive_port.specs.declared.calls.PortFault.{PortFault}
use Rattle.drive_port.specs.declared.calls.PortFault.TheVariants.{Refused, Memory, Failed, Stopped}
use Rattle.drive_port.specs.Drive.{DriveState, IsClosing}
use Rattle.drive_port.specs.Step.{Effect, Outcome, Performs, append_checks, bytes_from, decode_status, done, is_append, is_success, one_if, outcome, read_checks, receive_checks, send_checks, sent_zone, unless_refused, write_checks, write_effect, zone_after, zone_at}
use Rattle.drive_port.specs.Halting.{Fails}
use Rattle.drive_port.specs.Contents.{Counts, SameContents, contents}
use Rattle.drive_port.specs.Calls.{CallGives}
use Rattle.drive_port.proofs.CheckLaws.{AllPass}
use Rattle.drive_port.proofs.ClosingLaws.{IsClosing-trans, contents-closing}

-- ---- a command is its checks and its effect

-- the checks of a command
abbrev pub checks_of : Geometry → List Zone → Result Command DecodeFault → List ℕ → List (Bool × Status)
checks_of geometry zones (Err fault) bytes = (true, decode_status fault) ∷ []
checks_of geometry zones (Ok Flush) bytes = []
checks_of geometry zones (Ok (Read slba blocks)) bytes = read_checks geometry (zone_at zones (slba / geometry.size)) slba blocks
checks_of geometry zones (Ok (Write slba blocks)) bytes = write_checks geometry zones (zone_at zones (slba / geometry.size)) slba blocks bytes
checks_of geometry zones (Ok (Append zslba blocks)) bytes = append_checks geometry zones (zone_at zones (zslba / geometry.size)) zslba blocks bytes
checks_of geometry zones (Ok (Send slba action true)) bytes = []
checks_of geometry zones (Ok (Send slba action false)) bytes = send_checks geometry zones (zone_at zones (slba / geometry.size)) slba action
checks_of geometry zones (Ok (Receive slba dwords options partial)) bytes = receive_checks geometry slba

-- what a command gives if none of its checks fails
abbrev pub effect_of : Geometry → List Zone → Result Command DecodeFault → List ℕ → Outcome
effect_of geometry zones (Err fault) bytes = done [] zones
effect_of geometry zones (Ok Flush) bytes = done [] zones
effect_of geometry zones (Ok (Read slba blocks)) bytes =
    done (bytes_from geometry.block (zone_at zones (slba / geometry.size)).blocks (slba % geometry.size) blocks) zones
effect_of geometry zones (Ok (Write slba blocks)) bytes = done [] (write_effect geometry zones (slba / geometry.size) blocks bytes)
effect_of geometry zones (Ok (Append zslba blocks)) bytes =
    let index = zslba / geometry.size in
    record (done [] (write_effect geometry zones index blocks bytes)) { value = zslba + length (zone_at zones index).blocks }
effect_of geometry zones (Ok (Send slba action true)) bytes = done [] (map (sent_zone action) zones)
effect_of geometry zones (Ok (Send slba action false)) bytes =
    let index = slba / geometry.size in
    let zone = zone_at zones index in
    done [] (slice_set zones index (zone_after action zone (state_after zone.state action)))
effect_of geometry zones (Ok (Receive slba dwords options partial)) bytes = done (report geometry zones slba options partial dwords) zones

outcome-is : (geometry : Geometry) (zones : List Zone) (command : Result Command DecodeFault) (bytes : List ℕ)
    → outcome geometry zones command bytes ≡ unless_refused (first_failing (checks_of geometry zones command bytes)) zones (effect_of geometry zones command bytes)
unfolding outcome
outcome-is geometry zones (Err fault) bytes = refl
outcome-is geometry zones (Ok Flush) bytes = refl
outcome-is geometry zones (Ok (Read slba blocks)) bytes = refl
outcome-is geometry zones (Ok (Write slba blocks)) bytes = refl
outcome-is geometry zones (Ok (Append zslba blocks)) bytes = refl
outcome-is geometry zones (Ok (Send slba action true)) bytes = refl
outcome-is geometry zones (Ok (Send slba action false)) bytes = refl
outcome-is geometry zones (Ok (Receive slba dwords options partial)) bytes = refl

effect-succeeds : (geometry : Geometry) (zones : List Zone) (command : Result Command DecodeFault) (bytes : List ℕ) → (effect_of geometry zones command bytes).status ≡ Success
effect-succeeds geometry zones (Err fault) bytes = refl
effect-succeeds geometry zones (Ok Flush) bytes = refl
effect-succeeds geometry zones (Ok (Read slba blocks)) bytes = refl
effect-succeeds geometry zones (Ok (Write slba blocks)) bytes = refl
effect-succeeds geometry zones (Ok (Append zslba blocks)) bytes = refl
effect-succeeds geometry zones (Ok (Send slba action true)) bytes = refl
effect-succeeds geometry zones (Ok (Send slba action false)) bytes = refl
effect-succeeds geometry zones (Ok (Receive slba dwords options partial)) bytes = refl

-- none of the checks has the status Success
abbrev refuses : List (Bool × Status) → Bool
refuses [] = true
refuses (check ∷ checks) = not (is_success check.1) && refuses checks

checks-refuse : (geometry : Geometry) (zones : List Zone) (command : Result Command DecodeFault) (bytes : List ℕ) → refuses (checks_of geometry zones command bytes) ≡ true
checks-refuse geometry zones (Err faults.Opcode) bytes = refl
checks-refuse geometry zones (Err faults.Namespace) bytes = refl
checks-refuse geometry zones (Err faults.Field) bytes = refl
checks-refuse geometry zones (Ok Flush) bytes = refl
checks-refuse geometry zones (Ok (Read slba blocks)) bytes = refl
checks-refuse geometry zones (Ok (Write slba blocks)) bytes = refl
checks-refuse geometry zones (Ok (Append zslba blocks)) bytes = refl
checks-refuse geometry zones (Ok (Send slba action true)) bytes = refl
checks-refuse geometry zones (Ok (Send slba actions.Open false)) bytes = refl
checks-refuse geometry zones (Ok (Send slba actions.Close false)) bytes = refl
checks-refuse geometry zones (Ok (Send slba actions.Finish false)) bytes = refl
checks-refuse geometry zones (Ok (Send slba actions.Reset false)) bytes = refl
checks-refuse geometry zones (Ok (Send slba actions.Offline false)) bytes = refl
checks-refuse geometry zones (Ok (Receive slba dwords options partial)) bytes = refl

-- ---- checks

-- where the status is Success, each check was passed
passed : (checks : List (Bool × Status)) (zones : List Zone) (effect : Outcome) → refuses checks ≡ true
    → Success ≡ (unless_refused (first_failing checks) zones effect).status → AllPass checks
passed [] zones effect r e = tt
passed ((true, status) ∷ checks) zones effect r e = absurd (cc (rw (← e) at r))
passed ((false, status) ∷ checks) zones effect r e = (refl, passed checks zones effect (and_parts (not (is_success status)) (refuses checks) r).1 e)

-- where each check is passed, the command has its effect
passes : (checks : List (Bool × Status)) (zones : List Zone) (effect : Outcome) → AllPass checks → unless_refused (first_failing checks) zones effect ≡ effect
passes [] zones effect all = refl
passes ((true, status) ∷ checks) zones effect all = absurd (cc (all.0))
passes ((false, status) ∷ checks) zones effect all = passes checks zones effect all.1

-- a command that passes its checks has its effect
pub outcome-passes : (geometry : Geometry) (zones : List Zone) (command : Result Command DecodeFault) (bytes : List ℕ)
    → AllPass (checks_of geometry zones command bytes) → outcome geometry zones command bytes ≡ effect_of geometry zones command bytes
outcome-passes geometry zones command bytes all =
    outcome-is geometry zones command bytes ∙ passes (checks_of geometry zones command bytes) zones (effect_of geometry zones command bytes) all

-- ---- a success

-- what a command that succeeded found and left, where the controller's choice before it was `middle`
pub record Succeeded (geometry : Geometry) (old middle : List Zone) (command : Result Command DecodeFault) (bytes : List ℕ) (value : ℕ) (returned : List ℕ) (new : List Zone) : Type 0 where
  pub passed : AllPass (checks_of geometry middle command bytes)
  pub value_is : value ≡ (effect_of geometry middle command bytes).value
  pub returned_is : returned ≡ (effect_of geometry middle command bytes).returned
  pub before : contents middle ≡ contents old
  pub after : contents new ≡ contents (effect_of geometry middle command bytes).zones

-- a command that succeeded had its effect on the zones of some moment
pub succeeded : (geometry : Geometry) (old new : List Zone) (command : Result Command DecodeFault) (bytes returned : List ℕ) (value : ℕ)
    → (effect : Effect geometry old command bytes Success value returned new) → Succeeded geometry old effect.middle command bytes value returned new
succeeded geometry old new command bytes returned value effect =
    let checks = checks_of geometry effect.middle command bytes in
    let done = effect_of geometry effect.middle command bytes in
    let is = outcome-is geometry effect.middle command bytes in
    let all = passed checks effect.middle done (checks-refuse geometry effect.middle command bytes) (effect.status_is ∙ ap (λ (o : Outcome). o.status) is) in
    let gives = outcome-passes geometry effect.middle command bytes all in
    record {
      passed = all;
      value_is = effect.value_is ∙ ap (λ (o : Outcome). o.value) gives;
      returned_is = effect.returned_is ∙ ap (λ (o : Outcome). o.returned) gives;
      before = contents-closing old effect.middle effect.before;
      after = contents-closing done.zones new (rw gives at effect.after);
    }

one_if-true : (b : Bool) → one_if (b && true) ≡ one_if b
one_if-true true = refl
one_if-true false = refl

-- a command that succeeded is counted once
pub counts-success : (old new : DriveState) (command : Result Command DecodeFault) (bytes returned : List ℕ) (value : ℕ)
    → Performs old command bytes Success value returned new → Counts old new (one_if (is_append command))
counts-success old new command bytes returned value step = record {
  completed = step.completed;
  refused = omega (arith, step.refused);
  appended = step.appended ∙ ap (λ (n : ℕ). old.appended + n) (one_if-true (is_append command));
}

-- a command that passes its checks succeeds
pub succeeds : (geometry : Geometry) (old new : List Zone) (command : Result Command DecodeFault) (bytes returned : List ℕ) (status : Status) (value : ℕ)
    → (effect : Effect geometry old command bytes status value returned new) → AllPass (checks_of geometry effect.middle command bytes) → status ≡ Success
succeeds geometry old new command bytes returned status value effect all =
    effect.status_is ∙ ap (λ (o : Outcome). o.status) (outcome-passes geometry effect.middle command bytes all) ∙ effect-succeeds geometry effect.middle command bytes

-- ---- a refusal

-- no effect, and no bytes
abbrev Nothing : Outcome → List Zone → Type 0
Nothing given zones = (given.returned ≡ []) × (given.zones ≡ zones)

refused_nothing : (refusal : Option Status) (zones : List Zone) (effect : Outcome) → effect.status ≡ Success
    → (unless_refused refusal zones effect).status ≢ Success → Nothing (unless_refused refusal zones effect) zones
refused_nothing None zones effect e bad = absurd (bad e)
refused_nothing (Some status) zones effect e bad = (refl, refl)

-- a refused command returns no bytes, and does no more to the zones than the controller may by itself
pub effect-refused : (geometry : Geometry) (old new : List Zone) (command : Result Command DecodeFault) (bytes returned : List ℕ) (status : Status) (value : ℕ)
    → status ≢ Success → Effect geometry old command bytes status value returned new → IsClosing old new × (returned ≡ [])
effect-refused geometry old new command bytes returned status value bad effect =
    let is = outcome-is geometry effect.middle command bytes in
    let refusal = first_failing (checks_of geometry effect.middle command bytes) in
    let done = effect_of geometry effect.middle command bytes in
    let refused = λ (e : (unless_refused refusal effect.middle done).status ≡ Success). bad (effect.status_is ∙ ap (λ (o : Outcome). o.status) is ∙ e) in
    let nothing = refused_nothing refusal effect.middle done (effect-succeeds geometry effect.middle command bytes) refused in
    let after : IsClosing effect.middle new = rw (is, nothing.1) at effect.after in
    (IsClosing-trans old effect.middle new effect.before after, effect.returned_is ∙ ap (λ (o : Outcome). o.returned) is ∙ nothing.0)

-- a closing keeps the contents
pub same_contents-closing : (old new : DriveState) → new.geometry ≡ old.geometry → IsClosing old.zones new.zones → SameContents old new
same_contents-closing old new geometry closing = record { geometry = geometry; contents = contents-closing old.zones new.zones closing }

-- ---- calls

-- as many bytes as none
none-if : (returned held : List ℕ) → length returned ≡ length held → held ≡ [] → returned ≡ []
none-if [] held e none = refl
none-if (x ∷ xs) held e none = absurd (cc (e ∙ ap length none))

-- a call that isn't Ok returned no bytes
pub call-none : (old new : DriveState) (command : Command) (bytes returned : List ℕ) (result : Result ℕ PortFault)
    → CallGives old command bytes result returned new → OnErr result (returned ≡ [])
call-none old new command bytes returned (Ok value) gives = tt
call-none old new command bytes returned (Err (Refused status)) gives =
    none-if returned gives.3.held gives.3.length_is (effect-refused old.geometry old.zones new.zones (Ok command) bytes gives.3.held status gives.2 gives.1 gives.3.effect).1
call-none old new command bytes returned (Err Memory) gives = gives.0
call-none old new command bytes returned (Err Failed) gives = gives.0
call-none old new command bytes returned (Err Stopped) gives = gives.0

-- a call that was refused did no more to the zones than the controller may by itself
pub refused-closing : (old new : DriveState) (command : Command) (bytes returned : List ℕ) (status : Status)
    → CallGives old command bytes (Err (Refused status)) returned new → IsClosing old.zones new.zones
refused-closing old new command bytes returned status gives =
    (effect-refused old.geometry old.zones new.zones (Ok command) bytes gives.3.held status gives.2 gives.1 gives.3.effect).0

-- and so does the same drive
pub same_contents-same : (old new : DriveState) → new ≡ old → SameContents old new
same_contents-same old new same = rw same (record { geometry = refl; contents = refl })

-- and where one failed
pub same_contents-failed : (old new : DriveState) → Fails old new → SameContents old new
same_contents-failed old new fails = same_contents-closing old new (ap (λ (d : DriveState). d.geometry) fails.others) fails.closing

-- no command but an Append has a result
effect-value : (geometry : Geometry) (zones : List Zone) (command : Command) (bytes : List ℕ) → is_append (Ok command) ≡ false → (effect_of geometry zones (Ok command) bytes).value ≡ 0
effect-value geometry zones Flush bytes e = refl
effect-value geometry zones (Read slba blocks) bytes e = refl
effect-value geometry zones (Write slba blocks) bytes e = refl
effect-value geometry zones (Append zslba blocks) bytes e = absurd (cc e)
effect-value geometry zones (Send slba action true) bytes e = refl
effect-value geometry zones (Send slba action false) bytes e = refl
effect-value geometry zones (Receive slba dwords options partial) bytes e = refl

-- a command that is no Append gives 0
pub call-zero : (old new : DriveState) (command : Command) (bytes returned : List ℕ) (value : ℕ) → is_append (Ok command) ≡ false
    → CallGives old command bytes (Ok value) returned new → CallGives old command bytes (Ok 0) returned new
call-zero old new command bytes returned value other gives =
    let effect = gives.1.effect in
    let zero = (succeeded old.geometry old.zones new.zones (Ok command) bytes gives.1.held value effect).value_is ∙ effect-value old.geometry effect.middle command bytes other in
    rw zero at gives

-- what always holds holds after a fault
pub on_err : {T E : Type 0} (result : Result T E) (P : Type 0) → P → OnErr result P
on_err (Ok value) P p = tt
on_err (Err error) P p = p
