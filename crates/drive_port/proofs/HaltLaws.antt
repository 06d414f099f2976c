-- What a stop inside a command leaves.
use Rattle.std.proofs.Common.{◌≡◌, ◌≢◌, ◌⊎◌, ℕ, ◌*◌, ◌≤◌, Bool, true, false, List, take, Result, Ok, Err, refl, ap, ◌∙◌, inl, inr, arith}
use Rattle.nvme_wire.specs.declared.command.Command.{Command}
use Rattle.nvme_wire.specs.declared.command.Command.TheVariants.{Flush, Read, Write, Append, Send, Receive}
use Rattle.nvme_wire.specs.declared.status.Status.{Status}
use Rattle.nvme_wire.specs.declared.status.Status.TheVariants.{Success, InvalidCommandOpcode, InvalidField, InvalidNamespace, LbaOutOfRange, ZoneBoundaryError, ZoneIsFull, ZoneIsReadOnly, ZoneIsOffline, ZoneInvalidWrite, TooManyActiveZones, TooManyOpenZones, InvalidZoneStateTransition}
use Rattle.zone_states.specs.declared.geometry.Geometry.{Geometry}
use Rattle.zone_states.specs.Zone.{Zone}
use Rattle.drive_port.specs.declared.calls.PortFault.{PortFault}
use Rattle.drive_port.specs.declared.calls.PortFault.TheVariants.{Refused, Memory, Failed, Stopped}
use Rattle.drive_port.specs.Drive.{DriveState, IsClosing}
use Rattle.drive_port.specs.Step.{Effect, Outcome, is_append, is_success}
use Rattle.drive_port.specs.Halting.{LeftBy, Torn, TornAppend}
use Rattle.drive_port.specs.Calls.{CallGives, OnlyCloses}
use Rattle.drive_port.proofs.ClosingLaws.{IsClosing-refl, IsClosing-trans}
use Rattle.drive_port.proofs.StepLaws.{effect-refused, effect_of, outcome-passes, refused-closing, same_contents-closing, succeeded}

-- ---- statuses

abbrev Refusal : Status → Type 0
Refusal status = (status ≢ Success) × (is_success status ≡ false)

-- a status is Success or a refusal
pub success_or : (status : Status) → (status ≡ Success) ⊎ Refusal status
success_or Success = inl refl
success_or InvalidCommandOpcode = inr (λ e. cc, refl)
success_or InvalidField = inr (λ e. cc, refl)
success_or InvalidNamespace = inr (λ e. cc, refl)
success_or LbaOutOfRange = inr (λ e. cc, refl)
success_or ZoneBoundaryError = inr (λ e. cc, refl)
success_or ZoneIsFull = inr (λ e. cc, refl)
success_or ZoneIsReadOnly = inr (λ e. cc, refl)
success_or ZoneIsOffline = inr (λ e. cc, refl)
success_or ZoneInvalidWrite = inr (λ e. cc, refl)
success_or TooManyActiveZones = inr (λ e. cc, refl)
success_or TooManyOpenZones = inr (λ e. cc, refl)
success_or InvalidZoneStateTransition = inr (λ e. cc, refl)

-- ---- by the command

-- the command succeeded, whatever was told of it
pub record Done (geometry : Geometry) (old : List Zone) (command : Command) (bytes : List ℕ) (new : List Zone) : Type 0 where
  pub value : ℕ
  pub returned : List ℕ
  pub effect : Effect geometry old (Ok command) bytes Success value returned new

not_torn : (geometry : Geometry) (old new : List Zone) (command : Command) (bytes : List ℕ) → is_append (Ok command) ≡ false → Torn geometry old (Ok command) bytes new → ⊥
not_torn geometry old new Flush bytes e torn = torn
not_torn geometry old new (Read slba blocks) bytes e torn = torn
not_torn geometry old new (Write slba blocks) bytes e torn = torn
not_torn geometry old new (Append zslba blocks) bytes e torn = absurd (cc e)
not_torn geometry old new (Send slba action all) bytes e torn = torn
not_torn geometry old new (Receive slba dwords options partial) bytes e torn = torn

-- a command other than an Append had no effect or all of it
pub left-done : (geometry : Geometry) (old new : List Zone) (command : Command) (bytes : List ℕ) → is_append (Ok command) ≡ false
    → LeftBy geometry old (Ok command) bytes new → IsClosing old new ⊎ Done geometry old command bytes new
left-done geometry old new command bytes other left =
    elim left [
      | inl closing ↦ inl closing
      | inr (inl whole) ↦ elim (success_or whole.status) [
        | inl done ↦ inr (record { value = whole.value; returned = whole.returned; effect = rw done at whole.effect })
        | inr bad ↦ inl (effect-refused geometry old new (Ok command) bytes whole.returned whole.status whole.value bad.0 whole.effect).0
      ]
      | inr (inr torn) ↦ absurd (not_torn geometry old new command bytes other torn)
    ]

-- an Append had no effect, or a front of it was written: all of it is one
pub left-front : (geometry : Geometry) (old new : List Zone) (start blocks : ℕ) (bytes : List ℕ) → 1 ≤ blocks → take (blocks * geometry.block) bytes ≡ bytes
    → LeftBy geometry old (Ok (Append start blocks)) bytes new → IsClosing old new ⊎ TornAppend geometry old start blocks bytes new
left-front geometry old new start blocks bytes some all left =
    elim left [
      | inl closing ↦ inl closing
      | inr (inl whole) ↦ elim (success_or whole.status) [
        | inl done ↦ inr (record { j = blocks; some = some; few = omega arith; value = whole.value; returned = whole.returned; effect = rw all (rw done at whole.effect) })
        | inr bad ↦ inl (effect-refused geometry old new (Ok (Append start blocks)) bytes whole.returned whole.status whole.value bad.0 whole.effect).0
      ]
      | inr (inr torn) ↦ inr torn
    ]

-- ---- a command that changes no zone

-- commands that change no zone
abbrev pub is_query : Command → Bool
is_query Flush = true
is_query (Read slba blocks) = true
is_query (Receive slba dwords options partial) = true
is_query command = false

query_zones : (geometry : Geometry) (zones : List Zone) (command : Command) (bytes : List ℕ) → is_query command ≡ true → (effect_of geometry zones (Ok command) bytes).zones ≡ zones
query_zones geometry zones Flush bytes e = refl
query_zones geometry zones (Read slba blocks) bytes e = refl
query_zones geometry zones (Write slba blocks) bytes e = absurd (cc e)
query_zones geometry zones (Append zslba blocks) bytes e = absurd (cc e)
query_zones geometry zones (Send slba action all) bytes e = absurd (cc e)
query_zones geometry zones (Receive slba dwords options partial) bytes e = refl

query_other : (command : Command) → is_query command ≡ true → is_append (Ok command) ≡ false
query_other Flush e = refl
query_other (Read slba blocks) e = refl
query_other (Write slba blocks) e = refl
query_other (Append zslba blocks) e = absurd (cc e)
query_other (Send slba action all) e = refl
query_other (Receive slba dwords options partial) e = refl

done_closing : (geometry : Geometry) (old new : List Zone) (command : Command) (bytes returned : List ℕ) (value : ℕ) → is_query command ≡ true
    → Effect geometry old (Ok command) bytes Success value returned new → IsClosing old new
done_closing geometry old new command bytes returned value query effect =
    let s = succeeded geometry old new (Ok command) bytes returned value effect in
    let gives = outcome-passes geometry effect.middle (Ok command) bytes s.passed in
    let same = ap (λ (o : Outcome). o.zones) gives ∙ query_zones geometry effect.middle command bytes query in
    IsClosing-trans old effect.middle new effect.before (rw same at effect.after)

-- whatever its call answers, it does no more to the zones than the controller may by itself
query-closing : (old new : DriveState) (command : Command) (bytes returned : List ℕ) (result : Result ℕ PortFault) → is_query command ≡ true
    → CallGives old command bytes result returned new → IsClosing old.zones new.zones
query-closing old new command bytes returned (Ok value) query gives = done_closing old.geometry old.zones new.zones command bytes gives.1.held value query gives.1.effect
query-closing old new command bytes returned (Err (Refused status)) query gives = refused-closing old new command bytes returned status gives
query-closing old new command bytes returned (Err Memory) query gives = rw gives.1.1 (IsClosing-refl old.zones)
query-closing old new command bytes returned (Err Failed) query gives = gives.1.closing
query-closing old new command bytes returned (Err Stopped) query gives =
    elim (left-done old.geometry old.zones new.zones command bytes (query_other command query) gives.1.left) [
      | inl closing ↦ closing
      | inr done ↦ done_closing old.geometry old.zones new.zones command bytes done.returned done.value query done.effect
    ]

-- a call that only asks closes zones at most, whatever it answers
pub query-closes : (old new : DriveState) (command : Command) (bytes returned : List ℕ) (result : Result ℕ PortFault) → is_query command ≡ true → new.geometry ≡ old.geometry
    → CallGives old command bytes result returned new → OnlyCloses old new
query-closes old new command bytes returned result query geometry gives =
    let closing = query-closing old new command bytes returned result query gives in
    record { closing = closing; contents = same_contents-closing old new geometry closing }
