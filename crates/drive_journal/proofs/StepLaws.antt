-- What a completed command does to the zones, as a change that is done again does it.
use Rattle.std.proofs.Common.{◌≡◌, ◌≢◌, ℕ, ◌*◌, ◌≤◌, ◌==◌, Bool, true, false, not, List, [], ◌∷◌, ◌++◌, length, Result, Ok, Err, refl, ap, ◌∙◌, arith}
use Rattle.std.proofs.lemmas.Bool.{eqb-true, ltb-false}
use Rattle.nvme_wire.specs.Completion.{code_in, completion_bytes}
use Rattle.nvme_wire.specs.Entry.{decode_of}
use Rattle.nvme_wire.specs.declared.command.Command.{Command}
use Rattle.nvme_wire.specs.declared.command.Command.TheVariants.{Flush, Read, Write, Append, Send, Receive}
use Rattle.nvme_wire.specs.declared.command.DecodeFault.{DecodeFault}
use Rattle.nvme_wire.specs.declared.status.Status.{Status}
use Rattle.nvme_wire.specs.declared.status.Status.TheVariants.{Success, InvalidCommandOpcode, InvalidField, InvalidNamespace, LbaOutOfRange, ZoneBoundaryError, ZoneIsFull, ZoneIsReadOnly, ZoneIsOffline, ZoneInvalidWrite, TooManyActiveZones, TooManyOpenZones, InvalidZoneStateTransition}
use Rattle.zone_states.specs.Zone.{Zone}
use Rattle.zone_states.specs.declared.geometry.Geometry.{Geometry}
use Rattle.drive_port.specs.Drive.{IsClosing}
use Rattle.drive_port.specs.Step.{Effect, is_success}
use Rattle.drive_port.proofs.CheckLaws.{AllPass}
use Rattle.drive_port.proofs.StepLaws.{checks_of, effect-refused, effect_of, outcome-passes, succeeded}
use Rattle.drive_journal.specs.Change.{Change, IsChange, beside_blocks, change_of, changes, beside_bytes}
use Rattle.drive_journal.specs.Replay.{at_rest, changed, replayed}
use Rattle.drive_journal.proofs.RestLaws.{rest-closing, same-changed}

effect-changed : (geometry : Geometry) (zones : List Zone) (command : Result Command DecodeFault) (bytes : List ℕ) → (effect_of geometry zones command bytes).zones ≡ changed geometry zones command bytes
effect-changed geometry zones (Err fault) bytes = refl
effect-changed geometry zones (Ok Flush) bytes = refl
effect-changed geometry zones (Ok (Read slba blocks)) bytes = refl
effect-changed geometry zones (Ok (Write slba blocks)) bytes = refl
effect-changed geometry zones (Ok (Append zslba blocks)) bytes = refl
effect-changed geometry zones (Ok (Send slba action true)) bytes = refl
effect-changed geometry zones (Ok (Send slba action false)) bytes = refl
effect-changed geometry zones (Ok (Receive slba dwords options partial)) bytes = refl

-- a command that succeeded, done again without a check
pub rest-succeeded : (geometry : Geometry) (old new : List Zone) (command : Result Command DecodeFault) (bytes returned : List ℕ) (value : ℕ)
    → Effect geometry old command bytes Success value returned new → at_rest new ≡ at_rest (changed geometry old command bytes)
rest-succeeded geometry old new command bytes returned value effect =
    let found = succeeded geometry old new command bytes returned value effect in
    let gives = outcome-passes geometry effect.middle command bytes found.passed in
    let after : IsClosing (effect_of geometry effect.middle command bytes).zones new = rw gives at effect.after in
    rest-closing _ new after
    ∙ ap (λ (zs : List Zone). at_rest zs) (effect-changed geometry effect.middle command bytes)
    ∙ same-changed geometry effect.middle old command bytes (rest-closing old effect.middle effect.before)

-- a command that was refused
pub rest-refused : (geometry : Geometry) (old new : List Zone) (command : Result Command DecodeFault) (bytes returned : List ℕ) (status : Status) (value : ℕ)
    → status ≢ Success → Effect geometry old command bytes status value returned new → at_rest new ≡ at_rest old
rest-refused geometry old new command bytes returned status value bad effect =
    rest-closing old new (effect-refused geometry old new command bytes returned status value bad effect).0

-- no other command changes anything
pub changed-not : (geometry : Geometry) (zones : List Zone) (command : Result Command DecodeFault) (bytes : List ℕ) → changes command ≡ false → changed geometry zones command bytes ≡ zones
changed-not geometry zones (Err fault) bytes e = refl
changed-not geometry zones (Ok Flush) bytes e = refl
changed-not geometry zones (Ok (Read slba blocks)) bytes e = refl
changed-not geometry zones (Ok (Write slba blocks)) bytes e = absurd (cc e)
changed-not geometry zones (Ok (Append zslba blocks)) bytes e = absurd (cc e)
changed-not geometry zones (Ok (Send slba action all)) bytes e = absurd (cc e)
changed-not geometry zones (Ok (Receive slba dwords options partial)) bytes e = refl

-- only the data of a Write or an Append matters
pub changed-data : (geometry : Geometry) (zones : List Zone) (command : Result Command DecodeFault) (bytes : List ℕ) → changed geometry zones command (beside_bytes command bytes) ≡ changed geometry zones command bytes
changed-data geometry zones (Err fault) bytes = refl
changed-data geometry zones (Ok Flush) bytes = refl
changed-data geometry zones (Ok (Read slba blocks)) bytes = refl
changed-data geometry zones (Ok (Write slba blocks)) bytes = refl
changed-data geometry zones (Ok (Append zslba blocks)) bytes = refl
changed-data geometry zones (Ok (Send slba action true)) bytes = refl
changed-data geometry zones (Ok (Send slba action false)) bytes = refl
changed-data geometry zones (Ok (Receive slba dwords options partial)) bytes = refl

-- one change more
pub replayed-more : (geometry : Geometry) (zones : List Zone) (changes : List Change) (change : Change)
    → replayed geometry zones (changes ++ change ∷ []) ≡ changed geometry (replayed geometry zones changes) (decode_of change.entry) change.bytes
replayed-more geometry zones [] change = refl
replayed-more geometry zones (first ∷ changes) change = replayed-more geometry (changed geometry zones (decode_of first.entry) first.bytes) changes change

-- ---- its data

not-false : (b : Bool) → not b ≡ false → b ≡ true
not-false true e = refl
not-false false e = absurd (cc e)

-- what comes with a command that succeeds is the data of just its blocks
data-passed : (geometry : Geometry) (zones : List Zone) (command : Result Command DecodeFault) (bytes : List ℕ) → changes command ≡ true → AllPass (checks_of geometry zones command bytes)
    → (beside_blocks command ≤ geometry.transfer) × (length (beside_bytes command bytes) ≡ beside_blocks command * geometry.block)
data-passed geometry zones (Err fault) bytes e all = absurd (cc e)
data-passed geometry zones (Ok Flush) bytes e all = absurd (cc e)
data-passed geometry zones (Ok (Read slba blocks)) bytes e all = absurd (cc e)
data-passed geometry zones (Ok (Write slba blocks)) bytes e all = (ltb-false _ _ all.0, eqb-true _ _ (not-false _ all.1.0))
data-passed geometry zones (Ok (Append zslba blocks)) bytes e all = (ltb-false _ _ all.0, eqb-true _ _ (not-false _ all.1.0))
data-passed geometry zones (Ok (Send slba action all_zones)) bytes e all = (omega arith, omega arith)
data-passed geometry zones (Ok (Receive slba dwords options partial)) bytes e all = absurd (cc e)

-- a command that changes a drive and succeeds is a change of it
pub is-change : (geometry : Geometry) (old new : List Zone) (entry bytes returned : List ℕ) (value : ℕ) → length entry ≡ 64 → changes (decode_of entry) ≡ true
    → Effect geometry old (decode_of entry) bytes Success value returned new → IsChange geometry (change_of entry bytes)
is-change geometry old new entry bytes returned value long e effect =
    let found = succeeded geometry old new (decode_of entry) bytes returned value effect in
    let passed = data-passed geometry effect.middle (decode_of entry) bytes e found.passed in
    record { entry = record { long = long; changes = e; few = passed.0 }; bytes = passed.1 }

-- ---- its completion

-- the code of a completion is 0 just where its status is Success
pub done-code : (value id : ℕ) (status : Status) → (code_in (completion_bytes (record { result = value; id = id; status = status })) == 0) ≡ is_success status
done-code value id Success = refl
done-code value id InvalidCommandOpcode = refl
done-code value id InvalidField = refl
done-code value id InvalidNamespace = refl
done-code value id LbaOutOfRange = refl
done-code value id ZoneBoundaryError = refl
done-code value id ZoneIsFull = refl
done-code value id ZoneIsReadOnly = refl
done-code value id ZoneIsOffline = refl
done-code value id ZoneInvalidWrite = refl
done-code value id TooManyActiveZones = refl
done-code value id TooManyOpenZones = refl
done-code value id InvalidZoneStateTransition = refl
