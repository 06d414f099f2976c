-- A command that does not go to a zone leaves its blocks, and leaves it readable.
use Rattle.std.proofs.Common.{◌≡◌, ◌≢◌, ℕ, ◌*◌, ◌/◌, ◌∙◌, true, false, List, take, Option, Some, None, Ok, refl, sym, inl, inr}
use Rattle.std.specs.Prelude.{slice_set}
use Rattle.std.proofs.lemmas.List.{get_or-set_other}
use Rattle.nvme_wire.specs.declared.zone_state.ZoneState.TheVariants.{Offline}
use Rattle.nvme_wire.specs.declared.command.Command.{Command}
use Rattle.nvme_wire.specs.declared.command.Command.TheVariants.{Flush, Read, Write, Append, Send, Receive}
use Rattle.nvme_wire.specs.declared.status.Status.{Status}
use Rattle.zone_states.specs.declared.geometry.Geometry.{Geometry}
use Rattle.zone_states.specs.Zone.{Zone}
use Rattle.drive_port.specs.Drive.{ClosesOne, IsClosing}
use Rattle.drive_port.specs.Halting.{LeftBy, Torn}
use Rattle.drive_port.specs.Step.{Effect, Outcome, is_state, nowhere, outcome, unless_refused, zone_at}
use Rattle.drive_port.proofs.ClosingLaws.{zone_at-closing}
use Rattle.passthrough.specs.Kept.{IsHeld, Spares}

-- a zone has the same blocks, and can still be read
pub record Stays (old new : Zone) : Type 0 where
  pub blocks : new.blocks ≡ old.blocks
  pub readable : is_state Offline old.state ≡ false → is_state Offline new.state ≡ false

Stays-trans : (a b c : Zone) → Stays a b → Stays b c → Stays a c
Stays-trans a b c first second = record { blocks = second.blocks ∙ first.blocks; readable = λ e. second.readable (first.readable e) }

Stays-closes : (old new : Zone) → ClosesOne old new → Stays old new
Stays-closes old new one = record {
  blocks = one.blocks;
  readable = λ e. elim one.state [
    | inl same ↦ rw same e
    | inr closed ↦ rw closed.1 refl
  ];
}

-- in a closing each zone stays
pub stays-closing : (old new : List Zone) (i : ℕ) → IsClosing old new → Stays (zone_at old i) (zone_at new i)
stays-closing old new i closing = Stays-closes (zone_at old i) (zone_at new i) (zone_at-closing old new i closing)

-- what stays is held
pub held-stays : (geometry : Geometry) (old new : List Zone) (start blocks : ℕ) (bytes : List ℕ)
    → Stays (zone_at old (start / geometry.size)) (zone_at new (start / geometry.size)) → IsHeld geometry old start blocks bytes → IsHeld geometry new start blocks bytes
held-stays geometry old new start blocks bytes stays held = record {
  one_zone = held.one_zone;
  readable = stays.readable held.readable;
  bytes_are = rw stays.blocks held.bytes_are;
}

-- ---- one command

refused-spares : (refusal : Option Status) (zones : List Zone) (effect : Outcome) (i : ℕ) → zone_at effect.zones i ≡ zone_at zones i
    → zone_at (unless_refused refusal zones effect).zones i ≡ zone_at zones i
refused-spares None zones effect i same = same
refused-spares (Some status) zones effect i same = refl

set-spares : (zones : List Zone) (index i : ℕ) (zone : Zone) → index ≢ i → zone_at (slice_set zones index zone) i ≡ zone_at zones i
set-spares zones index i zone other = get_or-set_other zones index i zone nowhere (λ e. other (sym e))

outcome-spares : (geometry : Geometry) (zones : List Zone) (command : Command) (bytes : List ℕ) (i : ℕ) → Spares geometry command i
    → zone_at (outcome geometry zones (Ok command) bytes).zones i ≡ zone_at zones i
unfolding outcome
outcome-spares geometry zones Flush bytes i spares = refl
outcome-spares geometry zones (Read slba blocks) bytes i spares = refused-spares _ zones _ i refl
outcome-spares geometry zones (Write slba blocks) bytes i spares = refused-spares _ zones _ i (set-spares zones (slba / geometry.size) i _ spares)
outcome-spares geometry zones (Append zslba blocks) bytes i spares = refused-spares _ zones _ i (set-spares zones (zslba / geometry.size) i _ spares)
outcome-spares geometry zones (Send slba action true) bytes i spares = absurd spares
outcome-spares geometry zones (Send slba action false) bytes i spares = refused-spares _ zones _ i (set-spares zones (slba / geometry.size) i _ spares)
outcome-spares geometry zones (Receive slba dwords options partial) bytes i spares = refused-spares _ zones _ i refl

effect-stays : (geometry : Geometry) (old new : List Zone) (command : Command) (bytes : List ℕ) (status : Status) (value : ℕ) (returned : List ℕ) (i : ℕ)
    → Spares geometry command i → Effect geometry old (Ok command) bytes status value returned new → Stays (zone_at old i) (zone_at new i)
effect-stays geometry old new command bytes status value returned i spares effect =
    let given = outcome geometry effect.middle (Ok command) bytes in
    let after : Stays (zone_at effect.middle i) (zone_at new i) = rw (outcome-spares geometry effect.middle command bytes i spares) at (stays-closing given.zones new i effect.after) in
    Stays-trans (zone_at old i) (zone_at effect.middle i) (zone_at new i) (stays-closing old effect.middle i effect.before) after

torn-stays : (geometry : Geometry) (old new : List Zone) (command : Command) (bytes : List ℕ) (i : ℕ)
    → Spares geometry command i → Torn geometry old (Ok command) bytes new → Stays (zone_at old i) (zone_at new i)
torn-stays geometry old new Flush bytes i spares torn = absurd torn
torn-stays geometry old new (Read slba blocks) bytes i spares torn = absurd torn
torn-stays geometry old new (Write slba blocks) bytes i spares torn = absurd torn
torn-stays geometry old new (Append zslba blocks) bytes i spares torn =
    effect-stays geometry old new (Append zslba torn.j) (take (torn.j * geometry.block) bytes) _ torn.value torn.returned i spares torn.effect
torn-stays geometry old new (Send slba action all) bytes i spares torn = absurd torn
torn-stays geometry old new (Receive slba dwords options partial) bytes i spares torn = absurd torn

-- a zone that a command spares stays, whatever is left of the command
pub stays-left : (geometry : Geometry) (old new : List Zone) (command : Command) (bytes : List ℕ) (i : ℕ)
    → Spares geometry command i → LeftBy geometry old (Ok command) bytes new → Stays (zone_at old i) (zone_at new i)
stays-left geometry old new command bytes i spares left =
    elim left [
      | inl closing ↦ stays-closing old new i closing
      | inr (inl whole) ↦ effect-stays geometry old new command bytes whole.status whole.value whole.returned i spares whole.effect
      | inr (inr torn) ↦ torn-stays geometry old new command bytes i spares torn
    ]
