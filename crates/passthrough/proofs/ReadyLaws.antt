-- What was seen stays true of the zones of a drive that is served.
use Rattle.std.proofs.Common.{Result, ◌≡◌, ℕ, ◌+◌, ◌*◌, ◌/◌, ◌%◌, ◌<◌, ◌≤◌, Bool, false, true, List, [], length, Some, Ok, refl, sym, ◌∙◌, inl, inr, arith}
use Rattle.std.specs.Prelude.{slice_set}
use Rattle.std.proofs.Math.Nat.{div-lt_iff_lt-mul, mod-add-div'}
use Rattle.nvme_wire.specs.declared.command.Action.{Action}
use Rattle.nvme_wire.specs.declared.command.Command.{Command}
use Rattle.nvme_wire.specs.declared.command.Command.TheVariants.{Flush, Read, Write, Append, Send, Receive}
use Rattle.nvme_wire.specs.declared.command.DecodeFault.{DecodeFault}
use Rattle.nvme_wire.specs.declared.status.Status.{Status}
use Rattle.nvme_wire.specs.declared.status.Status.TheVariants.{Success}
use Rattle.nvme_wire.specs.declared.zone_state.ZoneState.{ZoneState}
use Rattle.nvme_wire.specs.declared.zone_state.ZoneState.TheVariants.{Empty, ImplicitlyOpened, ExplicitlyOpened, Closed, ReadOnly, Full, Offline}
use Rattle.zone_report.specs.Report.{pointer_of}
use Rattle.zone_states.specs.Transition.{state_after}
use Rattle.zone_states.specs.Zone.{Zone, cut_blocks, written_zone}
use Rattle.zone_states.specs.declared.geometry.Geometry.{Geometry}
use Rattle.drive_port.specs.Drive.{ClosesOne, IsClosing}
use Rattle.drive_port.specs.Step.{Effect, end_of, is_append, is_refusal, outcome, zone_after, zone_at}
use Rattle.drive_port.specs.Halting.{LeftBy}
use Rattle.drive_port.proofs.ClosingLaws.{IsClosing-trans}
use Rattle.drive_port.proofs.HaltLaws.{is_query, left-done}
use Rattle.drive_port.proofs.StepLaws.{outcome-passes, succeeded}
use Rattle.passthrough.specs.Asking.{IsReady, Leads}
use Rattle.passthrough.specs.Premise.{Answers, AreLawful, IsSentAction, IsSentAppend, is_sent, pointer, pointer_at}
use Rattle.passthrough.specs.Seen.{IsSeen, has_pointer, seen_at}
use Rattle.passthrough.specs.declared.seen_zone.SeenZone.{SeenZone}
use Rattle.passthrough.proofs.SeenLaws.{seen-action, seen-append, seen-closes, seen-closing}

-- the zone of an address of the drive is one of its zones
pub zone-there : (geometry : Geometry) (zones : List Zone) (address : ℕ) → AreLawful geometry zones → address < end_of geometry → address / geometry.size < length zones
zone-there geometry zones address lawful low =
    let some : 0 < geometry.size = grind (arith, low) in
    let below : address / geometry.size < geometry.zones = (div-lt_iff_lt-mul some).1 low in
    omega (arith, below, lawful.count)

-- after an action to one zone
pub ready-action : (geometry shape next_shape : Geometry) (old new : List Zone) (seen : List SeenZone) (slba : ℕ) (action : Action) (value : ℕ) (returned : List ℕ) (now : SeenZone)
    → IsReady geometry shape old seen → IsSentAction geometry old slba action [] 0
    → Effect shape old (Ok (Send slba action false)) [] Success value returned new → next_shape ≡ shape → AreLawful next_shape new
    → ((zone : Zone) → IsSeen zone (seen_at seen (slba / geometry.size)) → is_sent action ≡ true → is_refusal (state_after zone.state action) ≡ false
    → IsSeen (zone_after action zone (state_after zone.state action)) now)
    → IsReady geometry next_shape new (slice_set seen (slba / geometry.size) now)
ready-action geometry shape next_shape old new seen slba action value returned now ready sent effect same lawful acts =
    let index = slba / geometry.size in
    let low = zone-there geometry old slba ready.leads.lawful sent.in_range in
    let is = same ∙ ready.leads.shape_is in
    record {
      leads = record { shape_is = is; in_range = ready.leads.in_range; lawful = rw is at lawful };
      are = seen-action geometry old new seen slba action value [] returned now ready.are (rw ready.leads.shape_is at effect)
          (λ zone one admitted. acts zone (seen-closes _ zone _ (ready.are.each index low) one) sent.kind admitted);
    }

-- a zone with a pointer is in a state that has one, and is written up to it
pub pointer-has : (geometry : Geometry) (number next : ℕ) (zone : Zone) → pointer geometry number zone ≡ Some next
    → (has_pointer zone.state ≡ true) × (next ≡ number * geometry.size + length zone.blocks)
pointer-has geometry number next zone e = has zone.state e
  where
    has : (state : ZoneState) → pointer_of state (number * geometry.size + length zone.blocks) ≡ Some next
        → (has_pointer state ≡ true) × (next ≡ number * geometry.size + length zone.blocks)
    has Empty e = (refl, sym (cc e))
    has ImplicitlyOpened e = (refl, sym (cc e))
    has ExplicitlyOpened e = (refl, sym (cc e))
    has Closed e = (refl, sym (cc e))
    has ReadOnly e = absurd (cc e)
    has Full e = absurd (cc e)
    has Offline e = absurd (cc e)

-- a zone that is closed still has it
pub pointed-closes : (old new : Zone) → ClosesOne old new → has_pointer old.state ≡ true → has_pointer new.state ≡ true
pointed-closes old new one pointed = elim one.state [
  | inl same ↦ rw same pointed
  | inr closed ↦ rw closed.1 refl
]

-- an aligned address is the start of its zone
aligned-start : (size address : ℕ) → address % size ≡ 0 → address ≡ address / size * size
aligned-start size address e = let parts = mod-add-div' address size in omega (arith, parts, e)

-- after an Append
pub ready-append : (geometry shape next_shape : Geometry) (old new : List Zone) (seen : List SeenZone) (zslba blocks value : ℕ) (bytes returned : List ℕ) (now : SeenZone)
    → IsReady geometry shape old seen → IsSentAppend geometry old zslba blocks bytes 0
    → Effect geometry old (Ok (Append zslba blocks)) bytes Success value returned new → next_shape ≡ shape → AreLawful next_shape new
    → ((zone : Zone) (written : List ℕ) → IsSeen zone (seen_at seen (zslba / geometry.size)) → has_pointer zone.state ≡ true → length zone.blocks + blocks ≤ geometry.capacity
    → IsSeen (written_zone geometry.capacity zone (cut_blocks geometry.block blocks written)) now)
    → IsReady geometry next_shape new (slice_set seen (zslba / geometry.size) now)
ready-append geometry shape next_shape old new seen zslba blocks value bytes returned now ready sent effect same lawful appends =
    let index = zslba / geometry.size in
    let low = zone-there geometry old zslba ready.leads.lawful sent.in_range in
    let is = same ∙ ready.leads.shape_is in
    let has = pointer-has geometry index sent.next (zone_at old index) sent.writable in
    let start = aligned-start geometry.size zslba sent.aligned in
    let room : length (zone_at old index).blocks + blocks ≤ geometry.capacity = omega (arith, has.1, start, sent.fits) in
    record {
      leads = record { shape_is = is; in_range = ready.leads.in_range; lawful = rw is at lawful };
      are = seen-append geometry old new seen zslba blocks value bytes returned now ready.are effect
          (λ zone one. appends zone bytes (seen-closes _ zone _ (ready.are.each index low) one) (pointed-closes _ zone one has.0) (rw (← one.blocks) at room));
    }

-- an Append that is believed: it went to the address that was awaited
pub believed-append : (geometry shape : Geometry) (old new : List Zone) (zslba blocks : ℕ) (bytes room : List ℕ) (value next : ℕ) {status : ℕ} → shape ≡ geometry
    → Answers shape old (Append zslba blocks) bytes status value room new → status ≡ 0 → value ≡ next → pointer_at geometry old zslba ≡ Some next
    → Effect geometry old (Ok (Append zslba blocks)) bytes Success value room new
believed-append geometry shape old new zslba blocks bytes room value next is answers done same waits =
    (rw is at answers.believed) done (rw same waits)

-- an Append returns no bytes
pub appended-nothing : (geometry : Geometry) (old new : List Zone) (zslba blocks : ℕ) (bytes returned : List ℕ) (value : ℕ)
    → Effect geometry old (Ok (Append zslba blocks)) bytes Success value returned new → Effect geometry old (Ok (Append zslba blocks)) bytes Success value [] new
appended-nothing geometry old new zslba blocks bytes returned value effect =
    rw (succeeded geometry old new (Ok (Append zslba blocks)) bytes returned value effect).returned_is at effect

-- nor does an action
pub acted-nothing : (geometry : Geometry) (old new : List Zone) (slba : ℕ) (action : Action) (bytes returned : List ℕ) (value : ℕ)
    → Effect geometry old (Ok (Send slba action false)) bytes Success value returned new → Effect geometry old (Ok (Send slba action false)) bytes Success value [] new
acted-nothing geometry old new slba action bytes returned value effect =
    rw (succeeded geometry old new (Ok (Send slba action false)) bytes returned value effect).returned_is at effect

-- ---- commands that change no zone

-- a command that only asks does no more to the zones than the controller may by itself
pub query-closes : (geometry : Geometry) (old new : List Zone) (command : Command) (bytes returned : List ℕ) (value : ℕ) → is_query command ≡ true
    → Effect geometry old (Ok command) bytes Success value returned new → IsClosing old new
query-closes geometry old new Flush bytes returned value query effect =
    IsClosing-trans old effect.middle new effect.before (rw (outcome-passes geometry effect.middle (Ok Flush) bytes tt) at effect.after)
query-closes geometry old new (Read slba blocks) bytes returned value query effect =
    let s = succeeded geometry old new (Ok (Read slba blocks)) bytes returned value effect in
    IsClosing-trans old effect.middle new effect.before (rw (outcome-passes geometry effect.middle (Ok (Read slba blocks)) bytes s.passed) at effect.after)
query-closes geometry old new (Receive slba dwords options partial) bytes returned value query effect =
    let s = succeeded geometry old new (Ok (Receive slba dwords options partial)) bytes returned value effect in
    IsClosing-trans old effect.middle new effect.before (rw (outcome-passes geometry effect.middle (Ok (Receive slba dwords options partial)) bytes s.passed) at effect.after)
query-closes geometry old new (Write slba blocks) bytes returned value query effect = absurd (cc query)
query-closes geometry old new (Append zslba blocks) bytes returned value query effect = absurd (cc query)
query-closes geometry old new (Send slba action all) bytes returned value query effect = absurd (cc query)

query-other : (command : Command) → is_query command ≡ true → is_append (Ok command) ≡ false
query-other Flush e = refl
query-other (Read slba blocks) e = refl
query-other (Receive slba dwords options partial) e = refl
query-other (Write slba blocks) e = absurd (cc e)
query-other (Append zslba blocks) e = absurd (cc e)
query-other (Send slba action all) e = absurd (cc e)

-- and so where it was not completed
pub query-left : (geometry : Geometry) (old new : List Zone) (command : Command) (bytes : List ℕ) → is_query command ≡ true
    → LeftBy geometry old (Ok command) bytes new → IsClosing old new
query-left geometry old new command bytes query left =
    elim (left-done geometry old new command bytes (query-other command query) left) [
      | inl closing ↦ closing
      | inr done ↦ query-closes geometry old new command bytes done.returned done.value query done.effect
    ]

-- ---- after a closing

-- a way still leads to the drive
pub leads-after : (geometry shape next_shape : Geometry) (old new : List Zone) → Leads geometry shape old → next_shape ≡ shape → AreLawful next_shape new → Leads geometry next_shape new
leads-after geometry shape next_shape old new leads same lawful =
    let is = same ∙ leads.shape_is in
    record { shape_is = is; in_range = leads.in_range; lawful = rw is at lawful }

-- a drive is served as before
pub ready-closing : (geometry shape next_shape : Geometry) (old new : List Zone) (seen : List SeenZone) → IsReady geometry shape old seen
    → Leads geometry next_shape new → IsClosing old new → IsReady geometry next_shape new seen
ready-closing geometry shape next_shape old new seen ready leads closing = record { leads = leads; are = seen-closing old new seen ready.are closing }

-- a command that was completed, and a closing after it
pub effect-closes : (geometry : Geometry) (old middle new : List Zone) (command : Command) (bytes returned : List ℕ) (value : ℕ)
    → Effect geometry old (Ok command) bytes Success value returned middle → IsClosing middle new → Effect geometry old (Ok command) bytes Success value returned new
effect-closes geometry old middle new command bytes returned value effect closing = record {
  middle = effect.middle;
  before = effect.before;
  status_is = effect.status_is;
  value_is = effect.value_is;
  returned_is = effect.returned_is;
  after = IsClosing-trans _ _ _ effect.after closing;
}

-- a closing, and then a command
pub effect-later : (geometry : Geometry) (old middle new : List Zone) (command : Result Command DecodeFault) (bytes returned : List ℕ) (status : Status) (value : ℕ)
    → IsClosing old middle → Effect geometry middle command bytes status value returned new → Effect geometry old command bytes status value returned new
effect-later geometry old middle new command bytes returned status value closing effect = record {
  middle = effect.middle;
  before = IsClosing-trans _ _ _ closing effect.before;
  status_is = effect.status_is;
  value_is = effect.value_is;
  returned_is = effect.returned_is;
  after = effect.after;
}

-- and one that was not completed
pub left-later : (geometry : Geometry) (old middle new : List Zone) (slba : ℕ) (action : Action) (bytes : List ℕ) → IsClosing old middle
    → LeftBy geometry middle (Ok (Send slba action false)) bytes new → LeftBy geometry old (Ok (Send slba action false)) bytes new
left-later geometry old middle new slba action bytes closing (inl closes) = inl (IsClosing-trans _ _ _ closing closes)
left-later geometry old middle new slba action bytes closing (inr (inl whole)) = inr (inl (record {
  status = whole.status;
  value = whole.value;
  returned = whole.returned;
  effect = effect-later geometry old middle new (Ok (Send slba action false)) bytes whole.returned whole.status whole.value closing whole.effect;
}))
left-later geometry old middle new slba action bytes closing (inr (inr torn)) = absurd torn

-- it may as well be that its answer was lost
pub effect-left : (geometry : Geometry) (old new : List Zone) (command : Command) (bytes returned : List ℕ) (value : ℕ)
    → Effect geometry old (Ok command) bytes Success value returned new → LeftBy geometry old (Ok command) bytes new
effect-left geometry old new command bytes returned value effect = inr (inl (record { status = Success; value = value; returned = returned; effect = effect }))

-- ---- commands without data

-- a command that carries no data
abbrev pub is_bare : Command → Bool
is_bare (Write slba blocks) = false
is_bare (Append zslba blocks) = false
is_bare command = true

outcome-bare : (geometry : Geometry) (zones : List Zone) (command : Command) (bytes : List ℕ) → is_bare command ≡ true
    → outcome geometry zones (Ok command) [] ≡ outcome geometry zones (Ok command) bytes
unfolding outcome
outcome-bare geometry zones Flush bytes e = refl
outcome-bare geometry zones (Read slba blocks) bytes e = refl
outcome-bare geometry zones (Send slba action true) bytes e = refl
outcome-bare geometry zones (Send slba action false) bytes e = refl
outcome-bare geometry zones (Receive slba dwords options partial) bytes e = refl
outcome-bare geometry zones (Write slba blocks) bytes e = absurd (cc e)
outcome-bare geometry zones (Append zslba blocks) bytes e = absurd (cc e)

-- does not look at what is handed in with it
pub effect-bare : (geometry : Geometry) (old new : List Zone) (command : Command) (bytes returned : List ℕ) (status : Status) (value : ℕ) → is_bare command ≡ true
    → Effect geometry old (Ok command) [] status value returned new → Effect geometry old (Ok command) bytes status value returned new
effect-bare geometry old new command bytes returned status value bare effect =
    let same = outcome-bare geometry effect.middle command bytes bare in
    record {
      middle = effect.middle;
      before = effect.before;
      status_is = rw same at effect.status_is;
      value_is = rw same at effect.value_is;
      returned_is = rw same at effect.returned_is;
      after = rw same at effect.after;
    }

-- also where it was not completed
pub left-bare : (geometry : Geometry) (old new : List Zone) (slba : ℕ) (action : Action) (bytes : List ℕ)
    → LeftBy geometry old (Ok (Send slba action false)) [] new → LeftBy geometry old (Ok (Send slba action false)) bytes new
left-bare geometry old new slba action bytes (inl closing) = inl closing
left-bare geometry old new slba action bytes (inr (inl whole)) = inr (inl (record {
  status = whole.status;
  value = whole.value;
  returned = whole.returned;
  effect = effect-bare geometry old new (Send slba action false) bytes whole.returned whole.status whole.value refl whole.effect;
}))
left-bare geometry old new slba action bytes (inr (inr torn)) = absurd torn
