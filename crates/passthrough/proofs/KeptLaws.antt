-- A Read that is answered from what is kept, and one that fills what is kept.
use Rattle.std.proofs.Common.{◌≡◌, ◌⊎◌, ℕ, ◌+◌, ◌-◌, ◌*◌, ◌/◌, ◌%◌, ◌<◌, ◌≤◌, ◌∙◌, false, List, [], length, ◌++◌, take, drop, Result, Ok, length-append, refl, sym, ap, inl, inr, arith}
use Rattle.std.proofs.lemmas.Bool.{eq-eqb, eqb-true, le-ltb, not-false}
use Rattle.std.proofs.lemmas.List.{append-nil, drop_all, take_all, take_at}
use Rattle.std.proofs.lemmas.Nat.{div-mul-add, mod-mul-add}
use Rattle.std.proofs.Math.Nat.{div-lt_iff_lt-mul, mod-add-div', mul-le-mul_right}
use Rattle.nvme_wire.specs.declared.zone_state.ZoneState.TheVariants.{Offline}
use Rattle.nvme_wire.specs.declared.command.Command.{Command}
use Rattle.nvme_wire.specs.declared.command.Command.TheVariants.{Read}
use Rattle.nvme_wire.specs.declared.command.DecodeFault.{DecodeFault}
use Rattle.nvme_wire.specs.declared.status.Status.TheVariants.{Success}
use Rattle.zone_states.specs.declared.geometry.Geometry.{Geometry}
use Rattle.zone_states.specs.Zone.{Zone}
use Rattle.drive_port.specs.Drive.{ClosesOne, IsClosing}
use Rattle.drive_port.specs.Halting.{LeftBy}
use Rattle.drive_port.specs.Step.{Effect, Outcome, bytes_from, end_of, is_state, zone_at}
use Rattle.drive_port.proofs.ClosingLaws.{IsClosing-refl, IsClosing-trans, zone_at-closing}
use Rattle.drive_port.proofs.CheckLaws.{AllPass}
use Rattle.drive_port.proofs.StepLaws.{checks_of, outcome-passes, succeeded}
use Rattle.passthrough.specs.Premise.{Answers, AreLawful, IsSentRead, pointer}
use Rattle.passthrough.specs.declared.kept.Kept.{Kept}
use Rattle.passthrough.specs.Kept.{AreKept, CanFill, IsHeld, IsWithin, Spares, forgotten}
use Rattle.passthrough.proofs.PartLaws.{part-bytes, places-add, take-inside, whole-blocks}
use Rattle.passthrough.proofs.ReadyLaws.{query-left}
use Rattle.passthrough.proofs.SparedLaws.{held-stays, stays-closing, stays-left}

-- ---- addresses

-- an address of a zone that is some blocks after another
abbrev InZone : ℕ → ℕ → ℕ → ℕ → Type 0
InZone size start after address = (address / size ≡ start / size) × (address % size ≡ start % size + after)

in-zone : (size start after address : ℕ) → address ≡ start + after → start % size + after < size → InZone size start after address
in-zone size start after address is low =
    let parts : start + after ≡ start / size * size + (start % size + after) = split size start after (omega arith) in
    let same : address ≡ start / size * size + (start % size + after) = is ∙ parts in
    (ap (λ n. n / size) same ∙ div-mul-add (start / size) size (start % size + after) low, ap (λ n. n % size) same ∙ mod-mul-add (start / size) size (start % size + after) low)
  where
    split : (size start after : ℕ) → 1 ≤ size → start + after ≡ start / size * size + (start % size + after)
    split size start after some = omega arith

-- an address of a drive is in a zone of some blocks
some-blocks : (zones size address : ℕ) → address < zones * size → 1 ≤ size
some-blocks zones size address low = grind (arith, low)

-- blocks of one zone end in the drive
in-drive : (size zones address blocks : ℕ) → address < zones * size → address % size + blocks ≤ size → address + blocks ≤ zones * size
in-drive size zones address blocks low fits =
    let below : address / size < zones = (div-lt_iff_lt-mul (some-blocks zones size address low)).1 low in
    let whole : (address / size + 1) * size ≤ zones * size = mul-le-mul_right size (omega (arith, below)) in
    let one : (address / size + 1) * size ≡ address / size * size + size = grind arith in
    omega (arith, mod-add-div' address size, whole, one, fits)

-- the last of them is in the zone of the first
last-in : (size address blocks : ℕ) → 1 ≤ blocks → address % size + blocks ≤ size → address / size ≡ (address + blocks - 1) / size
last-in size address blocks some fits =
    sym (in-zone size address (blocks - 1) (address + blocks - 1) (omega (arith, some)) (omega (arith, some, fits))).0

-- and if it is, they are of one zone
all-in : (size address blocks : ℕ) → 1 ≤ size → 1 ≤ blocks → address / size ≡ (address + blocks - 1) / size → address % size + blocks ≤ size
all-in size address blocks some any same =
    let last = mod-add-div' (address + blocks - 1) size in
    let below : (address + blocks - 1) % size < size = omega (arith, some) in
    omega (arith, mod-add-div' address size, rw (← same) at last, below, any)

-- ---- an answer from what is kept

-- a Read of blocks that are held gives their bytes, and does nothing
held-effect : (geometry : Geometry) (old new : List Zone) (start count after address blocks : ℕ) (held room : List ℕ)
    → AreLawful geometry new → IsClosing old new → IsHeld geometry new start count held
    → address ≡ start + after → after + blocks ≤ count → 1 ≤ blocks → blocks ≤ geometry.transfer → address < end_of geometry
    → room ≡ take (blocks * geometry.block) (drop (after * geometry.block) held)
    → Effect geometry old (Ok (Read address blocks)) [] Success 0 room new
held-effect geometry old new start count after address blocks held room lawful closing is address_is inside some few low room_is =
    let command : Result Command DecodeFault = Ok (Read address blocks) in
    let at = in-zone geometry.size start after address address_is (omega (arith, is.one_zone)) in
    let zone = zone_at new (start / geometry.size) in
    let zone_is : zone_at new (address / geometry.size) ≡ zone = ap (zone_at new) at.0 in
    let readable : is_state Offline (zone_at new (address / geometry.size)).state ≡ false = rw zone_is is.readable in
    let fits : address % geometry.size + blocks ≤ geometry.size = omega (arith, at.1, inside, is.one_zone) in
    let ends = in-drive geometry.size geometry.zones address blocks low fits in
    let last = last-in geometry.size address blocks some fits in
    let all : AllPass (checks_of geometry new command []) = (le-ltb _ _ few, (le-ltb _ _ ends, (rw (eq-eqb _ _ last) refl, (readable, tt)))) in
    let gives = outcome-passes geometry new command [] all in
    let part = part-bytes geometry.block zone.blocks (start % geometry.size) count after blocks inside (whole-blocks geometry new (start / geometry.size) lawful.each) in
    let bytes : room ≡ bytes_from geometry.block (zone_at new (address / geometry.size)).blocks (address % geometry.size) blocks =
    rw (zone_is, at.1) (room_is ∙ ap (λ xs. take (blocks * geometry.block) (drop (after * geometry.block) xs)) is.bytes_are ∙ part) in
    record {
      middle = new;
      before = closing;
      status_is = sym (ap (λ (o : Outcome). o.status) gives);
      value_is = sym (ap (λ (o : Outcome). o.value) gives);
      returned_is = bytes ∙ sym (ap (λ (o : Outcome). o.returned) gives);
      after = rw gives (IsClosing-refl new);
    }

-- ---- a Read of what is kept

-- its bytes are within the buffer
pub kept-room : (geometry : Geometry) (zones : List Zone) (kept : Kept) (address blocks size : ℕ) → AreKept geometry zones kept → IsWithin kept address blocks
    → size ≡ blocks * geometry.block → (address - kept.start) * kept.geometry.block + size ≤ length kept.bytes.items
kept-room geometry zones kept address blocks size are within size_is =
    let inside = places-add (address - kept.start) blocks kept.blocks geometry.block (omega (arith, within.from, within.to)) in
    rw are.shape (omega (arith, inside, are.fits, size_is))

-- and it does nothing
pub kept-effect : (geometry : Geometry) (old new : List Zone) (kept : Kept) (address blocks size : ℕ) (room : List ℕ)
    → AreLawful geometry new → IsClosing old new → AreKept geometry new kept → IsWithin kept address blocks → 1 ≤ blocks
    → blocks ≤ geometry.transfer → address < end_of geometry → size ≡ blocks * geometry.block → room ≡ take size (drop ((address - kept.start) * kept.geometry.block) kept.bytes.items)
    → Effect geometry old (Ok (Read address blocks)) [] Success 0 room new
kept-effect geometry old new kept address blocks size room lawful closing are within some few low size_is room_is =
    let after = address - kept.start in
    let inside : after + blocks ≤ kept.blocks = omega (arith, within.from, within.to) in
    let places = places-add after blocks kept.blocks geometry.block inside in
    let part = take-inside (after * geometry.block) (blocks * geometry.block) (kept.blocks * geometry.block) kept.bytes.items places in
    let shown : room ≡ take (blocks * geometry.block) (drop (after * geometry.block) kept.bytes.items) = rw (size_is, are.shape) at room_is in
    held-effect geometry old new kept.start kept.blocks after address blocks _ room lawful closing (are.held (omega arith)) (omega (arith, within.from)) inside some few low
    (shown ∙ sym part)

-- what is answered to a Read that did nothing but close zones
pub read-answers : (geometry : Geometry) (old new : List Zone) (address blocks value : ℕ) (room : List ℕ) → IsClosing old new
    → Effect geometry old (Ok (Read address blocks)) [] Success 0 room new → Answers geometry old (Read address blocks) [] 0 value room new
read-answers geometry old new address blocks value room closing effect = record { believed = λ e agrees. effect; left = inl closing }

-- ---- a Read that was sent

-- it closed zones at most
pub sent-closing : (geometry : Geometry) (old new : List Zone) (address blocks status value : ℕ) (bytes room : List ℕ)
    → Answers geometry old (Read address blocks) bytes status value room new → IsClosing old new
sent-closing geometry old new address blocks status value bytes room answers = query-left geometry old new (Read address blocks) bytes refl answers.left

-- what one returned that succeeded is held
filled-held : (geometry : Geometry) (old new : List Zone) (address blocks value : ℕ) (bytes returned : List ℕ) → 1 ≤ blocks → address < end_of geometry
    → Effect geometry old (Ok (Read address blocks)) bytes Success value returned new → IsHeld geometry new address blocks returned
filled-held geometry old new address blocks value bytes returned some low effect =
    let command : Result Command DecodeFault = Ok (Read address blocks) in
    let s = succeeded geometry old new command bytes returned value effect in
    let gives = outcome-passes geometry effect.middle command bytes s.passed in
    let closing : IsClosing effect.middle new = rw gives at effect.after in
    let same = eqb-true _ _ (not-false _ s.passed.1.1.0) in
    let one_zone = all-in geometry.size address blocks (some-blocks geometry.zones geometry.size address low) some same in
    let then : IsHeld geometry effect.middle address blocks returned = record { one_zone = one_zone; readable = s.passed.1.1.1.0; bytes_are = s.returned_is } in
    held-stays geometry effect.middle new address blocks returned (stays-closing effect.middle new (address / geometry.size) closing) then

-- ---- a Read after one that closed zones

answers-closed : (geometry : Geometry) (old middle new : List Zone) (address blocks status value : ℕ) (bytes room : List ℕ) → IsClosing old middle
    → Answers geometry middle (Read address blocks) bytes status value room new → Answers geometry old (Read address blocks) bytes status value room new
answers-closed geometry old middle new address blocks status value bytes room closing answers = record {
  believed = λ e agrees.
      let effect = answers.believed e agrees in
      record {
        middle = effect.middle;
        before = IsClosing-trans old middle effect.middle closing effect.before;
        status_is = effect.status_is;
        value_is = effect.value_is;
        returned_is = effect.returned_is;
        after = effect.after;
      };
  left = inl (IsClosing-trans old middle new closing (sent-closing geometry middle new address blocks status value bytes room answers));
}

pub answers-after : (geometry shape : Geometry) (old middle new : List Zone) (address blocks status value : ℕ) (bytes room : List ℕ) → shape ≡ geometry → IsClosing old middle
    → Answers shape middle (Read address blocks) bytes status value room new → Answers geometry old (Read address blocks) bytes status value room new
answers-after geometry shape old middle new address blocks status value bytes room same closing answers =
    answers-closed geometry old middle new address blocks status value bytes room closing (rw same at answers)

-- ---- which Reads are sent

-- a Read of more blocks
pub wide-sent : (geometry : Geometry) (zones : List Zone) (kept : Kept) (address blocks end room ahead : ℕ) → IsSentRead geometry zones address blocks end room
    → kept.geometry ≡ geometry → CanFill kept address ahead end → IsSentRead geometry zones address ahead end (ahead * geometry.block)
wide-sent geometry zones kept address blocks end room ahead sent same can = record {
  few = rw same at can.few;
  in_range = sent.in_range;
  readable = sent.readable;
  reaches = can.reaches;
  within = sent.within;
  below = sent.below;
  returned = refl;
}

pointer-closed : (geometry : Geometry) (number : ℕ) (old new : Zone) → ClosesOne old new → pointer geometry number new ≡ pointer geometry number old
pointer-closed geometry number old new one = elim one.state [
  | inl same ↦ rw (same, one.blocks) refl
  | inr closed ↦ rw (closed.0, closed.1, one.blocks) refl
]

read-closed : (geometry : Geometry) (old new : List Zone) (address blocks end room later : ℕ) → IsClosing old new → later ≡ room
    → IsSentRead geometry old address blocks end room → IsSentRead geometry new address blocks end later
read-closed geometry old new address blocks end room later closing same_room sent =
    let number = address / geometry.size in
    let one = zone_at-closing old new number closing in
    record {
      few = sent.few;
      in_range = sent.in_range;
      readable = (stays-closing old new number closing).readable sent.readable;
      reaches = sent.reaches;
      within = sent.within;
      below = λ next e. sent.below next (sym (pointer-closed geometry number (zone_at old number) (zone_at new number) one) ∙ e);
      returned = same_room ∙ sent.returned;
    }

-- the same Read, after zones were closed
pub still-sent : (geometry shape : Geometry) (old new : List Zone) (address blocks end room later : ℕ) → shape ≡ geometry → IsClosing old new → later ≡ room
    → IsSentRead geometry old address blocks end room → IsSentRead shape new address blocks end later
still-sent geometry shape old new address blocks end room later same closing same_room sent =
    rw same (read-closed geometry old new address blocks end room later closing same_room sent)

-- ---- what is kept

-- what is kept of another zone stays kept
kept-stays : (geometry : Geometry) (old new : List Zone) (kept : Kept) (command : Command) (bytes : List ℕ) → (1 ≤ kept.blocks → Spares geometry command (kept.start / geometry.size))
    → LeftBy geometry old (Ok command) bytes new → AreKept geometry old kept → AreKept geometry new kept
kept-stays geometry old new kept command bytes spares left are = record {
  shape = are.shape;
  fits = are.fits;
  held = λ some. held-stays geometry old new kept.start kept.blocks _ (stays-left geometry old new command bytes (kept.start / geometry.size) (spares some) left) (are.held some);
}

nothing-kept : (geometry : Geometry) (zones : List Zone) (kept : Kept) → kept.geometry ≡ geometry → kept.blocks ≡ 0 → AreKept geometry zones kept
nothing-kept geometry zones kept shape none = record {
  shape = shape;
  fits = rw none (omega arith);
  held = λ some. absurd (omega arith);
}

-- after a command that was passed down, what it does not change is kept
pub passed-kept : (geometry : Geometry) (old new : List Zone) (was kept : Kept) (command : Command) (status value : ℕ) (bytes room : List ℕ)
    → AreKept geometry old was → (kept ≡ was) ⊎ (kept ≡ forgotten was)
    → (1 ≤ kept.blocks → Spares kept.geometry command (kept.start / kept.geometry.size))
    → Answers geometry old command bytes status value room new → AreKept geometry new kept
passed-kept geometry old new was kept command status value bytes room are same spares answers =
    elim same [
      | inl e ↦ let now : AreKept geometry old kept = rw e are in kept-stays geometry old new kept command bytes (rw now.shape at spares) answers.left now
      | inr e ↦ rw e (nothing-kept geometry new (forgotten was) are.shape refl)
    ]

-- what a Read filled is kept
pub filled-kept : (geometry : Geometry) (old new : List Zone) (was kept : Kept) (status value end : ℕ) (room : List ℕ)
    → kept.geometry ≡ geometry → CanFill was kept.start kept.blocks end → status ≡ 0 → kept.start < end_of geometry
    → Answers geometry old (Read kept.start kept.blocks) [] status value room new
    → was.geometry ≡ geometry → (length kept.bytes.items ≡ length was.bytes.items) × (take (kept.blocks * geometry.block) kept.bytes.items ≡ room)
    → AreKept geometry new kept
filled-kept geometry old new was kept status value end room shape can success low answers was_shape same =
    let room_is : kept.blocks * geometry.block ≤ length was.bytes.items = rw was_shape at can.room in
    record {
      shape = shape;
      fits = omega (arith, room_is, same.0);
      held = λ some. rw same.1 (filled-held geometry old new kept.start kept.blocks 0 [] room some low (answers.believed success tt));
    }

-- what a buffer holds whose front was written
pub front-written : (len size : ℕ) (old room back : List ℕ) → len ≡ length old → length room ≡ size → length room + length back ≡ length old
    → let bytes = take len ((room ++ back) ++ drop (length (room ++ back)) old) in (length bytes ≡ length old) × (take size bytes ≡ room)
front-written len size old room back whole front all =
    let written = room ++ back in
    let long : length written ≡ len = omega (arith, length-append room back, whole, all) in
    let none : drop (length written) old ≡ [] = drop_all (length written) old (omega arith) in
    let same : take len (written ++ drop (length written) old) ≡ written = rw (none, append-nil written) (take_all len written (omega arith)) in
    (ap length same ∙ omega (arith, long, whole), ap (take size) same ∙ take_at room back size front)
