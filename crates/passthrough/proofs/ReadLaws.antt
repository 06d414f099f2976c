-- What a Read asks of the drive, and what is above it.
use Rattle.std.proofs.Common.{◌≡◌, ◌≢◌, ◌⊎◌, ℕ, zero, suc, ◌+◌, ◌-◌, ◌*◌, ◌/◌, ◌%◌, ◌<◌, ◌≤◌, false, true, List, [], ◌∷◌, ◌++◌, length, replicate, Option, Some, None, Ok, refl, sym, ap, ◌∙◌, inl, inr, arith}
use Rattle.std.specs.Prelude.{min, unwrap_or, is_some, IfSome}
use Rattle.std.specs.List.{AllByRecursion}
use Rattle.std.proofs.lemmas.Bool.{eq-eqb, le-ltb}
use Rattle.std.proofs.lemmas.List.{append_assoc, drop-replicate, get_or_past}
use Rattle.std.proofs.lemmas.Nat.{div-mul-add}
use Rattle.std.proofs.Math.Nat.{div-lt_iff_lt-mul, eq-or-lt_of_le, mod-add-div', mul_comm, mul-le-mul_right, mul-sub}
use Rattle.nvme_wire.specs.declared.zone_state.ZoneState.{ZoneState}
use Rattle.nvme_wire.specs.declared.zone_state.ZoneState.TheVariants.{Empty, ImplicitlyOpened, ExplicitlyOpened, Closed, ReadOnly, Full, Offline}
use Rattle.zone_states.specs.Geometry.{IsInRange}
use Rattle.zone_states.specs.Transition.{is_state}
use Rattle.zone_states.specs.Zone.{IsLawfulZone, Zone}
use Rattle.zone_states.specs.declared.geometry.Geometry.{Geometry}
use Rattle.zone_states.proofs.HoldLaws.{may_hold-most}
use Rattle.nvme_wire.specs.declared.command.Command.TheVariants.{Read}
use Rattle.nvme_wire.specs.declared.status.Status.TheVariants.{Success}
use Rattle.drive_port.specs.Drive.{ClosesOne, IsClosing}
use Rattle.drive_port.specs.Step.{Effect, block_in, bytes_from, end_of, read_checks, zone_at}
use Rattle.drive_port.proofs.CheckLaws.{AllPass}
use Rattle.drive_port.proofs.ClosingLaws.{IsClosing-refl, zone_at-closing}
use Rattle.drive_port.proofs.StepLaws.{outcome-passes, succeeded}
use Rattle.passthrough.specs.Premise.{AreLawful, zone_of}
use Rattle.passthrough.specs.Reading.{GivesFront, IsAskedFor, ReadsFront}
use Rattle.passthrough.specs.Seen.{AreSeen, IsState, seen_at}
use Rattle.passthrough.specs.declared.seen_zone.SeenZone.{SeenZone}
use Rattle.passthrough.proofs.ReadyLaws.{pointer-has, zone-there}
use Rattle.passthrough.proofs.SeenLaws.{pointer-seen, seen-count}

-- a zone of a lawful drive holds no more blocks than its capacity
pub holds-few : (geometry : Geometry) (zones : List Zone) (i : ℕ) → AllByRecursion (IsLawfulZone geometry) zones → i < length zones → length (zone_at zones i).blocks ≤ geometry.capacity
holds-few geometry [] i all low = absurd (omega (arith, low))
holds-few geometry (z ∷ zs) zero all low = may_hold-most z.state geometry.capacity (length z.blocks) all.0.written
holds-few geometry (z ∷ zs) (suc i) all low = holds-few geometry zs i all.1 (omega (arith, low))

-- a zone that was seen in another state is not Offline
online : (seen state : ZoneState) → seen ≢ Offline → IsState seen state → is_state Offline state ≡ false
online seen state other is = elim is [
  | inl same ↦ not-offline state (λ e. other (sym same ∙ e))
  | inr closed ↦ rw closed.1 refl
]
  where
    not-offline : (s : ZoneState) → s ≢ Offline → is_state Offline s ≡ false
    not-offline Empty differ = refl
    not-offline ImplicitlyOpened differ = refl
    not-offline ExplicitlyOpened differ = refl
    not-offline Closed differ = refl
    not-offline ReadOnly differ = refl
    not-offline Full differ = refl
    not-offline Offline differ = absurd (differ refl)

-- blocks of one zone end where it ends at most
zone-ends : (size zones address blocks : ℕ) → address < zones * size → address % size + blocks ≤ size → address + blocks ≤ zones * size
zone-ends size zones address blocks low fits =
    let some : 0 < size = grind (arith, low) in
    let below : address / size < zones = (div-lt_iff_lt-mul some).1 low in
    let parts = mod-add-div' address size in
    let whole : (address / size + 1) * size ≤ zones * size = mul-le-mul_right size (omega (arith, below)) in
    let one : (address / size + 1) * size ≡ address / size * size + size = grind arith in
    omega (arith, parts, whole, one, fits)

-- and lie in it
same-zone : (size address blocks : ℕ) → 1 ≤ blocks → address % size + blocks ≤ size → address / size ≡ (address + blocks - 1) / size
same-zone size address blocks some fits =
    let parts = mod-add-div' address size in
    let last : address + blocks - 1 ≡ address / size * size + (address % size + blocks - 1) = omega (arith, parts, some) in
    rw last (sym (div-mul-add (address / size) size (address % size + blocks - 1) (omega (arith, some, fits))))

-- how many blocks the drive is asked for
pub asked-for : (geometry : Geometry) (zones : List Zone) (seen : List SeenZone) (slba blocks count end : ℕ) → IsInRange geometry → 1 ≤ blocks
    → (blocks ≤ geometry.transfer) × (slba < end_of geometry) × (slba % geometry.size + blocks ≤ geometry.size)
    → (seen_at seen (slba / geometry.size)).state ≢ Offline
    → end ≡ slba - slba % geometry.size + unwrap_or (seen_at seen (slba / geometry.size)).written geometry.capacity → count ≡ min (end - slba) blocks
    → AreLawful geometry zones → AreSeen zones seen → IsAskedFor geometry zones slba blocks count end
asked-for geometry zones seen slba blocks count end in_range some fits other ends is lawful are =
    let index = slba / geometry.size in
    let low = zone-there geometry zones slba lawful fits.1 in
    let one = are.each index low in
    let few = holds-few geometry zones index lawful.each low in
    let readable = online (seen_at seen index).state (zone_at zones index).state other one.state in
    let parts = mod-add-div' slba geometry.size in
    let most = written-most (seen_at seen index).written one.written few in
    record {
      transfer = fits.0;
      in_range = zone-ends geometry.size geometry.zones slba blocks fits.1 fits.2;
      one_zone = same-zone geometry.size slba blocks some fits.2;
      readable = readable;
      few = omega (arith, is);
      sent = λ any. record {
        few = omega (arith, is, fits.0);
        in_range = fits.1;
        readable = readable;
        reaches = omega (arith, is, any);
        within = omega (arith, ends, parts, most.1);
        below = λ next e.
            let has = pointer-has geometry index next (zone_at zones index) e in
            let known = count-known (seen_at seen index) (seen-count (zone_at zones index) (seen_at seen index) one has.0) (one.known (pointer-seen _ _ one.state has.0)) in
            omega (arith, ends, parts, has.1, known);
        returned = refl;
      };
      rest = split (eq-or-lt_of_le (omega (arith, is))) most.0;
    }
  where
    written-most : (written : Option ℕ) → IfSome written (λ n. length (zone_of geometry zones slba).blocks ≡ n) → length (zone_of geometry zones slba).blocks ≤ geometry.capacity
        → (length (zone_of geometry zones slba).blocks ≤ unwrap_or written geometry.capacity) × (unwrap_or written geometry.capacity ≤ geometry.capacity)
    written-most None h few = (few, omega arith)
    written-most (Some n) h few = (omega (arith, h), omega (arith, h, few))

    count-known : (row : SeenZone) → unwrap_or row.written 0 ≡ length (zone_of geometry zones slba).blocks → is_some row.written ≡ true
        → unwrap_or row.written geometry.capacity ≡ length (zone_of geometry zones slba).blocks
    count-known row e known = go row.written e known
      where
        go : (written : Option ℕ) → unwrap_or written 0 ≡ length (zone_of geometry zones slba).blocks → is_some written ≡ true
            → unwrap_or written geometry.capacity ≡ length (zone_of geometry zones slba).blocks
        go None e known = absurd (cc known)
        go (Some n) e known = e

    split : (count ≡ blocks) ⊎ (count < blocks) → length (zone_of geometry zones slba).blocks ≤ unwrap_or (seen_at seen (slba / geometry.size)).written geometry.capacity
        → (count ≡ blocks) ⊎ (length (zone_of geometry zones slba).blocks ≤ slba % geometry.size + count)
    split (inl same) most = inl same
    split (inr fewer) most = inr (omega (arith, is, ends, fewer, most, mod-add-div' slba geometry.size))

-- ---- what is read

plus-none : (n : ℕ) → n + 0 ≡ n
plus-none n = omega arith

none-plus : (n : ℕ) → 0 + n ≡ n
none-plus n = omega arith

suc-plus : (m n : ℕ) → suc m + n ≡ suc (m + n)
suc-plus m n = omega arith

none-times : (n : ℕ) → 0 * n ≡ 0
none-times n = omega arith

zeros-join : (m n : ℕ) → replicate {A = ℕ} m 0 ++ replicate n 0 ≡ replicate (m + n) 0
zeros-join zero n = rw (none-plus n) refl
zeros-join (suc m) n = rw (suc-plus m n) (ap (λ (xs : List ℕ). 0 ∷ xs) (zeros-join m n))

none-at : (size : ℕ) → replicate {A = ℕ} (0 * size) 0 ≡ []
none-at size = rw (none-times size) refl

-- blocks that are not written are zeros
bytes-above : (size : ℕ) (blocks : List (List ℕ)) (offset count : ℕ) → length blocks ≤ offset → bytes_from size blocks offset count ≡ replicate (count * size) 0
bytes-above size blocks offset zero past = sym (none-at size)
bytes-above size blocks offset (suc count) past =
    rw (get_or_past blocks offset (replicate size 0) past, bytes-above size blocks (offset + 1) count (omega (arith, past)))
    (zeros-join size (count * size) ∙ ap (λ (n : ℕ). replicate n 0) (suc-times count size))
  where
    suc-times : (n m : ℕ) → m + n * m ≡ suc n * m
    suc-times n m = grind arith

-- and come after those that are
bytes-join : (size : ℕ) (blocks : List (List ℕ)) (offset few more : ℕ) → bytes_from size blocks offset (few + more) ≡ bytes_from size blocks offset few ++ bytes_from size blocks (offset + few) more
bytes-join size blocks offset zero more = rw (plus-none offset, none-plus more) refl
bytes-join size blocks offset (suc few) more =
    let next : offset + 1 + few ≡ offset + suc few = omega arith in
    rw (suc-plus few more, ← next) (ap (λ (xs : List ℕ). block_in size blocks offset ++ xs) (bytes-join size blocks (offset + 1) few more)
    ∙ sym (append_assoc (block_in size blocks offset) (bytes_from size blocks (offset + 1) few) (bytes_from size blocks (offset + 1 + few) more)))

-- a Read that is not refused shows these bytes
reads-so : (geometry : Geometry) (old middle new : List Zone) (slba blocks count : ℕ) {end : ℕ} (returned : List ℕ) → IsAskedFor geometry old slba blocks count end
    → IsClosing old middle → IsClosing middle new → returned ≡ bytes_from geometry.block (zone_of geometry middle slba).blocks (slba % geometry.size) blocks
    → Effect geometry old (Ok (Read slba blocks)) [] Success 0 returned new
reads-so geometry old middle new slba blocks count {end} returned asked before after is =
    let closed = zone_at-closing old middle (slba / geometry.size) before in
    let readable = offline-closes (zone_of geometry old slba) (zone_of geometry middle slba) closed asked.readable in
    let passes : AllPass (read_checks geometry (zone_of geometry middle slba) slba blocks) =
    (le-ltb _ _ asked.transfer, (le-ltb _ _ asked.in_range, (rw (eq-eqb _ _ asked.one_zone) refl, (readable, tt)))) in
    let gives = outcome-passes geometry middle (Ok (Read slba blocks)) [] passes in
    record {
      middle = middle;
      before = before;
      status_is = rw gives refl;
      value_is = rw gives refl;
      returned_is = rw gives is;
      after = rw gives after;
    }
  where
    offline-closes : (z y : Zone) → ClosesOne z y → is_state Offline z.state ≡ false → is_state Offline y.state ≡ false
    offline-closes z y one e =
        elim one.state [
          | inl same ↦ rw same e
          | inr closed ↦ rw closed.1 refl
        ]

times-less : (a b c : ℕ) → (a - b) * c ≡ a * c - b * c
times-less a b c = rw (mul_comm (a - b) c, mul_comm a c, mul_comm b c) (mul-sub c a b)

none-less : (n : ℕ) → n - n ≡ 0
none-less n = omega arith

-- the front that was read, and zeros after it, are what the Read shows
pub read-joins : (geometry : Geometry) (old new : List Zone) (slba blocks count : ℕ) {end : ℕ} (front : List ℕ) → 1 ≤ blocks → IsAskedFor geometry old slba blocks count end
    → GivesFront geometry old slba count front new
    → Effect geometry old (Ok (Read slba blocks)) [] Success 0 (front ++ replicate (blocks * geometry.block - count * geometry.block) 0) new
read-joins geometry old new slba blocks count {end} front some asked gives = joins gives
  where
    over : blocks * geometry.block - count * geometry.block ≡ (blocks - count) * geometry.block
    over = sym (times-less blocks count geometry.block)

    -- nothing was asked for
    nothing : count ≡ 0 → Effect geometry old (Ok (Read slba blocks)) [] Success 0 ([] ++ replicate (blocks * geometry.block - count * geometry.block) 0) old
    nothing zero_is = elim asked.rest [
      | inl same ↦ absurd (omega (arith, same, zero_is, some))
      | inr past ↦ reads-so geometry old old old slba blocks count _ asked (IsClosing-refl old) (IsClosing-refl old)
          (rw zero_is (ap (λ (n : ℕ). replicate n 0) (omega arith)) ∙ sym (bytes-above geometry.block (zone_of geometry old slba).blocks (slba % geometry.size) blocks (omega (arith, past, zero_is))))
    ]

    -- or some blocks were
    something : Effect geometry old (Ok (Read slba count)) [] Success 0 front new
        → Effect geometry old (Ok (Read slba blocks)) [] Success 0 (front ++ replicate (blocks * geometry.block - count * geometry.block) 0) new
    something effect =
        let s = succeeded geometry old new (Ok (Read slba count)) [] front 0 effect in
        let after : IsClosing effect.middle new = rw (outcome-passes geometry effect.middle (Ok (Read slba count)) [] s.passed) at effect.after in
        let closed = zone_at-closing old effect.middle (slba / geometry.size) effect.before in
        let zone = (zone_of geometry effect.middle slba).blocks in
        let rest : replicate (blocks * geometry.block - count * geometry.block) 0 ≡ bytes_from geometry.block zone (slba % geometry.size + count) (blocks - count) =
        elim asked.rest [
          | inl same ↦ rw (same, none-less (blocks * geometry.block), none-less blocks) refl
          | inr past ↦ ap (λ (n : ℕ). replicate n 0) over ∙ sym (bytes-above geometry.block zone (slba % geometry.size + count) (blocks - count) (rw (← closed.blocks) at past))
        ] in
        let all : count + (blocks - count) ≡ blocks = omega (arith, asked.few) in
        reads-so geometry old effect.middle new slba blocks count _ asked effect.before after
        (rw (s.returned_is, rest) (sym (bytes-join geometry.block zone (slba % geometry.size) count (blocks - count))) ∙ ap (λ (n : ℕ). bytes_from geometry.block zone (slba % geometry.size) n) all)

    joins : GivesFront geometry old slba count front new
        → Effect geometry old (Ok (Read slba blocks)) [] Success 0 (front ++ replicate (blocks * geometry.block - count * geometry.block) 0) new
    joins (inl none) = rw (none.1, none.2) (nothing none.0)
    joins (inr effect) = something effect

-- a room of zeros into whose front blocks were read
pub room-joins : (geometry : Geometry) (old new : List Zone) (slba blocks count : ℕ) {end : ℕ} (before after : List ℕ) → 1 ≤ blocks → IsAskedFor geometry old slba blocks count end
    → before ≡ replicate (blocks * geometry.block) 0 → ReadsFront geometry old slba count before after new
    → Effect geometry old (Ok (Read slba blocks)) [] Success 0 after new
room-joins geometry old new slba blocks count {end} before after some asked zeros reads =
    rw (reads.joined, zeros, drop-replicate {X = ℕ} (count * geometry.block) (blocks * geometry.block) 0) (read-joins geometry old new slba blocks count reads.front some asked reads.gives)
