-- What the bytes of a report show: each descriptor shows its zone.
use Rattle.std.proofs.Common.{◌≡◌, ℕ, zero, suc, ◌+◌, ◌-◌, ◌*◌, ◌/◌, ◌<◌, ◌≤◌, ◌^◌, ◌∙◌, true, List, [], ◌∷◌, ◌++◌, length, take, drop, replicate, Some, refl, sym, ap, arith, length-drop, append_assoc, add-zero}
use Rattle.std.specs.List.{AllByRecursion, flat_map}
use Rattle.std.proofs.lemmas.List.{drop-drop, drop_at, get_or-drop}
use Rattle.std.proofs.lemmas.Nat.{div-mul-add, mul-add-lt}
use Rattle.std.proofs.Math.Nat.{mul-le-mul_left}
use Rattle.byteorder.specs.Numbers.{little_number-reads_back}
use Rattle.nvme_wire.specs.declared.zone_state.ZoneState.{ZoneState}
use Rattle.nvme_wire.specs.declared.zone_state.ZoneState.TheVariants.{Empty, ImplicitlyOpened, ExplicitlyOpened, Closed, ReadOnly, Full, Offline}
use Rattle.nvme_wire.specs.declared.command.ReportingOptions.TheVariants.{AnyState}
use Rattle.nvme_wire.specs.Descriptor.{descriptor_bytes, pointer_word, report_head_bytes, state_code}
use Rattle.zone_states.specs.declared.geometry.Geometry.{Geometry}
use Rattle.zone_states.specs.Zone.{IsLawfulZone, MayHold, Zone}
use Rattle.zone_report.specs.Report.{descriptor_of, descriptor_room, matching, pointer_of, report, zone_status}
use Rattle.drive_port.specs.Drive.{IsClosing, IsStorable}
use Rattle.drive_port.specs.Step.{nowhere, zone_at}
use Rattle.drive_port.proofs.ClosingLaws.{length-closing, zone_at-closing}
use Rattle.passthrough.specs.Premise.{Reports, Shows, descriptor_in, pointer_in}

-- ---- where a descriptor is

-- after 64 bytes, others are counted from there
drop-behind : (front rest : List ℕ) (i : ℕ) → length front ≡ 64 → drop (64 + i) (front ++ rest) ≡ drop i rest
drop-behind front rest i len =
    let split : drop i (drop 64 (front ++ rest)) ≡ drop (64 + i) (front ++ rest) = drop-drop i 64 (front ++ rest) in
    let at : drop 64 (front ++ rest) ≡ rest = drop_at front rest 64 len in
    sym split ∙ ap (drop i) at

-- the descriptors of all zones from a number on: there is one for each, in order
listed-at : (geometry : Geometry) (number room i : ℕ) (zones : List Zone) (tail : List ℕ) → i < room → i < length zones
    → take 64 (drop (64 * i) (flat_map descriptor_bytes (take room (matching geometry AnyState number zones)) ++ tail))
    ≡ descriptor_bytes (descriptor_of geometry (number + i) (zone_status (zone_at zones i)))
listed-at geometry number room i [] tail shown there = absurd (omega arith)
listed-at geometry number zero i (z ∷ zs) tail shown there = absurd (omega arith)
listed-at geometry number (suc room) zero (z ∷ zs) tail shown there =
    let same : number + 0 ≡ number = omega arith in
    rw same refl
listed-at geometry number (suc room) (suc i) (z ∷ zs) tail shown there =
    let one = descriptor_bytes (descriptor_of geometry number (zone_status z)) in
    let others = flat_map descriptor_bytes (take room (matching geometry AnyState (number + 1) zs)) in
    let places : 64 * suc i ≡ 64 + 64 * i = omega arith in
    let later : number + suc i ≡ number + 1 + i = omega arith in
    let behind : drop (64 + 64 * i) (one ++ others ++ tail) ≡ drop (64 * i) (others ++ tail) =
    ap (drop (64 + 64 * i)) (append_assoc one others tail) ∙ drop-behind one (others ++ tail) (64 * i) refl in
    rw (places, behind, later) (listed-at geometry (number + 1) room i zs tail (omega arith) (omega arith))

-- each descriptor of a report of all zones is that of its zone
report-at : (geometry : Geometry) (zones : List Zone) (address dwords i : ℕ) → i < descriptor_room dwords → address / geometry.size + i < length zones
    → descriptor_in (report geometry zones address AnyState true dwords) i
    ≡ descriptor_bytes (descriptor_of geometry (address / geometry.size + i) (zone_status (zone_at zones (address / geometry.size + i))))
report-at geometry zones address dwords i shown there =
    let first = address / geometry.size in
    let room = descriptor_room dwords in
    let named = matching geometry AnyState first (drop first zones) in
    let listed = flat_map descriptor_bytes (take room named) in
    let zeros = replicate {A = ℕ} (4 * dwords - 64 - 64 * length (take room named)) 0 in
    let head = report_head_bytes (record { zones = length (take room named) }) in
    let behind : drop (64 + 64 * i) (head ++ listed ++ zeros) ≡ drop (64 * i) (listed ++ zeros) =
    ap (drop (64 + 64 * i)) (append_assoc head listed zeros) ∙ drop-behind head (listed ++ zeros) (64 * i) refl in
    let left : i < length (drop first zones) = omega (arith, length-drop first zones) in
    let zone : zone_at (drop first zones) i ≡ zone_at zones (first + i) = get_or-drop first zones i nowhere in
    ap (take 64) behind ∙ rw zone at (listed-at geometry first room i (drop first zones) zeros shown left)

-- ---- what a descriptor shows

code-back : (state : ZoneState) → 16 * state_code state / 16 ≡ state_code state
code-back Empty = refl
code-back ImplicitlyOpened = refl
code-back ExplicitlyOpened = refl
code-back Closed = refl
code-back ReadOnly = refl
code-back Full = refl
code-back Offline = refl

pointer-next : (state : ZoneState) (at next : ℕ) → pointer_of state at ≡ Some next → next ≡ at
pointer-next Empty at next e = cc
pointer-next ImplicitlyOpened at next e = cc
pointer-next ExplicitlyOpened at next e = cc
pointer-next Closed at next e = cc
pointer-next ReadOnly at next e = absurd (cc e)
pointer-next Full at next e = absurd (cc e)
pointer-next Offline at next e = absurd (cc e)

-- the descriptor of a zone shows it
shows-zone : (geometry : Geometry) (number : ℕ) (zone : Zone) (bytes : List ℕ) → number * geometry.size + length zone.blocks < 2 ^ 64 → geometry.capacity < 2 ^ 64
    → bytes ≡ descriptor_bytes (descriptor_of geometry number (zone_status zone)) → Shows geometry number zone bytes
shows-zone geometry number zone bytes small short is = record {
  sequential = rw is refl;
  state = rw is (code-back zone.state);
  capacity = rw is (little_number-reads_back 8 geometry.capacity [] short);
  start = rw is (little_number-reads_back 8 (number * geometry.size) [] (omega (arith, small)));
  pointer = λ next e.
      let at = number * geometry.size + length zone.blocks in
      let word : pointer_word (pointer_of zone.state at) ≡ next = ap pointer_word e in
      let fits : pointer_word (pointer_of zone.state at) < 2 ^ 64 = omega (arith, word, pointer-next zone.state at next e) in
      let reads : pointer_in bytes ≡ pointer_word (pointer_of zone.state at) = rw is (little_number-reads_back 8 (pointer_word (pointer_of zone.state at)) [] fits) in
      reads ∙ word;
}

-- ---- lawful zones

may_hold-few : (state : ZoneState) (capacity written : ℕ) → MayHold state capacity written → written ≤ capacity
may_hold-few Empty capacity written h = omega arith
may_hold-few ImplicitlyOpened capacity written h = omega arith
may_hold-few ExplicitlyOpened capacity written h = omega arith
may_hold-few Closed capacity written h = omega arith
may_hold-few ReadOnly capacity written h = h
may_hold-few Full capacity written h = h
may_hold-few Offline capacity written h = h

-- no zone has more blocks than its capacity
few-blocks : (geometry : Geometry) (zones : List Zone) (i : ℕ) → AllByRecursion (IsLawfulZone geometry) zones → length (zone_at zones i).blocks ≤ geometry.capacity
few-blocks geometry [] i all = omega arith
few-blocks geometry (z ∷ zs) zero all = may_hold-few z.state geometry.capacity (length z.blocks) all.0.written
few-blocks geometry (z ∷ zs) (suc i) all = few-blocks geometry zs i all.1

room-of : (count : ℕ) → (64 + 64 * count - 64) / 64 ≡ count
room-of count = omega arith

first-of : (address first size : ℕ) → address ≡ first * size → 1 ≤ size → address / size ≡ first
first-of address first size is some = ap (λ n. n / size) (is ∙ sym (add-zero (first * size))) ∙ div-mul-add first size 0 some

short-address : (number size written : ℕ) → number < 2 ^ 32 → size < 2 ^ 32 → written < 2 ^ 32 → number * size + written < 2 ^ 64
short-address number size written a b c =
    let less : number * size ≤ number * 2 ^ 32 = mul-le-mul_left number (omega arith) in
    let whole : number * 2 ^ 32 + written < 2 ^ 32 * 2 ^ 32 = mul-add-lt number (2 ^ 32) written (2 ^ 32) a c in
    omega (arith, less, whole)

-- ---- a report

-- all of it: each of its descriptors shows the zone as it was between two closings
pub reports : (geometry : Geometry) (old middle new : List Zone) (address first count dwords : ℕ) (room : List ℕ)
    → IsStorable geometry → length old ≡ geometry.zones → AllByRecursion (IsLawfulZone geometry) old
    → 1 ≤ geometry.size → address ≡ first * geometry.size → first + count ≤ geometry.zones → 4 * dwords ≡ 64 + 64 * count
    → IsClosing old middle → IsClosing middle new → length room ≡ 4 * dwords → room ≡ report geometry middle address AnyState true dwords
    → Reports geometry old address room new
reports geometry old middle new address first count dwords room storable counted lawful some starts there whole before after long is = record {
  middle = middle;
  before = before;
  shows = λ i lt.
      let number = address / geometry.size + i in
      let begins : address / geometry.size ≡ first = first-of address first geometry.size starts some in
      let shown : descriptor_room dwords ≡ count = ap (λ n. (n - 64) / 64) whole ∙ room-of count in
      let in_room : i < descriptor_room dwords = omega (arith, shown, lt, long, whole) in
      let in_zones : number < length middle = omega (arith, begins, length-closing old middle before, counted, there, shown, in_room) in
      let same = (zone_at-closing old middle number before).blocks in
      let few : length (zone_at middle number).blocks ≤ geometry.capacity = rw same (few-blocks geometry old number lawful) in
      let small = short-address number geometry.size (length (zone_at middle number).blocks)
      (omega (arith, begins, there, shown, in_room, storable.zones)) storable.size (omega (arith, few, storable.capacity)) in
      shows-zone geometry number (zone_at middle number) (descriptor_in room i) small (omega (arith, storable.capacity))
      (ap (λ bytes. descriptor_in bytes i) is ∙ report-at geometry middle address dwords i in_room in_zones);
  after = after;
}
