-- What bytes mean: the drive whose image they are, or their first fault.
use Rattle.std.proofs.Common.{◌≡◌, ℕ, zero, suc, ◌+◌, ◌-◌, ◌*◌, ◌<◌, ◌≤◌, Bool, true, false, List, [], ◌∷◌, ◌++◌, length, take, drop, Option, Some, None, Result, Ok, Err, refl, sym, ap, subst, ◌∙◌, inl, inr, append_assoc, arith}
use Rattle.std.specs.Prelude.{◌^◌, if◌then◌else◌, nat_eq, nat_lt, slice_index}
use Rattle.std.specs.Cmp.Lexicographic.{pointwise}
use Rattle.std.specs.List.{AllByRecursion, concat, count_by}
use Rattle.std.proofs.lemmas.Bool.{eq-eqb, le-leb, le-ltb, lt-ltb}
use Rattle.std.proofs.lemmas.Bool.Decides.{nat_tests}
use Rattle.std.proofs.lemmas.List.{append-nil, drop_at, length-append, take_all, take_at}
use Rattle.byteorder.specs.Endian.{little_from}
use Rattle.byteorder.specs.Numbers.{little_number-reads_back}
use Rattle.nvme_wire.specs.Descriptor.{state_code, state_of}
use Rattle.nvme_wire.specs.declared.zone_state.ZoneState.{ZoneState}
use Rattle.nvme_wire.specs.declared.zone_state.ZoneState.TheVariants.{Empty, ImplicitlyOpened, ExplicitlyOpened, Closed, ReadOnly, Full, Offline}
use Rattle.zone_states.specs.Checks.{first_failing}
use Rattle.zone_states.specs.Geometry.{IsInRange, is_outside}
use Rattle.zone_states.specs.Transition.{is_active, is_open}
use Rattle.zone_states.specs.Zone.{IsLawfulZone, MayHold, Zone, cut_blocks}
use Rattle.zone_states.specs.declared.geometry.Geometry.{Geometry}
use Rattle.zone_states.proofs.HoldLaws.{may_hold-most}
use Rattle.drive_port.specs.Drive.{DriveState}
use Rattle.zone_drive.specs.Stored.{may_hold}
use Rattle.zone_drive.proofs.CountLaws.{count-cons}
use Rattle.disk_files.proofs.ReplyLaws.{length-concat}
use Rattle.drive_images.specs.Image.{IsImage, MayBegin, head_bytes, image_magic, zone_bytes, zone_head_bytes, zones_bytes}
use Rattle.drive_images.specs.Reading.{IsImageFault, TellsFirst, begins_with, counts_of, counts_with, end_fault, fault_after, geometry_in, head_checks, head_in_state, head_fault, is_out_of_range, is_over_limit, told_head, zone_fault}
use Rattle.drive_images.specs.declared.counts.ZoneCounts.{ZoneCounts}
use Rattle.drive_images.specs.declared.fault.ImageFault.{ImageFault}
use Rattle.drive_images.specs.declared.fault.ImageFault.TheVariants.{Geometry as BadGeometry, Input, Limits, Long, Magic, OutOfMemory, RestNotZero, Short, State, Written}
use Rattle.drive_images.specs.declared.zone_head.ZoneHead.{ZoneHead}
use Rattle.drive_images.specs.Meaning.{is_of_bytes}
use Rattle.drive_images.proofs.ImageLaws.{head_fault-at}
use Rattle.drive_images.proofs.HeadLaws.{length-head, length-zone_head}
use Rattle.drive_images.proofs.ZoneLaws.{told-at}
use Rattle.drive_images.proofs.ZonesLaws.{counts-more, within_limits}

-- ---- heads are read back

begins_itself : (bytes : List ℕ) → begins_with bytes bytes ≡ true
unfolding begins_with
begins_itself bytes = rw (take_all (length bytes) bytes (omega arith)) (same bytes)
  where
    same : (xs : List ℕ) → pointwise nat_eq xs xs ≡ true
    same [] = refl
    same (x ∷ xs) = rw (eq-eqb x x refl, same xs) refl

geometry_in-head : (g : Geometry) → IsInRange g → geometry_in (head_bytes g) ≡ g
unfolding geometry_in head_bytes
geometry_in-head g in_range =
    let block : g.block < 256 ^ 4 = elim in_range.block [ inl small ↦ omega arith | inr large ↦ omega arith ] in
    let a = little_number-reads_back 4 g.block [] block in
    let b = little_number-reads_back 4 g.zones [] (omega (arith, in_range.zones)) in
    let c = little_number-reads_back 4 g.size [] (omega (arith, in_range.size)) in
    let d = little_number-reads_back 4 g.capacity [] (omega (arith, in_range.size, in_range.capacity)) in
    let e = little_number-reads_back 4 g.transfer [] (omega (arith, in_range.transfer)) in
    let f = little_number-reads_back 4 g.active [] (omega (arith, in_range.active)) in
    let h = little_number-reads_back 4 g.open [] (omega (arith, in_range.active, in_range.open_zones)) in
    λ i. record { block = a i; zones = b i; size = c i; capacity = d i; transfer = e i; active = f i; «open» = h i }

inside : (low high n : ℕ) → low ≤ n → n ≤ high → is_outside low high n ≡ false
inside low high n a b = rw (le-ltb n low a, le-ltb high n b) refl

-- all checks of a geometry in range pass
pub in_range-passes : (g : Geometry) → IsInRange g → is_out_of_range g ≡ false
unfolding is_out_of_range
in_range-passes g in_range =
    let zones = inside 3 65536 g.zones in_range.zones.0 in_range.zones.1 in
    let size = inside 1 (2 ^ 20) g.size in_range.size.0 in_range.size.1 in
    let capacity = inside 4 g.size g.capacity in_range.capacity.0 in_range.capacity.1 in
    let transfer = inside 2 256 g.transfer in_range.transfer.0 in_range.transfer.1 in
    let active = inside 2 65536 g.active in_range.active.0 in_range.active.1 in
    let open_zones = inside 1 g.active g.open in_range.open_zones.0 in_range.open_zones.1 in
    elim in_range.block [ inl small ↦ rw (small, zones, size, capacity, transfer, active, open_zones) refl | inr large ↦ rw (large, zones, size, capacity, transfer, active, open_zones) refl ]

begins_magic : (g : Geometry) → begins_with (head_bytes g) image_magic ≡ true
unfolding begins_with head_bytes
begins_magic g = refl

head_passes : (g : Geometry) → IsInRange g → first_failing (head_checks (head_bytes g)) ≡ None
head_passes g in_range =
    let starts : begins_with (head_bytes g) image_magic ≡ true = begins_magic g in
    let fits : is_out_of_range (geometry_in (head_bytes g)) ≡ false = rw (geometry_in-head g in_range) (in_range-passes g in_range) in
    let whole : begins_with (head_bytes g) (head_bytes (geometry_in (head_bytes g))) ≡ true = rw (geometry_in-head g in_range) (begins_itself (head_bytes g)) in
    rw (starts, fits, whole) refl

state_again : (state : ZoneState) → state_of (state_code state) ≡ Some state
state_again Empty = refl
state_again ImplicitlyOpened = refl
state_again ExplicitlyOpened = refl
state_again Closed = refl
state_again ReadOnly = refl
state_again Full = refl
state_again Offline = refl

-- bytes in whose place 4 on a number stands
abbrev told_with : List ℕ → ZoneState → ℕ → Result ZoneHead ImageFault
told_with head state n = if begins_with head (zone_head_bytes state n) then Ok (record { state = state; written = n }) else Err RestNotZero

told_head-opened : (head : List ℕ) → told_head head ≡ head_in_state head (state_of (slice_index head 0))
unfolding told_head
told_head-opened head = refl

first_byte : (state : ZoneState) (written : ℕ) → slice_index (zone_head_bytes state written) 0 ≡ state_code state
unfolding zone_head_bytes
first_byte state written = refl

number-again : (state : ZoneState) (written : ℕ) → written < 2 ^ 32 → little_from 4 4 (zone_head_bytes state written) ≡ written
unfolding zone_head_bytes
number-again state written small = little_number-reads_back 4 written [] small

told-head : (state : ZoneState) (written : ℕ) → written < 2 ^ 32 → told_head (zone_head_bytes state written) ≡ Ok (record { state = state; written = written })
told-head state written small =
    let head = zone_head_bytes state written in
    let number = number-again state written small in
    told_head-opened head ∙ ap (head_in_state head) (ap state_of (first_byte state written) ∙ state_again state)
    ∙ subst (λ (n : ℕ). told_with head state n ≡ Ok (record { state = state; written = written })) (sym number) (rw (begins_itself head) refl)

-- ---- a zone is read back

may_hold-is : (state : ZoneState) (capacity written : ℕ) → MayHold state capacity written → may_hold state capacity written ≡ true
may_hold-is Empty capacity written h = eq-eqb written 0 h
may_hold-is ImplicitlyOpened capacity written h = lt-ltb written capacity h
may_hold-is ExplicitlyOpened capacity written h = lt-ltb written capacity h
may_hold-is Closed capacity written h = lt-ltb written capacity h
may_hold-is ReadOnly capacity written h = le-leb written capacity h
may_hold-is Full capacity written h = le-leb written capacity h
may_hold-is Offline capacity written h = le-leb written capacity h

cut-concat : (size : ℕ) (blocks : List (List ℕ)) → AllByRecursion (λ block. length block ≡ size) blocks → cut_blocks size (length blocks) (concat blocks) ≡ blocks
cut-concat size [] each = refl
cut-concat size (block ∷ blocks) each = rw (take_at block (concat blocks) size each.0, drop_at block (concat blocks) size each.0, cut-concat size blocks each.1) refl

-- the zone that bytes begin with, and the bytes after it
zone_told : Geometry → List ℕ → Result ZoneHead ImageFault → Zone
zone_told g bytes (Ok head) = record { state = head.state; blocks = cut_blocks g.block head.written (take (head.written * g.block) bytes) }
zone_told g bytes (Err fault) = record { state = Offline; blocks = [] }

rest_told : Geometry → List ℕ → Result ZoneHead ImageFault → List ℕ
rest_told g bytes (Ok head) = drop (head.written * g.block) bytes
rest_told g bytes (Err fault) = []

zone_in : Geometry → List ℕ → Zone
zone_in g bytes = zone_told g (drop 8 bytes) (told_head (take 8 bytes))

after_zone : Geometry → List ℕ → List ℕ
after_zone g bytes = rest_told g (drop 8 bytes) (told_head (take 8 bytes))

-- the bytes of a zone's blocks
blocks_long : (g : Geometry) (zone : Zone) → IsLawfulZone g zone → length (concat zone.blocks) ≡ length zone.blocks * g.block
blocks_long g zone lawful = length-concat g.block zone.blocks lawful.whole

module _ (g : Geometry) (in_range : IsInRange g) (zone : Zone) (lawful : IsLawfulZone g zone) (rest : List ℕ) where
  heads : take 8 (zone_bytes zone ++ rest) ≡ zone_head_bytes zone.state (length zone.blocks)
  heads = ap (take 8) (append_assoc (zone_head_bytes zone.state (length zone.blocks)) (concat zone.blocks) rest) ∙ take_at (zone_head_bytes zone.state (length zone.blocks)) (concat zone.blocks ++ rest) 8 (length-zone_head zone.state (length zone.blocks))

  tails : drop 8 (zone_bytes zone ++ rest) ≡ concat zone.blocks ++ rest
  tails = ap (drop 8) (append_assoc (zone_head_bytes zone.state (length zone.blocks)) (concat zone.blocks) rest) ∙ drop_at (zone_head_bytes zone.state (length zone.blocks)) (concat zone.blocks ++ rest) 8 (length-zone_head zone.state (length zone.blocks))

  small : length zone.blocks < 2 ^ 32
  small = omega (arith, may_hold-most zone.state g.capacity (length zone.blocks) lawful.written, in_range.size, in_range.capacity)

  told_is : told_head (zone_head_bytes zone.state (length zone.blocks)) ≡ Ok (record { state = zone.state; written = length zone.blocks })
  told_is = told-head zone.state (length zone.blocks) small

  zone_in-again : zone_in g (zone_bytes zone ++ rest) ≡ zone
  unfolding zone_in zone_told
  zone_in-again = rw (heads, tails, told_is, take_at (concat zone.blocks) rest (length zone.blocks * g.block) (blocks_long g zone lawful), cut-concat g.block zone.blocks lawful.whole) refl

  after_zone-again : after_zone g (zone_bytes zone ++ rest) ≡ rest
  unfolding after_zone rest_told
  after_zone-again = rw (heads, tails, told_is, drop_at (concat zone.blocks) rest (length zone.blocks * g.block) (blocks_long g zone lawful)) refl

  zone_fault-none : (counts : ZoneCounts) → is_over_limit g (counts_with counts zone.state) ≡ false → zone_fault g counts (zone_bytes zone ++ rest) ≡ None
  zone_fault-none counts within =
      let enough : nat_lt (length (concat zone.blocks ++ rest)) (length zone.blocks * g.block) ≡ false = grind (arith, nat_tests, length-append (concat zone.blocks) rest, blocks_long g zone lawful) in
      ap (zone_fault g counts) (append_assoc (zone_head_bytes zone.state (length zone.blocks)) (concat zone.blocks) rest)
      ∙ told-at g counts (zone_head_bytes zone.state (length zone.blocks)) (record { state = zone.state; written = length zone.blocks }) (length-zone_head zone.state (length zone.blocks)) told_is (concat zone.blocks ++ rest)
      ∙ rw (may_hold-is zone.state g.capacity (length zone.blocks) lawful.written, within, enough) refl

-- ---- all zones are read back

unless : {T : Type 0} → Option ImageFault → Result T ImageFault → Result T ImageFault
unless None result = result
unless (Some fault) result = Err fault

-- that many zones more, after those read before
scan : ℕ → Geometry → List Zone → List ℕ → Result (List Zone) ImageFault
scan zero g before bytes = unless (end_fault bytes) (Ok before)
scan (suc more) g before bytes = unless (zone_fault g (counts_of before) bytes) (scan more g (before ++ zone_in g bytes ∷ []) (after_zone g bytes))

-- the front of zones that a drive may begin with
count-front : {X : Type 0} (p : X → Bool) (xs ys : List X) → count_by p xs ≤ count_by p (xs ++ ys)
count-front p [] ys = omega arith
count-front p (x ∷ xs) ys = omega (arith, count-front p xs ys, count-cons p x xs, count-cons p x (xs ++ ys))

all-front : {X : Type 0} (P : X → Type 0) (xs ys : List X) → AllByRecursion P (xs ++ ys) → AllByRecursion P xs
all-front P [] ys all = tt
all-front P (x ∷ xs) ys all = (all.0, all-front P xs ys all.1)

all-last : {X : Type 0} (P : X → Type 0) (xs : List X) (x : X) → AllByRecursion P (xs ++ x ∷ []) → P x
all-last P [] x all = all.0
all-last P (y ∷ xs) x all = all-last P xs x all.1

begins-front : (g : Geometry) (xs ys : List Zone) → MayBegin g (xs ++ ys) → MayBegin g xs
begins-front g xs ys begins = record {
  lawful = all-front (IsLawfulZone g) xs ys begins.lawful;
  active = omega (arith, begins.active, count-front (λ (z : Zone). is_active z.state) xs ys);
  open_zones = omega (arith, begins.open_zones, count-front (λ (z : Zone). is_open z.state) xs ys);
}

module _ (g : Geometry) (in_range : IsInRange g) where
  scan-zone : (more : ℕ) (before : List Zone) (zone : Zone) (rest : List ℕ) → MayBegin g (before ++ zone ∷ []) → scan (suc more) g before (zone_bytes zone ++ rest) ≡ scan more g (before ++ zone ∷ []) rest
  unfolding scan unless
  scan-zone more before zone rest begins =
      let lawful = all-last (IsLawfulZone g) before zone begins.lawful in
      let within : is_over_limit g (counts_with (counts_of before) zone.state) ≡ false = within_limits g (before ++ zone ∷ []) _ (sym (counts-more before zone)) begins in
      rw (zone_fault-none g in_range zone lawful rest (counts_of before) within, zone_in-again g in_range zone lawful rest, after_zone-again g in_range zone lawful rest) refl

  scan-zones : (zones before : List Zone) (more count : ℕ) (rest : List ℕ) → count ≡ length zones + more → MayBegin g (before ++ zones) → scan count g before (zones_bytes zones ++ rest) ≡ scan more g (before ++ zones) rest
  scan-zones [] before more count rest e begins = let same : count ≡ more = omega arith in ap (λ n. scan n g before rest) same ∙ ap (λ zs. scan more g zs rest) (sym (append-nil before))
  scan-zones (zone ∷ zones) before more zero rest e begins = absurd (omega arith)
  scan-zones (zone ∷ zones) before more (suc count) rest e begins =
      let split = append_assoc before (zone ∷ []) zones in
      let all : MayBegin g ((before ++ zone ∷ []) ++ zones) = subst (MayBegin g) (sym split) begins in
      ap (scan (suc count) g before) (append_assoc (zone_bytes zone) (zones_bytes zones) rest)
      ∙ scan-zone count before zone (zones_bytes zones ++ rest) (begins-front g (before ++ zone ∷ []) zones all)
      ∙ scan-zones zones (before ++ zone ∷ []) more count rest (omega arith) all
      ∙ ap (λ zs. scan more g zs rest) split

-- ---- a whole list of bytes

-- the zones of the drive whose image bytes are, or their first fault
meaning : List ℕ → Result (List Zone) ImageFault
meaning bytes =
    let g = geometry_in (take 64 bytes) in
    unless (head_fault bytes) (scan g.zones g [] (drop 64 bytes))

module _ (g : Geometry) (in_range : IsInRange g) (rest : List ℕ) where
  whole_head : take 64 (head_bytes g ++ rest) ≡ head_bytes g
  whole_head = take_at (head_bytes g) rest 64 (length-head g)

  whole_geometry : geometry_in (take 64 (head_bytes g ++ rest)) ≡ g
  whole_geometry = ap geometry_in whole_head ∙ geometry_in-head g in_range

  whole_fault : head_fault (head_bytes g ++ rest) ≡ None
  whole_fault = head_fault-at (head_bytes g) (length-head g) rest ∙ head_passes g in_range

  meaning-head : meaning (head_bytes g ++ rest) ≡ scan g.zones g [] rest
  unfolding meaning unless
  meaning-head = rw (whole_fault, whole_geometry, drop_at (head_bytes g) rest 64 (length-head g)) refl

named : (first : Option ImageFault) (fault : ImageFault) → is_of_bytes fault ≡ true → TellsFirst first fault → first ≡ Some fault
named first Input of t = absurd (cc of)
named first OutOfMemory of t = absurd (cc of)
named first Magic of t = t
named first BadGeometry of t = t
named first State of t = t
named first Written of t = t
named first RestNotZero of t = t
named first Limits of t = t
named first Short of t = t
named first Long of t = t

-- an image means its drive
meaning-image : (bytes : List ℕ) (drive : DriveState) → IsImage bytes drive → (meaning bytes ≡ Ok drive.zones) × (geometry_in (take 64 bytes) ≡ drive.geometry)
unfolding scan unless
meaning-image bytes drive image =
    let g = drive.geometry in
    let zones = drive.zones in
    let split : g.zones ≡ length zones + 0 = omega (arith, image.count) in
    let read : scan g.zones g [] (zones_bytes zones) ≡ Ok zones =
    ap (scan g.zones g []) (sym (append-nil (zones_bytes zones))) ∙ scan-zones g image.geometry zones [] 0 g.zones [] split image.zones in
    (ap meaning image.text ∙ meaning-head g image.geometry (zones_bytes zones) ∙ read, ap (λ xs. geometry_in (take 64 xs)) image.text ∙ whole_geometry g image.geometry (zones_bytes zones))

fault_next : (g : Geometry) (before : List Zone) (rest : List ℕ) (fault : ImageFault) (more : ℕ) → g.zones ≡ length before + more → fault_after g before rest ≡ Some fault → scan more g before rest ≡ Err fault
unfolding scan unless
fault_next g before rest fault zero count e =
    let none : nat_lt (length before) g.zones ≡ false = grind (arith, nat_tests) in
    rw (rw none at e) refl
fault_next g before rest fault (suc more) count e =
    let one : nat_lt (length before) g.zones ≡ true = grind (arith, nat_tests) in
    rw (rw one at e) refl

-- bytes with a fault mean that fault
meaning-fault : (bytes : List ℕ) (fault : ImageFault) → is_of_bytes fault ≡ true → IsImageFault bytes fault → meaning bytes ≡ Err fault
unfolding meaning unless
meaning-fault bytes fault of (inl told) = rw (named (head_fault bytes) fault of told) refl
meaning-fault bytes fault of (inr fails) =
    let g = fails.geometry in
    let zones = fails.fails.before in
    let rest = fails.fails.rest in
    let more = g.zones - length zones in
    let split : g.zones ≡ length zones + more = omega (arith, fails.fails.count) in
    let read : scan g.zones g [] (zones_bytes zones ++ rest) ≡ scan more g zones rest =
    scan-zones g fails.in_range zones [] more g.zones rest split fails.fails.zones in
    ap meaning (fails.text ∙ ap (λ xs. head_bytes g ++ xs) fails.fails.text) ∙ meaning-head g fails.in_range (zones_bytes zones ++ rest) ∙ read
    ∙ fault_next g zones rest fault more split (named _ fault of fails.fails.told)

-- ---- what follows

ok_same : {T : Type 0} (a b : T) (r : Result T ImageFault) → r ≡ Ok a → r ≡ Ok b → a ≡ b
ok_same a b r e f = cc

-- bytes are the image of one drive at most
pub one-drive : (bytes : List ℕ) (a b : DriveState) → IsImage bytes a → IsImage bytes b → a ≡ b
one-drive bytes a b x y =
    let first = meaning-image bytes a x in
    let second = meaning-image bytes b y in
    let zones = ok_same a.zones b.zones (meaning bytes) first.0 second.0 in
    let geometry = sym first.1 ∙ second.1 in
    x.unused ∙ rw (geometry, zones) (sym y.unused)

-- an image has no fault
pub no-fault : (bytes : List ℕ) (drive : DriveState) (fault : ImageFault) → IsImage bytes drive → IsImageFault bytes fault → is_of_bytes fault ≡ false
no-fault bytes drive fault image fails = by_kind (is_of_bytes fault) refl
  where
    by_kind : (of : Bool) → is_of_bytes fault ≡ of → is_of_bytes fault ≡ false
    by_kind true e = absurd (cc (sym (meaning-fault bytes fault e fails) ∙ (meaning-image bytes drive image).0))
    by_kind false e = e

err_same : {T : Type 0} (a b : ImageFault) (r : Result T ImageFault) → r ≡ Err a → r ≡ Err b → a ≡ b
err_same a b r e f = cc

-- and bytes have one first fault at most
pub one-fault : (bytes : List ℕ) (a b : ImageFault) → is_of_bytes a ≡ true → is_of_bytes b ≡ true → IsImageFault bytes a → IsImageFault bytes b → a ≡ b
one-fault bytes a b of_a of_b x y = err_same a b (meaning bytes) (meaning-fault bytes a of_a x) (meaning-fault bytes b of_b y)
