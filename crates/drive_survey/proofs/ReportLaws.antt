-- What a report of all zones tells.
use Rattle.std.proofs.Common.{◌≡◌, ℕ, zero, suc, ◌+◌, ◌-◌, ◌*◌, ◌/◌, ◌<◌, ◌≤◌, ◌^◌, inl, inr, false, List, [], ◌∷◌, ◌++◌, length, take, drop, Some, ◌⊎◌, refl, sym, ap, ◌∙◌, arith, append_assoc, append-nil}
use Rattle.std.specs.List.{AllByRecursion, flat_map}
use Rattle.std.proofs.lemmas.List.{length-append, take_all}
use Rattle.std.proofs.lemmas.Nat.{mul-le}
use Rattle.nvme_wire.specs.declared.descriptor.Descriptor.{Descriptor}
use Rattle.nvme_wire.specs.declared.zone_state.ZoneState.{ZoneState}
use Rattle.nvme_wire.specs.declared.zone_state.ZoneState.TheVariants as states
use Rattle.nvme_wire.specs.declared.command.ReportingOptions.TheVariants.{AnyState}
use Rattle.nvme_wire.specs.Descriptor.{IsDescriptor, IsPointer, descriptor_bytes, pointer_word, report_head_bytes}
use Rattle.zone_states.specs.declared.geometry.Geometry.{Geometry}
use Rattle.zone_states.specs.Geometry.{IsInRange}
use Rattle.zone_states.specs.Zone.{IsLawfulZone, MayHold, Zone}
use Rattle.zone_report.specs.Report.{descriptor_of, descriptor_room, matching, pointer_of, report, zone_status}
use Rattle.zone_report.proofs.ReportLaws.{length-descriptors}
use Rattle.drive_port.specs.Calls.{Reported}
use Rattle.drive_port.specs.Drive.{ClosesOne, DriveState, IsClosing, IsLawful}
use Rattle.drive_port.specs.Step.{end_of}
use Rattle.drive_port.proofs.ClosingLaws.{length-closing}
use Rattle.drive_survey.specs.declared.reported.ReportedZone.{ReportedZone}
use Rattle.drive_survey.specs.Reported.{AreReported, DescribesZone, IsReported, ReportsZones, TellsZones}

-- ---- one zone

-- a zone with a descriptor that a report shows
zone-descriptor : (geometry : Geometry) (number : ℕ) (zone : Zone) → IsInRange geometry → number < geometry.zones → IsLawfulZone geometry zone → IsDescriptor (descriptor_of geometry number (zone_status zone))
zone-descriptor geometry number zone range lt lawful =
    let start : number * geometry.size ≤ 65536 * 2 ^ 20 = mul-le number geometry.size 65536 (2 ^ 20) (omega (arith, lt, range.zones)) (omega (arith, range.size)) in
    record {
      capacity = omega (arith, range.capacity, range.size);
      start = omega (arith, start);
      short = short zone.state refl (omega (arith, start)) lawful.written;
      pointer = pointer zone.state refl lawful.written;
    }
  where
    short : (s : ZoneState) → zone.state ≡ s → number * geometry.size ≤ 2 ^ 36 → MayHold s geometry.capacity (length zone.blocks) → pointer_word (pointer_of zone.state (number * geometry.size + length zone.blocks)) < 2 ^ 64
    short states.Empty is le w = rw is (omega (arith, le, w))
    short states.ImplicitlyOpened is le w = rw is (omega (arith, le, w, range.capacity, range.size))
    short states.ExplicitlyOpened is le w = rw is (omega (arith, le, w, range.capacity, range.size))
    short states.Closed is le w = rw is (omega (arith, le, w, range.capacity, range.size))
    short states.ReadOnly is le w = rw is (omega arith)
    short states.Full is le w = rw is (omega arith)
    short states.Offline is le w = rw is (omega arith)

    pointer : (s : ZoneState) → zone.state ≡ s → MayHold s geometry.capacity (length zone.blocks) → IsPointer zone.state (number * geometry.size) geometry.capacity (pointer_of zone.state (number * geometry.size + length zone.blocks))
    pointer states.Empty is w = let none : number * geometry.size + length zone.blocks ≡ number * geometry.size = omega (arith, w) in rw is (ap Some none)
    pointer states.ImplicitlyOpened is w = rw is (omega arith, omega (arith, w))
    pointer states.ExplicitlyOpened is w = rw is (omega arith, omega (arith, w))
    pointer states.Closed is w = rw is (omega arith, omega (arith, w))
    pointer states.ReadOnly is w = rw is refl
    pointer states.Full is w = rw is refl
    pointer states.Offline is w = rw is refl

-- ---- all zones

are-more : (geometry : Geometry) (zones : List Zone) (zone : Zone) (reported : List ReportedZone) (one : ReportedZone) → AreReported geometry zones reported → IsReported geometry zone one → AreReported geometry (zones ++ zone ∷ []) (reported ++ one ∷ [])
are-more geometry [] zone [] one are is = (is, tt)
are-more geometry [] zone (r ∷ rs) one are is = absurd are
are-more geometry (z ∷ zs) zone [] one are is = absurd are
are-more geometry (z ∷ zs) zone (r ∷ rs) one are is = (are.0, are-more geometry zs zone rs one are.1 is)

-- Some zones were read, and the bytes that are left are the descriptors of the others.
pub record Left (geometry : Geometry) (zones : List Zone) (reported : List ReportedZone) (rest : List ℕ) : Type 0 where
  pub done : List Zone
  pub others : List Zone
  pub all : zones ≡ done ++ others
  pub are : AreReported geometry done reported
  pub lawful : AllByRecursion (IsLawfulZone geometry) others
  pub rest_is : rest ≡ flat_map descriptor_bytes (matching geometry AnyState (length done) others)

-- before the first descriptor is read, all zones are left
pub left-all : (geometry : Geometry) (capacity : ℕ) (zones : List Zone) (bytes : List ℕ) → TellsZones geometry capacity zones bytes → Left geometry zones [] bytes
left-all geometry capacity zones bytes tells = record { done = []; others = zones; all = refl; are = tt; lawful = tells.lawful; rest_is = tells.bytes_are }

descriptor-length : (d : Descriptor) → length (descriptor_bytes d) ≡ 64
descriptor-length d = let one = length-descriptors (d ∷ []) in omega (arith, one, length-append (descriptor_bytes d) [])

front-is : (xs ys : List ℕ) (n : ℕ) → length xs ≡ n → take n (xs ++ ys) ≡ xs
front-is [] ys zero is = refl
front-is [] ys (suc n) is = absurd (omega (arith, is))
front-is (x ∷ xs) ys zero is = absurd (omega (arith, is))
front-is (x ∷ xs) ys (suc n) is = ap (λ (zs : List ℕ). x ∷ zs) (front-is xs ys n (omega (arith, is)))

rest-is : (xs ys : List ℕ) (n : ℕ) → length xs ≡ n → drop n (xs ++ ys) ≡ ys
rest-is [] ys zero is = refl
rest-is [] ys (suc n) is = absurd (omega (arith, is))
rest-is (x ∷ xs) ys zero is = absurd (omega (arith, is))
rest-is (x ∷ xs) ys (suc n) is = rest-is xs ys n (omega (arith, is))

-- the descriptor in front
pub record InFront (geometry : Geometry) (capacity : ℕ) (zones : List Zone) (reported : List ReportedZone) (front after : List ℕ) (d : Descriptor) : Type 0 where
  pub zone : Zone
  pub describes : DescribesZone geometry capacity zone d
  pub fits : IsDescriptor d
  pub is : front ≡ descriptor_bytes d
  pub more : (one : ReportedZone) → IsReported geometry zone one → Left geometry zones (reported ++ one ∷ []) after

-- as long as 64 bytes are left, the descriptor of the next zone is in front
pub in-front : (geometry : Geometry) (capacity : ℕ) (zones : List Zone) (reported : List ReportedZone) (bytes rest front after : List ℕ) → TellsZones geometry capacity zones bytes → 64 ≤ length rest → front ≡ take 64 rest → after ≡ drop 64 rest
    → Left geometry zones reported rest → (d : Descriptor) × InFront geometry capacity zones reported front after d
in-front geometry capacity zones reported bytes rest front after tells long front-at after-at left = at left.others refl
  where
    at : (others : List Zone) → left.others ≡ others → (d : Descriptor) × InFront geometry capacity zones reported front after d
    at [] is = let none : rest ≡ [] = rw is at left.rest_is in absurd (omega (arith, long, ap length none))
    at (z ∷ zs) is =
        let d = descriptor_of geometry (length left.done) (zone_status z) in
        let tail = flat_map descriptor_bytes (matching geometry AnyState (length left.done + 1) zs) in
        let whole : rest ≡ descriptor_bytes d ++ tail = rw is at left.rest_is in
        let lawful : AllByRecursion (IsLawfulZone geometry) (z ∷ zs) = rw is at left.lawful in
        let all : zones ≡ left.done ++ z ∷ zs = rw is at left.all in
        let number : length left.done < geometry.zones = omega (arith, tells.count, ap length all, length-append left.done (z ∷ zs)) in
        let long' = descriptor-length d in
        let more : (one : ReportedZone) → IsReported geometry z one → Left geometry zones (reported ++ one ∷ []) after = λ one told. record {
          done = left.done ++ z ∷ [];
          others = zs;
          all = all ∙ sym (append_assoc left.done (z ∷ []) zs);
          are = are-more geometry left.done z reported one left.are told;
          lawful = lawful.1;
          rest_is = after-at ∙ ap (λ (bs : List ℕ). drop 64 bs) whole ∙ rest-is (descriptor_bytes d) tail 64 long' ∙ ap (λ (n : ℕ). flat_map descriptor_bytes (matching geometry AnyState n zs)) (sym (length-append left.done (z ∷ [])));
        } in (
          d,
          record {
            zone = z;
            describes = record { capacity_is = tells.capacity_is; small = omega (arith, tells.capacity_is, tells.in_range.capacity, tells.in_range.size); lawful = lawful.0; number = length left.done; is = refl };
            fits = zone-descriptor geometry (length left.done) z tells.in_range number lawful.0;
            is = front-at ∙ ap (λ (bs : List ℕ). take 64 bs) whole ∙ front-is (descriptor_bytes d) tail 64 long';
            more = more;
          },
        )

-- with fewer than 64 bytes left, all zones are reported
pub none-left : (geometry : Geometry) (zones : List Zone) (reported : List ReportedZone) (rest : List ℕ) → length rest < 64 → Left geometry zones reported rest → AreReported geometry zones reported
none-left geometry zones reported rest short left = at left.others refl
  where
    at : (others : List Zone) → left.others ≡ others → AreReported geometry zones reported
    at [] is = let all : zones ≡ left.done = (rw is at left.all) ∙ append-nil left.done in rw all left.are
    at (z ∷ zs) is =
        let d = descriptor_of geometry (length left.done) (zone_status z) in
        let whole : rest ≡ descriptor_bytes d ++ flat_map descriptor_bytes (matching geometry AnyState (length left.done + 1) zs) = rw is at left.rest_is in
        absurd (omega (arith, short, ap length whole, length-append (descriptor_bytes d) (flat_map descriptor_bytes (matching geometry AnyState (length left.done + 1) zs)), descriptor-length d))

-- ---- the command

-- room for all of them
pub whole-room : (zones dwords : ℕ) → dwords ≡ 16 * (1 + zones) → descriptor_room dwords ≡ zones
whole-room zones dwords is = omega (arith, is)

-- a report of all zones names as many as there are
pub length-matching : (geometry : Geometry) (number : ℕ) (zones : List Zone) → length (matching geometry AnyState number zones) ≡ length zones
length-matching geometry number [] = refl
length-matching geometry number (zone ∷ zones) = ap suc (length-matching geometry (number + 1) zones)

head-length : (zones : ℕ) → length (report_head_bytes (record { zones = zones })) ≡ 64
head-length zones = refl

-- after the head of a report of all zones come their descriptors
report-rest : (geometry : Geometry) (zones : List Zone) (dwords : ℕ) → 1 ≤ geometry.size → dwords ≡ 16 * (1 + length zones) → drop 64 (report geometry zones 0 AnyState false dwords) ≡ flat_map descriptor_bytes (matching geometry AnyState 0 zones)
report-rest geometry zones dwords some is =
    let start : 0 / geometry.size ≡ 0 = omega (arith, some) in
    let named = matching geometry AnyState 0 zones in
    let long = length-matching geometry 0 zones in
    let room = whole-room (length zones) dwords is in
    let taken : take (descriptor_room dwords) named ≡ named = take_all (descriptor_room dwords) named (omega (arith, long, room)) in
    let none : 4 * dwords - 64 - 64 * length named ≡ 0 = omega (arith, long, is) in
    let whole : report geometry zones 0 AnyState false dwords ≡ report_head_bytes (record { zones = length named }) ++ flat_map descriptor_bytes named = rw (start, taken, none, append-nil (flat_map descriptor_bytes named)) refl in
    ap (λ (bs : List ℕ). drop 64 bs) whole ∙ rest-is (report_head_bytes (record { zones = length named })) (flat_map descriptor_bytes named) 64 (head-length (length named))

lawful-closes : (geometry : Geometry) (old new : Zone) → ClosesOne old new → IsLawfulZone geometry old → IsLawfulZone geometry new
lawful-closes geometry old new closes lawful = record { written = at closes.state; whole = rw closes.blocks lawful.whole }
  where
    at : (new.state ≡ old.state) ⊎ ((old.state ≡ states.ImplicitlyOpened) × (new.state ≡ states.Closed)) → MayHold new.state geometry.capacity (length new.blocks)
    at (inl same) = rw (same, closes.blocks) lawful.written
    at (inr closed) = let held : length old.blocks < geometry.capacity = rw closed.0 at lawful.written in rw (closed.1, closes.blocks) held

-- zones that are lawful stay so where a controller closes some
pub lawful-closing : (geometry : Geometry) (old new : List Zone) → IsClosing old new → AllByRecursion (IsLawfulZone geometry) old → AllByRecursion (IsLawfulZone geometry) new
lawful-closing geometry [] [] closing all = tt
lawful-closing geometry [] (n ∷ ns) closing all = absurd closing
lawful-closing geometry (o ∷ os) [] closing all = absurd closing
lawful-closing geometry (o ∷ os) (n ∷ ns) closing all = (lawful-closes geometry o n closing.0 all.0, lawful-closing geometry os ns closing.1 all.1)

-- the bytes after the head of a report of all zones are their descriptors
tells-zones : (old new : DriveState) (dwords capacity : ℕ) (bytes rest : List ℕ) → IsInRange old.geometry → IsLawful old → dwords ≡ 16 * (1 + old.geometry.zones) → capacity ≡ old.geometry.capacity → rest ≡ drop 64 bytes
    → (told : Reported old new 0 AnyState false dwords bytes) → TellsZones old.geometry capacity told.zones rest
tells-zones old new dwords capacity bytes rest range lawful is cap at told =
    let count : length told.zones ≡ old.geometry.zones = omega (arith, length-closing old.zones told.zones told.before, lawful.count) in
    record {
      in_range = range;
      capacity_is = cap;
      count = count;
      lawful = lawful-closing old.geometry old.zones told.zones told.before lawful.zones;
      bytes_are = at ∙ ap (λ (bs : List ℕ). drop 64 bs) told.bytes_are ∙ report-rest old.geometry told.zones dwords (omega (arith, range.size)) (omega (arith, is, count));
    }

-- the zones read from a report are the drive's zones at a moment of the call
pub reports-zones : (old new : DriveState) (dwords capacity : ℕ) (bytes rest : List ℕ) (reported : List ReportedZone) → IsInRange old.geometry → IsLawful old → dwords ≡ 16 * (1 + old.geometry.zones) → capacity ≡ old.geometry.capacity → rest ≡ drop 64 bytes
    → Reported old new 0 AnyState false dwords bytes → ((geometry : Geometry) (zones : List Zone) → TellsZones geometry capacity zones rest → AreReported geometry zones reported) → ReportsZones old reported new
reports-zones old new dwords capacity bytes rest reported range lawful is cap at told are =
    record { zones = told.zones; before = told.before; after = told.after; are = are old.geometry told.zones (tells-zones old new dwords capacity bytes rest range lawful is cap at told) }

-- a drive whose geometry is in range has an address 0
pub can-report : (drive : DriveState) → IsInRange drive.geometry → 0 < end_of drive.geometry
can-report drive range = let one : 1 * 1 ≤ drive.geometry.zones * drive.geometry.size = mul-le 1 1 drive.geometry.zones drive.geometry.size (omega (arith, range.zones)) (omega (arith, range.size)) in omega (arith, one)
