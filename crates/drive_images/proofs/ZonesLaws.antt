-- The zones of an image, one after the other.
use Rattle.std.proofs.Common.{◌≡◌, ℕ, ◌+◌, ◌<◌, Bool, false, List, [], ◌∷◌, ◌++◌, length, Option, refl, sym, subst, ap, ◌∙◌, arith}
use Rattle.std.specs.Prelude.{IfSome, nat_lt}
use Rattle.std.specs.List.{AllByRecursion, count_by}
use Rattle.std.proofs.KnownBytes.{Consumes-nil, Consumes-trans}
use Rattle.std.proofs.lemmas.Bool.{le-ltb, ltb-false, or_parts}
use Rattle.std.proofs.lemmas.List.{flat_map_more, length-map, map-append}
use Rattle.zone_states.specs.Stored.{AreWholeBlocks, StoredZone, zone_stored}
use Rattle.zone_states.specs.Transition.{is_active, is_open}
use Rattle.zone_states.specs.Zone.{IsLawfulZone, Zone}
use Rattle.zone_states.specs.declared.geometry.Geometry.{Geometry}
use Rattle.drive_port.specs.Drive.{active_count, open_count}
use Rattle.drive_port.specs.Step.{one_if}
use Rattle.zone_drive.specs.Stored.{zones_of}
use Rattle.zone_drive.proofs.CountLaws.{count-cons}
use Rattle.drive_images.specs.Image.{MayBegin, zone_bytes, zones_bytes}
use Rattle.drive_images.specs.Reading.{FailsInZone, TellsFirst, counts_of, counts_with, is_over_limit, zone_fault}
use Rattle.drive_images.specs.Steps.{ReadsStoredZone, ReadsStoredZones}
use Rattle.drive_images.specs.declared.counts.ZoneCounts.{ZoneCounts}
use Rattle.drive_images.specs.declared.fault.ImageFault.{ImageFault}
use Rattle.drive_images.proofs.TellingLaws.{after_front}

-- ---- one zone more

all-more : {X : Type 0} (P : X → Type 0) (xs : List X) (x : X) → AllByRecursion P xs → P x → AllByRecursion P (xs ++ x ∷ [])
all-more P [] x all p = (p, tt)
all-more P (y ∷ xs) x all p = (all.0, all-more P xs x all.1 p)

count-more : {X : Type 0} (p : X → Bool) (xs : List X) (x : X) → count_by p (xs ++ x ∷ []) ≡ count_by p xs + one_if (p x)
count-more p [] x = count-cons p x [] ∙ omega arith
count-more p (y ∷ xs) x = count-cons p y (xs ++ x ∷ []) ∙ omega (arith, count-more p xs x, count-cons p y xs)

-- one zone more is counted
pub counts-more : (zones : List Zone) (zone : Zone) → counts_of (zones ++ zone ∷ []) ≡ counts_with (counts_of zones) zone.state
counts-more zones zone = rw (count-more (λ (z : Zone). is_active z.state) zones zone, count-more (λ (z : Zone). is_open z.state) zones zone) refl

begins-more : (geometry : Geometry) (zones : List Zone) (zone : Zone) → MayBegin geometry zones → IsLawfulZone geometry zone → is_over_limit geometry (counts_of (zones ++ zone ∷ [])) ≡ false → MayBegin geometry (zones ++ zone ∷ [])
begins-more geometry zones zone begins lawful within =
    let all = zones ++ zone ∷ [] in
    let parts = or_parts (nat_lt geometry.active (active_count all)) (nat_lt geometry.open (open_count all)) within in
    record {
      lawful = all-more (IsLawfulZone geometry) zones zone begins.lawful lawful;
      active = ltb-false geometry.active (active_count all) parts.0;
      open_zones = ltb-false geometry.open (open_count all) parts.1;
    }

-- zones that may begin an image are within the limits
pub within_limits : (geometry : Geometry) (zones : List Zone) (counts : ZoneCounts) → counts ≡ counts_of zones → MayBegin geometry zones → is_over_limit geometry counts ≡ false
within_limits geometry zones counts same begins = rw (same, le-ltb geometry.active (active_count zones) begins.active, le-ltb geometry.open (open_count zones) begins.open_zones) refl

zones_of-more : (block : ℕ) (zones : List StoredZone) (zone : StoredZone) → zones_of block (zones ++ zone ∷ []) ≡ zones_of block zones ++ zone_stored block zone ∷ []
zones_of-more block zones zone = map-append (zone_stored block) zones (zone ∷ [])

module _ (geometry : Geometry) (zones : List StoredZone) (zone : StoredZone) (counts after : ZoneCounts) (old mid new : Option (List ℕ)) where
  -- after one zone more is read, the counts are the counts of all zones so far
  pub counts_next : counts ≡ counts_of (zones_of geometry.block zones) → ReadsStoredZone geometry mid new counts zone after → after ≡ counts_of (zones_of geometry.block (zones ++ zone ∷ []))
  counts_next same next =
      next.counts ∙ ap (λ (c : ZoneCounts). counts_with c zone.state) same ∙ sym (counts-more (zones_of geometry.block zones) (zone_stored geometry.block zone)) ∙ ap counts_of (sym (zones_of-more geometry.block zones zone))

  -- if one zone more is read after others, all of them are read together
  pub zones_next : counts ≡ counts_of (zones_of geometry.block zones) → ReadsStoredZones geometry old mid zones → ReadsStoredZone geometry mid new counts zone after → ReadsStoredZones geometry old new (zones ++ zone ∷ [])
  zones_next same read next =
      let before = zones_of geometry.block zones in
      let here = zone_stored geometry.block zone in
      let within : is_over_limit geometry (counts_of (before ++ here ∷ [])) ≡ false = subst (λ (c : ZoneCounts). is_over_limit geometry c ≡ false) (counts_next same next ∙ ap counts_of (zones_of-more geometry.block zones zone)) next.within in
      record {
        text = rw (zones_of-more geometry.block zones zone, ← flat_map_more zone_bytes [] before here) (Consumes-trans old mid new (zones_bytes before) (zone_bytes here) read.text next.text);
        whole = all-more (λ (z : StoredZone). AreWholeBlocks geometry.block z.bytes) zones zone read.whole next.whole;
        begins = rw (zones_of-more geometry.block zones zone) (begins-more geometry before here read.begins next.lawful within);
      }

-- no zone was read yet
pub no_zones : (geometry : Geometry) (old : Option (List ℕ)) → ReadsStoredZones geometry old old []
no_zones geometry old = record { text = Consumes-nil old; whole = tt; begins = record { lawful = tt; active = omega arith; open_zones = omega arith } }

-- ---- a fault after some zones

module _ (geometry : Geometry) (zones : List StoredZone) (old mid : Option (List ℕ)) (read : ReadsStoredZones geometry old mid zones) where
  -- the zones that were read, cut into blocks
  abbrev pub before : List Zone
  before = zones_of geometry.block zones

  -- a fault in the next zone is a fault in a zone of all the bytes
  pub fails_next : (counts : ZoneCounts) (fault : ImageFault) → counts ≡ counts_of before → length zones < geometry.zones
      → IfSome mid (λ rest. TellsFirst (zone_fault geometry counts rest) fault) → IfSome old (λ bytes. FailsInZone geometry bytes fault)
  fails_next counts fault same more told =
      let count : length before ≡ length zones = length-map zones (zone_stored geometry.block) in
      after_front old mid (zones_bytes before) (λ rest. TellsFirst (zone_fault geometry counts rest) fault) (λ bytes. FailsInZone geometry bytes fault) read.text
      (λ rest t. record { before = before; rest = rest; text = refl; zones = read.begins; count = omega (arith, count, more); told = rw same at t }) told
