-- A whole image: its head, its zones, and its end.
use Rattle.std.proofs.Common.{◌≡◌, ℕ, true, false, List, [], ◌++◌, length, Option, Some, refl, ap, ◌∙◌, inl, inr, append_assoc, arith}
use Rattle.std.specs.Prelude.{IfSome, nat_lt}
use Rattle.std.specs.Io.KnownBytes.{Consumes}
use Rattle.std.proofs.KnownBytes.{Consumes-trans}
use Rattle.std.proofs.lemmas.Bool.Decides.{nat_tests}
use Rattle.std.proofs.lemmas.List.{append-nil, length-append, length-map, take_at}
use Rattle.zone_states.specs.Checks.{first_failing}
use Rattle.zone_states.specs.Geometry.{IsInRange}
use Rattle.zone_states.specs.Stored.{StoredZone, zone_stored}
use Rattle.zone_states.specs.Zone.{Zone}
use Rattle.zone_states.specs.declared.geometry.Geometry.{Geometry}
use Rattle.zone_drive.specs.Stored.{unused, zones_of}
use Rattle.drive_images.specs.Image.{IsImage, MayBegin, head_bytes, image_bytes, zones_bytes}
use Rattle.drive_images.specs.Reading.{FailsInZone, IsFrontFault, IsImageFault, TellsFirst, end_fault, head_checks, head_fault}
use Rattle.drive_images.specs.Steps.{ReadsImage, ReadsStoredZones}
use Rattle.drive_images.specs.declared.fault.ImageFault.{ImageFault}
use Rattle.drive_images.proofs.TellingLaws.{after_front, tells_first}

module _ (head : List ℕ) (long : length head ≡ 64) where
  -- the fault in the head is the first failing check of the 64 bytes at the front
  pub head_fault-at : (rest : List ℕ) → head_fault (head ++ rest) ≡ first_failing (head_checks head)
  head_fault-at rest =
      let enough : nat_lt (length (head ++ rest)) 64 ≡ false = grind (arith, nat_tests, length-append head rest) in
      rw (enough, take_at head rest 64 long) refl

  -- bytes that begin with a head have the fault of its first failing check
  pub bad_head : (rest : List ℕ) (fault : ImageFault) → first_failing (head_checks head) ≡ Some fault → IsFrontFault (head ++ rest) fault
  bad_head rest fault e = inl (tells_first (head_fault (head ++ rest)) fault (head_fault-at rest ∙ e))

-- a fault in the zones is one of the image
pub fails_after_head : (geometry : Geometry) (head rest : List ℕ) (fault : ImageFault) → IsInRange geometry → head ≡ head_bytes geometry → FailsInZone geometry rest fault → IsFrontFault (head ++ rest) fault
fails_after_head geometry head rest fault in_range same fails = inr (record { geometry = geometry; rest = rest; text = ap (λ xs. xs ++ rest) same; in_range = in_range; fails = fails })

-- bytes that do not begin with an image are none
pub front_fault : (bytes : List ℕ) (fault : ImageFault) → IsFrontFault bytes fault → IsImageFault bytes fault
front_fault bytes fault (inl told) = inl told
front_fault bytes fault (inr front) =
    let fails = front.fails in
    let more : nat_lt (length fails.before) front.geometry.zones ≡ true = grind (arith, nat_tests, fails.count) in
    inr (record {
      geometry = front.geometry;
      rest = front.rest;
      text = front.text;
      in_range = front.in_range;
      fails = record { before = fails.before; rest = fails.rest; text = fails.text; zones = fails.zones; count = omega (arith, fails.count); told = rw more fails.told };
    })

-- the head and the zones of an image are read
pub front_read : (geometry : Geometry) (zones : List StoredZone) (old mid new : Option (List ℕ)) (head : List ℕ) → IsInRange geometry → head ≡ head_bytes geometry → Consumes old mid head
    → ReadsStoredZones geometry mid new zones → length zones ≡ geometry.zones → ReadsImage geometry old new zones
front_read geometry zones old mid new head in_range same first read count = record {
  text = rw (← same) (Consumes-trans old mid new head (zones_bytes (zones_of geometry.block zones)) first read.text);
  in_range = in_range;
  are_zones = record { count = count; whole = read.whole; lawful = read.begins.lawful; active = read.begins.active; open_zones = read.begins.open_zones };
}

-- ---- an image that is read

module _ (geometry : Geometry) (zones : List StoredZone) (old new : Option (List ℕ)) (read : ReadsImage geometry old new zones) where
  abbrev here : List Zone
  here = zones_of geometry.block zones

  count : length here ≡ geometry.zones
  count = length-map zones (zone_stored geometry.block) ∙ read.are_zones.count

  begins : MayBegin geometry here
  begins = record { lawful = read.are_zones.lawful; active = read.are_zones.active; open_zones = read.are_zones.open_zones }

  -- the image bytes of the zones that were read are an image of their unused drive
  pub image_of : IsImage (image_bytes geometry here) (unused geometry here)
  image_of = record { text = refl; geometry = read.in_range; zones = begins; count = count; unused = refl }

  -- nothing follows it
  pub image_read : IfSome new (λ rest. rest ≡ []) → IfSome old (λ bytes. IsImage bytes (unused geometry here))
  image_read end = after_front old new (image_bytes geometry here) (λ rest. rest ≡ []) (λ bytes. IsImage bytes (unused geometry here)) read.text
      (λ rest none. rw (none, append-nil (image_bytes geometry here)) image_of) end

  -- bytes follow it
  pub image_followed : (fault : ImageFault) → IfSome new (λ rest. TellsFirst (end_fault rest) fault) → IfSome old (λ bytes. IsImageFault bytes fault)
  image_followed fault told =
      let none_more : nat_lt (length here) geometry.zones ≡ false = grind (arith, nat_tests, count) in
      after_front old new (image_bytes geometry here) (λ rest. TellsFirst (end_fault rest) fault) (λ bytes. IsImageFault bytes fault) read.text
      (λ rest t. inr (record {
        geometry = geometry;
        rest = zones_bytes here ++ rest;
        text = append_assoc (head_bytes geometry) (zones_bytes here) rest;
        in_range = read.in_range;
        fails = record { before = here; rest = rest; text = refl; zones = begins; count = omega (arith, count); told = rw none_more t };
      })) told
