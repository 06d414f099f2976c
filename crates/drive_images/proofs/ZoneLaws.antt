-- One zone of an image.
use Rattle.std.proofs.Common.{◌≡◌, ℕ, ◌+◌, ◌*◌, ◌/◌, ◌≤◌, Bool, true, false, List, ◌++◌, length, Some, Ok, Err, refl, ap, ◌∙◌, arith}
use Rattle.std.specs.Prelude.{nat_lt}
use Rattle.std.proofs.lemmas.Bool.Decides.{nat_tests}
use Rattle.std.proofs.lemmas.List.{drop_at, length-append, take_at}
use Rattle.std.proofs.lemmas.Nat.{div-mul-add}
use Rattle.nvme_wire.specs.declared.zone_state.ZoneState.{ZoneState}
use Rattle.zone_states.proofs.Cutting.{length-cut, concat-cut}
use Rattle.zone_states.specs.Stored.{AreWholeBlocks, zone_stored}
use Rattle.zone_states.specs.Zone.{IsLawfulZone}
use Rattle.zone_states.specs.declared.geometry.Geometry.{Geometry}
use Rattle.zone_drive.specs.Stored.{may_hold}
use Rattle.zone_drive.proofs.WriteLaws.{cut-whole}
use Rattle.zone_drive.proofs.ZonesLaws.{may_hold-true}
use Rattle.drive_images.specs.Image.{zone_bytes, zone_head_bytes}
use Rattle.drive_images.specs.Reading.{TellsFirst, counts_with, fault_with, is_over_limit, short_of, told_head, zone_fault}
use Rattle.drive_images.specs.declared.counts.ZoneCounts.{ZoneCounts}
use Rattle.drive_images.specs.declared.fault.ImageFault.{ImageFault}
use Rattle.drive_images.specs.declared.fault.ImageFault.TheVariants as faults
use Rattle.drive_images.specs.declared.zone_head.ZoneHead.{ZoneHead}
use Rattle.drive_images.proofs.TellingLaws.{tells_first, tells_so}

-- ---- its faults

module _ (geometry : Geometry) (counts : ZoneCounts) where
  -- fewer bytes than a head
  short_head : (bytes : List ℕ) (fault : ImageFault) → short_of 8 bytes ≡ Some fault → zone_fault geometry counts bytes ≡ Some fault
  short_head bytes fault e = by_length (nat_lt (length bytes) 8) refl
    where
      by_length : (b : Bool) → nat_lt (length bytes) 8 ≡ b → zone_fault geometry counts bytes ≡ Some fault
      by_length true t = rw t (rw t at e)
      by_length false f = cc (rw f at e)

  -- what is told of a zone head that is too short is told of the zone
  tells_short_head : (bytes : List ℕ) (fault : ImageFault) → TellsFirst (short_of 8 bytes) fault → TellsFirst (zone_fault geometry counts bytes) fault
  tells_short_head bytes fault t = tells_so (short_of 8 bytes) (zone_fault geometry counts bytes) fault (short_head bytes fault) t

  -- a head, and the bytes after it
  zone_fault-at : (head rest : List ℕ) → length head ≡ 8 → zone_fault geometry counts (head ++ rest) ≡ fault_with geometry counts (length rest) (told_head head)
  zone_fault-at head rest long =
      let enough : nat_lt (length (head ++ rest)) 8 ≡ false = grind (arith, nat_tests, length-append head rest) in
      rw (enough, take_at head rest 8 long, drop_at head rest 8 long) refl

  -- a fault that the 8 bytes of a head tell is told of the zone
  pub tells_bad_head : (head rest : List ℕ) (fault : ImageFault) → length head ≡ 8 → told_head head ≡ Err fault → TellsFirst (zone_fault geometry counts (head ++ rest)) fault
  tells_bad_head head rest fault long e = tells_first _ fault (zone_fault-at head rest long ∙ ap (fault_with geometry counts (length rest)) e)

  module _ (head : List ℕ) (told : ZoneHead) (long : length head ≡ 8) (e : told_head head ≡ Ok told) where
    -- after a good head, the fault of a zone is what the checks of that head find
    pub told-at : (rest : List ℕ) → zone_fault geometry counts (head ++ rest) ≡ fault_with geometry counts (length rest) (Ok told)
    told-at rest = zone_fault-at head rest long ∙ ap (fault_with geometry counts (length rest)) e

    -- a zone whose state may not hold that many blocks has the fault `Written`
    pub too_many : (rest : List ℕ) → may_hold told.state geometry.capacity told.written ≡ false → zone_fault geometry counts (head ++ rest) ≡ Some faults.Written
    too_many rest bad = told-at rest ∙ rw bad refl

    module _ (fits : may_hold told.state geometry.capacity told.written ≡ true) where
      -- a zone that makes too many zones active or open has the fault `Limits`
      pub over_limit : (rest : List ℕ) → is_over_limit geometry (counts_with counts told.state) ≡ true → zone_fault geometry counts (head ++ rest) ≡ Some faults.Limits
      over_limit rest bad = told-at rest ∙ rw (fits, bad) refl

      -- a fault that is told of too few bytes for the blocks is told of the zone
      pub tells_short_zone : (rest : List ℕ) (fault : ImageFault) → is_over_limit geometry (counts_with counts told.state) ≡ false
          → TellsFirst (short_of (told.written * geometry.block) rest) fault → TellsFirst (zone_fault geometry counts (head ++ rest)) fault
      tells_short_zone rest fault within t = tells_so _ (zone_fault geometry counts (head ++ rest)) fault (λ short. told-at rest ∙ rw (fits, within) short) t

-- ---- its bytes

module _ (block written : ℕ) (bytes : List ℕ) (some : 1 ≤ block) (long : length bytes ≡ written * block) where
  count-whole : length bytes / block ≡ written
  count-whole = let sum : length bytes ≡ written * block + 0 = omega arith in rw sum (div-mul-add written block 0 some)

  -- bytes as long as a number of blocks are whole blocks
  pub is-whole : AreWholeBlocks block bytes
  is-whole = rw count-whole long

  -- the bytes of a zone in an image are its head, and then its written bytes
  pub zone_bytes-is : (state : ZoneState) → zone_bytes (zone_stored block (record { state = state; bytes = bytes })) ≡ zone_head_bytes state written ++ bytes
  zone_bytes-is state = rw (count-whole, length-cut block written bytes, concat-cut block written bytes long) refl

  -- a stored zone whose state may hold its blocks is lawful
  pub is-lawful : (geometry : Geometry) (state : ZoneState) → geometry.block ≡ block → may_hold state geometry.capacity written ≡ true → IsLawfulZone geometry (zone_stored block (record { state = state; bytes = bytes }))
  is-lawful geometry state e fits = record {
    written = rw (count-whole, length-cut block written bytes) (may_hold-true state geometry.capacity written fits);
    whole = rw e (cut-whole block (length bytes / block) bytes is-whole);
  }
