-- A file that stores a lawful drive has no fault.
use Rattle.std.proofs.Common.{◌≡◌, ℕ, ◌+◌, Bool, true, false, List, [], ◌∷◌, ◌++◌, length, take, drop, Option, Some, None, Result, Ok, Err, inl, inr, refl, sym, ap, ◌∙◌, subst, arith}
use Rattle.std.specs.Prelude.{if◌then◌else◌, nat_lt, slice_index}
use Rattle.std.proofs.lemmas.List.{append-nil}
use Rattle.nvme_wire.specs.Descriptor.{state_of}
use Rattle.nvme_wire.specs.declared.zone_state.ZoneState.{ZoneState}
use Rattle.zone_states.specs.Checks.{first_failing}
use Rattle.zone_states.specs.Geometry.{IsInRange}
use Rattle.zone_states.specs.declared.geometry.Geometry.{Geometry}
use Rattle.drive_port.specs.Drive.{DriveState, IsLawful, IsStorable}
use Rattle.drive_port.specs.Run.{restarted}
use Rattle.drive_port.proofs.ClosingLaws.{lawful-restarted}
use Rattle.zone_drive.specs.Stored.{unused}
use Rattle.byteorder.specs.Endian.{little_from}
use Rattle.drive_images.specs.Image.{IsImage, zone_head_bytes}
use Rattle.drive_images.specs.Meaning.{is_of_bytes}
use Rattle.drive_images.specs.Reading.{IsFrontFault, begins_with, fault_with, head_in_state, told_head, zone_fault}
use Rattle.drive_images.specs.declared.counts.ZoneCounts.{ZoneCounts}
use Rattle.drive_images.specs.declared.fault.ImageFault.{ImageFault}
use Rattle.drive_images.specs.declared.fault.ImageFault.TheVariants.{Geometry as BadGeometry, Input, Limits, Long, Magic, OutOfMemory, RestNotZero, Short, State, Written}
use Rattle.drive_images.specs.declared.zone_head.ZoneHead.{ZoneHead}
use Rattle.drive_images.proofs.FrontLaws.{followed, one-image}
use Rattle.drive_images.proofs.ImageLaws.{front_fault}
use Rattle.drive_images.proofs.MeaningLaws.{no-fault, one-drive, one-fault}
use Rattle.drive_journal.specs.Change.{Change, Sum, journal_bytes, last_sum, start}
use Rattle.drive_journal.specs.File.{HasParts, IsStored, Parts, drive_read, remade, zones_read}
use Rattle.drive_journal.specs.FileFaults.{FailsBehindChanges, FailsBehindImage, IsFileFault, is_of_file}
use Rattle.drive_journal.specs.Replay.{at_rest}
use Rattle.drive_journal.specs.Tail.{IsCutOff, IsTailFault}
use Rattle.drive_journal.specs.declared.fault.ReadFault.{ReadFault}
use Rattle.drive_journal.specs.declared.fault.ReadFault.TheVariants.{Damaged, Earlier, Image, Zones}
use Rattle.drive_journal.specs.declared.fault.ReadFault.TheVariants as files
use Rattle.drive_journal.proofs.CutLaws.{one-reading}
use Rattle.drive_journal.proofs.MeaningLaws.{one-file}
use Rattle.drive_journal.proofs.ReadLaws.{earlier-other}

-- ---- the front of an image is never too long

some-fault : (a b : ImageFault) → Some a ≡ Some b → a ≡ b
some-fault a b e = cc e

head-not-long : (short magic range zeros : Bool) → (if short then Some Short else first_failing ((magic, Magic) ∷ (range, BadGeometry) ∷ (zeros, RestNotZero) ∷ [])) ≡ Some Long → ⊥
head-not-long true magic range zeros e = absurd (cc e)
head-not-long false true range zeros e = absurd (cc e)
head-not-long false false true zeros e = absurd (cc e)
head-not-long false false false true e = absurd (cc e)
head-not-long false false false false e = absurd (cc e)

checks-not-long : (written limits short : Bool) → first_failing ((written, Written) ∷ (limits, Limits) ∷ (short, Short) ∷ []) ≡ Some Long → ⊥
checks-not-long true limits short e = absurd (cc e)
checks-not-long false true short e = absurd (cc e)
checks-not-long false false true e = absurd (cc e)
checks-not-long false false false e = absurd (cc e)

state-not-long : (head : List ℕ) (state : Option ZoneState) → head_in_state head state ≡ Err Long → ⊥
state-not-long head None e = absurd (cc e)
state-not-long head (Some state) e = by (begins_with head (zone_head_bytes state (little_from 4 4 head))) (record { state = state; written = little_from 4 4 head }) e
  where
    by : (b : Bool) (found : ZoneHead) → if◌then◌else◌ {A = Result ZoneHead ImageFault} b (Ok found) (Err RestNotZero) ≡ Err Long → ⊥
    by true found e = absurd (cc e)
    by false found e = absurd (cc e)

told-not-long : (head : List ℕ) → told_head head ≡ Err Long → ⊥
unfolding told_head
told-not-long head e = state-not-long head (state_of (slice_index head 0)) e

zone-not-long : (geometry : Geometry) (counts : ZoneCounts) (bytes : List ℕ) → zone_fault geometry counts bytes ≡ Some Long → ⊥
zone-not-long geometry counts bytes e = by (nat_lt (length bytes) 8) (told_head (take 8 bytes)) (told-not-long (take 8 bytes)) e
  where
    by : (short : Bool) (told : Result ZoneHead ImageFault) → (told ≡ Err Long → ⊥) → (if short then Some Short else fault_with geometry counts (length (drop 8 bytes)) told) ≡ Some Long → ⊥
    by true told other e = absurd (cc e)
    by false (Ok head) other e = checks-not-long _ _ _ e
    by false (Err fault) other e = other (ap (λ (f : ImageFault). Err f) (some-fault fault Long e))

front-not-long : (bytes : List ℕ) → IsFrontFault bytes Long → ⊥
front-not-long bytes (inl told) = head-not-long _ _ _ _ told
front-not-long bytes (inr front) = zone-not-long front.geometry _ front.fails.rest front.fails.told

-- bytes that begin with an image have no fault in it
pub image-no-fault : (image rest : List ℕ) (drive : DriveState) (fault : ImageFault) → IsImage image drive → IsFrontFault (image ++ rest) fault → is_of_bytes fault ≡ false
image-no-fault image [] drive fault is fails = no-fault image drive fault is (rw (append-nil image) at (front_fault (image ++ []) fault fails))
image-no-fault image (byte ∷ rest) drive fault is fails = by (is_of_bytes fault) refl
  where
    by : (of : Bool) → is_of_bytes fault ≡ of → is_of_bytes fault ≡ false
    by true e =
        let same = one-fault (image ++ byte ∷ rest) fault Long e refl (front_fault (image ++ byte ∷ rest) fault fails) (followed image rest byte drive is) in
        absurd (front-not-long (image ++ byte ∷ rest) (rw same at fails))
    by false e = e

-- ---- what is after it

-- a change that was cut off has no fault
no-tail-fault : (geometry : Geometry) (sum : Sum) (from at : ℕ) (cut : List ℕ) (fault : ReadFault) → IsCutOff geometry sum cut → IsTailFault geometry sum from at cut fault → ⊥
no-tail-fault geometry sum from at cut (files.Long place) is told = absurd (cc (told.2, is.begins))
no-tail-fault geometry sum from at cut (Earlier place) is told = absurd (cc (earlier-other cut told.2, is.begins))
no-tail-fault geometry sum from at cut (Damaged place) is told = told.1 is
no-tail-fault geometry sum from at cut (Image fault) is told = told
no-tail-fault geometry sum from at cut Zones is told = told

module _ (bytes : List ℕ) (parts : Parts) (has : HasParts bytes parts) where
  behind-none : (fault : ReadFault) (image rest : List ℕ) (saved : DriveState) → bytes ≡ image ++ rest → IsImage image saved → FailsBehindChanges saved.geometry (length image) rest fault → ⊥
  behind-none fault image rest saved text is fails =
      let one = one-image image parts.image rest (journal_bytes start parts.changes ++ parts.cut) saved parts.saved is has.is_image (sym text ∙ has.text) in
      let drive = one-drive parts.image saved parts.saved (rw one.0 at is) has.is_image in
      let reading = one-reading parts.saved.geometry start fails.changes parts.changes fails.rest parts.cut (rw drive at fails.each) has.each (rw drive at fails.none) has.cut_off.none (sym fails.text ∙ one.1) in
      let cut : IsCutOff parts.saved.geometry (last_sum start fails.changes) fails.rest = rw (reading.0, reading.1) has.cut_off in
      no-tail-fault parts.saved.geometry (last_sum start fails.changes) (length image) (length image + length (journal_bytes start fails.changes)) fails.rest fault cut (rw drive at fails.told)

-- ---- the drive

storable : (geometry : Geometry) → IsInRange geometry → IsStorable geometry
storable g r = record {
  block = elim r.block [ inl small ↦ omega (arith, small) | inr large ↦ omega (arith, large) ];
  zones = omega (arith, r.zones);
  size = omega (arith, r.size);
  capacity = omega (arith, r.size, r.capacity);
  transfer = omega (arith, r.transfer);
  active = omega (arith, r.active);
  open_zones = omega (arith, r.active, r.open_zones);
}

saved-lawful : (image : List ℕ) (drive : DriveState) → IsImage image drive → IsLawful (unused drive.geometry drive.zones)
saved-lawful image drive is = record {
  geometry = storable drive.geometry is.geometry;
  count = is.count;
  zones = is.zones.lawful;
  active = is.zones.active;
  open_zones = is.zones.open_zones;
  completed = omega arith;
  stopped = λ e. absurd (omega (arith, e));
}

-- a lawful drive is lawful also if it says nothing of a loss of power
lawful-silent : (drive : DriveState) → IsLawful drive → IsLawful (record drive { durable = []; clean = true; unfailing = true })
lawful-silent drive lawful = record {
  geometry = lawful.geometry;
  count = lawful.count;
  zones = lawful.zones;
  active = lawful.active;
  open_zones = lawful.open_zones;
  completed = lawful.completed;
  stopped = lawful.stopped;
}

read-lawful : (bytes : List ℕ) (drive : DriveState) → (stored : IsStored bytes drive) → IsLawful drive → IsLawful (drive_read stored.parts)
read-lawful bytes drive stored lawful = by stored.parts.changes refl
  where
    by : (changes : List Change) → stored.parts.changes ≡ changes → IsLawful (unused stored.parts.saved.geometry (zones_read stored.parts.saved.geometry stored.parts.saved.zones stored.parts.changes))
    by [] e = rw e (saved-lawful stored.parts.image stored.parts.saved stored.has.is_image)
    by (change ∷ changes) e =
        let rest = lawful-silent (restarted drive) (lawful-restarted drive lawful) in
        let same : record (restarted drive) { durable = []; clean = true; unfailing = true } ≡ unused stored.parts.saved.geometry (at_rest (remade stored.parts)) = rw (stored.geometry, stored.zones) refl in
        rw e (rw e at (subst (λ (d : DriveState). IsLawful d) same rest))

-- ---- the law

behind-image : (bytes : List ℕ) (parts : Parts) → HasParts bytes parts → (fault : ImageFault) → FailsBehindImage bytes (Image fault) → is_of_bytes fault ≡ false
behind-image bytes parts has Input fails = refl
behind-image bytes parts has OutOfMemory fails = refl
behind-image bytes parts has Magic f = absurd (behind-none bytes parts has (Image Magic) f.image f.rest f.saved f.text f.is_image f.fails)
behind-image bytes parts has BadGeometry f = absurd (behind-none bytes parts has (Image BadGeometry) f.image f.rest f.saved f.text f.is_image f.fails)
behind-image bytes parts has State f = absurd (behind-none bytes parts has (Image State) f.image f.rest f.saved f.text f.is_image f.fails)
behind-image bytes parts has Written f = absurd (behind-none bytes parts has (Image Written) f.image f.rest f.saved f.text f.is_image f.fails)
behind-image bytes parts has RestNotZero f = absurd (behind-none bytes parts has (Image RestNotZero) f.image f.rest f.saved f.text f.is_image f.fails)
behind-image bytes parts has Limits f = absurd (behind-none bytes parts has (Image Limits) f.image f.rest f.saved f.text f.is_image f.fails)
behind-image bytes parts has Short f = absurd (behind-none bytes parts has (Image Short) f.image f.rest f.saved f.text f.is_image f.fails)
behind-image bytes parts has Long f = absurd (behind-none bytes parts has (Image Long) f.image f.rest f.saved f.text f.is_image f.fails)

-- what stores a lawful drive has no fault
pub stored-no-fault : (bytes : List ℕ) (drive : DriveState) (fault : ReadFault) → IsStored bytes drive → IsLawful drive → IsFileFault bytes fault → is_of_file fault ≡ false
stored-no-fault bytes drive (Image fault) stored lawful (inl front) = image-no-fault stored.parts.image (journal_bytes start stored.parts.changes ++ stored.parts.cut) stored.parts.saved fault stored.has.is_image (rw stored.has.text at front)
stored-no-fault bytes drive (Image fault) stored lawful (inr behind) = behind-image bytes stored.parts stored.has fault behind
stored-no-fault bytes drive (files.Long at) stored lawful f = absurd (behind-none bytes stored.parts stored.has (files.Long at) f.image f.rest f.saved f.text f.is_image f.fails)
stored-no-fault bytes drive (Earlier at) stored lawful f = absurd (behind-none bytes stored.parts stored.has (Earlier at) f.image f.rest f.saved f.text f.is_image f.fails)
stored-no-fault bytes drive (Damaged at) stored lawful f = absurd (behind-none bytes stored.parts stored.has (Damaged at) f.image f.rest f.saved f.text f.is_image f.fails)
stored-no-fault bytes drive Zones stored lawful makes =
    let same = one-file bytes makes.parts stored.parts makes.has stored.has in
    absurd (makes.none (rw (same.saved, same.changes) (read-lawful bytes drive stored lawful)))
