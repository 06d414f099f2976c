-- What the bytes of a file mean: they have one reading, and a stored drive is found in them.
use Rattle.std.proofs.Common.{◌≡◌, ℕ, ◌+◌, true, List, [], ◌∷◌, ◌++◌, length, refl, sym, ap, ◌∙◌, take, append_assoc}
use Rattle.std.proofs.lemmas.List.{append-nil, length-append, take_at}
use Rattle.zone_states.specs.Zone.{Zone}
use Rattle.zone_states.specs.declared.geometry.Geometry.{Geometry}
use Rattle.drive_port.specs.Drive.{DriveState}
use Rattle.drive_port.specs.Run.{restarted}
use Rattle.zone_drive.specs.Stored.{unused}
use Rattle.drive_images.specs.Image.{IsImage, image_bytes}
use Rattle.drive_images.proofs.FrontLaws.{one-image}
use Rattle.drive_images.proofs.MeaningLaws.{one-drive}
use Rattle.drive_journal.specs.Change.{Change, Sum, journal_bytes, last_sum, start}
use Rattle.drive_journal.specs.File.{HasParts, IsDriveFile, IsStored, IsStoredWhole, Parts, whole_length, zones_read}
use Rattle.drive_journal.specs.Replay.{at_rest, replayed}
use Rattle.drive_journal.proofs.CutLaws.{cut-nothing, one-reading}
use Rattle.drive_journal.proofs.KeepingLaws.{stored-same}
use Rattle.drive_journal.proofs.RestLaws.{rest-rest}

-- bytes have one image, one list of changes after it, and one rest
pub record SameParts (a b : Parts) : Type 0 where
  pub image : a.image ≡ b.image
  pub saved : a.saved ≡ b.saved
  pub changes : a.changes ≡ b.changes

-- bytes have the parts of one file at most
pub one-file : (bytes : List ℕ) (a b : Parts) → HasParts bytes a → HasParts bytes b → SameParts a b
one-file bytes a b x y =
    let one = one-image a.image b.image (journal_bytes start a.changes ++ a.cut) (journal_bytes start b.changes ++ b.cut) a.saved b.saved x.is_image y.is_image (sym x.text ∙ y.text) in
    let saved = one-drive b.image a.saved b.saved (rw one.0 at x.is_image) y.is_image in
    let reading = one-reading b.saved.geometry start a.changes b.changes a.cut b.cut (rw saved at x.each) y.each (rw saved at x.cut_off.none) y.cut_off.none one.1 in
    record { image = one.0; saved = saved; changes = reading.0 }

-- ---- what stores a drive

-- an image stores its drive
pub image-stored : (bytes : List ℕ) (drive : DriveState) → IsImage bytes drive → IsStoredWhole bytes drive start
image-stored bytes drive is = record {
  stored = record {
    parts = record { image = bytes; saved = drive; changes = []; cut = [] };
    has = record { text = sym (append-nil bytes); is_image = is; each = tt; cut_off = cut-nothing drive.geometry start };
    geometry = refl;
    zones = refl;
  };
  none = refl;
  sum_is = refl;
}

-- so does the image of its zones, whatever it has counted
pub zones-stored : (bytes : List ℕ) (drive : DriveState) → bytes ≡ image_bytes drive.geometry drive.zones → IsImage (image_bytes drive.geometry drive.zones) (unused drive.geometry drive.zones) → IsStoredWhole bytes drive start
zones-stored bytes drive text is =
    rw text (stored-same (image_bytes drive.geometry drive.zones) (unused drive.geometry drive.zones) start (image-stored (image_bytes drive.geometry drive.zones) (unused drive.geometry drive.zones) is) drive refl refl)

-- what stores a drive stores it when it is restarted
pub restart-stored : (bytes : List ℕ) (drive : DriveState) → IsStored bytes drive → IsStored bytes (restarted drive)
restart-stored bytes drive stored = record { parts = stored.parts; has = stored.has; geometry = stored.geometry; zones = rest-rest drive.zones ∙ stored.zones }

-- ---- what is read

read-rest : (geometry : Geometry) (zones : List Zone) (changes : List Change) → at_rest (zones_read geometry zones changes) ≡ at_rest (replayed geometry zones changes)
read-rest geometry zones [] = refl
read-rest geometry zones (change ∷ changes) = rest-rest (replayed geometry zones (change ∷ changes))

-- drives that are restarted are the same if their geometry is, and their zones at rest, once both say nothing of a loss of power
same-restart : (a b : DriveState) → a.geometry ≡ b.geometry → at_rest a.zones ≡ at_rest b.zones → a.durable ≡ [] → a.clean ≡ true → a.unfailing ≡ true → restarted a ≡ record (restarted b) { durable = []; clean = true; unfailing = true }
same-restart a b geometry zones silent clean unfailing = rw (geometry, zones, silent, clean, unfailing) refl

-- the drive that is read is the stored one, up to a restart, and it says nothing of a loss of power
pub stored-read : (bytes : List ℕ) (drive opened : DriveState) (whole : ℕ) (sum : Sum) → IsStored bytes drive → IsDriveFile bytes opened whole sum → restarted opened ≡ record (restarted drive) { durable = []; clean = true; unfailing = true }
stored-read bytes drive opened whole sum stored file =
    let same = one-file bytes file.parts stored.parts file.has stored.has in
    let mine = file.parts in
    let geometry : opened.geometry ≡ drive.geometry = ap (λ (d : DriveState). d.geometry) (file.drive_is) ∙ ap (λ (d : DriveState). d.geometry) same.saved ∙ sym stored.geometry in
    let zones : at_rest opened.zones ≡ at_rest drive.zones =
    ap (λ (d : DriveState). at_rest d.zones) file.drive_is ∙ read-rest mine.saved.geometry mine.saved.zones mine.changes
    ∙ ap (λ (d : DriveState). at_rest (replayed d.geometry d.zones mine.changes)) same.saved
    ∙ ap (λ (cs : List Change). at_rest (replayed stored.parts.saved.geometry stored.parts.saved.zones cs)) same.changes ∙ sym stored.zones in
    same-restart opened drive geometry zones (ap (λ (d : DriveState). d.durable) file.drive_is) (ap (λ (d : DriveState). d.clean) file.drive_is) (ap (λ (d : DriveState). d.unfailing) file.drive_is)

-- and as many bytes are whole
pub stored-length : (bytes : List ℕ) (drive opened : DriveState) (whole : ℕ) (sum : Sum) → (stored : IsStored bytes drive) → IsDriveFile bytes opened whole sum → whole ≡ whole_length stored.parts
stored-length bytes drive opened whole sum stored file =
    let same = one-file bytes file.parts stored.parts file.has stored.has in
    file.whole_is ∙ ap (λ (l : List ℕ). length l + length (journal_bytes start file.parts.changes)) same.image ∙ ap (λ (cs : List Change). length stored.parts.image + length (journal_bytes start cs)) same.changes

-- the whole bytes of a file store the drive that is read in it
pub opened-stored : (bytes : List ℕ) (drive : DriveState) (whole : ℕ) (sum : Sum) → IsDriveFile bytes drive whole sum → IsStoredWhole (take whole bytes) drive sum
opened-stored bytes drive whole sum file =
    let mine = file.parts in
    let front = mine.image ++ journal_bytes start mine.changes in
    let text : bytes ≡ front ++ mine.cut = file.has.text ∙ sym (append_assoc mine.image (journal_bytes start mine.changes) mine.cut) in
    let long : length front ≡ whole = length-append mine.image (journal_bytes start mine.changes) ∙ sym file.whole_is in
    record {
      stored = record {
        parts = record { image = mine.image; saved = mine.saved; changes = mine.changes; cut = [] };
        has = record {
          text = ap (λ (l : List ℕ). take whole l) text ∙ take_at front mine.cut whole long ∙ ap (λ (l : List ℕ). mine.image ++ l) (sym (append-nil (journal_bytes start mine.changes)));
          is_image = file.has.is_image;
          each = file.has.each;
          cut_off = cut-nothing mine.saved.geometry (last_sum start mine.changes);
        };
        geometry = ap (λ (d : DriveState). d.geometry) file.drive_is;
        zones = ap (λ (d : DriveState). at_rest d.zones) file.drive_is ∙ read-rest mine.saved.geometry mine.saved.zones mine.changes;
      };
      none = refl;
      sum_is = file.sum_is;
    }
