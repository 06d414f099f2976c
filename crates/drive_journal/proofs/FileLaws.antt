-- What is read in a file: its parts, or its first fault.
use Rattle.std.proofs.Common.{◌≡◌, ℕ, ◌+◌, ◌<◌, true, false, ◌&&◌, List, [], ◌∷◌, ◌++◌, length, ◌==◌, Option, Some, None, inr, refl, sym, ap, ◌∙◌, subst, arith}
use Rattle.std.specs.Prelude.{Err, IfErr, IfSome, IsErrAnd, IsTrue, ◌↔◌, Ok, Result, if◌then◌else◌, is_some, nat_lt}
use Rattle.std.specs.Io.KnownBytes.{Consumes}
use Rattle.std.specs.List.{AllByRecursion, list_all}
use Rattle.std.proofs.lemmas.Bool.{le-ltb, lt-ltb}
use Rattle.std.proofs.lemmas.List.{length-append, length-map}
use Rattle.zone_states.specs.Checks.{first_failing}
use Rattle.zone_states.specs.Geometry.{IsInRange, geometry_checks}
use Rattle.zone_states.specs.Stored.{AreWholeBlocks, StoredZone, zone_stored}
use Rattle.zone_states.specs.Zone.{Zone}
use Rattle.zone_states.specs.declared.geometry.Geometry.{Geometry}
use Rattle.drive_port.specs.Drive.{DriveState, IsLawful}
use Rattle.drive_port.specs.Run.{restarted}
use Rattle.zone_drive.specs.Faults.{IsFault}
use Rattle.zone_drive.specs.Stored.{AreZones, unused, zones_of}
use Rattle.zone_drive.specs.declared.drive.DriveFault.{DriveFault}
use Rattle.zone_drive.specs.declared.drive.DriveFault.TheVariants as drives
use Rattle.drive_images.specs.Image.{IsImage, image_bytes}
use Rattle.drive_images.specs.Reading.{is_out_of_range}
use Rattle.drive_images.specs.Steps.{ReadsImage}
use Rattle.drive_images.proofs.ImageLaws.{image_of}
use Rattle.drive_images.proofs.MeaningLaws.{in_range-passes}
use Rattle.drive_images.proofs.TellingLaws.{some_so}
use Rattle.drive_journal.specs.Change.{Change, IsChange, change_bytes, journal_bytes, last_sum, next_sum, start}
use Rattle.drive_journal.specs.File.{HasParts, IsDriveFile, Parts, zones_read}
use Rattle.drive_journal.specs.FileFaults.{FailsBehindImage, IsFileFault, IsJournalFault}
use Rattle.drive_journal.specs.Reading.{Replays}
use Rattle.drive_journal.specs.Replay.{at_rest, replayed}
use Rattle.drive_journal.specs.Tail.{IsCutOff}
use Rattle.drive_journal.specs.declared.fault.ReadFault.{ReadFault}
use Rattle.drive_journal.specs.declared.fault.ReadFault.TheVariants.{Damaged, Earlier, Image, Long, Zones}
use Rattle.drive_journal.specs.declared.replayed.Replayed.{Replayed}
use Rattle.drive_journal.proofs.CutLaws.{length-change}
use Rattle.drive_journal.proofs.RestedImageLaws.{is_shut, tells-image}

-- ---- a drive of zones

not-in-range : (geometry : Geometry) (fault : _) → IsInRange geometry → first_failing (geometry_checks geometry) ≡ Some fault → ⊥
unfolding is_out_of_range
not-in-range geometry fault in_range e = let passes : is_some (first_failing (geometry_checks geometry)) ≡ false = in_range-passes geometry in_range in absurd (cc (passes, ap is_some e))

-- zones of whole blocks that a lawful drive has
are-lawful : (geometry : Geometry) (zones : List StoredZone) → AllByRecursion (λ (zone : StoredZone). AreWholeBlocks geometry.block zone.bytes) zones → IsLawful (unused geometry (zones_of geometry.block zones)) → AreZones geometry zones
are-lawful geometry zones whole lawful = record {
  count = sym (length-map zones (zone_stored geometry.block)) ∙ lawful.count;
  whole = whole;
  lawful = lawful.zones;
  active = lawful.active;
  open_zones = lawful.open_zones;
}

-- if no drive was made of zones, none has them
pub no-drive : (geometry : Geometry) (zones : List StoredZone) (fault : DriveFault) → IsInRange geometry → AllByRecursion (λ (zone : StoredZone). AreWholeBlocks geometry.block zone.bytes) zones → IsFault geometry zones fault
    → IsLawful (unused geometry (zones_of geometry.block zones)) → ⊥
no-drive geometry zones (drives.Geometry fault) in_range whole is lawful = not-in-range geometry fault in_range is
no-drive geometry zones drives.Zones in_range whole is lawful = is.1 (are-lawful geometry zones whole lawful)
no-drive geometry zones drives.OutOfMemory in_range whole is lawful = is

-- ---- the zones that are read

-- where there are changes, they have bytes
some-bytes : (geometry : Geometry) (change : Change) (changes : List Change) → IsChange geometry change → 0 < length (journal_bytes start (change ∷ changes))
some-bytes geometry change changes is = omega (arith, length-append (change_bytes start change) (journal_bytes (next_sum start change) changes), length-change geometry start change is)

-- the zones are closed just where there are changes
pub settled : (geometry : Geometry) (before : List Zone) (changes : List Change) (from end : ℕ) → AllByRecursion (IsChange geometry) changes → end ≡ from + length (journal_bytes start changes)
    → (if nat_lt from end then at_rest (replayed geometry before changes) else replayed geometry before changes) ≡ zones_read geometry before changes
settled geometry before [] from end each e = let none : nat_lt from end ≡ false = le-ltb from end (omega (arith, e)) in rw none refl
settled geometry before (change ∷ changes) from end each e =
    let some = some-bytes geometry change changes each.0 in
    let more : nat_lt from end ≡ true = lt-ltb from end (omega (arith, e, some)) in rw more refl

-- ---- a file

module _ (geometry : Geometry) (zones : List StoredZone) (old mid : Option (List ℕ)) (read : ReadsImage geometry old mid zones) where
  abbrev here : List Zone
  here = zones_of geometry.block zones

  abbrev image : List ℕ
  image = image_bytes geometry here

  module _ (end : Replayed) (after : List Zone) (replays : Replays geometry mid (length image) here end after) where
    abbrev parts_with : List ℕ → Parts
    parts_with cut = record { image = image; saved = unused geometry here; changes = replays.changes; cut = cut }

    -- what holds of all files with these parts
    in-parts : (P : List ℕ → Type 0) → ((bytes cut : List ℕ) → HasParts bytes (parts_with cut) → (IsTrue end.is_all ↔ (cut ≡ [])) → P bytes) → IfSome old P
    in-parts P f = by old mid replays.left read.text replays.text replays.cut_off replays.is_all
      where
        by : (old mid left : Option (List ℕ)) → Consumes old mid image → Consumes mid left (journal_bytes start replays.changes) → IfSome left (IsCutOff geometry (last_sum start replays.changes))
            → IfSome left (λ rest. IsTrue end.is_all ↔ (rest ≡ [])) → IfSome old P
        by None mid left front text cut all = tt
        by (Some xs) None left front text cut all = absurd front
        by (Some xs) (Some ys) None front text cut all = absurd text
        by (Some xs) (Some ys) (Some zs) front text cut all = f xs zs (record {
          text = front ∙ ap (λ (l : List ℕ). image ++ l) text;
          is_image = image_of geometry zones old mid read;
          each = replays.each;
          cut_off = cut;
        }) all

    zones-are : (last : List Zone) → last ≡ (if nat_lt (length image) end.whole then at_rest after else after) → last ≡ zones_read geometry here replays.changes
    zones-are last e =
        e ∙ ap (λ (zs : List Zone). if nat_lt (length image) end.whole then at_rest zs else zs) replays.zones
        ∙ settled geometry here replays.changes (length image) end.whole replays.each replays.end_is

    -- the drive that is read is the file's
    pub file-read : (last : List Zone) (drive : DriveState) → last ≡ (if nat_lt (length image) end.whole then at_rest after else after) → drive ≡ unused geometry last
        → IfSome old (λ bytes. IsDriveFile bytes drive end.whole end.sum)
    file-read last drive e drive_is = in-parts (λ bytes. IsDriveFile bytes drive end.whole end.sum) (λ bytes cut has all. record {
      parts = parts_with cut;
      has = has;
      drive_is = drive_is ∙ ap (λ (zs : List Zone). unused geometry zs) (zones-are last e);
      whole_is = replays.end_is;
      sum_is = replays.sum_is;
    })

    -- whether the file is the image of that drive restarted
    pub image-told : (last : List StoredZone) (drive : DriveState) → zones_of geometry.block last ≡ (if nat_lt (length image) end.whole then at_rest after else after) → drive ≡ unused geometry (zones_of geometry.block last)
        → IfSome old (λ bytes. IsTrue ((end.is_all && (end.whole == length image)) && list_all is_shut last) ↔ IsImage bytes (restarted drive))
    image-told last drive e drive_is = in-parts (λ bytes. IsTrue ((end.is_all && (end.whole == length image)) && list_all is_shut last) ↔ IsImage bytes (restarted drive)) (λ bytes cut has all.
        tells-image bytes (parts_with cut) has drive last (drive_is ∙ ap (λ (zs : List Zone). unused geometry zs) (zones-are (zones_of geometry.block last) e)) (ap (λ (d : DriveState). d.zones) drive_is) end.is_all end.whole (length image) all replays.end_is refl)

    -- if no drive is made of the zones, the file makes none
    pub no-drive-read : (last : List Zone) → last ≡ (if nat_lt (length image) end.whole then at_rest after else after) → (IsLawful (unused geometry last) → ⊥) → IfSome old (λ bytes. IsFileFault bytes Zones)
    no-drive-read last e none = in-parts (λ bytes. IsFileFault bytes Zones) (λ bytes cut has all. record {
      parts = parts_with cut;
      has = has;
      none = λ lawful. none (rw (zones-are last e) lawful);
    })

  -- bytes after the image have a fault
  behind : (fault : ReadFault) → IfSome mid (λ rest. IsJournalFault geometry (length image) rest fault) → IfSome old (λ bytes. FailsBehindImage bytes fault)
  behind fault fails = by old mid read.text fails
    where
      by : (old mid : Option (List ℕ)) → Consumes old mid image → IfSome mid (λ rest. IsJournalFault geometry (length image) rest fault) → IfSome old (λ bytes. FailsBehindImage bytes fault)
      by None mid front fails = tt
      by (Some xs) None front fails = absurd front
      by (Some xs) (Some ys) front fails = record { image = image; saved = unused geometry here; rest = ys; text = front; is_image = image_of geometry zones old mid read; fails = fails }

-- a fault after an image is one of the file
pub journal-fault : (geometry : Geometry) (zones : List StoredZone) (old mid : Option (List ℕ)) (fault : ReadFault) → ReadsImage geometry old mid zones
    → IfSome mid (λ rest. IsJournalFault geometry (length (image_bytes geometry (zones_of geometry.block zones))) rest fault) → IfSome old (λ bytes. IsFileFault bytes fault)
journal-fault geometry zones old mid (Image fault) read fails = some_so old (λ bytes. FailsBehindImage bytes (Image fault)) (λ bytes. IsFileFault bytes (Image fault)) (λ bytes f. inr f) (behind geometry zones old mid read (Image fault) fails)
journal-fault geometry zones old mid (Long at) read fails = behind geometry zones old mid read (Long at) fails
journal-fault geometry zones old mid (Earlier at) read fails = behind geometry zones old mid read (Earlier at) fails
journal-fault geometry zones old mid (Damaged at) read fails = behind geometry zones old mid read (Damaged at) fails
journal-fault geometry zones old mid Zones read fails = some_so old (λ bytes. FailsBehindImage bytes Zones) (λ bytes. IsFileFault bytes Zones)
    (λ bytes f. absurd f.fails.told) (behind geometry zones old mid read Zones fails)

-- a fault that is handed on
pub handed-on : {T : Type 0} (r : Result T ReadFault) (fault : ReadFault) (P : ReadFault → Type 0) → IsErrAnd r (λ f. f ≡ fault) → P fault → IfErr r P
handed-on (Ok x) fault P is p = tt
handed-on (Err f) fault P is p = subst P (sym is) p
