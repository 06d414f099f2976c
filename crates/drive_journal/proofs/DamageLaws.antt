-- A file in which a change is damaged, and bytes follow it, is refused there.
use Rattle.std.proofs.Common.{◌≡◌, ℕ, ◌+◌, Bool, true, false, List, [], ◌++◌, length, inl, inr, refl, sym, ap, ◌∙◌, subst, append_assoc}
use Rattle.std.specs.List.{AllByRecursion}
use Rattle.zone_states.specs.declared.geometry.Geometry.{Geometry}
use Rattle.drive_port.specs.Drive.{DriveState}
use Rattle.drive_images.specs.Image.{IsImage}
use Rattle.drive_images.specs.Meaning.{is_of_bytes}
use Rattle.drive_images.specs.declared.fault.ImageFault.{ImageFault}
use Rattle.drive_images.specs.declared.fault.ImageFault.TheVariants.{Geometry as BadGeometry, Input, Limits, Long as TooLong, Magic, OutOfMemory, RestNotZero, Short, State, Written}
use Rattle.drive_images.proofs.FrontLaws.{one-image}
use Rattle.drive_images.proofs.MeaningLaws.{one-drive}
use Rattle.drive_journal.specs.Change.{Change, HasNoChange, IsChange, Sum, head_bytes, journal_bytes, last_sum, start, sum_bytes, sum_over}
use Rattle.drive_journal.specs.DamagedFile.{IsDamagedFile, IsMissealed, damaged_at}
use Rattle.drive_journal.specs.File.{HasParts, IsDriveFile, Parts}
use Rattle.drive_journal.specs.FileFaults.{FailsBehindChanges, FailsBehindImage, IsFileFault, is_of_file}
use Rattle.drive_journal.specs.Reading.{IsDamaged}
use Rattle.drive_journal.specs.Tail.{IsCutOff, IsTailFault, begins_as_mark}
use Rattle.drive_journal.specs.declared.fault.ReadFault.{ReadFault}
use Rattle.drive_journal.specs.declared.fault.ReadFault.TheVariants.{Damaged, Earlier, Image, Long, Zones}
use Rattle.drive_journal.proofs.CutLaws.{one-reading}
use Rattle.drive_journal.proofs.NoFaultLaws.{image-no-fault}
use Rattle.drive_journal.proofs.ReadLaws.{damaged-before, earlier-other}
use Rattle.drive_journal.proofs.SumLaws.{length-sum}

-- a change with a wrong sum at its end, and bytes after it, is damaged
missealed-damaged : (geometry : Geometry) (sum : Sum) (bytes more : List ℕ) → IsMissealed geometry sum bytes → (more ≡ [] → ⊥) → IsDamaged geometry sum (bytes ++ more)
missealed-damaged geometry sum bytes more is some =
    let entry_sum = sum_bytes (sum_over sum is.entry) in
    let damaged = damaged-before geometry sum is.entry entry_sum is.is.long (length-sum (sum_over sum is.entry)) (record { is = is.is; sum_is = refl }) is.beside is.last more is.long is.wide is.wrong some in
    let head = head_bytes sum is.entry in
    let text : bytes ++ more ≡ head ++ (is.beside ++ (is.last ++ more)) =
    ap (λ (l : List ℕ). l ++ more) is.text ∙ append_assoc head (is.beside ++ is.last) more ∙ ap (λ (l : List ℕ). head ++ l) (append_assoc is.beside is.last more) in
    subst (IsDamaged geometry sum) (sym text) damaged

-- bytes that begin as a change does have no other fault
tells-damage : (geometry : Geometry) (sum : Sum) (from at : ℕ) (left : List ℕ) (fault : ReadFault) → begins_as_mark left ≡ true → IsTailFault geometry sum from at left fault → fault ≡ Damaged at
tells-damage geometry sum from at left (Long place) begins told = absurd (cc (begins, told.2))
tells-damage geometry sum from at left (Earlier place) begins told = absurd (cc (begins, earlier-other left told.2))
tells-damage geometry sum from at left (Damaged place) begins told = ap (λ (n : ℕ). Damaged n) told.0
tells-damage geometry sum from at left (Image fault) begins told = absurd told
tells-damage geometry sum from at left Zones begins told = absurd told

false-true : (b : Bool) → b ≡ false → b ≡ true → ⊥
false-true b f t = absurd (cc (f, t))

module _ (bytes : List ℕ) (file : IsDamagedFile bytes) where
  abbrev geometry : Geometry
  geometry = file.saved.geometry

  abbrev sum : Sum
  sum = last_sum start file.changes

  abbrev rest : List ℕ
  rest = file.damaged ++ file.more

  damaged : IsDamaged geometry sum rest
  damaged = missealed-damaged geometry sum file.damaged file.more file.is_damaged file.some

  -- it has no parts
  no-parts : (parts : Parts) → HasParts bytes parts → ⊥
  no-parts parts has =
      let one = one-image file.image parts.image (journal_bytes start file.changes ++ rest) (journal_bytes start parts.changes ++ parts.cut) file.saved parts.saved file.is_image has.is_image (sym file.text ∙ has.text) in
      let same = one-drive file.image file.saved parts.saved file.is_image (rw (sym one.0) at has.is_image) in
      let each : AllByRecursion (IsChange geometry) parts.changes = subst (λ (d : DriveState). AllByRecursion (IsChange d.geometry) parts.changes) (sym same) has.each in
      let cut : IsCutOff geometry (last_sum start parts.changes) parts.cut = subst (λ (d : DriveState). IsCutOff d.geometry (last_sum start parts.changes) parts.cut) (sym same) has.cut_off in
      let reading = one-reading geometry start file.changes parts.changes rest parts.cut file.each each damaged.none cut.none one.1 in
      damaged.not_cut (subst (λ (l : List ℕ). IsCutOff geometry sum l) (sym reading.1) (subst (λ (cs : List Change). IsCutOff geometry (last_sum start cs) parts.cut) (sym reading.0) cut))

  -- no drive is read in it
  pub unread : (drive : DriveState) (whole : ℕ) (end : Sum) → IsDriveFile bytes drive whole end → ⊥
  unread drive whole end is = no-parts is.parts is.has

  -- a fault after the image is that the change is damaged
  behind : (fault : ReadFault) (image left : List ℕ) (saved : DriveState) → bytes ≡ image ++ left → IsImage image saved → FailsBehindChanges saved.geometry (length image) left fault → fault ≡ Damaged (damaged_at file)
  behind fault image left saved text is fails =
      let one = one-image file.image image (journal_bytes start file.changes ++ rest) left file.saved saved file.is_image is (sym file.text ∙ text) in
      let same = one-drive file.image file.saved saved file.is_image (rw (sym one.0) at is) in
      let each : AllByRecursion (IsChange geometry) fails.changes = subst (λ (d : DriveState). AllByRecursion (IsChange d.geometry) fails.changes) (sym same) fails.each in
      let none : HasNoChange geometry (last_sum start fails.changes) fails.rest = subst (λ (d : DriveState). HasNoChange d.geometry (last_sum start fails.changes) fails.rest) (sym same) fails.none in
      let reading = one-reading geometry start file.changes fails.changes rest fails.rest file.each each damaged.none none (one.1 ∙ fails.text) in
      let begins : begins_as_mark fails.rest ≡ true = ap (λ (l : List ℕ). begins_as_mark l) (sym reading.1) ∙ damaged.begins in
      let place : length image + length (journal_bytes start fails.changes) ≡ damaged_at file =
      ap (λ (l : List ℕ). length l + length (journal_bytes start fails.changes)) (sym one.0) ∙ ap (λ (cs : List Change). length file.image + length (journal_bytes start cs)) (sym reading.0) in
      tells-damage saved.geometry (last_sum start fails.changes) (length image) (length image + length (journal_bytes start fails.changes)) fails.rest fault begins fails.told ∙ ap (λ (n : ℕ). Damaged n) place

  behind-image : (fault : ImageFault) → FailsBehindImage bytes (Image fault) → is_of_bytes fault ≡ true → Image fault ≡ Damaged (damaged_at file)
  behind-image Input f of = absurd (cc of)
  behind-image OutOfMemory f of = absurd (cc of)
  behind-image Magic f of = absurd f.fails.told
  behind-image BadGeometry f of = absurd f.fails.told
  behind-image State f of = absurd f.fails.told
  behind-image Written f of = absurd f.fails.told
  behind-image RestNotZero f of = absurd f.fails.told
  behind-image Limits f of = absurd f.fails.told
  behind-image Short f of = absurd f.fails.told
  behind-image TooLong f of = absurd f.fails.told

  -- its fault is that the change is damaged
  pub damage-told : (fault : ReadFault) → IsFileFault bytes fault → is_of_file fault ≡ true → fault ≡ Damaged (damaged_at file)
  damage-told (Image fault) (inl front) of = absurd (false-true (is_of_bytes fault) (image-no-fault file.image (journal_bytes start file.changes ++ rest) file.saved fault file.is_image (rw file.text at front)) of)
  damage-told (Image fault) (inr f) of = behind-image fault f of
  damage-told (Long at) f of = behind (Long at) f.image f.rest f.saved f.text f.is_image f.fails
  damage-told (Earlier at) f of = behind (Earlier at) f.image f.rest f.saved f.text f.is_image f.fails
  damage-told (Damaged at) f of = behind (Damaged at) f.image f.rest f.saved f.text f.is_image f.fails
  damage-told Zones makes of = absurd (no-parts makes.parts makes.has)
