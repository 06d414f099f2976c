-- A file that is the image of the restarted drive: it has no changes, and no zone in it is open.
use Rattle.std.proofs.Common.{◌≡◌, ℕ, ◌+◌, ◌==◌, Bool, true, false, not, ◌&&◌, List, [], ◌∷◌, ◌++◌, length, refl, sym, ap, ◌∙◌, arith}
use Rattle.std.specs.Prelude.{IsTrue, ◌↔◌}
use Rattle.std.specs.List.{AllByRecursion, list_all}
use Rattle.std.proofs.lemmas.Bool.{eq-eqb, eqb-true}
use Rattle.std.proofs.lemmas.List.{append-nil, length-append}
use Rattle.nvme_wire.specs.declared.zone_state.ZoneState.{ZoneState}
use Rattle.nvme_wire.specs.declared.zone_state.ZoneState.TheVariants.{Empty, ImplicitlyOpened, ExplicitlyOpened, Closed, ReadOnly, Full, Offline}
use Rattle.zone_states.specs.Stored.{StoredZone}
use Rattle.zone_states.specs.Transition.{is_open}
use Rattle.zone_states.specs.Zone.{Zone}
use Rattle.zone_states.specs.declared.geometry.Geometry.{Geometry}
use Rattle.drive_port.specs.Drive.{DriveState}
use Rattle.drive_port.specs.Run.{restarted, restarted_state}
use Rattle.zone_drive.specs.Stored.{unused, zones_of}
use Rattle.drive_images.specs.Image.{IsImage}
use Rattle.drive_images.proofs.FrontLaws.{one-image}
use Rattle.drive_images.proofs.MeaningLaws.{one-drive}
use Rattle.drive_journal.specs.Change.{Change, IsChange, change_bytes, journal_bytes, next_sum, start}
use Rattle.drive_journal.specs.File.{HasParts, Parts, drive_read, whole_length, zones_read}
use Rattle.drive_journal.specs.Replay.{at_rest}
use Rattle.drive_journal.proofs.CutLaws.{length-change}

-- ---- zones none of which is open

-- whether a stored zone is not open
abbrev pub is_shut : StoredZone → Bool
is_shut zone = not (is_open zone.state)

shut-rests : (state : ZoneState) → not (is_open state) ≡ true → restarted_state state ≡ state
shut-rests ImplicitlyOpened e = absurd (cc e)
shut-rests ExplicitlyOpened e = absurd (cc e)
shut-rests Empty e = refl
shut-rests Closed e = refl
shut-rests ReadOnly e = refl
shut-rests Full e = refl
shut-rests Offline e = refl

rests-shut : (state : ZoneState) → restarted_state state ≡ state → not (is_open state) ≡ true
rests-shut ImplicitlyOpened e = absurd (cc e)
rests-shut ExplicitlyOpened e = absurd (cc e)
rests-shut Empty e = refl
rests-shut Closed e = refl
rests-shut ReadOnly e = refl
rests-shut Full e = refl
rests-shut Offline e = refl

both : (a b : Bool) → (a && b) ≡ true → (a ≡ true) × (b ≡ true)
both true b e = (refl, e)
both false b e = absurd (cc e)

all-rest : (block : ℕ) (zones : List StoredZone) → list_all is_shut zones ≡ true → at_rest (zones_of block zones) ≡ zones_of block zones
all-rest block [] e = refl
all-rest block (zone ∷ zones) e =
    let parts = both (is_shut zone) (list_all is_shut zones) e in
    rw (shut-rests zone.state parts.0, all-rest block zones parts.1) refl

head-same : (x y : Zone) (xs ys : List Zone) → x ∷ xs ≡ y ∷ ys → (x ≡ y) × (xs ≡ ys)
head-same x y xs ys e = (cc e, cc e)

rest-all : (block : ℕ) (zones : List StoredZone) → at_rest (zones_of block zones) ≡ zones_of block zones → list_all is_shut zones ≡ true
rest-all block [] e = refl
rest-all block (zone ∷ zones) e =
    let parts = head-same _ _ _ _ e in
    rw (rests-shut zone.state (ap (λ (z : Zone). z.state) parts.0), rest-all block zones parts.1) refl

-- ---- a file without changes

no-bytes : (bytes : List ℕ) → length bytes ≡ 0 → bytes ≡ []
no-bytes [] e = refl
no-bytes (x ∷ xs) e = absurd (omega (arith, e))

no-changes : (geometry : Geometry) (changes : List Change) → AllByRecursion (IsChange geometry) changes → length (journal_bytes start changes) ≡ 0 → changes ≡ []
no-changes geometry [] each e = refl
no-changes geometry (change ∷ changes) each e =
    absurd (omega (arith, e, length-append (change_bytes start change) (journal_bytes (next_sum start change) changes), length-change geometry start change each.0))

-- a file whose drive has these zones
module _ (bytes : List ℕ) (parts : Parts) (has : HasParts bytes parts) (drive : DriveState) (zones : List StoredZone) (drive_is : drive ≡ drive_read parts) (zones_are : drive.zones ≡ zones_of parts.saved.geometry.block zones) where
  -- without a change the drive is the saved one
  saved-zones : parts.changes ≡ [] → drive.zones ≡ parts.saved.zones
  saved-zones none = ap (λ (d : DriveState). d.zones) drive_is ∙ ap (λ (cs : List Change). zones_read parts.saved.geometry parts.saved.zones cs) none

  rested-image : parts.cut ≡ [] → (whole_length parts == length parts.image) ≡ true → list_all is_shut zones ≡ true → IsImage bytes (restarted drive)
  rested-image all same shut =
      let short = eqb-true (whole_length parts) (length parts.image) same in
      let none = no-changes parts.saved.geometry parts.changes has.each (omega (arith, short)) in
      let text : bytes ≡ parts.image =
      has.text ∙ ap (λ (cs : List Change). parts.image ++ (journal_bytes start cs ++ parts.cut)) none ∙ ap (λ (l : List ℕ). parts.image ++ l) all ∙ append-nil parts.image in
      let rests : at_rest drive.zones ≡ drive.zones = rw zones_are (all-rest parts.saved.geometry.block zones shut) in
      let silent : restarted drive ≡ unused drive.geometry (at_rest drive.zones) = rw (ap (λ (d : DriveState). d.durable) drive_is, ap (λ (d : DriveState). d.clean) drive_is, ap (λ (d : DriveState). d.unfailing) drive_is) refl in
      let is : restarted drive ≡ parts.saved =
      silent ∙ ap (λ (zs : List Zone). unused drive.geometry zs) (rests ∙ saved-zones none)
      ∙ ap (λ (d : DriveState). unused d.geometry parts.saved.zones) drive_is ∙ sym has.is_image.unused in
      rw (text, is) has.is_image

  record Rested : Type 0 where
    pub all : parts.cut ≡ []
    pub same : (whole_length parts == length parts.image) ≡ true
    pub shut : list_all is_shut zones ≡ true

  image-rested : IsImage bytes (restarted drive) → Rested
  image-rested is =
      let after = journal_bytes start parts.changes ++ parts.cut in
      let one = one-image bytes parts.image [] after (restarted drive) parts.saved is has.is_image (append-nil bytes ∙ has.text) in
      let short : length (journal_bytes start parts.changes) + length parts.cut ≡ 0 = sym (length-append (journal_bytes start parts.changes) parts.cut) ∙ ap (λ (l : List ℕ). length l) (sym one.1) in
      let none = no-changes parts.saved.geometry parts.changes has.each (omega (arith, short)) in
      let same : restarted drive ≡ parts.saved = one-drive parts.image (restarted drive) parts.saved (rw one.0 at is) has.is_image in
      let rests : at_rest drive.zones ≡ drive.zones = ap (λ (d : DriveState). d.zones) same ∙ sym (saved-zones none) in
      record {
        all = no-bytes parts.cut (omega (arith, short));
        same = eq-eqb (whole_length parts) (length parts.image) (omega (arith, short));
        shut = rest-all parts.saved.geometry.block zones (rw zones_are at rests);
      }

  -- the bytes are the image of the restarted drive exactly if nothing follows the image and no zone is open
  pub tells-image : (is_all : Bool) (end from : ℕ) → (IsTrue is_all ↔ (parts.cut ≡ [])) → end ≡ whole_length parts → from ≡ length parts.image → IsTrue ((is_all && (end == from)) && list_all is_shut zones) ↔ IsImage bytes (restarted drive)
  tells-image is_all end from all_is end_is from_is = rw (end_is, from_is) (
    (λ told.
        let outer = both _ _ told in
        let inner = both _ _ outer.0 in
        rested-image (all_is.0 inner.0) inner.1 outer.1),
    (λ is.
        let rested = image-rested is in
        let all : is_all ≡ true = all_is.1 rested.all in
        rw (all, rested.same, rested.shut) refl),
  )
