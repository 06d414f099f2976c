-- Zones that are reported, and reset one after the other.
use Rattle.std.proofs.Common.{◌≡◌, ◌≢◌, ◌⊎◌, inl, inr, ℕ, ◌+◌, ◌*◌, ◌/◌, ◌<◌, ◌≤◌, false, List, length, get_or, set, Some, refl, sym, ap, subst, ◌∙◌, arith}
use Rattle.std.specs.Prelude.{slice_get, count_by, Result, Ok, Err}
use Rattle.std.proofs.Math.Nat.{mul-div_cancel}
use Rattle.std.proofs.lemmas.Bool.{cases_eq, cases_lt}
use Rattle.std.proofs.lemmas.List.{get_or-set_same, get_or-set_other}
use Rattle.std.proofs.lemmas.Option.{slice_get-get_or}
use Rattle.zone_states.specs.declared.geometry.Geometry.{Geometry}
use Rattle.zone_states.specs.Geometry.{IsInRange}
use Rattle.drive_port.specs.Answering.{ResetAnswers}
use Rattle.drive_port.specs.Calls.{ResetKeeps, ResetZone}
use Rattle.drive_port.specs.Contents.{Content, Resets, content_at, contents, empty, emptied, nothing, usage_of}
use Rattle.drive_port.specs.Drive.{DriveState, IsLawful}
use Rattle.drive_port.specs.declared.calls.PortFault.{PortFault}
use Rattle.drive_port.specs.declared.calls.PortFault.TheVariants as port
use Rattle.drive_port.proofs.ClosingLaws.{contents-closing, length-closing}
use Rattle.drive_survey.proofs.ReadLaws.{kept-contents}
use Rattle.drive_survey.specs.declared.reported.ReportedZone.{ReportedZone}
use Rattle.drive_survey.specs.Reported.{KeepsZones, ReportsZones}
use Rattle.drive_inspection.specs.Written.{AreAllEmpty, AreEmptyBelow, is_used, is_written}
use Rattle.drive_inspection.proofs.WrittenLaws.{all-empty, reported-count, reported-usage, reported-written, unused}
use Rattle.device_jobs.specs.Formats.{AreUsages, OnlyEmpties}

-- ---- what was reported

-- after a report of all zones
pub are-usages : (old new : DriveState) (reported : List ReportedZone) → IsInRange old.geometry → KeepsZones old new → ReportsZones old reported new → AreUsages new reported
are-usages old new reported range kept reports = record {
  range = rw kept.geometry range;
  lawful = kept.lawful;
  count = reported-count old.geometry reports.zones reported reports.are ∙ sym (length-closing reports.zones new.zones reports.after) ∙ kept.lawful.count;
  written = reported-written old.geometry reports.zones reported reports.are
      ∙ ap (λ (c : List Content). count_by (λ (one : Content). is_used one.usage) c) (sym (contents-closing reports.zones new.zones reports.after));
  used = λ zone one there. ap (λ (c : List Content). (content_at c zone).usage) (contents-closing reports.zones new.zones reports.after)
      ∙ reported-usage old.geometry reports.zones reported zone one reports.are there;
}

-- ---- one zone after the other

-- All zones below this one are reset that held something, and the others are used as they were reported.
pub record ResetsBelow (geometry : Geometry) (reported : List ReportedZone) (i : ℕ) (now : DriveState) : Type 0 where
  pub geometry_is : now.geometry ≡ geometry
  pub range : IsInRange geometry
  pub lawful : IsLawful now
  pub count : length reported ≡ geometry.zones
  pub below : (zone : ℕ) → zone < i → is_used (content_at (contents now.zones) zone).usage ≡ false
  pub above : (zone : ℕ) (one : ReportedZone) → i ≤ zone → slice_get reported zone ≡ Some one → (content_at (contents now.zones) zone).usage ≡ usage_of one.state

pub begins : (drive : DriveState) (reported : List ReportedZone) → AreUsages drive reported → ResetsBelow drive.geometry reported 0 drive
begins drive reported are = record {
  geometry_is = refl;
  range = are.range;
  lawful = are.lawful;
  count = are.count;
  below = λ zone lt. absurd (omega (arith, lt));
  above = λ zone one le there. are.used zone one there;
}

module _ (geometry : Geometry) (reported : List ReportedZone) (i : ℕ) (d : ReportedZone) (lt : i < length reported) where
  there : slice_get reported i ≡ Some (get_or reported i d)
  there = slice_get-get_or reported i d lt

  -- a zone that holds nothing is left as it is
  pub passes : (now : DriveState) → ResetsBelow geometry reported i now → is_written (get_or reported i d) ≡ false → ResetsBelow geometry reported (i + 1) now
  passes now so none = record {
    geometry_is = so.geometry_is;
    range = so.range;
    lawful = so.lawful;
    count = so.count;
    below = λ zone less. at zone less (cases_lt zone i);
    above = λ zone one le is. so.above zone one (omega (arith, le)) is;
  }
    where
      at : (zone : ℕ) → zone < i + 1 → (zone < i) ⊎ (i ≤ zone) → is_used (content_at (contents now.zones) zone).usage ≡ false
      at zone less (inl lower) = so.below zone lower
      at zone less (inr le) =
          let same : zone ≡ i = omega (arith, less, le) in
          rw same (ap is_used (so.above i (get_or reported i d) (omega arith) there) ∙ none)

  -- a zone that holds something is reset
  pub resets : (old new : DriveState) → ResetsBelow geometry reported i old → ResetZone old new (i * old.geometry.size) → IsLawful new → ResetsBelow geometry reported (i + 1) new
  resets old new so done lawful = record {
    geometry_is = done.geometry ∙ so.geometry_is;
    range = so.range;
    lawful = lawful;
    count = so.count;
    below = λ zone less. at zone less (cases_lt zone i);
    above = λ zone one le found. ap (λ (c : Content). c.usage) (other zone (λ same. omega (arith, same, le))) ∙ so.above zone one (omega (arith, le)) found;
  }
    where
      index : i * old.geometry.size / old.geometry.size ≡ i
      index = rw so.geometry_is (mul-div_cancel i so.range.size.0)

      after : contents new.zones ≡ set (contents old.zones) i emptied
      after = subst (λ (k : ℕ). contents new.zones ≡ set (contents old.zones) k emptied) index done.contents.zones

      within : i < length (contents old.zones)
      within = subst (λ (k : ℕ). k < length (contents old.zones)) index done.contents.in_range

      here : content_at (contents new.zones) i ≡ emptied
      here = rw after (get_or-set_same (contents old.zones) i emptied nothing within)

      other : (zone : ℕ) → zone ≢ i → content_at (contents new.zones) zone ≡ content_at (contents old.zones) zone
      other zone differs = rw after (get_or-set_other (contents old.zones) i zone emptied nothing differs)

      at : (zone : ℕ) → zone < i + 1 → (zone < i) ⊎ (i ≤ zone) → is_used (content_at (contents new.zones) zone).usage ≡ false
      at zone less (inl lower) = ap (λ (c : Content). is_used c.usage) (other zone (λ same. omega (arith, same, lower))) ∙ so.below zone lower
      at zone less (inr le) =
          let same : zone ≡ i = omega (arith, less, le) in
          rw same (ap (λ (c : Content). is_used c.usage) here)

-- ---- all zones

below-empty : (geometry : Geometry) (reported : List ReportedZone) (i : ℕ) (now : DriveState) → ResetsBelow geometry reported i now → AreEmptyBelow i now
below-empty geometry reported i now so = λ zone lt. unused (content_at (contents now.zones) zone).usage (so.below zone lt)

-- if no zone was reported that is to be reset, each is Empty
pub none-reported : (drive : DriveState) (reported : List ReportedZone) → AreUsages drive reported → count_by is_written reported ≡ 0 → AreAllEmpty drive
none-reported drive reported are none = all-empty drive (sym are.written ∙ none)

-- ---- looks

-- a look at the drive changes no use of a zone
pub usages-kept : (old new : DriveState) (reported : List ReportedZone) → AreUsages old reported → KeepsZones old new → AreUsages new reported
usages-kept old new reported are kept = record {
  range = rw kept.geometry are.range;
  lawful = kept.lawful;
  count = are.count ∙ ap (λ (g : Geometry). g.zones) (sym kept.geometry);
  written = are.written ∙ ap (λ (c : List Content). count_by (λ (one : Content). is_used one.usage) c) (sym (kept-contents old new kept));
  used = λ zone one there. ap (λ (c : List Content). (content_at c zone).usage) (kept-contents old new kept) ∙ are.used zone one there;
}

-- ---- zones that hold what they held, or are Empty

pub empties-same : (old new : DriveState) → new.geometry ≡ old.geometry → contents new.zones ≡ contents old.zones → OnlyEmpties old new
empties-same old new geometry same = record { geometry = geometry; zones = λ zone. inl (ap (λ (c : List Content). content_at c zone) same) }

pub empties-none : (drive : DriveState) → OnlyEmpties drive drive
empties-none drive = empties-same drive drive refl refl

pub empties-kept : (old new : DriveState) → KeepsZones old new → OnlyEmpties old new
empties-kept old new kept = empties-same old new kept.geometry (kept-contents old new kept)

pub empties-both : (a b c : DriveState) → OnlyEmpties a b → OnlyEmpties b c → OnlyEmpties a c
empties-both a b c one two = record { geometry = two.geometry ∙ one.geometry; zones = λ zone. at zone (two.zones zone) (one.zones zone) }
  where
    at : (zone : ℕ) → (content_at (contents c.zones) zone ≡ content_at (contents b.zones) zone) ⊎ (content_at (contents c.zones) zone ≡ emptied)
        → (content_at (contents b.zones) zone ≡ content_at (contents a.zones) zone) ⊎ (content_at (contents b.zones) zone ≡ emptied)
        → (content_at (contents c.zones) zone ≡ content_at (contents a.zones) zone) ⊎ (content_at (contents c.zones) zone ≡ emptied)
    at zone (inr is) before = inr is
    at zone (inl same) (inl is) = inl (same ∙ is)
    at zone (inl same) (inr is) = inr (same ∙ is)

-- a Reset empties one zone
empties-reset : (old new : DriveState) (index : ℕ) → new.geometry ≡ old.geometry → Resets (contents old.zones) (contents new.zones) index → OnlyEmpties old new
empties-reset old new index geometry resets = record { geometry = geometry; zones = λ zone. at zone (cases_eq zone index) }
  where
    at : (zone : ℕ) → (zone ≡ index) ⊎ (zone ≢ index) → (content_at (contents new.zones) zone ≡ content_at (contents old.zones) zone) ⊎ (content_at (contents new.zones) zone ≡ emptied)
    at zone (inl same) = inr (rw (same, resets.zones) (get_or-set_same (contents old.zones) index emptied nothing resets.in_range))
    at zone (inr differs) = inl (rw resets.zones (get_or-set_other (contents old.zones) index zone emptied nothing differs))

-- whatever a Reset answers
pub empties-answered : (old new : DriveState) (start : ℕ) (result : Result (Unit {0}) PortFault) → ResetAnswers old start result new → OnlyEmpties old new
empties-answered old new start (Ok done) answers = empties-reset old new (start / old.geometry.size) answers.reset.geometry answers.reset.contents
empties-answered old new start (Err (port.Refused status)) answers = empties-same old new answers.kept.geometry answers.kept.contents
empties-answered old new start (Err port.Memory) answers = empties-same old new answers.kept.geometry answers.kept.contents
empties-answered old new start (Err port.Failed) answers = empties-same old new answers.kept.geometry answers.kept.contents
empties-answered old new start (Err port.Stopped) answers = at answers.kept
  where
    at : ResetKeeps {V = Unit {0}} old start (Err port.Stopped) new → OnlyEmpties old new
    at (inl same) = empties-same old new same.geometry same.contents
    at (inr reset) = empties-reset old new (start / old.geometry.size) reset.geometry reset.contents

-- zones that are Empty stay so
pub stay-empty : (geometry : Geometry) (reported : List ReportedZone) (i : ℕ) (now new : DriveState) → ResetsBelow geometry reported i now → OnlyEmpties now new → AreEmptyBelow i new
stay-empty geometry reported i now new so only = λ zone lt. at zone (below-empty geometry reported i now so zone lt) (only.zones zone)
  where
    at : (zone : ℕ) → (content_at (contents now.zones) zone).usage ≡ empty
        → (content_at (contents new.zones) zone ≡ content_at (contents now.zones) zone) ⊎ (content_at (contents new.zones) zone ≡ emptied)
        → (content_at (contents new.zones) zone).usage ≡ empty
    at zone was (inl same) = ap (λ (c : Content). c.usage) same ∙ was
    at zone was (inr is) = ap (λ (c : Content). c.usage) is
