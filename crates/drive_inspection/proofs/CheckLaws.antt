-- What a check knows of a drive.
use Rattle.std.proofs.Common.{◌≡◌, ℕ, zero, suc, ◌+◌, Bool, true, false, List, [], ◌∷◌, ◌++◌, length, Option, Some, None, refl, sym, ap, subst, ◌∙◌, length-append, arith}
use Rattle.std.specs.Prelude.{slice_get, is_some, IsFalse, IsNone, IsSome, IsTrue, IfOk, IfSome, Result, Ok, Err, not}
use Rattle.std.specs.List.{AllByRecursion}
use Rattle.zone_states.specs.declared.geometry.Geometry.{Geometry}
use Rattle.zone_states.specs.Geometry.{IsInRange}
use Rattle.zone_states.specs.Zone.{Zone}
use Rattle.drive_port.specs.Contents.{Content, content_of, contents, is_usable, usage_of}
use Rattle.drive_port.specs.Drive.{DriveState}
use Rattle.drive_port.proofs.ClosingLaws.{contents-closing, length-closing}
use Rattle.drive_survey.specs.declared.fault.MountFault.{MountFault}
use Rattle.drive_survey.specs.declared.reported.ReportedZone.{ReportedZone}
use Rattle.drive_survey.specs.Reported.{AreReported, KeepsZones, ReportsZones}
use Rattle.drive_survey.proofs.ReadLaws.{kept-contents, kept-known}
use Rattle.drive_inspection.proofs.ReportLaws.{all-reported, known-one, used-as-reported}
use Rattle.drive_inspection.specs.declared.finding.Findings.{Findings}
use Rattle.drive_inspection.specs.declared.reading.ZoneReading.{ZoneReading}
use Rattle.drive_inspection.specs.declared.reading.ZoneReading.TheVariants.{Log, Fault, Unusable, Unread}
use Rattle.drive_inspection.specs.Findings.{AreByReport, AreFindings, ListsAll, ListsByReport, ListsNothing, ListsFaults, ListsRefused, ListsZones, Refuses, unusable_zones}
use Rattle.drive_inspection.specs.Lists.{fault_at, found_from, found_in, unusable_at, unusable_reported}
use Rattle.drive_inspection.specs.declared.finding.ZoneFault.{ZoneFault}
use Rattle.drive_inspection.specs.Found.{IsRefusal, IsTellable}
use Rattle.drive_inspection.specs.Reads.{AreReads, AreTelling, AreTold, IsTelling, IsTold, ReadsAlone}

-- ---- zone after zone is read

-- each of these reads is of the zone with its number, by itself
abbrev pub EachRead : DriveState → DriveState → List ZoneReading → Type 0
EachRead drive last reads = (zone : ℕ) (read : ZoneReading) → slice_get reads zone ≡ Some read → ReadsAlone drive last zone read

-- an empty list holds only such reads
pub each-none : (drive last : DriveState) → EachRead drive last []
each-none drive last zone read there = absurd (cc)

each-append : {X : Type 0} (P : ℕ → X → Type 0) (xs : List X) (x : X) → ((z : ℕ) (y : X) → slice_get xs z ≡ Some y → P z y) → P (length xs) x
    → (z : ℕ) (y : X) → slice_get (xs ++ x ∷ []) z ≡ Some y → P z y
each-append P [] x all here zero y there = let same : x ≡ y = cc in subst (P 0) same here
each-append P [] x all here (suc z) y there = absurd (cc)
each-append P (w ∷ ws) x all here zero y there = all zero y there
each-append P (w ∷ ws) x all here (suc z) y there = each-append (λ k. P (suc k)) ws x (λ k v h. all (suc k) v h) here z y there

fails-on : (before after : Bool) → (IsTrue after → IsTrue before) → IsFalse before → IsFalse after
fails-on before true on fails = absurd (cc (on refl, fails))
fails-on before false on fails = refl

-- a drive that failed has failed from then on
pub still-failing : (old new : DriveState) → KeepsZones old new → IsFalse old.unfailing → IsFalse new.unfailing
still-failing old new k fails = fails-on old.unfailing new.unfailing k.unfailing fails

-- what is read of a drive was there before controllers closed zones
read-before : (old new last : DriveState) (zone : ℕ) (read : ZoneReading) → KeepsZones old new → ReadsAlone new last zone read → ReadsAlone old last zone read
read-before old new last zone (Log scanned) k is = rw (k.geometry, kept-contents old new k) at is
read-before old new last zone (Fault fault) k is = rw (k.geometry, kept-contents old new k) at is
read-before old new last zone Unusable k is = rw (kept-contents old new k) at is
read-before old new last zone Unread k is = (rw (kept-contents old new k) at is.0, is.1)

-- what was read stays so while other zones are read
read-after : (drive old new : DriveState) (zone : ℕ) (read : ZoneReading) → KeepsZones old new → ReadsAlone drive old zone read → ReadsAlone drive new zone read
read-after drive old new zone (Log scanned) k is = is
read-after drive old new zone (Fault fault) k is = is
read-after drive old new zone Unusable k is = is
read-after drive old new zone Unread k is = (is.0, still-failing old new k is.1)

-- a list with one element more is longer by one
pub one-more : {X : Type 0} (xs more : List X) (x : X) (n : ℕ) → length xs ≡ n → more ≡ xs ++ x ∷ [] → length more ≡ n + 1
one-more xs more x n count is = rw is (omega (arith, length-append xs (x ∷ []), count))

-- with the read of the next zone added, each is still a read of the first drive
pub reads-more : (first now next : DriveState) (reads more : List ZoneReading) (read : ZoneReading) (zone : ℕ) → KeepsZones first now → KeepsZones now next → length reads ≡ zone → more ≡ reads ++ read ∷ []
    → EachRead first now reads → ReadsAlone now next zone read → EachRead first next more
reads-more first now next reads more read zone k l count is each one =
    let here : ReadsAlone first next (length reads) read = rw count (read-before first now next zone read k one) in
    rw is (each-append (ReadsAlone first next) reads read (λ z r there. read-after first now next z r l (each z r there)) here)

-- one read more tells something, too
pub tells-more : (reads : List ZoneReading) (read : ZoneReading) → AreTelling reads → IsTelling read → AreTelling (reads ++ read ∷ [])
tells-more [] read tell one = (one, tt)
tells-more (r ∷ rs) read tell one = (tell.0, tells-more rs read tell.1 one)

-- and so do the faults that are listed of them
pub faults-tell : (zone : ℕ) (reads : List ZoneReading) → AreTelling reads → AllByRecursion (λ (found : ZoneFault). IsRefusal found.fault) (found_from fault_at zone reads)
faults-tell zone [] tell = tt
faults-tell zone (Log scanned ∷ reads) tell = faults-tell (zone + 1) reads tell.1
faults-tell zone (Fault fault ∷ reads) tell = (tell.0, faults-tell (zone + 1) reads tell.1)
faults-tell zone (Unusable ∷ reads) tell = faults-tell (zone + 1) reads tell.1
faults-tell zone (Unread ∷ reads) tell = faults-tell (zone + 1) reads tell.1

-- the reads of all zones were the same before controllers closed zones
reads-before : (old new last : DriveState) (reads : List ZoneReading) → KeepsZones old new → AreReads new last reads → AreReads old last reads
reads-before old new last reads k are = record { count = are.count ∙ length-closing old.zones new.zones k.closing; each = λ zone read there. read-before old new last zone read k (are.each zone read there) }

-- ---- zones as they were reported

-- after a report all zones are as it tells
pub told-all : (old new : DriveState) (reported : List ReportedZone) → IsInRange old.geometry → KeepsZones old new → ReportsZones old reported new → AreTold new reported
told-all old new reported range k reports = record {
  lawful = k.lawful;
  count = all-reported old new reported reports;
  each = λ zone r there. record {
    lawful = k.lawful;
    usage = used-as-reported old new reported zone r reports there;
    known = λ can. known-one old new reported zone r range k reports there can;
  };
}

-- each still is after a look
pub told-at : (old new : DriveState) (reported : List ReportedZone) (zone : ℕ) (r : ReportedZone) → AreTold old reported → KeepsZones old new → slice_get reported zone ≡ Some r → IsTold new zone r
told-at old new reported zone r told k there =
    let at = told.each zone r there in
    record {
      lawful = k.lawful;
      usage = rw (kept-contents old new k) at.usage;
      known = λ can. kept-known old new zone r k (at.known can);
    }

pub not-true : (b : Bool) → not b ≡ true → b ≡ false
not-true true e = absurd (cc)
not-true false e = refl

pub not-false : (b : Bool) → not b ≡ false → b ≡ true
not-false true e = refl
not-false false e = absurd (cc)

-- ---- unusable zones

unusable-from : (geometry : Geometry) (i : ℕ) (zones : List Zone) (reported : List ReportedZone) → AreReported geometry zones reported → found_from unusable_reported i reported ≡ found_from unusable_at i (contents zones)
unusable-from geometry i [] [] are = refl
unusable-from geometry i [] (r ∷ rs) are = absurd are
unusable-from geometry i (z ∷ zs) [] are = absurd are
unusable-from geometry i (z ∷ zs) (r ∷ rs) are =
    let rest = unusable-from geometry (i + 1) zs rs are.1 in
    let here : unusable_reported i r ≡ unusable_at i (content_of z) = rw are.0.state refl in
    rw (here, rest) refl

-- the zones that a report finds unusable are the unusable zones of the drive
pub unusable-found : (old new : DriveState) (reported : List ReportedZone) → ReportsZones old reported new → found_in unusable_reported reported ≡ unusable_zones old
unusable-found old new reported reports =
    unusable-from old.geometry 0 reports.zones reported reports.are ∙ ap (λ (cs : List Content). found_in unusable_at cs) (contents-closing old.zones reports.zones reports.before)

-- ---- the refusal

-- of a result that is done, a fact gives another, and two give a third
pub if-ok : {V E : Type 0} (r : Result V E) (P R : V → Type 0) → IfOk r P → ((v : V) → P v → R v) → IfOk r R
if-ok (Ok v) P R p give = give v p
if-ok (Err e) P R p give = tt

pub both-ok : {V E : Type 0} (r : Result V E) (P Q R : V → Type 0) → IfOk r P → IfOk r Q → ((v : V) → P v → Q v → R v) → IfOk r R
both-ok (Ok v) P Q R p q give = give v p q
both-ok (Err e) P Q R p q give = tt

-- ---- what is listed

-- the lists of a drive's zones are those before controllers closed zones
pub lists-before : (old new last : DriveState) (n : ℕ) (findings : Findings) → KeepsZones old new → ListsZones new last n findings → ListsZones old last n findings
lists-before old new last n findings k is = record {
  partly_written = rw (kept-contents old new k) at is.partly_written;
  reads = is.reads;
  are = reads-before old new last is.reads k is.are;
  lists = is.lists;
}

-- if a mount is refused, so it is with all lists
pub lists-refused : (drive last : DriveState) (n : ℕ) (findings : Findings) (fault : MountFault) → findings.refusal ≡ Some fault → ListsRefused drive last n findings → ListsAll drive last n findings
lists-refused drive last n findings fault is lists = record {
  clean = λ none. let bad : is_some (Some fault) ≡ false = subst IsNone is none in absurd (cc);
  refused = λ some. lists;
}

-- what is told as a refusal and the lists of all faults are the findings
pub findings-faults : (drive last : DriveState) (n : ℕ) (findings : Findings) (fault : MountFault) → findings.refusal ≡ Some fault → Refuses drive last n (Some fault) → ListsRefused drive last n findings → AreFindings drive last n findings
findings-faults drive last n findings fault is refuses lists = record {
  refuses = subst (Refuses drive last n) (sym is) refuses;
  lists = lists-refused drive last n findings fault is lists;
}

-- the faults of a drive are what is listed if it is refused
pub faults-refused : (drive last : DriveState) (n : ℕ) (findings : Findings) → ListsFaults drive last n findings → ListsRefused drive last n findings
faults-refused drive last n findings lists = record { outside = λ out. absurd (out lists.range); listed = λ range. lists }

-- the listed faults of a drive were the same before controllers closed zones
pub faults-before : (old new last : DriveState) (n : ℕ) (findings : Findings) → KeepsZones old new → ListsFaults new last n findings → ListsFaults old last n findings
faults-before old new last n findings k is = record {
  range = rw k.geometry at is.range;
  unusable = is.unusable ∙ ap (λ (cs : List Content). found_in unusable_at cs) (kept-contents old new k);
  zones = lists-before old new last n findings k is.zones;
}

-- and so it is with what is listed of a drive that is refused, and of each drive
pub refused-before : (old new last : DriveState) (n : ℕ) (findings : Findings) → KeepsZones old new → ListsRefused new last n findings → ListsRefused old last n findings
refused-before old new last n findings k is = record {
  outside = λ out. is.outside (λ range. out (rw k.geometry at range));
  listed = λ range. faults-before old new last n findings k (is.listed (rw k.geometry range));
}

pub all-before : (old new last : DriveState) (n : ℕ) (findings : Findings) → KeepsZones old new → ListsAll new last n findings → ListsAll old last n findings
all-before old new last n findings k is = record { clean = is.clean; refused = λ some. refused-before old new last n findings k (is.refused some) }

-- ---- what is found whatever the Reads returned

-- what reports tell was the same before controllers closed zones
report-before : (old new : DriveState) (findings : Findings) → KeepsZones old new → ListsByReport new findings → ListsByReport old findings
report-before old new findings k is = record {
  unusable = is.unusable ∙ ap (λ (cs : List Content). found_in unusable_at cs) (kept-contents old new k);
  partly_written = rw (kept-contents old new k) at is.partly_written;
  tells = is.tells;
}

-- a refusal and what reports tell are found
pub found-by-report : (old new : DriveState) (findings : Findings) (fault : MountFault) → KeepsZones old new → IsInRange old.geometry → findings.refusal ≡ Some fault → IsTellable fault → ListsByReport new findings → AreByReport old findings
found-by-report old new findings fault k range is tells lists = record {
  tells = subst (λ (r : Option MountFault). IfSome r IsTellable) (sym is) tells;
  clean = λ none. let bad : is_some (Some fault) ≡ false = subst IsNone is none in absurd (cc);
  outside = λ out. absurd (out range);
  listed = λ in_range some. report-before old new findings k lists;
}

-- nothing is listed beside the refusal of a drive whose geometry is out of range
pub found-nothing : (drive : DriveState) (findings : Findings) (fault : MountFault) → (IsInRange drive.geometry → ⊥) → findings.refusal ≡ Some fault → IsTellable fault → ListsNothing findings → AreByReport drive findings
found-nothing drive findings fault out is tells nothing = record {
  tells = subst (λ (r : Option MountFault). IfSome r IsTellable) (sym is) tells;
  clean = λ none. nothing;
  outside = λ out. nothing;
  listed = λ range some. absurd (out range);
}

-- what is found so was the same before controllers closed zones
pub by-report-before : (old new : DriveState) (findings : Findings) → KeepsZones old new → AreByReport new findings → AreByReport old findings
by-report-before old new findings k is = record {
  tells = is.tells;
  clean = is.clean;
  outside = λ out. is.outside (λ range. out (rw k.geometry at range));
  listed = λ range some. report-before old new findings k (is.listed (rw k.geometry range) some);
}

-- nothing is listed of a drive that can be mounted
pub lists-none : (drive last : DriveState) (n : ℕ) (findings : Findings) → findings.refusal ≡ None → ListsNothing findings → ListsAll drive last n findings
lists-none drive last n findings is nothing = record {
  clean = λ none. nothing;
  refused = λ some. let bad : false ≡ true = subst IsSome is some in absurd (cc);
}

pub by-report-none : (drive : DriveState) (findings : Findings) → findings.refusal ≡ None → ListsNothing findings → AreByReport drive findings
by-report-none drive findings is nothing = record {
  tells = subst (λ (r : Option MountFault). IfSome r IsTellable) (sym is) tt;
  clean = λ none. nothing;
  outside = λ out. nothing;
  listed = λ range some. let bad : false ≡ true = subst IsSome is some in absurd (cc);
}
