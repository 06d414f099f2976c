-- What the headers of a drive say, once they are read.
use Rattle.std.proofs.Common.{◌≡◌, ℕ, ◌+◌, List, [], ◌∷◌, map, length, refl, sym, ap, ◌∙◌, arith}
use Rattle.std.specs.Prelude.{◌↔◌, IsTrue}
use Rattle.std.specs.List.{AllByRecursion}
use Rattle.std.proofs.lemmas.List.{length-append}
use Rattle.batch_log.specs.Log.{Batch}
use Rattle.drive_port.specs.Drive.{DriveState}
use Rattle.drive_array.specs.Reserve.{most_size}
use Rattle.drive_array.specs.ZoneLogs.{drive_logs}
use Rattle.drive_survey.specs.declared.scan.ScannedZone.{ScannedZone}
use Rattle.drive_survey.specs.Heads.{HeadsView, heads_after, heads_of, no_heads, with_heading}
use Rattle.drive_survey.specs.declared.survey.Survey.{Survey}
use Rattle.drive_survey.specs.Reported.{KeepsZones}
use Rattle.drive_survey.specs.Scan.{heads_in}
use Rattle.drive_survey.specs.Survey.{Surveys, greatest_in}
use Rattle.drive_survey.proofs.ReadLaws.{kept-contents}
use Rattle.drive_survey.proofs.SurveyLaws.{greatest-heads}
use Rattle.job_drives.specs.declared.headers.Said.{Said}
use Rattle.job_drives.specs.Mounted.{AreSaid, HaveNoBatch}

-- a look leaves the logs
pub kept-logs : (old new : DriveState) → KeepsZones old new → drive_logs new ≡ drive_logs old
kept-logs old new k = rw (k.geometry, kept-contents old new k) refl

-- as many headers are kept as there are batches
count-after : (view : HeadsView) (log : List Batch) → length (heads_after view log).heads ≡ length view.heads + length log
count-after view [] = omega arith
count-after view (b ∷ bs) = omega (arith, count-after (with_heading view b.heading) bs, length-append view.heads ((record { sequence = b.heading.sequence; offset = view.blocks; end = length view.entries + length b.heading.entries }) ∷ []))

-- no headers are kept of a log that has no batch, and of no other
none-kept : (log : List Batch) → length (heads_of log).heads ≡ 0 → log ≡ []
none-kept [] e = refl
none-kept (b ∷ bs) e = absurd (omega (arith, e, count-after no_heads (b ∷ bs)))

-- zones of which no header is kept have no batch
none-there : (scanned : List ScannedZone) (logs : List (List Batch)) → heads_in scanned ≡ map heads_of logs → HaveNoBatch scanned → AllByRecursion (λ (log : List Batch). log ≡ []) logs
none-there [] [] e all = tt
none-there [] (log ∷ logs) e all = absurd (cc e)
none-there (z ∷ zs) [] e all = absurd (cc e)
none-there (z ∷ zs) (log ∷ logs) e all =
    let one : z.heads ≡ heads_of log = cc e in
    let rest : heads_in zs ≡ map heads_of logs = cc e in
    (none-kept log (rw one at all.0), none-there zs logs rest all.1)

-- and of zones that have no batch no header is kept
none-found : (scanned : List ScannedZone) (logs : List (List Batch)) → heads_in scanned ≡ map heads_of logs → AllByRecursion (λ (log : List Batch). log ≡ []) logs → HaveNoBatch scanned
none-found [] [] e all = tt
none-found [] (log ∷ logs) e all = absurd (cc e)
none-found (z ∷ zs) [] e all = absurd (cc e)
none-found (z ∷ zs) (log ∷ logs) e all =
    let one : z.heads ≡ heads_of log = cc e in
    let rest : heads_in zs ≡ map heads_of logs = cc e in
    (rw (one, all.0) refl, none-found zs logs rest all.1)

-- what the headers of a survey say is what the headers of the drive say
pub said-found : (old new : DriveState) (n : ℕ) (survey : Survey) (said : Said) → KeepsZones old new → Surveys old new n survey → said.size ≡ greatest_in (heads_in survey.scanned.items)
    → (IsTrue said.is_unwritten ↔ HaveNoBatch survey.scanned.items) → said.most ≡ most_size new.geometry → AreSaid new said
said-found old new n survey said k is size none most =
    let logs : drive_logs new ≡ drive_logs old = kept-logs old new k in
    let heads : heads_in survey.scanned.items ≡ map heads_of (drive_logs new) = is.scans.heads ∙ ap (map heads_of) (sym logs) in
    record {
      size = size ∙ ap greatest_in heads ∙ greatest-heads (drive_logs new);
      unwritten = (λ b. none-there survey.scanned.items (drive_logs new) heads (none.0 b), λ all. none.1 (none-found survey.scanned.items (drive_logs new) heads all));
      most = most;
    }
