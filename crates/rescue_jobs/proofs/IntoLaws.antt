-- What is written to a new disk.
use Rattle.std.proofs.Common.{◌≡◌, ℕ, List, [], ◌++◌, Some, Result, Ok, Err, sym, subst}
use Rattle.std.specs.Prelude.{IfOk}
use Rattle.drive_port.specs.Drive.{DriveState}
use Rattle.disk_copies.specs.Written.{Written, written_bytes}
use Rattle.drive_rescue.specs.declared.giving.Rescued.{Rescued}
use Rattle.drive_rescue.specs.declared.rescuing.Findings.{Findings}
use Rattle.drive_rescue.specs.Findings.{IsFound}
use Rattle.drive_rescue.specs.Rescue.{Rescues, SourceView}
use Rattle.zone_translator.specs.View.{DiskView}
use Rattle.rescue_jobs.specs.declared.fault.RescueJobFault.{RescueJobFault}
use Rattle.rescue_jobs.specs.Jobs.{RescuesInto}

-- all that was gathered is written
pub all-written : (source : SourceView) (given : ℕ) (rescued : Rescued) (disk : DiskView) (first last written : Written) (before after : List ℕ) → first ≡ record { disk = disk; next = 0 } → before ≡ []
    → written_bytes written ≡ written_bytes last ++ after → Rescues source given (Some (written_bytes first ++ before)) (Some (written_bytes last ++ after)) rescued
    → Rescues source given (Some []) (Some (written_bytes written)) rescued
all-written source given rescued disk first last written before after e f k r =
    let begun : Rescues source given (Some []) (Some (written_bytes last ++ after)) rescued = rw (e, f) at r in
    subst (λ (bytes : List ℕ). Rescues source given (Some []) (Some bytes) rescued) (sym k) begun

-- what is written of what was found
pub into-ok : {X : Type 0} (drive_of : X → DriveState) (a b : SourceView) (given : ℕ) (findings : Findings) (result : Result (X × Rescued) RescueJobFault) → IsFound a given findings
    → IfOk result (λ (done : X × Rescued). (n : ℕ) → IsFound a n findings → RescuesInto b n done.1 (drive_of done.0)) → IfOk result (λ (done : X × Rescued). RescuesInto b given done.1 (drive_of done.0))
into-ok drive_of a b given findings (Err fault) found ok = tt
into-ok drive_of a b given findings (Ok done) found ok = ok given found
