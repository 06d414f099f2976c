-- The headers of a whole zone.
use Rattle.std.proofs.Common.{◌≡◌, ℕ, ◌<◌, Bool, List, Option, Some, None, refl}
use Rattle.drive_port.specs.Contents.{content_at, contents}
use Rattle.drive_port.specs.Drive.{DriveState}
use Rattle.drive_survey.specs.declared.fault.MountFault.{MountFault}
use Rattle.drive_survey.specs.Heads.{HeadsView}
use Rattle.drive_survey.specs.Reported.{KeepsZones}
use Rattle.drive_survey.specs.Scan.{FailsBy, FailsIn, Takes, TakesNext}
use Rattle.drive_survey.proofs.ReadLaws.{kept-contents}
use Rattle.drive_survey.proofs.NextLaws.{fails-more}

abbrev TakesOn : DriveState → ℕ → List ℕ → HeadsView → List ℕ → Type 0
TakesOn drive zone before heads seen = Takes drive.geometry (content_at (contents drive.zones) zone) before heads seen

takes-kept : (first now : DriveState) (zone : ℕ) (before seen : List ℕ) (heads : HeadsView) → KeepsZones first now → TakesOn first zone before heads seen → TakesOn now zone before heads seen
takes-kept first now zone before seen heads kept takes = rw (kept.geometry, kept-contents first now kept) takes

-- what is taken next of a zone is the same before and after looks at the drive
pub step-ok : (first now : DriveState) (zone : ℕ) (before seen seen' : List ℕ) (old new : HeadsView) (next : Option Bool) → KeepsZones first now → TakesOn first zone before old seen
    → ((b : List ℕ) → TakesOn now zone b old seen → TakesNext now.geometry (content_at (contents now.zones) zone) b old next new seen')
    → TakesNext first.geometry (content_at (contents first.zones) zone) before old next new seen'
step-ok first now zone before seen seen' old new next kept takes more =
    let there = more before (takes-kept first now zone before seen old kept takes) in
    rw (kept.geometry, kept-contents first now kept) at there

-- a zone's fault, met after looks at the drive, is the first that it had before them
pub step-err : (first now last : DriveState) (zone : ℕ) (before seen : List ℕ) (old : HeadsView) (fault : MountFault) → KeepsZones first now → TakesOn first zone before old seen
    → FailsBy (λ f. (b : List ℕ) → TakesOn now zone b old seen → FailsIn now.geometry (content_at (contents now.zones) zone) zone b f) last fault
    → FailsBy (FailsIn first.geometry (content_at (contents first.zones) zone) zone before) last fault
step-err first now last zone before seen old fault kept takes fails = fails-more _ _ last fault more fails
  where
    more : (f : MountFault) → ((b : List ℕ) → TakesOn now zone b old seen → FailsIn now.geometry (content_at (contents now.zones) zone) zone b f) → FailsIn first.geometry (content_at (contents first.zones) zone) zone before f
    more f there =
        let here = there before (takes-kept first now zone before seen old kept takes) in
        rw (kept.geometry, kept-contents first now kept) at here

-- one batch more was taken
pub taken-next : (first : DriveState) (zone : ℕ) (before seen : List ℕ) (old new : HeadsView) (next : Option Bool) → TakesNext first.geometry (content_at (contents first.zones) zone) before old next new seen → ((t : Bool) → next ≡ Some t → ⊥)
    → TakesOn first zone before new seen × (old.blocks < new.blocks)
taken-next first zone before seen old new None takes never = takes
taken-next first zone before seen old new (Some t) takes never = absurd (never t refl)
