-- Zones that are shown of a drive.
use Rattle.std.proofs.Common.{◌≡◌, ◌≢◌, ℕ, List, [], Result, Ok, Err, refl}
use Rattle.std.specs.Prelude.{IfOk, OnErr}
use Rattle.drive_port.specs.Drive.{DriveState}
use Rattle.tool_jobs.specs.Checks.{EndsLook}
use Rattle.tool_jobs.specs.declared.fault.ToolFault.{ToolFault}
use Rattle.tool_jobs.specs.declared.fault.ToolFault.TheVariants.{Plan, Bytes, Entry, Stopped, Failed, Damaged, Output, File, Memory}
use Rattle.tool_jobs.specs.declared.showing.ZonesForm.{ZonesForm}
use Rattle.tool_jobs.specs.declared.showing.ZonesForm.TheVariants.{Lines, Brief, Json, Svg}
use Rattle.device_jobs.specs.Shown.{IsLiveAnyway, IsLiveFor, IsUnshown, IsUnshownAnyway}

-- where no picture is drawn, no live blocks are looked for
pub no-live : (form : ZonesForm) (drive last : DriveState) (live : List ℕ) → form ≢ Svg → live ≡ [] → IsLiveFor form drive last live
no-live (Lines state) drive last live other none = none
no-live Brief drive last live other none = none
no-live (Json state) drive last live other none = none
no-live Svg drive last live other none = absurd (other refl)

-- and none are shown
pub no_live-anyway : (form : ZonesForm) (live : List ℕ) → live ≡ [] → IsLiveAnyway form live
no_live-anyway (Lines state) live none = none
no_live-anyway Brief live none = none
no_live-anyway (Json state) live none = none
no_live-anyway Svg live none = tt

-- a picture may show any
pub live-anyway : (form : ZonesForm) (live : List ℕ) → form ≡ Svg → IsLiveAnyway form live
live-anyway form live is = rw is tt

pub picture-live : {V : Type 0} (result : Result V ToolFault) (items : V → List ℕ) (form : ZonesForm) → form ≡ Svg → IfOk result (λ (live : V). IsLiveAnyway form (items live))
picture-live (Ok live) items form is = live-anyway form (items live) is
picture-live (Err fault) items form is = tt

-- and only a look for them fails
pub picture-fault : {V : Type 0} (result : Result V ToolFault) (form : ZonesForm) → form ≡ Svg → OnErr result (form ≡ Svg)
picture-fault (Ok live) form is = tt
picture-fault (Err fault) form is = is

unshown-ends : (old new : DriveState) (fault : ToolFault) → IsUnshown old new fault → EndsLook fault
unshown-ends old new Stopped so = tt
unshown-ends old new Failed so = tt
unshown-ends old new Memory so = tt
unshown-ends old new Damaged so = absurd so
unshown-ends old new (Plan f) so = absurd so
unshown-ends old new Bytes so = absurd so
unshown-ends old new (Entry f) so = absurd so
unshown-ends old new Output so = absurd so
unshown-ends old new (File f) so = absurd so

-- why zones are not shown before a look for live blocks
pub unshown-anyway : (form : ZonesForm) (old new : DriveState) (fault : ToolFault) → IsUnshown old new fault → IsUnshownAnyway form old new fault
unshown-anyway (Lines state) old new fault so = so
unshown-anyway Brief old new fault so = so
unshown-anyway (Json state) old new fault so = so
unshown-anyway Svg old new fault so = unshown-ends old new fault so

-- and after one
pub look-ended : (form : ZonesForm) (old new : DriveState) (fault : ToolFault) → form ≡ Svg → EndsLook fault → IsUnshownAnyway form old new fault
look-ended form old new fault is ends = rw is ends
