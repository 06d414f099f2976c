-- The live blocks that are counted for a picture.
use Rattle.std.proofs.Common.{◌≡◌, ◌⊎◌, inl, inr, ℕ, zero, suc, List, [], ◌∷◌, length, Option, Some, Result, Ok, Err, refl, sym, ap, subst, ◌∙◌}
use Rattle.std.specs.Prelude.{slice_get}
use Rattle.zone_states.specs.declared.geometry.Geometry.{Geometry}
use Rattle.zone_states.specs.Geometry.{IsInRange}
use Rattle.drive_array.specs.Reserve.{most_size}
use Rattle.drive_inspection.specs.Info.{InfoOrRefusal, IsInfo}
use Rattle.drive_inspection.specs.declared.info.Info.{Info}
use Rattle.drive_inspection.specs.declared.info.ZoneInfo.{ZoneInfo}
use Rattle.drive_port.specs.Drive.{DriveState}
use Rattle.drive_survey.specs.Reported.{KeepsZones}
use Rattle.drive_survey.specs.Scan.{IsInterruption}
use Rattle.drive_survey.specs.declared.fault.MountFault.{MountFault}
use Rattle.job_drives.specs.Kept.{IsReadIn}
use Rattle.tool_jobs.specs.Checks.{IsInterrupted}
use Rattle.tool_jobs.specs.Pictures.{CountsLive, CountsNone, DrawsNone, FindsLive, LooksNone, live_counts, written_counts}
use Rattle.tool_jobs.specs.declared.fault.ToolFault.{ToolFault}
use Rattle.tool_jobs.specs.declared.fault.ToolFault.TheVariants.{Plan, Bytes, Entry, Stopped, Failed, Damaged, Output, File, Memory}

length-counts : (zones : List ZoneInfo) → length (written_counts zones) ≡ length zones
length-counts [] = refl
length-counts (zone ∷ zones) = ap suc (length-counts zones)

-- each number is that of a zone
of-zone : (zones : List ZoneInfo) (zone blocks : ℕ) → slice_get (written_counts zones) zone ≡ Some blocks → (info : ZoneInfo) × (slice_get zones zone ≡ Some info) × (info.live.written ≡ blocks)
of-zone [] zone blocks is = absurd (cc is)
of-zone (info ∷ zones) zero blocks is = (info, refl, cc is)
of-zone (info ∷ zones) (suc zone) blocks is = of-zone zones zone blocks is

module _ (drive last : DriveState) (n : ℕ) where
  counted-in : (info : Info) → IsInfo drive n info → CountsLive drive n (live_counts (Ok info))
  counted-in info is = record {
    count = length-counts info.holdings.zones.items ∙ is.holds.count;
    zones = λ zone blocks at.
        let found = of-zone info.holdings.zones.items zone blocks at in
        sym found.2 ∙ (is.holds.zones zone found.0 found.1).live.written;
  }

  -- the live blocks are counted, or a mount is refused
  live-or-refused : (found : Result Info MountFault) (live : List ℕ) → InfoOrRefusal drive last n found → live ≡ live_counts found → CountsLive drive n live ⊎ CountsNone drive last n live
  live-or-refused (Ok info) live is same = rw same (inl (counted-in info is))
  live-or-refused (Err fault) live fails same = rw same (inr (refl, (fault, fails)))

-- it is done with the number of blocks that the drive is taken to have
pub counted : (drive last : DriveState) (geometry : Geometry) (blocks : ℕ) (found : Result Info MountFault) (live : List ℕ) → geometry ≡ drive.geometry → (IsInRange geometry → blocks ≡ most_size geometry)
    → InfoOrRefusal drive last blocks found → live ≡ live_counts found → FindsLive drive last live
counted drive last geometry blocks found live same most is counts = record {
  blocks = blocks;
  most = subst (λ (g : Geometry). IsInRange g → blocks ≡ most_size g) same most;
  counts = live-or-refused drive last blocks found live is counts;
}

-- a drive that was not looked at to its end
pub not-looked : (last : DriveState) (cause : MountFault) (fault : ToolFault) → IsInterrupted cause fault → IsInterruption last cause → LooksNone last fault
not-looked last cause fault told (inl memory) = rw (rw memory at told) tt
not-looked last cause fault told (inr (inl (inl stopped))) = rw (rw stopped.0 at told) stopped.1
not-looked last cause fault told (inr (inl (inr failed))) = rw (rw failed.0 at told) failed.1
not-looked last cause fault told (inr (inr none)) = absurd none

-- it was the one in the file
pub not-drawn : (file : Option (List ℕ)) (saved last : DriveState) (fault : ToolFault) → IsReadIn file saved → KeepsZones saved last → LooksNone last fault → DrawsNone file fault
not-drawn file saved last Stopped is_read keeps none = record { saved = saved; is_read = is_read; last = last; keeps = keeps; halts = none }
not-drawn file saved last Failed is_read keeps none = record { saved = saved; is_read = is_read; last = last; keeps = keeps; halts = none }
not-drawn file saved last Memory is_read keeps none = tt
not-drawn file saved last (Plan f) is_read keeps none = absurd none
not-drawn file saved last Bytes is_read keeps none = absurd none
not-drawn file saved last (Entry f) is_read keeps none = absurd none
not-drawn file saved last Damaged is_read keeps none = absurd none
not-drawn file saved last Output is_read keeps none = absurd none
not-drawn file saved last (File f) is_read keeps none = absurd none
