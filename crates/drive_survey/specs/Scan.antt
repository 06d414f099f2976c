-- What a mount reads of a drive, zone by zone and batch by batch, and the first fault that it meets.
use Rattle.std.specs.Prelude.{◌≡◌, ◌⊎◌, ℕ, ◌+◌, ◌<◌, ◌≤◌, ◌^◌, nat_le, if◌then◌else◌, true, List, [], ◌∷◌, length, map, take}
use Rattle.std.specs.Prelude.{drop, slice_get, slice_index_or, Bool, false, IsFalse, Option, Some, None, Result, Ok, Err}
use Rattle.std.specs.List.{AllByRecursion, list_any}
use Rattle.std.specs.Ordering.{nat_cmp}
use Rattle.std.specs.BTreeSet.{insert_key}
use Rattle.std.specs.BTreeMap.{is_at}
use Rattle.zone_states.specs.declared.geometry.Geometry.{Geometry}
use Rattle.drive_port.specs.Contents.{Content, content_at, contents, is_full, usage_of}
use Rattle.drive_port.specs.Drive.{DriveState, IsLawful}
use Rattle.drive_port.specs.declared.calls.PortFault.{PortFault}
use Rattle.drive_port.specs.declared.calls.PortFault.TheVariants as port
use Rattle.batch_log.specs.Header.{Heading}
use Rattle.batch_log.specs.Ending.{Ending, ended, torn, failed, ending_of}
use Rattle.batch_log.specs.Log.{Batch, BeginsWith, BeginsWithNoBatch, data_count, log_size}
use Rattle.drive_array.specs.ZoneLogs.{HasLog, has_torn_tail, readable, zone_log, zone_logs, zone_tails}
use Rattle.drive_survey.specs.declared.fault.MountFault.{MountFault}
use Rattle.drive_survey.specs.declared.fault.MountFault.TheVariants.{Log, SequenceRepeated, Spent, Halted, OutOfMemory, Failed}
use Rattle.batch_log.specs.declared.fault.LogFault.TheVariants.{Torn}
use Rattle.drive_survey.specs.declared.reported.ReportedZone.{ReportedZone}
use Rattle.drive_survey.specs.declared.scan.ScannedZone.{ScannedZone}
use Rattle.zone_states.specs.Geometry.{IsInRange}
use Rattle.drive_survey.specs.Reported.{IsKnown}
use Rattle.drive_survey.specs.Heads.{HeadsView, heads_of, with_heading}

-- ---- the first fault

-- the first of two
abbrev pub fault_or : Option MountFault → Option MountFault → Option MountFault
fault_or None other = other
fault_or (Some fault) other = Some fault

-- a header with a sequence that a disk can't have, or that was met before
abbrev pub heading_fault : List ℕ → Heading → Option MountFault
heading_fault seen heading =
    if nat_le (2 ^ 63) heading.sequence then Some Spent
    else if list_any (is_at (nat_cmp heading.sequence)) seen then Some SequenceRepeated else None

-- where the batches end at a fault: the zone, the block, and the cause
abbrev pub ending_fault : ℕ → ℕ → Ending → Option MountFault
ending_fault zone offset ended = None
ending_fault zone offset torn = None
ending_fault zone offset (failed cause) = Some (Log zone offset cause)

-- the sequences that were met, with the sequences of these batches
abbrev pub seen_with : List ℕ → List Batch → List ℕ
seen_with seen [] = seen
seen_with seen (batch ∷ log) = seen_with (insert_key nat_cmp seen batch.heading.sequence) log

-- the first fault of batches, where these sequences were met before
abbrev pub log_fault : List ℕ → List Batch → Option MountFault
log_fault seen [] = None
log_fault seen (batch ∷ log) = fault_or (heading_fault seen batch.heading) (log_fault (insert_key nat_cmp seen batch.heading.sequence) log)

-- the sequences that were met, with the sequences of these logs
abbrev pub seen_after : List ℕ → List (List Batch) → List ℕ
seen_after seen [] = seen
seen_after seen (log ∷ logs) = seen_after (seen_with seen log) logs

-- no batch of these logs has a fault
abbrev pub HaveNoFault : List ℕ → List (List Batch) → Type 0
HaveNoFault seen [] = Unit {0}
HaveNoFault seen (log ∷ logs) = (log_fault seen log ≡ None) × HaveNoFault (seen_with seen log) logs

-- The first fault of a zone: a batch has it, after batches that have none; or the batches end at it, and none has one.
pub record FailsIn (geometry : Geometry) (content : Content) (zone : ℕ) (seen : List ℕ) (fault : MountFault) : Type 0 where
  pub log : List Batch
  pub rest : List (List ℕ)
  pub front : BeginsWith geometry.block (readable geometry content) log rest
  pub first : (log_fault seen log ≡ Some fault)
      ⊎ ((log_fault seen log ≡ None) × BeginsWithNoBatch geometry.block rest
      × (ending_fault zone (log_size log) (ending_of (is_full content.usage) rest) ≡ Some fault))

-- The first fault of a drive: that of a zone, after zones that hold logs without one.
pub record FailsFirst (geometry : Geometry) (zones : List Content) (fault : MountFault) : Type 0 where
  pub zone : ℕ
  pub in_range : zone < length zones
  pub logs : AllByRecursion (HasLog geometry) (take zone zones)
  pub none : HaveNoFault [] (zone_logs geometry (take zone zones))
  pub fails : FailsIn geometry (content_at zones zone) zone (seen_after [] (zone_logs geometry (take zone zones))) fault

-- the drive has stopped, or it failed at a command
abbrev pub IsHalted : DriveState → MountFault → Type 0
IsHalted drive fault = ((fault ≡ Halted) × (drive.stopped ≡ true)) ⊎ ((fault ≡ Failed) × IsFalse drive.unfailing)

-- A fault of a scan: out of memory; or the drive halted; or the first fault that is met.
abbrev pub FailsBy : (MountFault → Type 0) → DriveState → MountFault → Type 0
FailsBy First drive fault = (fault ≡ OutOfMemory) ⊎ IsHalted drive fault ⊎ First fault

-- A fault that tells nothing of what the drive holds: out of memory; or the drive halted.
abbrev pub IsInterruption : DriveState → MountFault → Type 0
IsInterruption drive fault = FailsBy (λ _. ⊥) drive fault

-- what a halt of the drive is to a mount
abbrev pub mount_fault : PortFault → MountFault
mount_fault port.Memory = OutOfMemory
mount_fault port.Failed = Failed
mount_fault fault = Halted

-- ---- the blocks of a zone

abbrev pub readable_at : DriveState → ℕ → List (List ℕ)
readable_at drive zone = readable drive.geometry (content_at (contents drive.zones) zone)

abbrev pub block_of : DriveState → ℕ → ℕ → List ℕ
block_of drive zone offset = slice_index_or (readable_at drive zone) offset []

-- no batch begins at this block, and so the batches end
pub record EndsZone (drive : DriveState) (zone offset : ℕ) (ending : Ending) : Type 0 where
  pub no_more : BeginsWithNoBatch drive.geometry.block (drop offset (readable_at drive zone))
  pub ending_is : ending ≡ ending_of (is_full (content_at (contents drive.zones) zone).usage) (drop offset (readable_at drive zone))

-- ---- on the way

-- The headers of the first batches of a zone were taken, which have no fault.
pub record Takes (geometry : Geometry) (content : Content) (before : List ℕ) (heads : HeadsView) (seen : List ℕ) : Type 0 where
  pub log : List Batch
  pub rest : List (List ℕ)
  pub front : BeginsWith geometry.block (readable geometry content) log rest
  pub heads_are : heads ≡ heads_of log
  pub seen_are : seen ≡ seen_with before log
  pub none : log_fault before log ≡ None

-- All of them were taken, and whether a torn tail follows is known.
pub record Scans (geometry : Geometry) (content : Content) (before : List ℕ) (heads : HeadsView) (is_torn : Bool) (seen : List ℕ) : Type 0 where
  pub has : HasLog geometry content
  pub none : log_fault before (zone_log geometry content) ≡ None
  pub heads_are : heads ≡ heads_of (zone_log geometry content)
  pub torn_is : is_torn ≡ has_torn_tail content
  pub seen_are : seen ≡ seen_with before (zone_log geometry content)

-- one batch more, or the end
abbrev pub TakesNext : Geometry → Content → List ℕ → HeadsView → Option Bool → HeadsView → List ℕ → Type 0
TakesNext geometry content before old None heads seen = Takes geometry content before heads seen × (old.blocks < heads.blocks)
TakesNext geometry content before old (Some is_torn) heads seen = Scans geometry content before heads is_torn seen

-- What a header block leads to, at the place after the headers taken before it. It is taken if as many readable blocks
-- follow as its entries need, and it has no fault. In a zone that is not full, where fewer follow, they are a torn
-- tail.
abbrev pub MeetsHeader : ℕ → ReportedZone → HeadsView → List ℕ → Heading → Result (Option Bool) MountFault → HeadsView → List ℕ → Type 0
MeetsHeader zone reported old before heading (Ok None) new seen =
    (old.blocks + 1 + data_count heading.entries ≤ reported.blocks) × (heading_fault before heading ≡ None)
    × (new ≡ with_heading old heading) × (seen ≡ insert_key nat_cmp before heading.sequence)
MeetsHeader zone reported old before heading (Ok (Some is_torn)) new seen =
    (reported.blocks < old.blocks + 1 + data_count heading.entries) × (is_full (usage_of reported.state) ≡ false)
    × (is_torn ≡ true) × (new ≡ old) × (seen ≡ before)
MeetsHeader zone reported old before heading (Err fault) new seen =
    (fault ≡ OutOfMemory) ⊎ ((old.blocks + 1 + data_count heading.entries ≤ reported.blocks) × (heading_fault before heading ≡ Some fault))
    ⊎ ((reported.blocks < old.blocks + 1 + data_count heading.entries) × (is_full (usage_of reported.state) ≡ true) × (fault ≡ Log zone old.blocks Torn))

-- ---- all zones

abbrev pub heads_in : List ScannedZone → List HeadsView
heads_in scanned = map (λ (zone : ScannedZone). zone.heads) scanned

abbrev pub tails_in : List ScannedZone → List Bool
tails_in scanned = map (λ (zone : ScannedZone). zone.is_torn) scanned

-- All zones hold logs, whose batches have no fault; and their headers and torn tails are kept.
pub record ScansAll (geometry : Geometry) (zones : List Content) (scanned : List ScannedZone) : Type 0 where
  pub logs : AllByRecursion (HasLog geometry) zones
  pub none : HaveNoFault [] (zone_logs geometry zones)
  pub heads : heads_in scanned ≡ map heads_of (zone_logs geometry zones)
  pub tails : tails_in scanned ≡ zone_tails zones

-- What is known of all zones.
pub record AreKnown (drive : DriveState) (reported : List ReportedZone) : Type 0 where
  pub geometry : IsInRange drive.geometry
  pub lawful : IsLawful drive
  pub count : length reported ≡ length drive.zones
  pub each : (zone : ℕ) (r : ReportedZone) → slice_get reported zone ≡ Some r → IsKnown drive zone r
