-- What a repair of zones that end in something foreign finds, keeps and leaves.
use Rattle.std.specs.Prelude.{◌≡◌, ◌≢◌, ℕ, suc, ◌<◌, ◌≤◌, Bool, true, false, IsTrue, IsFalse, List, [], ◌∷◌, ◌++◌, length, map, Option, Some, None, IfSome, Result, Ok, Err, slice_get, unwrap_or}
use Rattle.batch_log.specs.Causes.{is_zero}
use Rattle.batch_log.specs.Header.{Heading, IsHeaderBlock, IsNoHeader}
use Rattle.batch_log.specs.Log.{Batch, BeginsWith, BeginsWithNoBatch, HaveNoLog, log_size}
use Rattle.drive_array.specs.ZoneLogs.{HasLog}
use Rattle.drive_port.specs.Contents.{Usage, content_at, contents, empty, is_full, usage_of}
use Rattle.drive_port.specs.Drive.{DriveState, IsLawful}
use Rattle.drive_port.specs.declared.calls.PortFault.{PortFault}
use Rattle.drive_port.specs.declared.calls.PortFault.TheVariants as port
use Rattle.drive_port.specs.declared.device.Halt.TheVariants as halts
use Rattle.drive_survey.specs.Scan.{block_of, log_fault, readable_at}
use Rattle.drive_survey.specs.Survey.{IsLowestUnusable}
use Rattle.drive_survey.specs.declared.fault.MountFault.{MountFault}
use Rattle.drive_survey.specs.declared.reported.ReportedZone.{ReportedZone}
use Rattle.drive_survey.specs.declared.fault.MountFault.TheVariants as mounts
use Rattle.zone_states.specs.Geometry.{IsInRange}
use Rattle.tail_repair.specs.declared.fault.RepairFault.{RepairFault}
use Rattle.tail_repair.specs.declared.fault.RepairFault.TheVariants.{Limits, Unusable, Unsound, Behind, NoEmptyZone, Halted, Unfinished}
use Rattle.tail_repair.specs.declared.repair.MovedZone.{MovedZone}
use Rattle.tail_repair.specs.declared.tails.BatchEnd.{BatchEnd}
use Rattle.tail_repair.specs.declared.tails.ForeignTail.{ForeignTail}

-- ---- what is kept

-- A zone begins with these batches, as a host reads it.
abbrev pub Begins : DriveState → ℕ → List Batch → Type 0
Begins drive zone log = (tail : List (List ℕ)) × BeginsWith drive.geometry.block (readable_at drive zone) log tail

-- The batches with which a zone began, some zone begins with now.
abbrev pub KeepsBatches : DriveState → DriveState → Type 0
KeepsBatches old new =
    (zone : ℕ) (log : List Batch) → zone < length old.zones → Begins old zone log
    → (other : ℕ) × (other < length new.zones) × Begins new other log

-- A lawful drive of the same shape, and while it is clean no batch is lost with which a zone began.
pub record KeepsDrive (old new : DriveState) : Type 0 where
  pub geometry : new.geometry ≡ old.geometry
  pub lawful : IsLawful new
  pub trusted : IsTrue new.clean → IsTrue old.clean
  pub batches : IsTrue new.clean → KeepsBatches old new

-- the batches with which a zone began, this zone begins with now
abbrev pub AreIn : DriveState → ℕ → DriveState → ℕ → Type 0
AreIn old zone new other = (log : List Batch) → Begins old zone log → Begins new other log

-- each zone but one begins with the batches with which it began
abbrev pub KeepsBeside : DriveState → DriveState → ℕ → Type 0
KeepsBeside old new zone = (other : ℕ) → other ≢ zone → AreIn old other new other

-- faults that come after a zone may have changed
abbrev pub may_change : RepairFault → Bool
may_change (Halted halt) = true
may_change Unfinished = true
may_change fault = false

-- ---- what is found

-- The batches of a zone take so many blocks. What follows begins with none.
pub record BatchesEnd (drive : DriveState) (zone blocks : ℕ) : Type 0 where
  pub log : List Batch
  pub rest : List (List ℕ)
  pub front : BeginsWith drive.geometry.block (readable_at drive zone) log rest
  pub no_more : BeginsWithNoBatch drive.geometry.block rest
  pub size : log_size log ≡ blocks

-- a zone holds no log
abbrev pub HoldsNoLog : DriveState → ℕ → Type 0
HoldsNoLog drive zone = HaveNoLog drive.geometry.block (is_full (content_at (contents drive.zones) zone).usage) (readable_at drive zone)

-- A zone holds a log. Or it holds none, and its batches end after so many blocks.
abbrev pub LogEnds : DriveState → ℕ → Option ℕ → Type 0
LogEnds drive zone None = HasLog drive.geometry (content_at (contents drive.zones) zone)
LogEnds drive zone (Some blocks) = HoldsNoLog drive zone × BatchesEnd drive zone blocks

-- after how many blocks something foreign follows, if it does
abbrev pub foreign_from : Bool → ℕ → Option ℕ
foreign_from true blocks = Some blocks
foreign_from false blocks = None

-- what a fault of a look at a zone is to a repair
abbrev pub look_fault : MountFault → RepairFault
look_fault mounts.OutOfMemory = Halted halts.Memory
look_fault mounts.Halted = Halted halts.Stopped
look_fault mounts.Failed = Halted halts.Failed
look_fault fault = Unfinished

-- where the batches of a zone end whose scan failed
abbrev pub foreign_end : ℕ → MountFault → Result BatchEnd RepairFault
foreign_end zone (mounts.Log number blocks cause) = Ok (record { blocks = blocks; is_foreign = true })
foreign_end zone mounts.SequenceRepeated = Err (Unsound zone)
foreign_end zone mounts.Spent = Err (Unsound zone)
foreign_end zone fault = Err (look_fault fault)

-- The batches of a zone take so many blocks, and whether something foreign follows is known.
pub record EndsAt (drive : DriveState) (zone blocks : ℕ) (is_foreign : Bool) : Type 0 where
  pub ends : BatchesEnd drive zone blocks
  pub log : LogEnds drive zone (foreign_from is_foreign blocks)

-- no header is behind the first foreign block
abbrev pub HeadersEnd : DriveState → ℕ → ℕ → Type 0
HeadersEnd drive zone blocks =
    (offset : ℕ) → blocks < offset → offset < length (readable_at drive zone) → IsNoHeader (block_of drive zone offset)

-- A zone holds a log. Or it holds none, its batches end after so many blocks, and no header is behind the first foreign one.
abbrev pub TailIs : DriveState → ℕ → Option ℕ → Type 0
TailIs drive zone None = LogEnds drive zone None
TailIs drive zone (Some blocks) = LogEnds drive zone (Some blocks) × HeadersEnd drive zone blocks

abbrev pub tail_at : ℕ → ℕ → ForeignTail
tail_at zone blocks = record { zone = zone; blocks = blocks }

-- a zone was looked at, and is noted if something foreign is in it
abbrev pub noted : ℕ → List ForeignTail → Option ℕ → List ForeignTail
noted zone tails None = tails
noted zone tails (Some blocks) = tails ++ tail_at zone blocks ∷ []

pub record NotesTail (drive : DriveState) (zone : ℕ) (old new : List ForeignTail) : Type 0 where
  pub found : Option ℕ
  pub is : TailIs drive zone found
  pub noted_is : new ≡ noted zone old found

-- The first zones were looked at, so many, and these are noted.
pub data AreNoted (drive : DriveState) : ℕ → List ForeignTail → Type 0 where
  at_first : AreNoted drive 0 []
  one_more : {n : ℕ} {tails after : List ForeignTail} → AreNoted drive n tails → NotesTail drive n tails after → AreNoted drive (suc n) after

-- all zones were
abbrev pub AreTails : DriveState → List ForeignTail → Type 0
AreTails drive tails = AreNoted drive (length drive.zones) tails

-- the zones are in ascending order
abbrev pub Ascends : List ForeignTail → Type 0
Ascends tails =
    (i j : ℕ) (a b : ForeignTail) → i < j → slice_get tails i ≡ Some a → slice_get tails j ≡ Some b → a.zone < b.zone

-- none of these above a zone is this one
abbrev pub IsNoneAbove : List ForeignTail → ℕ → ℕ → Type 0
IsNoneAbove tails zone to = (k : ℕ) (tail : ForeignTail) → slice_get tails k ≡ Some tail → zone < tail.zone → tail.zone ≢ to

-- ---- what is answered

-- the zone that was repaired, and how many blocks its batches take
abbrev pub tail_of : MovedZone → ForeignTail
tail_of moved = tail_at moved.zone moved.blocks

abbrev pub moved_tails : List MovedZone → List ForeignTail
moved_tails moved = map tail_of moved

-- These are just the zones that end in something foreign, in their order, and how many blocks their batches take.
abbrev pub AreRepaired : DriveState → List MovedZone → Type 0
AreRepaired drive moved = AreTails drive (moved_tails moved)

-- what was moved is in another zone
abbrev pub IsElsewhere : MovedZone → Type 0
IsElsewhere moved = IfSome moved.into (λ to. to ≢ moved.zone)

-- where the batches of a zone are that was repaired: in the zone that the answer names, and if it names none, where they were
abbrev pub place : MovedZone → ℕ
place moved = unwrap_or moved.into moved.zone

abbrev pub AreWhereTold : DriveState → DriveState → MovedZone → Type 0
AreWhereTold old new moved = AreIn old moved.zone new (place moved)

-- each zone holds a log
abbrev pub HaveLogs : DriveState → Type 0
HaveLogs drive = (zone : ℕ) → zone < length drive.zones → HasLog drive.geometry (content_at (contents drive.zones) zone)

-- ---- copies

-- A block of a zone is that of another one, of which so many count. Past these it is zeros.
pub record Agrees (drive : DriveState) (zone blocks to offset : ℕ) : Type 0 where
  pub same : offset < blocks → block_of drive to offset ≡ block_of drive zone offset
  pub zeros : blocks ≤ offset → is_zero (block_of drive to offset) ≡ true

-- A zone holds the first of these blocks, and nothing else.
abbrev pub IsCopy : DriveState → ℕ → ℕ → ℕ → Type 0
IsCopy drive zone blocks to = (offset : ℕ) → offset < length (readable_at drive to) → Agrees drive zone blocks to offset

-- It holds all of them.
pub record HasCopy (drive : DriveState) (zone blocks to : ℕ) : Type 0 where
  pub there : to < length drive.zones
  pub enough : blocks ≤ length (readable_at drive zone)
  pub long : blocks ≤ length (readable_at drive to)
  pub is : IsCopy drive zone blocks to

-- The batches of a zone are in another one; or it has none.
pub record IsMovedTo (drive : DriveState) (zone blocks to : ℕ) : Type 0 where
  pub apart : to ≢ zone
  pub copy : HasCopy drive zone blocks to

abbrev pub IsMoved : DriveState → ℕ → ℕ → Option ℕ → Type 0
IsMoved drive zone blocks None = blocks ≡ 0
IsMoved drive zone blocks (Some to) = IsMovedTo drive zone blocks to

-- A zone has blocks more after its own, as a host reads it: those that were appended, or the zeros of a Finish. All other zones are unchanged.
pub record Extends (old new : DriveState) (to : ℕ) : Type 0 where
  pub geometry : new.geometry ≡ old.geometry
  pub lawful : IsLawful new
  pub count : length new.zones ≡ length old.zones
  pub trusted : IsTrue new.clean → IsTrue old.clean
  pub others : (zone : ℕ) → zone ≢ to → content_at (contents new.zones) zone ≡ content_at (contents old.zones) zone
  pub more : List (List ℕ)
  pub own : readable_at new to ≡ readable_at old to ++ more

-- ---- why it fails

-- what a fault of a command is to a repair
abbrev pub call_fault : PortFault → RepairFault
call_fault port.Memory = Halted halts.Memory
call_fault port.Failed = Halted halts.Failed
call_fault port.Stopped = Halted halts.Stopped
call_fault fault = Unfinished

-- Batches with which a zone begins have a sequence twice, or one that is too great.
pub record IsUnsound (drive : DriveState) (zone : ℕ) : Type 0 where
  pub log : List Batch
  pub begins : Begins drive zone log
  pub fault : MountFault
  pub first : log_fault [] log ≡ Some fault

-- A zone holds no log, and at this block behind the first foreign one is a header.
pub record HasHeaderBehind (drive : DriveState) (zone block : ℕ) : Type 0 where
  pub blocks : ℕ
  pub ends : LogEnds drive zone (Some blocks)
  pub behind : blocks < block
  pub in_range : block < length (readable_at drive zone)
  pub heading : Heading
  pub is : IsHeaderBlock drive.geometry.block (block_of drive zone block) heading

abbrev pub is_empty : Usage → Bool
is_empty empty = true
is_empty usage = false

abbrev pub NoneIsEmpty : DriveState → Type 0
NoneIsEmpty drive = (zone : ℕ) → zone < length drive.zones → is_empty (content_at (contents drive.zones) zone).usage ≡ false

-- no zone but one is reported Empty
abbrev pub NoOtherEmpty : List ReportedZone → ℕ → Type 0
NoOtherEmpty zones beside = (zone : ℕ) (reported : ReportedZone) → zone ≢ beside → slice_get zones zone ≡ Some reported → is_empty (usage_of reported.state) ≡ false

-- If a fault says that the drive has stopped, it has. If it says that a command failed, the drive is not unfailing.
abbrev pub IsTold : DriveState → RepairFault → Type 0
IsTold drive (Halted halts.Stopped) = drive.stopped ≡ true
IsTold drive (Halted halts.Failed) = IsFalse drive.unfailing
IsTold drive fault = Unit {0}

-- A look at a drive fails only if the drive halts or memory runs out.
abbrev pub LookFails : DriveState → RepairFault → Type 0
LookFails drive (Halted halt) = IsTold drive (Halted halt)
LookFails drive fault = ⊥

-- Why the zones are not found that end in something foreign.
abbrev pub FindFails : DriveState → DriveState → RepairFault → Type 0
FindFails old new Limits = IsInRange old.geometry → ⊥
FindFails old new (Unusable zone) = IsLowestUnusable (contents old.zones) zone
FindFails old new (Unsound zone) = IsUnsound old zone
FindFails old new (Behind zone block) = HasHeaderBehind old zone block
FindFails old new fault = LookFails new fault

-- Why they are not repaired. Of `Unfinished` nothing is said.
abbrev pub RepairFails : DriveState → DriveState → RepairFault → Type 0
RepairFails old new NoEmptyZone = NoneIsEmpty old
RepairFails old new Unfinished = Unit {0}
RepairFails old new fault = FindFails old new fault
