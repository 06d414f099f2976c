-- What a request asks of a disk, and the reply to it.
use Rattle.std.specs.Prelude.{◌≡◌, ◌⊎◌, ℕ, ◌<◌, ◌*◌, ◌/◌, ◌%◌, ◌==◌, ◌&&◌, ◌||◌, nat_lt, not, if◌then◌else◌, Bool, true}
use Rattle.std.specs.Prelude.{false}
use Rattle.std.specs.Prelude.{List, [], ◌++◌, length, Option, Some, Result, Ok, Err, IsTrue, OnOk}
use Rattle.std.specs.List.{concat}
use Rattle.std.specs.Io.KnownBytes.{Consumes}
use Rattle.disk_files.specs.Input.{DropsFewer}
use Rattle.nbd_wire.specs.Transmission.{command_of, simple_reply_bytes}
use Rattle.nbd_wire.specs.declared.command.Command.{Command}
use Rattle.nbd_wire.specs.declared.command.Command.TheVariants as commands
use Rattle.nbd_wire.specs.declared.error_code.ErrorCode.{ErrorCode}
use Rattle.nbd_wire.specs.declared.error_code.ErrorCode.TheVariants as errors
use Rattle.nbd_wire.specs.declared.request.Request.{Request}
use Rattle.zone_translator.specs.Answers.{count_of_blocks}
use Rattle.zone_translator.specs.Flat.{Answer, with_nothing}
use Rattle.zone_translator.specs.declared.fault.DiskFault.{DiskFault}
use Rattle.zone_translator.specs.declared.fault.DiskFault.TheVariants as disk
use Rattle.nbd_session.specs.declared.asked.Asked.{Asked}
use Rattle.nbd_session.specs.declared.asked.Asked.TheVariants.{Read, Write, Trim, WriteZeroes, Flush}
use Rattle.nbd_session.specs.declared.asked.TheConstants.{MOST_BYTES}
use Rattle.nbd_session.specs.declared.fault.SessionFault.{SessionFault}
use Rattle.nbd_session.specs.declared.fault.SessionFault.TheVariants.{Input}
use Rattle.nbd_session.specs.declared.fault.StoreFault.{StoreFault}
use Rattle.nbd_session.specs.declared.fault.StoreFault.TheVariants.{Disk, Medium}
use Rattle.nbd_session.specs.Store.{ForcesBlocks, ReadsBlocks, Spares, Stays, StaysByCall, StaysBySync, StoreView}
use Rattle.nbd_session.specs.Store.{Syncs, Trims, WritesBytes, WritesZeros}

-- ---- what is asked

-- only the data of a WRITE follow a request
abbrev pub data_length_by : Option Command → Request → ℕ
data_length_by (Some commands.Write) r = r.length
data_length_by command r = 0

abbrev pub data_length : Request → ℕ
data_length r = data_length_by (command_of r.code) r

abbrev pub is_disconnect_by : Option Command → Bool
is_disconnect_by (Some commands.Disconnect) = true
is_disconnect_by command = false

abbrev pub is_disconnect : Request → Bool
is_disconnect r = is_disconnect_by (command_of r.code)

-- every command may have FUA, bit 0, and only WRITE_ZEROES NO_HOLE, bit 1
abbrev pub most_flags : Option Command → ℕ
most_flags (Some commands.WriteZeroes) = 3
most_flags command = 1

-- whether a request begins or ends within a block
abbrev pub is_unaligned : ℕ → Request → Bool
is_unaligned block r = not (r.offset % block == 0) || not (r.length % block == 0)

-- what a request of whole blocks asks for, by its command; a READ and a WRITE have a greatest length, and a FLUSH names
-- no block
abbrev pub asked_with : ℕ → Option Command → Request → Result Asked ErrorCode
asked_with block (Some commands.Read) r =
    if nat_lt MOST_BYTES r.length then Err errors.Invalid else Ok (Read (r.offset / block) (r.length / block))
asked_with block (Some commands.Write) r =
    if nat_lt MOST_BYTES r.length then Err errors.Invalid else Ok (Write (r.offset / block))
asked_with block (Some commands.Trim) r = Ok (Trim (r.offset / block) (r.length / block))
asked_with block (Some commands.WriteZeroes) r =
    Ok (WriteZeroes (r.offset / block) (r.length / block) (nat_lt r.flags 2))
asked_with block (Some commands.Flush) r =
    if not (r.offset == 0) || not (r.length == 0) then Err errors.Invalid else Ok Flush
asked_with block command r = Err errors.Invalid

-- what a request asks of a disk whose blocks have this many bytes, or the error that it is refused by
abbrev pub asked_of : ℕ → Request → Result Asked ErrorCode
asked_of block r =
    if nat_lt (most_flags (command_of r.code)) r.flags then Err errors.Invalid
    else if is_unaligned block r then Err errors.Invalid
    else asked_with block (command_of r.code) r

-- whether what is asked changes the disk
abbrev pub changes_disk : Asked → Bool
changes_disk (Read first n) = false
changes_disk (Write first) = true
changes_disk (Trim first n) = true
changes_disk (WriteZeroes first n hole) = true
changes_disk Flush = false

-- what of this a store permits: if it is read only, nothing that changes the disk
abbrev pub permitted : Bool → Result Asked ErrorCode → Result Asked ErrorCode
permitted read_only (Err error) = Err error
permitted read_only (Ok wanted) = if read_only && changes_disk wanted then Err errors.NotPermitted else Ok wanted

-- what a request asks of a store, or the error that it is refused by before the disk is asked
abbrev pub asked_of_store : StoreView → Request → Result Asked ErrorCode
asked_of_store store r = permitted store.read_only (asked_of store.disk.drive.geometry.block r)

-- how many bytes of data come with what is asked: whole blocks with a WRITE, and none with another command
abbrev pub Carries : ℕ → Asked → ℕ → Type 0
Carries block (Write first) count = count ≡ count / block * block
Carries block wanted count = count ≡ 0

-- ---- what is done

-- whether what was asked has to be durable before the reply
abbrev pub is_forced : Asked → Request → Bool
is_forced (Read first n) r = false
is_forced (Write first) r = r.flags % 2 == 1
is_forced (Trim first n) r = r.flags % 2 == 1
is_forced (WriteZeroes first n hole) r = r.flags % 2 == 1
is_forced Flush r = true

-- What is asked is done by one call of the disk. A TRIM leaves records without data, and so does a WRITE_ZEROES that
-- may leave a hole; one that may not, and a WRITE, leave records with data. Of a WRITE nothing is done where there is
-- no memory for its data.
abbrev pub Does : StoreView → Asked → List ℕ → Answer → StoreView → Type 0
Does old (Write first) bytes answer new =
    WritesBytes old first bytes answer new ⊎ ((answer ≡ with_nothing (Err disk.OutOfMemory)) × (new ≡ old))
Does old (Read first n) bytes answer new = ReadsBlocks old first n answer new
Does old (Trim first n) bytes answer new = Trims old first n answer new
Does old (WriteZeroes first n true) bytes answer new = Trims old first n answer new
Does old (WriteZeroes first n false) bytes answer new = WritesZeros old first n answer new
Does old Flush bytes answer new = (answer ≡ with_nothing (Ok tt)) × (new ≡ old)

-- The medium failed in what is asked, and nothing is done. A FLUSH names no block: its medium fails only in the sync.
abbrev pub SparesAsked : StoreView → Asked → List ℕ → StoreView → Type 0
SparesAsked old (Write first) bytes new = Spares old first (count_of_blocks old.disk bytes) new
SparesAsked old (Read first n) bytes new = Spares old first n new
SparesAsked old (Trim first n) bytes new = Spares old first n new
SparesAsked old (WriteZeroes first n hole) bytes new = Spares old first n new
SparesAsked old Flush bytes new = ⊥

-- What is asked is done or refused or, if the medium failed, nothing is done and nothing shown.
abbrev pub DoesOrFails : StoreView → Asked → List ℕ → Result (Unit {0}) StoreFault → List (List ℕ) → StoreView → Type 0
DoesOrFails old wanted bytes (Ok done) shown new = Does old wanted bytes (record { result = Ok tt; shown = shown }) new
DoesOrFails old wanted bytes (Err (Disk fault)) shown new =
    Does old wanted bytes (record { result = Err fault; shown = shown }) new
DoesOrFails old wanted bytes (Err Medium) shown new = (shown ≡ []) × SparesAsked old wanted bytes new

-- What is to be durable is synced: after a FLUSH the whole array, and after another request the blocks that it named.
-- That many bytes of data came with it.
abbrev pub Secures : Asked → ℕ → StoreView → Result (Unit {0}) StoreFault → StoreView → Type 0
Secures Flush count old result new = Syncs old result new
Secures (Write first) count old result new = ForcesBlocks first (count / old.disk.drive.geometry.block) old result new
Secures (Read first n) count old result new = ForcesBlocks first n old result new
Secures (Trim first n) count old result new = ForcesBlocks first n old result new
Secures (WriteZeroes first n hole) count old result new = ForcesBlocks first n old result new

-- the same over any device: while its drive is clean
pub record SecuresAnyway (wanted : Asked) (count : ℕ) (old : StoreView) (result : Result (Unit {0}) StoreFault)
    (new : StoreView) : Type 0 where
  pub secures : IsTrue new.disk.drive.clean → Secures wanted count old result new
  pub stays : StaysBySync old result new

-- What was done is made durable in this way where it has to be. A refusal stays, and so does a fault of the medium.
abbrev pub ForcesBy : (Result (Unit {0}) StoreFault → StoreView → Type 0) → Bool → StoreView
    → Result (Unit {0}) StoreFault → Result (Unit {0}) StoreFault → StoreView → Type 0
ForcesBy Secured forced old (Err fault) result new = (result ≡ Err fault) × (new ≡ old)
ForcesBy Secured true old (Ok done) result new = Secured result new
ForcesBy Secured false old (Ok done) result new = (result ≡ Ok tt) × (new ≡ old)

abbrev pub Forces : Bool → Asked → ℕ → StoreView → Result (Unit {0}) StoreFault → Result (Unit {0}) StoreFault
    → StoreView → Type 0
Forces forced wanted count old done result new = ForcesBy (Secures wanted count old) forced old done result new

abbrev pub ForcesAnyway : Bool → Asked → ℕ → StoreView → Result (Unit {0}) StoreFault → Result (Unit {0}) StoreFault
    → StoreView → Type 0
ForcesAnyway forced wanted count old done result new =
    ForcesBy (SecuresAnyway wanted count old) forced old done result new

-- what is asked is done, and these bytes are shown
pub record DoesShowing (old : StoreView) (wanted : Asked) (bytes shown : List ℕ) (result : Result (Unit {0}) StoreFault)
    (new : StoreView) : Type 0 where
  pub blocks : List (List ℕ)
  pub does : DoesOrFails old wanted bytes result blocks new
  pub shown_is : shown ≡ concat blocks

-- Bytes are shown only by a READ that is done: as many as its blocks have, each of this many bytes.
abbrev pub MayShow : ℕ → Asked → Result (Unit {0}) StoreFault → List ℕ → Type 0
MayShow block (Read first n) (Ok done) shown = length shown ≡ n * block
MayShow block wanted result shown = shown ≡ []

-- what is asked is done with the data that came with it, and these bytes are shown: while the drive is clean
pub record DoesWith (left left' : Option (List ℕ)) (old : StoreView) (wanted : Asked) (count : ℕ) (shown : List ℕ)
    (result : Result (Unit {0}) StoreFault) (new : StoreView) : Type 0 where
  pub bytes : List ℕ
  pub count_is : length bytes ≡ count
  pub read : Consumes left left' bytes
  pub does : IsTrue new.disk.drive.clean → DoesShowing old wanted bytes shown result new
  pub shows : MayShow old.disk.drive.geometry.block wanted result shown
  pub stays : StaysByCall old new

-- that, or the data are cut and nothing is done
abbrev pub DoesOrNot : Option (List ℕ) → Option (List ℕ) → StoreView → Asked → ℕ → List ℕ
    → Result (Result (Unit {0}) StoreFault) SessionFault → StoreView → Type 0
DoesOrNot left left' old wanted count shown (Ok result) new = DoesWith left left' old wanted count shown result new
DoesOrNot left left' old wanted count shown (Err fault) new =
    (fault ≡ Input) × DropsFewer left left' count × (new ≡ old)

-- ---- the reply

-- the error of a request past the end
abbrev pub error_past_end : Asked → ErrorCode
error_past_end (Write first) = errors.NoSpace
error_past_end (WriteZeroes first n hole) = errors.NoSpace
error_past_end wanted = errors.Invalid

-- the error of a refusal; a disk that has stopped, or is not mounted, answers ESHUTDOWN to each request that needs it;
-- so does one whose drive does not fit what it returned
abbrev pub error_of : Asked → DiskFault → ErrorCode
error_of wanted disk.OutOfRange = error_past_end wanted
error_of wanted disk.OutOfMemory = errors.NoMemory
error_of wanted disk.Failed = errors.Io
error_of wanted disk.Stopped = errors.Shutdown
error_of wanted disk.Unmounted = errors.Shutdown
error_of wanted disk.Spent = errors.NoSpace
error_of wanted disk.Smaller = errors.Invalid
error_of wanted disk.Reserve = errors.Invalid
error_of wanted disk.Damaged = errors.Shutdown

-- the error of a reply; where the medium fails, in a sync or before, it is EIO
abbrev pub code_of : Asked → Result (Unit {0}) StoreFault → ErrorCode
code_of wanted (Ok done) = errors.Success
code_of wanted (Err (Disk fault)) = error_of wanted fault
code_of wanted (Err Medium) = errors.Io

-- what is asked is done, and synced where it has to be, and this is the reply
pub record DoesAndReplies (old : StoreView) (request : Request) (wanted : Asked) (bytes reply : List ℕ)
    (new : StoreView) : Type 0 where
  pub done : Result (Unit {0}) StoreFault
  pub shown : List (List ℕ)
  pub middle : StoreView
  pub does : DoesOrFails old wanted bytes done shown middle
  pub result : Result (Unit {0}) StoreFault
  pub forces : Forces (is_forced wanted request) wanted (data_length request) middle done result new
  pub reply_is : reply ≡ simple_reply_bytes (code_of wanted result) request.cookie ++ concat shown

-- a request is answered
abbrev pub AnswersAsked : StoreView → Request → Result Asked ErrorCode → List ℕ → List ℕ → StoreView → Type 0
AnswersAsked old request (Err error) bytes reply new = (reply ≡ simple_reply_bytes error request.cookie) × (new ≡ old)
AnswersAsked old request (Ok wanted) bytes reply new = DoesAndReplies old request wanted bytes reply new

-- The same over any device: while the drive is clean. Whatever its Reads returned, the reply has the cookie of the
-- request. Bytes follow only where a READ is done: as many as its blocks have. What had to be durable is told as done
-- only once a sync was completed.
pub record RepliesAnyway (old : StoreView) (request : Request) (wanted : Asked) (bytes reply : List ℕ)
    (new : StoreView) : Type 0 where
  pub does : IsTrue new.disk.drive.clean → DoesAndReplies old request wanted bytes reply new
  pub result : Result (Unit {0}) StoreFault
  pub shown : List ℕ
  pub reply_is : reply ≡ simple_reply_bytes (code_of wanted result) request.cookie ++ shown
  pub shows : MayShow old.disk.drive.geometry.block wanted result shown
  pub synced : is_forced wanted request ≡ true → OnOk result (old.syncs < new.syncs)
  pub unsynced : is_forced wanted request ≡ false → new.syncs ≡ old.syncs
  pub stays : Stays old new

abbrev pub AnswersAnyway : StoreView → Request → Result Asked ErrorCode → List ℕ → List ℕ → StoreView → Type 0
AnswersAnyway old request (Err error) bytes reply new = (reply ≡ simple_reply_bytes error request.cookie) × (new ≡ old)
AnswersAnyway old request (Ok wanted) bytes reply new = RepliesAnyway old request wanted bytes reply new
