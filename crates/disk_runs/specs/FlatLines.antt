-- What a conventional disk replies to the lines of a trace. It knows nothing of zones.
use Rattle.std.specs.Prelude.{◌≡◌, ℕ, zero, suc, ◌+◌, ◌*◌, ◌<◌, ◌/◌, ◌%◌, ◌==◌, ◌||◌, if◌then◌else◌, Bool, List}
use Rattle.std.specs.Prelude.{⊤, [], length, Option, Some, None, Result, Ok, Err, is_some, option_and_then}
use Rattle.zone_states.specs.Zone.{cut_blocks}
use Rattle.disk_files.specs.Reply.{out_of_range_text, read_text, reserve_text, smaller_text}
use Rattle.disk_files.specs.TraceLine.{is_skipped, trace_line}
use Rattle.disk_files.specs.declared.trace_line.TraceLine.{TraceLine}
use Rattle.disk_files.specs.declared.trace_line.TraceLine.TheVariants.{Read, Fill, Write, Trim, Idle, Grow, Remount}
use Rattle.zone_translator.specs.Flat.{Answer, Call, FlatCall, FlatDisk, FlatRemount, fill, grow, idle, read, trim}
use Rattle.zone_translator.specs.Flat.{with_nothing, write}
use Rattle.zone_translator.specs.declared.fault.DiskFault.{DiskFault}
use Rattle.zone_translator.specs.declared.fault.DiskFault.TheVariants.{OutOfRange, Smaller, Reserve}
use Rattle.disk_runs.specs.Run.{Language}
use Rattle.disk_runs.specs.declared.fault.RunFault.{RunFault}
use Rattle.disk_runs.specs.declared.fault.RunFault.TheVariants.{Disk, Mount, Memory}

-- ---- what a line asks for

-- one call, that many turns of cleaning, or to mount the drive again
pub data Request : Type 0 where
  single : Call → Request
  turns : ℕ → Request
  remount : Request

-- data that is whole blocks of this many bytes
abbrev pub is_whole : ℕ → List ℕ → Bool
is_whole size bytes = length bytes % size == 0

-- what a line asks for, with its data, where a block has this many bytes: data that is not whole blocks asks for
-- nothing
abbrev pub asked : ℕ → TraceLine → List ℕ → Option Request
asked size (Read first n) bytes = Some (single (read first n))
asked size (Fill first n byte) bytes = Some (single (fill size first n byte))
asked size (Write first) bytes =
    if is_whole size bytes then Some (single (write first (cut_blocks size (length bytes / size) bytes)))
    else None
asked size (Trim first n) bytes = Some (single (trim size first n))
asked size (Idle n) bytes = Some (turns n)
asked size (Grow n) bytes = Some (single (grow n))
asked size Remount bytes = Some remount

-- the same of the line's text
abbrev pub asked_by : ℕ → List ℕ → Option Request
asked_by size line = option_and_then (λ said. asked size said.0 said.1) (trace_line line)

-- a line that is skipped asks for nothing
abbrev pub request_of : ℕ → List ℕ → Option Request
request_of size line = if is_skipped line then None else asked_by size line

-- whether a line is skipped or asks for something
abbrev pub is_legal : ℕ → List ℕ → Bool
is_legal size line = is_skipped line || is_some (asked_by size line)

-- ---- what is answered to it

-- that many turns of cleaning are done, one after the other
abbrev pub TurnsDone : ℕ → FlatDisk → FlatDisk → Type 0
TurnsDone zero old new = new ≡ old
TurnsDone (suc n) old new =
    (middle : FlatDisk) × FlatCall old idle (with_nothing (Ok tt)) middle × TurnsDone n middle new

-- some of the turns are done, and the next one is refused
pub record TurnsStop (n : ℕ) (old : FlatDisk) (fault : DiskFault) (new : FlatDisk) : Type 0 where
  pub done : ℕ
  pub few : done < n
  pub middle : FlatDisk
  pub before : TurnsDone done old middle
  pub refused : FlatCall middle idle (with_nothing (Err fault)) new

-- turns of cleaning, up to one that is refused
abbrev pub Turns : ℕ → FlatDisk → Result (Unit {0}) DiskFault → FlatDisk → Type 0
Turns n old (Ok done) new = TurnsDone n old new
Turns n old (Err fault) new = TurnsStop n old fault new

-- a call is answered as a flat disk answers it; turns show nothing, and neither does a remount, which is answered where
-- it is done
abbrev pub FlatAnswer : FlatDisk → Request → Answer → FlatDisk → Type 0
FlatAnswer old (single call) answer new = FlatCall old call answer new
FlatAnswer old (turns n) answer new = (answer.shown ≡ []) × Turns n old answer.result new
FlatAnswer old remount answer new = (answer ≡ with_nothing (Ok tt)) × FlatRemount old (Ok tt) new

-- ---- replies

-- from which block on a request shows blocks: only a read shows any
abbrev pub first_of : Request → ℕ
first_of (single (read first n)) = first
first_of request = 0

-- the replies to refusals of a range and of a size; no other refusal has one
abbrev pub refusal_reply : DiskFault → Option (List ℕ)
refusal_reply OutOfRange = Some out_of_range_text
refusal_reply Smaller = Some smaller_text
refusal_reply Reserve = Some reserve_text
refusal_reply fault = None

-- the reply to what was answered: the blocks that are shown, numbered from `first` on, or the refusal
abbrev pub reply_of : ℕ → List (List ℕ) → Result (Unit {0}) DiskFault → Option (List ℕ)
reply_of first shown (Ok done) = Some (read_text first shown)
reply_of first shown (Err fault) = refusal_reply fault

-- what was answered is a refusal without a reply, and ends the run
abbrev pub IsUntold : Result (Unit {0}) DiskFault → RunFault → Type 0
IsUntold (Err fault) (Disk same) = (same ≡ fault) × (refusal_reply fault ≡ None)
IsUntold done ends = ⊥

-- a fault by which what a line asks for may end: the disk's, the mount's, or there was no memory
abbrev pub IsOfDisk : RunFault → Type 0
IsOfDisk (Disk fault) = ⊤
IsOfDisk (Mount fault) = ⊤
IsOfDisk Memory = ⊤
IsOfDisk fault = ⊥

-- a request is answered, and its answer has this reply
pub record RepliesTo (old : FlatDisk) (request : Request) (reply : List ℕ) (new : FlatDisk) : Type 0 where
  pub answer : Answer
  pub flat : FlatAnswer old request answer new
  pub reply_is : reply_of (first_of request) answer.shown answer.result ≡ Some reply

-- a line is answered by the reply to its request, and by nothing where it asks for none
abbrev pub AnswersRequest : FlatDisk → Option Request → List ℕ → FlatDisk → Type 0
AnswersRequest old None reply new = (reply ≡ []) × (new ≡ old)
AnswersRequest old (Some request) reply new = RepliesTo old request reply new

-- a request is refused, and its refusal has no reply
pub record IsRefused (old : FlatDisk) (request : Request) (fault : DiskFault) (new : FlatDisk) : Type 0 where
  pub flat : FlatAnswer old request (with_nothing (Err fault)) new
  pub no_reply : refusal_reply fault ≡ None

-- a reply of so many bytes, which has this capacity, has no room for the line of a block of so many bytes
abbrev pub IsFull : ℕ → ℕ → ℕ → Type 0
IsFull capacity held block = capacity < held + 2 * block + 45

-- a line is refused only where it asks for something, and only by the disk; a remount by the fault of the mount
abbrev pub RefusesRequest : FlatDisk → Option Request → RunFault → FlatDisk → Type 0
RefusesRequest old (Some request) (Disk fault) new = IsRefused old request fault new
RefusesRequest old (Some remount) (Mount fault) new = FlatRemount old (Err fault) new
RefusesRequest old wanted fault new = ⊥

-- why what a line asks for has no reply, and what it left: it was refused, or there was no memory for the reply and
-- nothing changed
abbrev pub RequestStops : FlatDisk → Option Request → RunFault → FlatDisk → Type 0
RequestStops old wanted (Disk fault) new = RefusesRequest old wanted (Disk fault) new
RequestStops old wanted (Mount fault) new = RefusesRequest old wanted (Mount fault) new
RequestStops old wanted Memory new = new ≡ old
RequestStops old wanted fault new = ⊥

-- the lines of a trace, as a flat disk answers them
abbrev pub flat : Language FlatDisk
flat = record {
  is_legal = λ disk line. is_legal disk.block line;
  Answers = λ old line reply new. AnswersRequest old (request_of old.block line) reply new;
  Refuses = λ old line fault new. RefusesRequest old (request_of old.block line) fault new;
  Same = λ old new. new ≡ old;
}
