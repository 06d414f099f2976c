-- What comes of one message, and how a session ends.
use Rattle.std.specs.Prelude.{◌≡◌, ◌≢◌, ◌⊎◌, ℕ, ◌+◌, ◌-◌, ◌<◌, ◌≤◌, ◌^◌, Bool, true, false, List, [], ◌∷◌, ◌++◌, length}
use Rattle.std.specs.Prelude.{Option, Some, None, IfSome, IsSomeAnd, is_none, Result, Ok, Err}
use Rattle.std.specs.Io.KnownBytes.{Appends, Consumes, IsAtEnd, Keeps}
use Rattle.disk_files.specs.Input.{DropsFewer}
use Rattle.disk_files.specs.Output.{AppendsFront}
use Rattle.nbd_wire.specs.Handshake.{FitsHead, client_flags_bytes, option_head_bytes}
use Rattle.nbd_wire.specs.Transmission.{FitsRequest, request_bytes}
use Rattle.nbd_wire.specs.declared.client_flags.ClientFlags.{ClientFlags}
use Rattle.nbd_wire.specs.declared.option_head.OptionHead.{OptionHead}
use Rattle.nbd_wire.specs.declared.request.Request.{Request}
use Rattle.nbd_session.specs.declared.ending.SessionEnd.{SessionEnd}
use Rattle.nbd_session.specs.declared.ending.SessionEnd.TheVariants.{Disconnected, InputEnded, LimitReached}
use Rattle.nbd_session.specs.declared.fault.SessionFault.{SessionFault}
use Rattle.nbd_session.specs.declared.fault.SessionFault.TheVariants.{Input, Magic, Output, TooMany, Unsent}
use Rattle.nbd_session.specs.declared.phase.Phase.{Phase}
use Rattle.nbd_session.specs.declared.phase.Phase.TheVariants as phases
use Rattle.nbd_session.specs.Manners.{Manner, always, while_clean}
use Rattle.nbd_session.specs.Requests.{data_length}
use Rattle.nbd_session.specs.Session.{AnswersEach, AnswersMessageAs, Dialogue, Served, Session, session}
use Rattle.nbd_session.specs.Store.{StoreView}
use Rattle.nbd_session.specs.Streams.{Streams, streams}

-- ---- one message

-- one message more is answered, and its reply is passed on or not
pub record AnswersOne (manner : Manner) (together passes : Bool) (bytes : Streams) (old new : Session) : Type 0 where
  pub message : List ℕ
  pub reply : List ℕ
  pub read : Consumes bytes.input bytes.rest message
  pub written : Appends bytes.written bytes.contents reply
  pub answers : AnswersMessageAs manner together passes old message reply new

-- nothing is read, written or done
pub record DoesNothing (bytes : Streams) (old : Session) (new : StoreView) : Type 0 where
  pub read : Keeps bytes.input bytes.rest
  pub written : Keeps bytes.written bytes.contents
  pub new_is : new ≡ old.store

-- a session is over: the client has said so, or has gone between two messages
abbrev pub IsOver : Session → Option (List ℕ) → Type 0
IsOver old rest = (old.phase ≡ phases.Ended) ⊎ IsAtEnd rest

-- ---- why a message is not answered

-- the head of an option, and fewer bytes than it says
pub record IsOptionFront (bytes : List ℕ) : Type 0 where
  pub head : OptionHead
  pub fits : FitsHead head
  pub front : List ℕ
  pub bytes_are : bytes ≡ option_head_bytes head ++ front
  pub fewer : length front < head.length

-- the head of a request, and fewer bytes than come with it
pub record IsRequestFront (bytes : List ℕ) : Type 0 where
  pub request : Request
  pub fits : FitsRequest request
  pub front : List ℕ
  pub bytes_are : bytes ≡ request_bytes request ++ front
  pub fewer : length front < data_length request

-- fewer bytes than a message of this phase has
abbrev pub IsCutMessage : Phase → List ℕ → Type 0
IsCutMessage phases.Flags bytes = length bytes < 4
IsCutMessage (phases.Options no_zeroes) bytes = (length bytes < 16) ⊎ IsOptionFront bytes
IsCutMessage phases.Transmission bytes = (length bytes < 28) ⊎ IsRequestFront bytes
IsCutMessage phase bytes = ⊥

-- a whole head, with which no message of this phase begins
abbrev pub IsForeign : Phase → List ℕ → Type 0
IsForeign phases.Flags head = (length head ≡ 4) × ((flags : ClientFlags) → head ≢ client_flags_bytes flags)
IsForeign (phases.Options no_zeroes) head =
    (length head ≡ 16) × ((option : OptionHead) → FitsHead option → head ≢ option_head_bytes option)
IsForeign phases.Transmission head =
    (length head ≡ 28) × ((request : Request) → FitsRequest request → head ≢ request_bytes request)
IsForeign phase head = ⊥

-- bytes for which this holds are read, and nothing is written or done
pub record ReadsOnly (bytes : Streams) (Holds : List ℕ → Type 0) (old : Session) (new : StoreView) : Type 0 where
  pub front : List ℕ
  pub holds : Holds front
  pub read : Consumes bytes.input bytes.rest front
  pub written : Keeps bytes.written bytes.contents
  pub new_is : new ≡ old.store

-- a message is answered, and of the reply a beginning is written, not all of it; nothing else is done
pub record Breaks (manner : Manner) (together : Bool) (bytes : Streams) (old : Session) (new : StoreView) : Type 0 where
  pub message : List ℕ
  pub reply : List ℕ
  pub phase : Phase
  pub read : Consumes bytes.input bytes.rest message
  pub written : AppendsFront bytes.written bytes.contents reply
  pub answers : AnswersMessageAs manner together false old message reply (session phase new)

-- a message is answered, and its reply is written, and not passed on; nothing else is done
pub record AnswersUnsent (manner : Manner) (together : Bool) (bytes : Streams) (old : Session)
    (new : StoreView) : Type 0 where
  pub phase : Phase
  pub answers : AnswersOne manner together false bytes old (session phase new)

-- Why a session stops at a message: the reader failed or ended before all of it was read, its head is foreign, or the
-- writer failed in the reply or did not pass it on.
abbrev pub StopsSession : Manner → Bool → SessionFault → Streams → Session → StoreView → Type 0
StopsSession manner together Input bytes old new = ReadsOnly bytes (IsCutMessage old.phase) old new
StopsSession manner together Magic bytes old new = ReadsOnly bytes (IsForeign old.phase) old new
StopsSession manner together Output bytes old new = Breaks manner together bytes old new
StopsSession manner together Unsent bytes old new = AnswersUnsent manner together bytes old new
StopsSession manner together TooMany bytes old new = ⊥

-- What came of one message over any device, where requests may be answered together or not: a session continues in a
-- phase, is over, or stops.
abbrev pub TurnGives : Bool → Streams → Session → Result (Option Phase) SessionFault → StoreView → Type 0
TurnGives together bytes old (Ok (Some phase)) new = AnswersOne while_clean together true bytes old (session phase new)
TurnGives together bytes old (Ok None) new = DoesNothing bytes old new × IsOver old bytes.rest
TurnGives together bytes old (Err fault) new = StopsSession while_clean together fault bytes old new

-- ---- what follows the head of a message

-- the bytes after a head are read, and the reply is written
pub record Replies (bytes : Streams) (count : ℕ) (Answer : List ℕ → List ℕ → Type 0) : Type 0 where
  pub after : List ℕ
  pub count_is : length after ≡ count
  pub reply : List ℕ
  pub read : Consumes bytes.input bytes.rest after
  pub written : Appends bytes.written bytes.contents reply
  pub answer : Answer after reply

-- of the reply a beginning is written
pub record RepliesInPart (bytes : Streams) (count : ℕ) (Answer : List ℕ → List ℕ → Type 0) : Type 0 where
  pub after : List ℕ
  pub count_is : length after ≡ count
  pub reply : List ℕ
  pub read : Consumes bytes.input bytes.rest after
  pub written : AppendsFront bytes.written bytes.contents reply
  pub answer : Answer after reply

-- why what follows a head is not answered: it is cut, and nothing is written or done, or the writer failed
abbrev pub ReplyStops : SessionFault → Streams → ℕ → (List ℕ → List ℕ → Type 0) → Type 0 → Type 0
ReplyStops Input bytes count Answer Nothing =
    DropsFewer bytes.input bytes.rest count × Keeps bytes.written bytes.contents × Nothing
ReplyStops Magic bytes count Answer Nothing = ⊥
ReplyStops Output bytes count Answer Nothing = RepliesInPart bytes count Answer
ReplyStops Unsent bytes count Answer Nothing = ⊥
ReplyStops TooMany bytes count Answer Nothing = ⊥

-- ---- a session

-- every message is answered, until the client ends
pub record RunsToEnd (manner : Manner) (bytes : Streams) (old : Session) (new : StoreView) : Type 0 where
  pub phase : Phase
  pub served : Served manner true bytes old (session phase new)
  pub over : IsOver (session phase new) bytes.rest

-- after that many messages a session stops at the next, or because it has answered as many as it counts
abbrev pub StopsAfter : Manner → Bool → ℕ → SessionFault → Streams → Session → StoreView → Type 0
StopsAfter manner together count TooMany bytes old new = (count ≡ 2 ^ 64 - 1) × DoesNothing bytes old new
StopsAfter manner together count fault bytes old new = StopsSession manner together fault bytes old new

-- some messages are answered, and the session stops
pub record StopsEarly (manner : Manner) (together : Bool) (bytes : Streams) (old : Session) (fault : SessionFault)
    (new : StoreView) : Type 0 where
  pub middle : Session
  pub rest : Option (List ℕ)
  pub contents : Option (List ℕ)
  pub served : Served manner together (streams bytes.input rest bytes.written contents) old middle
  pub stops : StopsAfter manner together (length served.dialogues) fault
      (streams rest bytes.rest contents bytes.contents) middle new

-- how a session ends
abbrev pub ServesAs : Manner → Streams → Session → Result (Unit {0}) SessionFault → StoreView → Type 0
ServesAs manner bytes old (Ok done) new = RunsToEnd manner bytes old new
ServesAs manner bytes old (Err fault) new = StopsEarly manner true bytes old fault new

abbrev pub Serves : Streams → Session → Result (Unit {0}) SessionFault → StoreView → Type 0
Serves bytes old result new = ServesAs always bytes old result new

-- ---- a session of at most so many requests

-- how many requests a message of this phase is: those of the transmission are requests, and DISC is one
abbrev pub requests_at : Phase → ℕ
requests_at phases.Transmission = 1
requests_at phase = 0

-- how many of the messages that were answered are requests, where each is answered by itself
abbrev pub requests_in : (manner : Manner) → (together : Bool) → (old : Session) → (dialogues : List Dialogue)
    → (new : Session) → AnswersEach manner together old dialogues new → ℕ
requests_in manner together old [] new answered = 0
requests_in manner together old (d ∷ ds) new answered =
    requests_at old.phase + requests_in manner together answered.0 ds new answered.2

-- Messages are answered, up to a session that would read one more. With that one there are at most so many requests,
-- and each is answered by itself.
pub record RunsWithin (manner : Manner) (most : Option ℕ) (bytes : Streams) (old new : Session) : Type 0 where
  pub served : Served manner (is_none most) bytes old new
  pub within : IfSome most
      (λ n. requests_in manner (is_none most) old served.dialogues new served.answered + requests_at new.phase ≤ n)

-- the client has gone between two messages, and has not said that it ends
pub record RunsOut (manner : Manner) (most : Option ℕ) (bytes : Streams) (old : Session)
    (new : StoreView) : Type 0 where
  pub phase : Phase
  pub unsaid : phase ≢ phases.Ended
  pub runs : RunsWithin manner most bytes old (session phase new)
  pub at_end : IsAtEnd bytes.rest

-- so many requests are answered, and no more is read
pub record RunsToLimit (manner : Manner) (most : ℕ) (bytes : Streams) (old : Session) (new : StoreView) : Type 0 where
  pub served : Served manner false bytes old (session phases.Transmission new)
  pub count_is : requests_in manner false old served.dialogues (session phases.Transmission new) served.answered ≡ most

-- how many requests are read by the message at which a session stops: none, if it only has answered as many as it
-- counts
abbrev pub requests_stopped : SessionFault → Phase → ℕ
requests_stopped TooMany phase = 0
requests_stopped fault phase = requests_at phase

-- a session stops, and has read at most so many requests
pub record StopsWithin (manner : Manner) (most : Option ℕ) (bytes : Streams) (old : Session) (fault : SessionFault)
    (new : StoreView) : Type 0 where
  pub stops : StopsEarly manner (is_none most) bytes old fault new
  pub within : IfSome most (λ n.
      requests_in manner (is_none most) old stops.served.dialogues stops.middle stops.served.answered
      + requests_stopped fault stops.middle.phase ≤ n)

-- how a session ends in a phase, where no message follows
abbrev pub end_in : Phase → SessionEnd
end_in phases.Ended = Disconnected
end_in phase = InputEnded

-- how a session ends that reads at most so many requests, if a greatest number is given
abbrev pub ServesAtMostAs : Manner → Option ℕ → Streams → Session → Result SessionEnd SessionFault → StoreView → Type 0
ServesAtMostAs manner most bytes old (Ok Disconnected) new = RunsWithin manner most bytes old (session phases.Ended new)
ServesAtMostAs manner most bytes old (Ok InputEnded) new = RunsOut manner most bytes old new
ServesAtMostAs manner most bytes old (Ok LimitReached) new =
    IsSomeAnd most (λ most. RunsToLimit manner most bytes old new)
ServesAtMostAs manner most bytes old (Err fault) new = StopsWithin manner most bytes old fault new

abbrev pub ServesAtMost : Option ℕ → Streams → Session → Result SessionEnd SessionFault → StoreView → Type 0
ServesAtMost most bytes old result new = ServesAtMostAs always most bytes old result new
