-- A session: the greeting, options, and the transmission of requests. Each message that is read is answered.
use Rattle.std.specs.Prelude.{◌≡◌, ◌⊎◌, ℕ, ◌*◌, ◌≤◌, ◌==◌, max, map, if◌then◌else◌, Bool, true, false, List, [], ◌∷◌}
use Rattle.std.specs.Prelude.{◌++◌, length, Option, Some, None, Result}
use Rattle.std.specs.List.{flat_map}
use Rattle.std.specs.Io.KnownBytes.{Appends, Consumes}
use Rattle.nbd_wire.specs.Handshake.{FitsHead, client_flags_bytes, greeting, info_replies, list_reply, name_reply}
use Rattle.nbd_wire.specs.Handshake.{option_head_bytes, option_of, option_reply}
use Rattle.nbd_wire.specs.Transmission.{FitsRequest, request_bytes}
use Rattle.nbd_wire.specs.declared.client_flags.ClientFlags.{ClientFlags}
use Rattle.nbd_wire.specs.declared.export.Export.{Export}
use Rattle.nbd_wire.specs.declared.option_head.OptionHead.{OptionHead}
use Rattle.nbd_wire.specs.declared.option_kind.OptionKind.{OptionKind}
use Rattle.nbd_wire.specs.declared.option_kind.OptionKind.TheVariants as options
use Rattle.nbd_wire.specs.declared.reply_kind.ReplyKind.TheVariants.{Acknowledge, Unsupported, Invalid}
use Rattle.nbd_wire.specs.declared.request.Request.{Request}
use Rattle.zone_translator.specs.View.{disk_size}
use Rattle.zone_translator.specs.declared.fault.DiskFault.{DiskFault}
use Rattle.nbd_session.specs.declared.asked.TheConstants.{MOST_BYTES}
use Rattle.nbd_session.specs.declared.option_answer.OptionAnswer.{OptionAnswer}
use Rattle.nbd_session.specs.declared.option_answer.OptionAnswer.TheVariants.{Short, Exports, ExportInfo, Name}
use Rattle.nbd_session.specs.declared.phase.Phase.{Phase}
use Rattle.nbd_session.specs.declared.phase.Phase.TheVariants as phases
use Rattle.nbd_session.specs.Manners.{Manner, always}
use Rattle.nbd_session.specs.Requests.{asked_of_store, data_length, is_disconnect}
use Rattle.nbd_session.specs.Groups.{Asking, FollowsAll, IsGroup, asking_bytes, data_of, entries_of, member_of}
use Rattle.nbd_session.specs.Groups.{replies_to}
use Rattle.nbd_session.specs.Store.{StoreView}
use Rattle.nbd_session.specs.Streams.{Streams}

pub record Session : Type 0 where
  pub phase : Phase
  pub store : StoreView

abbrev pub session : Phase → StoreView → Session
session phase store = record { phase = phase; store = store }

-- ---- options

-- what a client is told of a store
abbrev pub export_of : StoreView → Export
export_of store = record {
  size = disk_size store.disk * store.disk.drive.geometry.block;
  minimum = store.disk.drive.geometry.block;
  preferred = max 4096 store.disk.drive.geometry.block;
  maximum = MOST_BYTES;
  read_only = store.read_only;
}

-- What is answered to an option whose data have this length. There is one disk, whatever name an option has.
abbrev pub option_answer : Option OptionKind → ℕ → OptionAnswer
option_answer None length = Short Unsupported
option_answer (Some options.ExportName) length = Name
option_answer (Some options.Abort) length = Short Acknowledge
option_answer (Some options.ListExports) length = if length == 0 then Exports else Short Invalid
option_answer (Some options.Info) length = ExportInfo
option_answer (Some options.Go) length = ExportInfo

-- the phase after an option
abbrev pub phase_after : Bool → Option OptionKind → Phase
phase_after no_zeroes (Some options.ExportName) = phases.Transmission
phase_after no_zeroes (Some options.Go) = phases.Transmission
phase_after no_zeroes (Some options.Abort) = phases.Ended
phase_after no_zeroes kind = phases.Options no_zeroes

-- the bytes of an answer to the option of this number
abbrev pub answer_bytes : Export → Bool → ℕ → OptionAnswer → List ℕ
answer_bytes export no_zeroes option (Short kind) = option_reply option kind []
answer_bytes export no_zeroes option Exports = list_reply option
answer_bytes export no_zeroes option ExportInfo = info_replies option export
answer_bytes export no_zeroes option Name = name_reply export no_zeroes

-- a message is the head of an option and its data
pub record ServesOption (old : StoreView) (no_zeroes : Bool) (message reply : List ℕ) (new : Session) : Type 0 where
  pub head : OptionHead
  pub fits : FitsHead head
  pub bytes : List ℕ
  pub message_is : message ≡ option_head_bytes head ++ bytes
  pub length_is : length bytes ≡ head.length
  pub reply_is : reply ≡ answer_bytes (export_of old) no_zeroes head.option
      (option_answer (option_of head.option) head.length)
  pub new_is : new ≡ session (phase_after no_zeroes (option_of head.option)) old

-- ---- requests

-- what follows the reply to a request: the store rests or, if the reply is not passed on, nothing is done
abbrev pub FollowsAs : Manner → Bool → StoreView → StoreView → Type 0
FollowsAs manner true old new = manner.Rests old new
FollowsAs manner false old new = new ≡ old

-- a request is answered, and what follows is done
pub record AnswersAndRests (manner : Manner) (passes : Bool) (old : StoreView) (request : Request)
    (bytes reply : List ℕ) (new : StoreView) : Type 0 where
  pub answered : StoreView
  pub answers : manner.Asks old request (asked_of_store old request) bytes reply answered
  pub follows : FollowsAs manner passes answered new

-- Requests that came together are done by one call, and each is answered by its result. The replies are in the order of
-- the requests. Then the store rests once for each.
pub record ServesGroup (manner : Manner) (passes : Bool) (old : StoreView) (message reply : List ℕ)
    (new : Session) : Type 0 where
  pub askings : List Asking
  pub several : 2 ≤ length askings
  pub group : IsGroup old askings
  pub message_is : message ≡ flat_map asking_bytes askings
  pub done : Result (Unit {0}) DiskFault
  pub answered : StoreView
  pub writes : manner.Lists old (entries_of askings) (data_of askings) done answered
  pub reply_is : reply ≡ replies_to done (map member_of askings)
  pub follows : FollowsAll manner passes (length askings) answered new.store
  pub phase_is : new.phase ≡ phases.Transmission

-- a DISC has no reply, and ends the session
abbrev pub AnswersByAs : Manner → Bool → StoreView → Bool → Request → List ℕ → List ℕ → Session → Type 0
AnswersByAs manner passes old true request bytes reply new = (reply ≡ []) × (new ≡ session phases.Ended old)
AnswersByAs manner passes old false request bytes reply new =
    (new.phase ≡ phases.Transmission) × AnswersAndRests manner passes old request bytes reply new.store

-- a message is the head of a request and its data
pub record ServesRequestAs (manner : Manner) (passes : Bool) (old : StoreView) (message reply : List ℕ)
    (new : Session) : Type 0 where
  pub request : Request
  pub fits : FitsRequest request
  pub bytes : List ℕ
  pub message_is : message ≡ request_bytes request ++ bytes
  pub length_is : length bytes ≡ data_length request
  pub answer : AnswersByAs manner passes old (is_disconnect request) request bytes reply new

-- ---- messages

-- the client's flags have no reply
pub record TakesFlags (old : StoreView) (message reply : List ℕ) (new : Session) : Type 0 where
  pub flags : ClientFlags
  pub message_is : message ≡ client_flags_bytes flags
  pub reply_is : reply ≡ []
  pub new_is : new ≡ session (phases.Options flags.no_zeroes) old

-- a message of the transmission is a request or, where those that came together may be answered so, a group of them
abbrev pub ServesRequests : Manner → Bool → Bool → StoreView → List ℕ → List ℕ → Session → Type 0
ServesRequests manner true passes old message reply new =
    ServesRequestAs manner passes old message reply new ⊎ ServesGroup manner passes old message reply new
ServesRequests manner false passes old message reply new = ServesRequestAs manner passes old message reply new

-- A message is answered, and its reply is passed on or not. The greeting answers to none.
abbrev pub AnswersInAs : Manner → Bool → Bool → Phase → StoreView → List ℕ → List ℕ → Session → Type 0
AnswersInAs manner together passes phases.Greeting old message reply new =
    (message ≡ []) × (reply ≡ greeting) × (new ≡ session phases.Flags old)
AnswersInAs manner together passes phases.Flags old message reply new = TakesFlags old message reply new
AnswersInAs manner together passes (phases.Options no_zeroes) old message reply new =
    ServesOption old no_zeroes message reply new
AnswersInAs manner together passes phases.Transmission old message reply new =
    ServesRequests manner together passes old message reply new
AnswersInAs manner together passes phases.Ended old message reply new = ⊥

abbrev pub AnswersMessageAs : Manner → Bool → Bool → Session → List ℕ → List ℕ → Session → Type 0
AnswersMessageAs manner together passes old message reply new =
    AnswersInAs manner together passes old.phase old.store message reply new

-- ---- many messages

-- a message and the reply to it
pub record Dialogue : Type 0 where
  pub message : List ℕ
  pub reply : List ℕ

-- messages are answered, one after the other, and each reply is passed on
abbrev pub AnswersEach : Manner → Bool → Session → List Dialogue → Session → Type 0
AnswersEach manner together old [] new = new ≡ old
AnswersEach manner together old (d ∷ ds) new =
    (middle : Session) × AnswersMessageAs manner together true old d.message d.reply middle
    × AnswersEach manner together middle ds new

-- the bytes that were read are messages, and those that were written are the replies to them
pub record Served (manner : Manner) (together : Bool) (bytes : Streams) (old new : Session) : Type 0 where
  pub dialogues : List Dialogue
  pub read : Consumes bytes.input bytes.rest (flat_map (λ (d : Dialogue). d.message) dialogues)
  pub written : Appends bytes.written bytes.contents (flat_map (λ (d : Dialogue). d.reply) dialogues)
  pub answered : AnswersEach manner together old dialogues new

-- ---- of a store that does each in any case

abbrev pub Follows : Bool → StoreView → StoreView → Type 0
Follows passes old new = FollowsAs always passes old new

abbrev pub AnswersBy : Bool → StoreView → Bool → Request → List ℕ → List ℕ → Session → Type 0
AnswersBy passes old ends request bytes reply new = AnswersByAs always passes old ends request bytes reply new

abbrev pub ServesRequest : Bool → StoreView → List ℕ → List ℕ → Session → Type 0
ServesRequest passes old message reply new = ServesRequestAs always passes old message reply new

abbrev pub AnswersIn : Bool → Bool → Phase → StoreView → List ℕ → List ℕ → Session → Type 0
AnswersIn together passes phase old message reply new = AnswersInAs always together passes phase old message reply new

abbrev pub AnswersMessage : Bool → Bool → Session → List ℕ → List ℕ → Session → Type 0
AnswersMessage together passes old message reply new = AnswersMessageAs always together passes old message reply new
