-- A message is its head and what follows it.
use Rattle.std.proofs.Common.{◌≡◌, ℕ, ◌<◌, List, ◌++◌, length, Option, Ok, Err, true, false, refl, ap, inr, ◌∙◌}
use Rattle.std.specs.Prelude.{Bool, IfErr, IsErrAnd, OnOk, Result, ⊤}
use Rattle.std.specs.Io.KnownBytes.{Appends, Consumes, Keeps}
use Rattle.std.proofs.KnownBytes.{Appends-kept, Consumes-trans}
use Rattle.disk_files.specs.Input.{Drops}
use Rattle.disk_files.specs.Output.{AppendsFront}
use Rattle.nbd_wire.specs.Handshake.{FitsHead, option_head_bytes, option_of}
use Rattle.nbd_wire.specs.Transmission.{FitsRequest, request_bytes, simple_reply_bytes}
use Rattle.nbd_wire.specs.declared.error_code.ErrorCode.{ErrorCode}
use Rattle.nbd_wire.specs.declared.option_head.OptionHead.{OptionHead}
use Rattle.nbd_wire.specs.declared.option_kind.OptionKind.{OptionKind}
use Rattle.nbd_wire.specs.declared.request.Request.{Request}
use Rattle.nbd_session.specs.declared.asked.Asked.{Asked}
use Rattle.nbd_session.specs.declared.fault.SessionFault.{SessionFault}
use Rattle.nbd_session.specs.declared.fault.SessionFault.TheVariants.{Input, Magic, Output, TooMany, Unsent}
use Rattle.nbd_session.specs.declared.phase.Phase.{Phase}
use Rattle.nbd_session.specs.declared.phase.Phase.TheVariants as phases
use Rattle.nbd_session.specs.Requests.{AnswersAnyway, asked_of_store, data_length, is_disconnect}
use Rattle.nbd_session.specs.Manners.{while_clean}
use Rattle.nbd_session.specs.Session.{AnswersMessageAs, FollowsAs, Session, answer_bytes, export_of, option_answer, phase_after, session}
use Rattle.nbd_session.specs.Store.{StoreView}
use Rattle.nbd_session.specs.Streams.{Streams, streams}
use Rattle.nbd_session.specs.Turns.{AnswersOne, IsCutMessage, Replies, RepliesInPart, ReplyStops, StopsSession, TurnGives}

-- what is answered in one way is answered in another
replies-so : (bytes : Streams) (count : ℕ) (A B : List ℕ → List ℕ → Type 0) → ((after reply : List ℕ) → A after reply → B after reply) → Replies bytes count A → Replies bytes count B
replies-so bytes count A B so r = record {
  after = r.after;
  count_is = r.count_is;
  reply = r.reply;
  read = r.read;
  written = r.written;
  answer = so r.after r.reply r.answer;
}

stops-so : (fault : SessionFault) (bytes : Streams) (count : ℕ) (A B : List ℕ → List ℕ → Type 0) (P Q : Type 0) → ((after reply : List ℕ) → A after reply → B after reply) → (P → Q)
    → ReplyStops fault bytes count A P → ReplyStops fault bytes count B Q
stops-so Input bytes count A B P Q so nothing r = (r.0, r.1, nothing r.2)
stops-so Magic bytes count A B P Q so nothing r = r
stops-so Unsent bytes count A B P Q so nothing r = r
stops-so TooMany bytes count A B P Q so nothing r = r
stops-so Output bytes count A B P Q so nothing r = record {
  after = r.after;
  count_is = r.count_is;
  reply = r.reply;
  read = r.read;
  written = r.written;
  answer = so r.after r.reply r.answer;
}

-- the head is read, and the rest is answered
exchanged : (passes : Bool) (input middle rest written contents : Option (List ℕ)) (head : List ℕ) (count : ℕ) (A : List ℕ → List ℕ → Type 0) (old new : Session) → Consumes input middle head
    → ((after reply : List ℕ) → length after ≡ count → A after reply → AnswersMessageAs while_clean false passes old (head ++ after) reply new)
    → Replies (streams middle rest written contents) count A → AnswersOne while_clean false passes (streams input rest written contents) old new
exchanged passes input middle rest written contents head count A old new first so r = record {
  message = head ++ r.after;
  reply = r.reply;
  read = Consumes-trans input middle rest head r.after first r.read;
  written = r.written;
  answers = so r.after r.reply r.count_is r.answer;
}

-- the head is read, and the rest is not answered
stopped : (fault : SessionFault) (input middle rest written contents : Option (List ℕ)) (head : List ℕ) (count : ℕ) (A : List ℕ → List ℕ → Type 0) (P : Type 0) (old : Session) (phase : Phase) (new : StoreView)
    → Consumes input middle head → (P → new ≡ old.store)
    → ((front : List ℕ) → length front < count → IsCutMessage old.phase (head ++ front))
    → ((after reply : List ℕ) → length after ≡ count → A after reply → AnswersMessageAs while_clean false false old (head ++ after) reply (session phase new))
    → ReplyStops fault (streams middle rest written contents) count A P → StopsSession while_clean false fault (streams input rest written contents) old new
stopped Input input middle rest written contents head count A P old phase new first nothing cut so r = record {
  front = head ++ r.0.bytes;
  holds = cut r.0.bytes r.0.fewer;
  read = Consumes-trans input middle rest head r.0.bytes first r.0.consumes;
  written = r.1;
  new_is = nothing r.2;
}
stopped Magic input middle rest written contents head count A P old phase new first nothing cut so r = absurd r
stopped Unsent input middle rest written contents head count A P old phase new first nothing cut so r = absurd r
stopped TooMany input middle rest written contents head count A P old phase new first nothing cut so r = absurd r
stopped Output input middle rest written contents head count A P old phase new first nothing cut so r = record {
  message = head ++ r.after;
  reply = r.reply;
  phase = phase;
  read = Consumes-trans input middle rest head r.after first r.read;
  written = r.written;
  answers = so r.after r.reply r.count_is r.answer;
}

-- ---- a request that is refused beforehand

-- if all went well, a reply that only tells the error answers a refused request
pub refused-ok : {T E : Type 0} (r : Result T E) (bytes : Streams) (count : ℕ) (store : StoreView) (request : Request) (wanted : Result Asked ErrorCode) (error : ErrorCode) → wanted ≡ Err error
    → OnOk r (Replies bytes count (λ after reply. reply ≡ simple_reply_bytes error request.cookie))
    → OnOk r (Replies bytes count (λ after reply. AnswersAnyway store request wanted after reply store))
refused-ok (Ok x) bytes count store request wanted error e p =
    rw e (replies-so bytes count (λ after reply. reply ≡ simple_reply_bytes error request.cookie) (λ after reply. AnswersAnyway store request (Err error) after reply store) (λ after reply same. (same, refl)) p)
refused-ok (Err x) bytes count store request wanted error e p = tt

-- if a fault stops that reply, it stops the answer to the refused request
pub refused-err : {T : Type 0} (r : Result T SessionFault) (bytes : Streams) (count : ℕ) (store : StoreView) (request : Request) (wanted : Result Asked ErrorCode) (error : ErrorCode) → wanted ≡ Err error
    → IfErr r (λ fault. ReplyStops fault bytes count (λ after reply. reply ≡ simple_reply_bytes error request.cookie) ⊤)
    → IfErr r (λ fault. ReplyStops fault bytes count (λ after reply. AnswersAnyway store request wanted after reply store) (store ≡ store))
refused-err (Ok x) bytes count store request wanted error e p = tt
refused-err (Err fault) bytes count store request wanted error e p =
    rw e (stops-so fault bytes count (λ after reply. reply ≡ simple_reply_bytes error request.cookie) (λ after reply. AnswersAnyway store request (Err error) after reply store) ⊤ (store ≡ store) (λ after reply same. (same, refl)) (λ t. refl) p)

-- ---- what follows a head is dropped

-- dropping the bytes after a head and writing the wanted reply gives that reply
pub dropped-ok : (input rest written contents : Option (List ℕ)) (n count : ℕ) (reply wanted : List ℕ) → Drops input rest n → n ≡ count → reply ≡ wanted → Appends written contents reply
    → Replies (streams input rest written contents) count (λ after said. said ≡ wanted)
dropped-ok input rest written contents n count reply wanted dropped same is sent = record {
  after = dropped.bytes;
  count_is = dropped.count ∙ same;
  reply = reply;
  read = dropped.consumes;
  written = sent;
  answer = is;
}

-- dropping the bytes after a head and writing a beginning of the reply gives it in part
pub dropped-front : (input rest written contents : Option (List ℕ)) (n count : ℕ) (reply wanted : List ℕ) → Drops input rest n → n ≡ count → reply ≡ wanted → AppendsFront written contents reply
    → RepliesInPart (streams input rest written contents) count (λ after said. said ≡ wanted)
dropped-front input rest written contents n count reply wanted dropped same is sent = record {
  after = dropped.bytes;
  count_is = dropped.count ∙ same;
  reply = reply;
  read = dropped.consumes;
  written = sent;
  answer = is;
}

-- ---- a request that is no DISC

request-answered : (passes : Bool) (old answered new : StoreView) (request : Request) (head : List ℕ) → (head ≡ request_bytes request) × FitsRequest request → is_disconnect request ≡ false → FollowsAs while_clean passes answered new
    → (after reply : List ℕ) → length after ≡ data_length request → AnswersAnyway old request (asked_of_store old request) after reply answered
    → AnswersMessageAs while_clean false passes (session phases.Transmission old) (head ++ after) reply (session phases.Transmission new)
request-answered passes old answered new request head is goes_on follows after reply count a = record {
  request = request;
  fits = is.1;
  bytes = after;
  message_is = ap (λ (h : List ℕ). h ++ after) is.0;
  length_is = count;
  answer = rw goes_on (refl, record { answered = answered; answers = a; follows = follows });
}

request-cut : (request : Request) (head : List ℕ) → (head ≡ request_bytes request) × FitsRequest request → (front : List ℕ) → length front < data_length request → IsCutMessage phases.Transmission (head ++ front)
request-cut request head is front fewer =
    inr (record { request = request; fits = is.1; front = front; bytes_are = ap (λ (h : List ℕ). h ++ front) is.0; fewer = fewer })

-- a request is answered, its reply is written, and what follows is done
pub request-exchanged : (passes : Bool) (input middle rest written between contents : Option (List ℕ)) (old answered new : StoreView) (request : Request) (head : List ℕ) → Consumes input middle head
    → (head ≡ request_bytes request) × FitsRequest request → is_disconnect request ≡ false → FollowsAs while_clean passes answered new → Keeps between contents
    → Replies (streams middle rest written between) (data_length request) (λ after reply. AnswersAnyway old request (asked_of_store old request) after reply answered)
    → AnswersOne while_clean false passes (streams input rest written contents) (session phases.Transmission old) (session phases.Transmission new)
request-exchanged passes input middle rest written between contents old answered new request head first is goes_on follows kept r = record {
  message = head ++ r.after;
  reply = r.reply;
  read = Consumes-trans input middle rest head r.after first r.read;
  written = Appends-kept written between contents r.reply r.written kept;
  answers = request-answered passes old answered new request head is goes_on follows r.after r.reply r.count_is r.answer;
}

-- if what follows the head of a request is not answered, the session stops
pub request-stopped : (fault : SessionFault) (input middle rest written contents : Option (List ℕ)) (old new : StoreView) (request : Request) (head : List ℕ) → Consumes input middle head → (head ≡ request_bytes request) × FitsRequest request → is_disconnect request ≡ false
    → ReplyStops fault (streams middle rest written contents) (data_length request) (λ after reply. AnswersAnyway old request (asked_of_store old request) after reply new) (new ≡ old)
    → StopsSession while_clean false fault (streams input rest written contents) (session phases.Transmission old) new
request-stopped fault input middle rest written contents old new request head first is goes_on r =
    stopped fault input middle rest written contents head (data_length request) (λ after reply. AnswersAnyway old request (asked_of_store old request) after reply new) (new ≡ old) (session phases.Transmission old) phases.Transmission new
    first (λ same. same) (request-cut request head is) (request-answered false old new new request head is goes_on refl) r

-- a reply was written, and is not passed on
pub request-unsent : (fault : SessionFault) (bytes : Streams) (old new : StoreView) → fault ≡ Unsent
    → AnswersOne while_clean false false bytes (session phases.Transmission old) (session phases.Transmission new) → StopsSession while_clean false fault bytes (session phases.Transmission old) new
request-unsent Unsent bytes old new is a = record { phase = phases.Transmission; answers = a }
request-unsent Input bytes old new is a = absurd (cc is)
request-unsent Magic bytes old new is a = absurd (cc is)
request-unsent Output bytes old new is a = absurd (cc is)
request-unsent TooMany bytes old new is a = absurd (cc is)

-- a fault is handed on
pub turn-stops : (bytes : Streams) (old : Session) (r : Result (Option Phase) SessionFault) (fault : SessionFault) (new : StoreView) → IsErrAnd r (λ e. e ≡ fault)
    → StopsSession while_clean false fault bytes old new → TurnGives false bytes old r new
turn-stops bytes old (Ok x) fault new is p = absurd is
turn-stops bytes old (Err e) fault new is p = rw is p

-- ---- an option

option-answered : (passes : Bool) (old : StoreView) (no_zeroes : Bool) (option : OptionHead) (kind : Option OptionKind) (head : List ℕ) → kind ≡ option_of option.option → (head ≡ option_head_bytes option) × FitsHead option
    → (after reply : List ℕ) → length after ≡ option.length → reply ≡ answer_bytes (export_of old) no_zeroes option.option (option_answer kind option.length)
    → AnswersMessageAs while_clean false passes (session (phases.Options no_zeroes) old) (head ++ after) reply (session (phase_after no_zeroes kind) old)
option-answered passes old no_zeroes option kind head kind_is is after reply count said = record {
  head = option;
  fits = is.1;
  bytes = after;
  message_is = ap (λ (h : List ℕ). h ++ after) is.0;
  length_is = count;
  reply_is = said ∙ rw kind_is refl;
  new_is = rw kind_is refl;
}

option-cut : (no_zeroes : Bool) (option : OptionHead) (head : List ℕ) → (head ≡ option_head_bytes option) × FitsHead option → (front : List ℕ) → length front < option.length → IsCutMessage (phases.Options no_zeroes) (head ++ front)
option-cut no_zeroes option head is front fewer =
    inr (record { head = option; fits = is.1; front = front; bytes_are = ap (λ (h : List ℕ). h ++ front) is.0; fewer = fewer })

-- if the head of an option is read and what follows is answered, the message is answered
pub option-exchanged : (input middle rest written contents : Option (List ℕ)) (old : StoreView) (no_zeroes : Bool) (option : OptionHead) (kind : Option OptionKind) (head : List ℕ) → Consumes input middle head → kind ≡ option_of option.option → (head ≡ option_head_bytes option) × FitsHead option
    → Replies (streams middle rest written contents) option.length (λ after reply. reply ≡ answer_bytes (export_of old) no_zeroes option.option (option_answer kind option.length))
    → AnswersOne while_clean false true (streams input rest written contents) (session (phases.Options no_zeroes) old) (session (phase_after no_zeroes kind) old)
option-exchanged input middle rest written contents old no_zeroes option kind head first kind_is is r =
    exchanged true input middle rest written contents head option.length (λ after reply. reply ≡ answer_bytes (export_of old) no_zeroes option.option (option_answer kind option.length)) (session (phases.Options no_zeroes) old) (session (phase_after no_zeroes kind) old)
    first (option-answered true old no_zeroes option kind head kind_is is) r

-- if what follows the head of an option is not answered, the session stops
pub option-stopped : (fault : SessionFault) (input middle rest written contents : Option (List ℕ)) (old : StoreView) (no_zeroes : Bool) (option : OptionHead) (kind : Option OptionKind) (head : List ℕ) → Consumes input middle head → kind ≡ option_of option.option → (head ≡ option_head_bytes option) × FitsHead option
    → ReplyStops fault (streams middle rest written contents) option.length (λ after reply. reply ≡ answer_bytes (export_of old) no_zeroes option.option (option_answer kind option.length)) ⊤
    → StopsSession while_clean false fault (streams input rest written contents) (session (phases.Options no_zeroes) old) old
option-stopped fault input middle rest written contents old no_zeroes option kind head first kind_is is r =
    stopped fault input middle rest written contents head option.length (λ after reply. reply ≡ answer_bytes (export_of old) no_zeroes option.option (option_answer kind option.length)) ⊤ (session (phases.Options no_zeroes) old) (phase_after no_zeroes kind) old
    first (λ t. refl) (option-cut no_zeroes option head is) (option-answered false old no_zeroes option kind head kind_is is) r
