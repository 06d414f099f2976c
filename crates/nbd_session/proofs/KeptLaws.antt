-- What each answer to a request keeps of a store, a whole session keeps.
use Rattle.std.proofs.Common.{◌≡◌, ℕ, zero, suc, ◌≤◌, List, [], ◌∷◌, length, Option, Some, None, Ok, Err, true, false, inl, inr}
use Rattle.std.specs.Prelude.{Bool, Result, is_none}
use Rattle.nbd_wire.specs.declared.request.Request.{Request}
use Rattle.zone_translator.specs.declared.fault.DiskFault.{DiskFault}
use Rattle.nbd_session.specs.declared.ending.SessionEnd.{SessionEnd}
use Rattle.nbd_session.specs.declared.ending.SessionEnd.TheVariants.{Disconnected, InputEnded, LimitReached}
use Rattle.nbd_session.specs.declared.fault.SessionFault.{SessionFault}
use Rattle.nbd_session.specs.declared.fault.SessionFault.TheVariants.{Input, Magic, Output, TooMany, Unsent}
use Rattle.nbd_session.specs.declared.phase.Phase.{Phase}
use Rattle.nbd_session.specs.declared.phase.Phase.TheVariants as phases
use Rattle.nbd_session.specs.Manners.{Manner, RestsTimes}
use Rattle.nbd_session.specs.Requests.{asked_of_store}
use Rattle.nbd_session.specs.Groups.{Asking, FollowsAll, IsGroup, data_of, entries_of}
use Rattle.nbd_session.specs.Session.{AnswersByAs, AnswersEach, AnswersInAs, Dialogue, FollowsAs, ServesGroup, Session}
use Rattle.nbd_session.specs.Store.{StoreView}
use Rattle.nbd_session.specs.Streams.{Streams}
use Rattle.nbd_session.specs.Turns.{ServesAs, ServesAtMostAs, StopsAfter, StopsEarly}

-- a relation of an old store and a new one that each answer keeps, and each group
pub record IsKept (manner : Manner) (Holds : StoreView → StoreView → Type 0) : Type 0 where
  pub same : (store : StoreView) → Holds store store
  pub again : (a b c : StoreView) → Holds a b → Holds b c → Holds a c
  pub asked : (old : StoreView) (request : Request) (bytes reply : List ℕ) (new : StoreView) → manner.Asks old request (asked_of_store old request) bytes reply new → Holds old new
  pub grouped : (old : StoreView) (askings : List Asking) (done : Result (Unit {0}) DiskFault) (new : StoreView) → 2 ≤ length askings → IsGroup old askings
      → manner.Lists old (entries_of askings) (data_of askings) done new → Holds old new
  pub rests : (old new : StoreView) → manner.Rests old new → Holds old new

same_kept : {manner : Manner} (Holds : StoreView → StoreView → Type 0) → IsKept manner Holds → (old new : StoreView) → new ≡ old → Holds old new
same_kept Holds k old new same = rw same (k.same old)

follows_kept : {manner : Manner} (Holds : StoreView → StoreView → Type 0) → IsKept manner Holds → (passes : Bool) (old new : StoreView) → FollowsAs manner passes old new → Holds old new
follows_kept Holds k true old new f = k.rests old new f
follows_kept Holds k false old new f = same_kept Holds k old new f

by_kept : {manner : Manner} (Holds : StoreView → StoreView → Type 0) → IsKept manner Holds → (passes : Bool) (old : StoreView) (ends : Bool) (request : Request) (bytes reply : List ℕ) (new : Session) → AnswersByAs manner passes old ends request bytes reply new → Holds old new.store
by_kept Holds k passes old true request bytes reply new a = rw a.1 (k.same old)
by_kept Holds k passes old false request bytes reply new a =
    k.again old a.1.answered new.store (k.asked old request bytes reply a.1.answered a.1.answers) (follows_kept Holds k passes a.1.answered new.store a.1.follows)

rests_kept : {manner : Manner} (Holds : StoreView → StoreView → Type 0) → IsKept manner Holds → (n : ℕ) (old new : StoreView) → RestsTimes manner n old new → Holds old new
rests_kept Holds k zero old new same = same_kept Holds k old new same
rests_kept Holds k (suc n) old new r = k.again old r.0 new (rests_kept Holds k n old r.0 r.1) (k.rests r.0 new r.2)

follows_all-kept : {manner : Manner} (Holds : StoreView → StoreView → Type 0) → IsKept manner Holds → (passes : Bool) (n : ℕ) (old new : StoreView) → FollowsAll manner passes n old new → Holds old new
follows_all-kept Holds k true n old new f = rests_kept Holds k n old new f
follows_all-kept Holds k false n old new f = same_kept Holds k old new f

group_kept : {manner : Manner} (Holds : StoreView → StoreView → Type 0) → IsKept manner Holds → (passes : Bool) (old : StoreView) (message reply : List ℕ) (new : Session) → ServesGroup manner passes old message reply new → Holds old new.store
group_kept Holds k passes old message reply new g =
    k.again old g.answered new.store (k.grouped old g.askings g.done g.answered g.several g.group g.writes) (follows_all-kept Holds k passes (length g.askings) g.answered new.store g.follows)

pub answer_kept : {manner : Manner} (Holds : StoreView → StoreView → Type 0) → IsKept manner Holds → (together passes : Bool) (phase : Phase) (old : StoreView) (message reply : List ℕ) (new : Session) → AnswersInAs manner together passes phase old message reply new → Holds old new.store
answer_kept Holds k together passes phases.Greeting old message reply new a = rw a.2 (k.same old)
answer_kept Holds k together passes phases.Flags old message reply new a = rw a.new_is (k.same old)
answer_kept Holds k together passes (phases.Options no_zeroes) old message reply new a = rw a.new_is (k.same old)
answer_kept Holds k true passes phases.Transmission old message reply new (inl a) = by_kept Holds k passes old _ a.request a.bytes reply new a.answer
answer_kept Holds k true passes phases.Transmission old message reply new (inr g) = group_kept Holds k passes old message reply new g
answer_kept Holds k false passes phases.Transmission old message reply new a = by_kept Holds k passes old _ a.request a.bytes reply new a.answer
answer_kept Holds k together passes phases.Ended old message reply new a = absurd a

pub each_kept : {manner : Manner} (Holds : StoreView → StoreView → Type 0) → IsKept manner Holds → (together : Bool) (ds : List Dialogue) (old new : Session) → AnswersEach manner together old ds new → Holds old.store new.store
each_kept Holds k together [] old new a = rw a (k.same old.store)
each_kept Holds k together (d ∷ ds) old new a =
    k.again old.store a.0.store new.store (answer_kept Holds k together true old.phase old.store d.message d.reply a.0 a.1) (each_kept Holds k together ds a.0 new a.2)

stops_kept : {manner : Manner} (Holds : StoreView → StoreView → Type 0) → IsKept manner Holds → (together : Bool) (count : ℕ) (fault : SessionFault) (bytes : Streams) (old : Session) (new : StoreView) → StopsAfter manner together count fault bytes old new → Holds old.store new
stops_kept Holds k together count Input bytes old new s = same_kept Holds k old.store new s.new_is
stops_kept Holds k together count Magic bytes old new s = same_kept Holds k old.store new s.new_is
stops_kept Holds k together count Output bytes old new s = answer_kept Holds k together false old.phase old.store s.message s.reply _ s.answers
stops_kept Holds k together count Unsent bytes old new s = answer_kept Holds k together false old.phase old.store s.answers.message s.answers.reply _ s.answers.answers
stops_kept Holds k together count TooMany bytes old new s = same_kept Holds k old.store new s.1.new_is

early_kept : {manner : Manner} (Holds : StoreView → StoreView → Type 0) → IsKept manner Holds → (together : Bool) (bytes : Streams) (old : Session) (fault : SessionFault) (new : StoreView) → StopsEarly manner together bytes old fault new → Holds old.store new
early_kept Holds k together bytes old fault new s =
    k.again old.store s.middle.store new (each_kept Holds k together s.served.dialogues old s.middle s.served.answered) (stops_kept Holds k together _ fault _ s.middle new s.stops)

-- what each answer keeps of a store, a session keeps, however it ends
pub session_kept : {manner : Manner} (Holds : StoreView → StoreView → Type 0) → IsKept manner Holds → (bytes : Streams) (old : Session) (result : Result (Unit {0}) SessionFault) (new : StoreView) → ServesAs manner bytes old result new → Holds old.store new
session_kept Holds k bytes old (Ok done) new s = each_kept Holds k true s.served.dialogues old _ s.served.answered
session_kept Holds k bytes old (Err fault) new s = early_kept Holds k true bytes old fault new s

-- and so does one of at most so many requests
pub at_most-kept : {manner : Manner} (Holds : StoreView → StoreView → Type 0) → IsKept manner Holds → (most : Option ℕ) (bytes : Streams) (old : Session) (result : Result SessionEnd SessionFault) (new : StoreView)
    → ServesAtMostAs manner most bytes old result new → Holds old.store new
at_most-kept Holds k most bytes old (Ok Disconnected) new s = each_kept Holds k (is_none most) s.served.dialogues old _ s.served.answered
at_most-kept Holds k most bytes old (Ok InputEnded) new s = each_kept Holds k (is_none most) s.runs.served.dialogues old _ s.runs.served.answered
at_most-kept Holds k (Some most) bytes old (Ok LimitReached) new s = each_kept Holds k false s.served.dialogues old _ s.served.answered
at_most-kept Holds k None bytes old (Ok LimitReached) new s = absurd s
at_most-kept Holds k most bytes old (Err fault) new s = early_kept Holds k (is_none most) bytes old fault new s.stops
