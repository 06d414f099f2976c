-- A session over any device: while the drive is clean, it is one of a store that does each thing in any case.
use Rattle.std.proofs.Common.{◌≡◌, ℕ, zero, suc, ◌+◌, List, [], ◌∷◌, length, Option, Some, None, Ok, Err, true, false, refl, ap, subst, inl, inr, ◌∙◌}
use Rattle.std.specs.Prelude.{Bool, IsTrue, Result, is_none}
use Rattle.nbd_wire.specs.declared.error_code.ErrorCode.{ErrorCode}
use Rattle.nbd_wire.specs.declared.request.Request.{Request}
use Rattle.nbd_session.specs.declared.asked.Asked.{Asked}
use Rattle.nbd_session.specs.declared.ending.SessionEnd.{SessionEnd}
use Rattle.nbd_session.specs.declared.ending.SessionEnd.TheVariants.{Disconnected, InputEnded, LimitReached}
use Rattle.nbd_session.specs.declared.fault.SessionFault.{SessionFault}
use Rattle.nbd_session.specs.declared.fault.SessionFault.TheVariants.{Input, Magic, Output, TooMany, Unsent}
use Rattle.nbd_session.specs.declared.phase.Phase.{Phase}
use Rattle.nbd_session.specs.declared.phase.Phase.TheVariants as phases
use Rattle.nbd_session.specs.Groups.{FollowsAll}
use Rattle.nbd_session.specs.Laws.{ServedWhileClean}
use Rattle.nbd_session.specs.Manners.{RestsTimes, always, while_clean}
use Rattle.nbd_session.specs.Requests.{AnswersAnyway, AnswersAsked, asked_of_store}
use Rattle.nbd_session.specs.Session.{AnswersByAs, AnswersEach, AnswersInAs, Dialogue, FollowsAs, Served, ServesGroup, ServesRequestAs, Session}
use Rattle.nbd_session.specs.Store.{Stays, StoreView}
use Rattle.nbd_session.specs.Streams.{Streams}
use Rattle.nbd_session.specs.Turns.{RunsWithin, ServesAtMostAs, StopsAfter, StopsEarly, requests_at, requests_in}
use Rattle.nbd_session.proofs.AnywayLaws.{stays_kept, was_clean}
use Rattle.nbd_session.proofs.KeptLaws.{answer_kept, each_kept}

abbrev IsClean : StoreView → Type 0
IsClean store = IsTrue store.disk.drive.clean

same-clean : (old new : StoreView) → new ≡ old → IsClean new → IsClean old
same-clean old new same clean = subst IsClean same clean

-- ---- one message

asked-while : (old : StoreView) (request : Request) (wanted : Result Asked ErrorCode) (bytes reply : List ℕ) (new : StoreView) → AnswersAnyway old request wanted bytes reply new → IsClean new → AnswersAsked old request wanted bytes reply new
asked-while old request (Err error) bytes reply new a clean = a
asked-while old request (Ok wanted) bytes reply new a clean = a.does clean

follows-was : (passes : Bool) (old new : StoreView) → FollowsAs while_clean passes old new → IsClean new → IsClean old
follows-was true old new f clean = was_clean old new f.stays.stays clean
follows-was false old new f clean = same-clean old new f clean

follows-while : (passes : Bool) (old new : StoreView) → FollowsAs while_clean passes old new → IsClean new → FollowsAs always passes old new
follows-while true old new f clean = f.rests clean
follows-while false old new f clean = f

by-while : (passes : Bool) (old : StoreView) (ends : Bool) (request : Request) (bytes reply : List ℕ) (new : Session) → AnswersByAs while_clean passes old ends request bytes reply new → IsClean new.store → AnswersByAs always passes old ends request bytes reply new
by-while passes old true request bytes reply new a clean = a
by-while passes old false request bytes reply new a clean = (
  a.0,
  record {
    answered = a.1.answered;
    answers = asked-while old request (asked_of_store old request) bytes reply a.1.answered a.1.answers (follows-was passes a.1.answered new.store a.1.follows clean);
    follows = follows-while passes a.1.answered new.store a.1.follows clean;
  },
)

request-while : (passes : Bool) (old : StoreView) (message reply : List ℕ) (new : Session) → ServesRequestAs while_clean passes old message reply new → IsClean new.store → ServesRequestAs always passes old message reply new
request-while passes old message reply new a clean = record {
  request = a.request;
  fits = a.fits;
  bytes = a.bytes;
  message_is = a.message_is;
  length_is = a.length_is;
  answer = by-while passes old _ a.request a.bytes reply new a.answer clean;
}

rests-while : (n : ℕ) (old new : StoreView) → RestsTimes while_clean n old new → IsClean new → IsClean old × RestsTimes always n old new
rests-while zero old new same clean = (same-clean old new same clean, same)
rests-while (suc n) old new r clean =
    let first = rests-while n old r.0 r.1 (was_clean r.0 new r.2.stays.stays clean) in
    (first.0, (r.0, first.1, r.2.rests clean))

all-while : (passes : Bool) (n : ℕ) (old new : StoreView) → FollowsAll while_clean passes n old new → IsClean new → IsClean old × FollowsAll always passes n old new
all-while true n old new f clean = rests-while n old new f clean
all-while false n old new f clean = (same-clean old new f clean, f)

group-while : (passes : Bool) (old : StoreView) (message reply : List ℕ) (new : Session) → ServesGroup while_clean passes old message reply new → IsClean new.store → ServesGroup always passes old message reply new
group-while passes old message reply new g clean =
    let follows = all-while passes (length g.askings) g.answered new.store g.follows clean in
    record {
      askings = g.askings;
      several = g.several;
      group = g.group;
      message_is = g.message_is;
      done = g.done;
      answered = g.answered;
      writes = g.writes.writes follows.0;
      reply_is = g.reply_is;
      follows = follows.1;
      phase_is = g.phase_is;
    }

in-while : (together passes : Bool) (phase : Phase) (old : StoreView) (message reply : List ℕ) (new : Session) → AnswersInAs while_clean together passes phase old message reply new → IsClean new.store → AnswersInAs always together passes phase old message reply new
in-while together passes phases.Greeting old message reply new a clean = a
in-while together passes phases.Flags old message reply new a clean = a
in-while together passes (phases.Options no_zeroes) old message reply new a clean = a
in-while true passes phases.Transmission old message reply new (inl a) clean = inl (request-while passes old message reply new a clean)
in-while true passes phases.Transmission old message reply new (inr g) clean = inr (group-while passes old message reply new g clean)
in-while false passes phases.Transmission old message reply new a clean = request-while passes old message reply new a clean
in-while together passes phases.Ended old message reply new a clean = a

-- ---- many messages

abbrev each-while : (together : Bool) (ds : List Dialogue) (old new : Session) → AnswersEach while_clean together old ds new → IsClean new.store → AnswersEach always together old ds new
each-while together [] old new a clean = a
each-while together (d ∷ ds) old new a clean = (
  a.0,
  in-while together true old.phase old.store d.message d.reply a.0 a.1 (was_clean a.0.store new.store (each_kept Stays stays_kept together ds a.0 new a.2) clean),
  each-while together ds a.0 new a.2 clean,
)

-- and as many of them are requests
requests-while : (together : Bool) (ds : List Dialogue) (old new : Session) (a : AnswersEach while_clean together old ds new) (clean : IsClean new.store)
    → requests_in always together old ds new (each-while together ds old new a clean) ≡ requests_in while_clean together old ds new a
requests-while together [] old new a clean = refl
requests-while together (d ∷ ds) old new a clean = ap (λ k. requests_at old.phase + k) (requests-while together ds a.0 new a.2 clean)

abbrev served-while : (together : Bool) (bytes : Streams) (old new : Session) → Served while_clean together bytes old new → IsClean new.store → Served always together bytes old new
served-while together bytes old new s clean = record {
  dialogues = s.dialogues;
  read = s.read;
  written = s.written;
  answered = each-while together s.dialogues old new s.answered clean;
}

-- ---- how a session ends

stops-was : (together : Bool) (count : ℕ) (fault : SessionFault) (bytes : Streams) (old : Session) (new : StoreView) → StopsAfter while_clean together count fault bytes old new → IsClean new → IsClean old.store
stops-was together count Input bytes old new s clean = same-clean old.store new s.new_is clean
stops-was together count Magic bytes old new s clean = same-clean old.store new s.new_is clean
stops-was together count Output bytes old new s clean = was_clean old.store new (answer_kept Stays stays_kept together false old.phase old.store s.message s.reply _ s.answers) clean
stops-was together count Unsent bytes old new s clean = was_clean old.store new (answer_kept Stays stays_kept together false old.phase old.store s.answers.message s.answers.reply _ s.answers.answers) clean
stops-was together count TooMany bytes old new s clean = same-clean old.store new s.1.new_is clean

stops-while : (together : Bool) (count : ℕ) (fault : SessionFault) (bytes : Streams) (old : Session) (new : StoreView) → StopsAfter while_clean together count fault bytes old new → IsClean new → StopsAfter always together count fault bytes old new
stops-while together count Input bytes old new s clean = s
stops-while together count Magic bytes old new s clean = s
stops-while together count Output bytes old new s clean = record {
  message = s.message;
  reply = s.reply;
  phase = s.phase;
  read = s.read;
  written = s.written;
  answers = in-while together false old.phase old.store s.message s.reply _ s.answers clean;
}
stops-while together count Unsent bytes old new s clean = record {
  phase = s.phase;
  answers = record {
    message = s.answers.message;
    reply = s.answers.reply;
    read = s.answers.read;
    written = s.answers.written;
    answers = in-while together false old.phase old.store s.answers.message s.answers.reply _ s.answers.answers clean;
  };
}
stops-while together count TooMany bytes old new s clean = s

abbrev early-while : (together : Bool) (bytes : Streams) (old : Session) (fault : SessionFault) (new : StoreView) → StopsEarly while_clean together bytes old fault new → IsClean new → StopsEarly always together bytes old fault new
early-while together bytes old fault new s clean = record {
  middle = s.middle;
  rest = s.rest;
  contents = s.contents;
  served = served-while together _ old s.middle s.served (stops-was together _ fault _ s.middle new s.stops clean);
  stops = stops-while together _ fault _ s.middle new s.stops clean;
}

pub served-clean : ServedWhileClean
served-clean bytes old (Ok done) new s clean = record { phase = s.phase; served = served-while true bytes old _ s.served clean; over = s.over }
served-clean bytes old (Err fault) new s clean = early-while true bytes old fault new s clean

-- ---- at most so many requests

within-while : (most : Option ℕ) (bytes : Streams) (old new : Session) → RunsWithin while_clean most bytes old new → IsClean new.store → RunsWithin always most bytes old new
within-while most bytes old new r clean = record {
  served = served-while (is_none most) bytes old new r.served clean;
  within = rw (requests-while (is_none most) r.served.dialogues old new r.served.answered clean) r.within;
}

pub at_most-while : (most : Option ℕ) (bytes : Streams) (old : Session) (result : Result SessionEnd SessionFault) (new : StoreView) → ServesAtMostAs while_clean most bytes old result new → IsClean new → ServesAtMostAs always most bytes old result new
at_most-while most bytes old (Ok Disconnected) new s clean = within-while most bytes old _ s clean
at_most-while most bytes old (Ok InputEnded) new s clean = record { phase = s.phase; unsaid = s.unsaid; runs = within-while most bytes old _ s.runs clean; at_end = s.at_end }
at_most-while (Some most) bytes old (Ok LimitReached) new s clean = record {
  served = served-while false bytes old _ s.served clean;
  count_is = requests-while false s.served.dialogues old _ s.served.answered clean ∙ s.count_is;
}
at_most-while None bytes old (Ok LimitReached) new s clean = absurd s
at_most-while most bytes old (Err fault) new s clean =
    let was = stops-was (is_none most) _ fault _ s.stops.middle new s.stops.stops clean in
    record {
      stops = early-while (is_none most) bytes old fault new s.stops clean;
      within = rw (requests-while (is_none most) s.stops.served.dialogues old s.stops.middle s.stops.served.answered was) s.within;
    }
