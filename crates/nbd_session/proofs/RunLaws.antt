-- A session continues by one message.
use Rattle.std.proofs.Common.{◌≡◌, ℕ, ◌+◌, ◌-◌, ◌≤◌, ◌^◌, List, [], ◌∷◌, ◌++◌, length, Option, Some, None, Ok, Err, true, refl, ap, sym, inl, inr, ◌∙◌, append_assoc, arith}
use Rattle.std.specs.Prelude.{Bool, IfSome, IsErrAnd, Result, is_none}
use Rattle.std.specs.List.{flat_map}
use Rattle.std.specs.Io.KnownBytes.{Keeps}
use Rattle.std.proofs.KnownBytes.{Appends-nil, Appends-trans, Consumes-nil, Consumes-trans, Consumes-kept, Appends-kept, Keeps-refl}
use Rattle.std.proofs.lemmas.List.{append-nil, length-append}
use Rattle.nbd_session.specs.declared.ending.SessionEnd.{SessionEnd}
use Rattle.nbd_session.specs.declared.ending.SessionEnd.TheVariants.{LimitReached}
use Rattle.nbd_session.specs.declared.fault.SessionFault.{SessionFault}
use Rattle.nbd_session.specs.declared.fault.SessionFault.TheVariants.{Input, Magic, Output, TooMany, Unsent}
use Rattle.nbd_session.specs.declared.phase.Phase.{Phase}
use Rattle.nbd_session.specs.declared.phase.Phase.TheVariants as phases
use Rattle.nbd_session.specs.Manners.{while_clean}
use Rattle.nbd_session.specs.Session.{AnswersEach, AnswersMessageAs, Dialogue, Served, Session, session}
use Rattle.nbd_session.specs.Store.{StoreView}
use Rattle.nbd_session.specs.Streams.{Streams, streams}
use Rattle.nbd_session.specs.Turns.{AnswersOne, DoesNothing, IsOver, RunsToLimit, RunsWithin, ServesAtMostAs, StopsSession, StopsAfter, StopsWithin, end_in, requests_at, requests_in, requests_stopped}

-- that many messages are answered, and that many of them are requests, at most so many
pub record ServedCount (most : Option ℕ) (bytes : Streams) (old new : Session) (count requests : ℕ) : Type 0 where
  pub served : Served while_clean (is_none most) bytes old new
  pub count_is : length served.dialogues ≡ count
  pub requests_are : requests_in while_clean (is_none most) old served.dialogues new served.answered ≡ requests
  pub few : requests ≤ count
  pub within : IfSome most (λ most. requests ≤ most)

no-requests : (most : Option ℕ) → IfSome most (λ most. 0 ≤ most)
no-requests None = tt
no-requests (Some most) = omega arith

-- at the start no message is answered, and nothing is read or written
pub served_none : (most : Option ℕ) (left contents : Option (List ℕ)) (s : Session) → ServedCount most (streams left left contents contents) s s 0 0
served_none most left contents s = record {
  served = record { dialogues = []; read = Consumes-nil left; written = Appends-nil contents; answered = refl };
  count_is = refl;
  requests_are = refl;
  few = omega arith;
  within = no-requests most;
}

abbrev each-more : (together : Bool) (ds : List Dialogue) (d : Dialogue) (old middle new : Session) → AnswersEach while_clean together old ds middle → AnswersMessageAs while_clean together true middle d.message d.reply new → AnswersEach while_clean together old (ds ++ d ∷ []) new
each-more together [] d old middle new p a = (new, rw p at a, refl)
each-more together (x ∷ xs) d old middle new p a = (p.0, p.1, each-more together xs d p.0 middle new p.2 a)

plus-more : (a x b c : ℕ) → x ≡ b + c → a + x ≡ a + b + c
plus-more a x b c is = omega (arith, is)

-- the next message is a request where its phase says so
requests-more : (together : Bool) (ds : List Dialogue) (d : Dialogue) (old middle new : Session) (answered : AnswersEach while_clean together old ds middle) (more : AnswersMessageAs while_clean together true middle d.message d.reply new)
    → requests_in while_clean together old (ds ++ d ∷ []) new (each-more together ds d old middle new answered more) ≡ requests_in while_clean together old ds middle answered + requests_at middle.phase
requests-more together [] d old middle new same more = let phase : requests_at middle.phase ≡ requests_at old.phase = ap (λ (s : Session). requests_at s.phase) same in omega (arith, phase)
requests-more together (x ∷ xs) d old middle new answered more = plus-more (requests_at old.phase) _ _ (requests_at middle.phase) (requests-more together xs d answered.0 middle new answered.2 more)

one-request : (phase : Phase) → requests_at phase ≤ 1
one-request phases.Greeting = omega arith
one-request phases.Flags = omega arith
one-request (phases.Options no_zeroes) = omega arith
one-request phases.Transmission = omega arith
one-request phases.Ended = omega arith

joined : (f : Dialogue → List ℕ) (ds : List Dialogue) (d : Dialogue) → flat_map f (ds ++ d ∷ []) ≡ flat_map f ds ++ f d
joined f [] d = append-nil (f d)
joined f (x ∷ xs) d = rw (joined f xs d) (sym (append_assoc (f x) (flat_map f xs) (f d)))

-- once the next message is answered, the count of answered messages is one higher
pub served_more : (most : Option ℕ) (input middle rest written between contents : Option (List ℕ)) (old mid new : Session) (n requests counted : ℕ)
    → ServedCount most (streams input middle written between) old mid n requests → AnswersOne while_clean (is_none most) true (streams middle rest between contents) mid new
    → counted ≡ requests + requests_at mid.phase → IfSome most (λ most. counted ≤ most) → ServedCount most (streams input rest written contents) old new (n + 1) counted
served_more most input middle rest written between contents old mid new n requests counted s x counts within =
    let d : Dialogue = record { message = x.message; reply = x.reply } in
    let ds = s.served.dialogues in
    record {
      served = record {
        dialogues = ds ++ d ∷ [];
        read = rw (joined (λ (d : Dialogue). d.message) ds d) (Consumes-trans input middle rest (flat_map (λ (d : Dialogue). d.message) ds) x.message s.served.read x.read);
        written = rw (joined (λ (d : Dialogue). d.reply) ds d) (Appends-trans written between contents (flat_map (λ (d : Dialogue). d.reply) ds) x.reply s.served.written x.written);
        answered = each-more (is_none most) ds d old mid new s.served.answered x.answers;
      };
      count_is = length-append ds (d ∷ []) ∙ ap (λ k. k + 1) s.count_is;
      requests_are = requests-more (is_none most) ds d old mid new s.served.answered x.answers ∙ ap (λ k. k + requests_at mid.phase) s.requests_are ∙ sym counts;
      few = omega (arith, s.few, counts, one-request mid.phase);
      within = within;
    }

-- no more than so many requests were answered, with the one that would be read next
pub within_next : (most : Option ℕ) (old : Session) (ds : List Dialogue) (new : Session) (answered : AnswersEach while_clean (is_none most) old ds new) (requests counted : ℕ) → requests_in while_clean (is_none most) old ds new answered ≡ requests
    → counted ≡ requests + requests_at new.phase → IfSome most (λ most. counted ≤ most) → IfSome most (λ n. requests_in while_clean (is_none most) old ds new answered + requests_at new.phase ≤ n)
within_next most old ds new answered requests counted are counts within = rw (are, ← counts) within

-- nothing more is read or written
pub runs_kept : (most : Option ℕ) (input middle rest written between contents : Option (List ℕ)) (old new : Session) (n requests counted : ℕ) → ServedCount most (streams input middle written between) old new n requests
    → Keeps middle rest → Keeps between contents → counted ≡ requests + requests_at new.phase → IfSome most (λ most. counted ≤ most) → RunsWithin while_clean most (streams input rest written contents) old new
runs_kept most input middle rest written between contents old new n requests counted s l c counts within = record {
  served = record {
    dialogues = s.served.dialogues;
    read = Consumes-kept input middle rest (flat_map (λ (d : Dialogue). d.message) s.served.dialogues) s.served.read l;
    written = Appends-kept written between contents (flat_map (λ (d : Dialogue). d.reply) s.served.dialogues) s.served.written c;
    answered = s.served.answered;
  };
  within = within_next most old s.served.dialogues new s.served.answered requests counted s.requests_are counts within;
}

-- where no message follows, the phase says how a session ends
pub ends_in : (most : Option ℕ) (bytes : Streams) (old : Session) (phase : Phase) (new : StoreView) → RunsWithin while_clean most bytes old (session phase new) → IsOver (session phase new) bytes.rest
    → ServesAtMostAs while_clean most bytes old (Ok (end_in phase)) new
ends_in most bytes old phases.Ended new runs over = runs
ends_in most bytes old phases.Greeting new runs (inl ended) = absurd (cc ended)
ends_in most bytes old phases.Greeting new runs (inr at_end) = record { phase = phases.Greeting; unsaid = λ ended. cc ended; runs = runs; at_end = at_end }
ends_in most bytes old phases.Flags new runs (inl ended) = absurd (cc ended)
ends_in most bytes old phases.Flags new runs (inr at_end) = record { phase = phases.Flags; unsaid = λ ended. cc ended; runs = runs; at_end = at_end }
ends_in most bytes old (phases.Options no_zeroes) new runs (inl ended) = absurd (cc ended)
ends_in most bytes old (phases.Options no_zeroes) new runs (inr at_end) = record { phase = phases.Options no_zeroes; unsaid = λ ended. cc ended; runs = runs; at_end = at_end }
ends_in most bytes old phases.Transmission new runs (inl ended) = absurd (cc ended)
ends_in most bytes old phases.Transmission new runs (inr at_end) = record { phase = phases.Transmission; unsaid = λ ended. cc ended; runs = runs; at_end = at_end }

-- if the bytes and the store are the same as before, nothing was done
pub nothing_done : (left contents : Option (List ℕ)) (old : Session) → DoesNothing (streams left left contents contents) old old.store
nothing_done left contents old = record { read = Keeps-refl left; written = Keeps-refl contents; new_is = refl }

-- a message stops a session, whatever was answered before
pub stops_after : (together : Bool) (count : ℕ) (fault : SessionFault) (bytes : Streams) (old : Session) (new : StoreView) → StopsSession while_clean together fault bytes old new → StopsAfter while_clean together count fault bytes old new
stops_after together count Input bytes old new s = s
stops_after together count Magic bytes old new s = s
stops_after together count Output bytes old new s = s
stops_after together count Unsent bytes old new s = s
stops_after together count TooMany bytes old new s = absurd s

-- as many requests were answered as may be
at-limit : (n : ℕ) (bytes : Streams) (old : Session) (phase : Phase) (new : StoreView) (count requests : ℕ) → ServedCount (Some n) bytes old (session phase new) count requests → phase ≡ phases.Transmission → n ≡ requests → RunsToLimit while_clean n bytes old new
at-limit n bytes old phases.Transmission new count requests s is same = record { served = s.served; count_is = s.requests_are ∙ sym same }
at-limit n bytes old phases.Greeting new count requests s is same = absurd (cc is)
at-limit n bytes old phases.Flags new count requests s is same = absurd (cc is)
at-limit n bytes old (phases.Options no_zeroes) new count requests s is same = absurd (cc is)
at-limit n bytes old phases.Ended new count requests s is same = absurd (cc is)

pub runs_to_limit : (most : Option ℕ) (bytes : Streams) (old : Session) (phase : Phase) (new : StoreView) (count requests : ℕ) → ServedCount most bytes old (session phase new) count requests → phase ≡ phases.Transmission → most ≡ Some requests
    → ServesAtMostAs while_clean most bytes old (Ok LimitReached) new
runs_to_limit None bytes old phase new count requests s is full = absurd (cc full)
runs_to_limit (Some n) bytes old phase new count requests s is full = at-limit n bytes old phase new count requests s is (cc full)

-- a message at which a session stops is within the requests that may be read
stopped-within : (most : Option ℕ) (fault : SessionFault) (bytes : Streams) (mid : Session) (new : StoreView) (answered : ℕ) → StopsSession while_clean (is_none most) fault bytes mid new → IfSome most (λ most. answered + requests_at mid.phase ≤ most)
    → IfSome most (λ most. answered + requests_stopped fault mid.phase ≤ most)
stopped-within most Input bytes mid new answered stops within = within
stopped-within most Magic bytes mid new answered stops within = within
stopped-within most Output bytes mid new answered stops within = within
stopped-within most Unsent bytes mid new answered stops within = within
stopped-within most TooMany bytes mid new answered stops within = absurd stops

pub stops_at : (most : Option ℕ) (input middle rest written between contents : Option (List ℕ)) (old mid : Session) (count requests counted : ℕ) (fault : SessionFault) (new : StoreView)
    → ServedCount most (streams input middle written between) old mid count requests → counted ≡ requests + requests_at mid.phase → IfSome most (λ most. counted ≤ most)
    → StopsSession while_clean (is_none most) fault (streams middle rest between contents) mid new → StopsWithin while_clean most (streams input rest written contents) old fault new
stops_at most input middle rest written between contents old mid count requests counted fault new s counts within stops = record {
  stops = record {
    middle = mid;
    rest = middle;
    contents = between;
    served = s.served;
    stops = stops_after (is_none most) (length s.served.dialogues) fault (streams middle rest between contents) mid new stops;
  };
  within = stopped-within most fault (streams middle rest between contents) mid new _ stops
      (within_next most old s.served.dialogues mid s.served.answered requests counted s.requests_are counts within);
}

-- no more than so many requests were answered
none-next : (most : Option ℕ) (answered requests : ℕ) → answered ≡ requests → IfSome most (λ most. requests ≤ most) → IfSome most (λ most. answered + 0 ≤ most)
none-next None answered requests are within = tt
none-next (Some most) answered requests are within = omega (arith, are, within)

-- as many messages were answered as are counted
pub stops_full : (most : Option ℕ) (input rest written contents : Option (List ℕ)) (old mid : Session) (count requests : ℕ) → ServedCount most (streams input rest written contents) old mid count requests → count ≡ 2 ^ 64 - 1
    → StopsWithin while_clean most (streams input rest written contents) old TooMany mid.store
stops_full most input rest written contents old mid count requests s full = record {
  stops = record {
    middle = mid;
    rest = rest;
    contents = contents;
    served = s.served;
    stops = (s.count_is ∙ full, nothing_done rest contents mid);
  };
  within = none-next most _ requests s.requests_are s.within;
}

-- a fault is handed on
pub session-stops : (most : Option ℕ) (bytes : Streams) (old : Session) (r : Result SessionEnd SessionFault) (fault : SessionFault) (new : StoreView) → IsErrAnd r (λ e. e ≡ fault)
    → StopsWithin while_clean most bytes old fault new → ServesAtMostAs while_clean most bytes old r new
session-stops most bytes old (Ok x) fault new is p = absurd is
session-stops most bytes old (Err e) fault new is p = rw is p
