-- A turn in which requests may be answered together: a message of its own, or a group.
use Rattle.std.proofs.Common.{◌≡◌, ℕ, List, length, map, Option, Some, None, Ok, Err, true, false, refl, ap, sym, inl, inr, ◌∙◌, arith}
use Rattle.std.specs.Prelude.{Bool, IsErrAnd, Result}
use Rattle.std.specs.Io.KnownBytes.{Consumes, Keeps}
use Rattle.std.proofs.KnownBytes.{Keeps-trans}
use Rattle.std.proofs.lemmas.List.{length-map}
use Rattle.zone_translator.specs.declared.fault.DiskFault.{DiskFault}
use Rattle.nbd_session.specs.declared.fault.SessionFault.{SessionFault}
use Rattle.nbd_session.specs.declared.fault.SessionFault.TheVariants.{Input, Magic, Output, TooMany, Unsent}
use Rattle.nbd_session.specs.declared.group.Group.{Group}
use Rattle.nbd_session.specs.declared.phase.Phase.{Phase}
use Rattle.nbd_session.specs.declared.phase.Phase.TheVariants as phases
use Rattle.nbd_session.specs.Groups.{AnswersGroup, Asking, FollowsAll, GroupGives, TakesGroup, member_of, replies_to}
use Rattle.nbd_session.specs.Manners.{while_clean}
use Rattle.nbd_session.specs.Session.{AnswersInAs, ServesGroup, Session, session}
use Rattle.nbd_session.specs.Store.{StoreView}
use Rattle.nbd_session.specs.Streams.{streams}
use Rattle.nbd_session.specs.Turns.{AnswersOne, StopsSession, TurnGives}

-- ---- a message of its own

kept-consumes : (a b c : Option (List ℕ)) (bs : List ℕ) → Keeps a b → Consumes b c bs → Consumes a c bs
kept-consumes None b c bs kept read = tt
kept-consumes (Some x) None c bs kept read = absurd kept
kept-consumes (Some x) (Some y) None bs kept read = absurd read
kept-consumes (Some x) (Some y) (Some z) bs kept read = sym kept ∙ read

alone : (together passes : Bool) (phase : Phase) (store : StoreView) (message reply : List ℕ) (new : Session) → AnswersInAs while_clean false passes phase store message reply new → AnswersInAs while_clean together passes phase store message reply new
alone together passes phases.Greeting store message reply new a = a
alone together passes phases.Flags store message reply new a = a
alone together passes (phases.Options no_zeroes) store message reply new a = a
alone true passes phases.Transmission store message reply new a = inl a
alone false passes phases.Transmission store message reply new a = a
alone together passes phases.Ended store message reply new a = a

one-alone : (together passes : Bool) (input middle rest written contents : Option (List ℕ)) (old new : Session) → Keeps input middle → AnswersOne while_clean false passes (streams middle rest written contents) old new
    → AnswersOne while_clean together passes (streams input rest written contents) old new
one-alone together passes input middle rest written contents old new kept a = record {
  message = a.message;
  reply = a.reply;
  read = kept-consumes input middle rest a.message kept a.read;
  written = a.written;
  answers = alone together passes old.phase old.store a.message a.reply new a.answers;
}

-- what comes of it
pub turn_alone : (together : Bool) (input middle rest written contents : Option (List ℕ)) (old : Session) (r : Result (Option Phase) SessionFault) (new : StoreView) → Keeps input middle
    → TurnGives false (streams middle rest written contents) old r new → TurnGives together (streams input rest written contents) old r new
turn_alone together input middle rest written contents old (Ok (Some phase)) new kept t = one-alone together true input middle rest written contents old _ kept t
turn_alone together input middle rest written contents old (Ok None) new kept t =
    (record { read = Keeps-trans input middle rest kept t.0.read; written = t.0.written; new_is = t.0.new_is }, t.1)
turn_alone together input middle rest written contents old (Err Input) new kept t =
    record { front = t.front; holds = t.holds; read = kept-consumes input middle rest t.front kept t.read; written = t.written; new_is = t.new_is }
turn_alone together input middle rest written contents old (Err Magic) new kept t =
    record { front = t.front; holds = t.holds; read = kept-consumes input middle rest t.front kept t.read; written = t.written; new_is = t.new_is }
turn_alone together input middle rest written contents old (Err Output) new kept t = record {
  message = t.message;
  reply = t.reply;
  phase = t.phase;
  read = kept-consumes input middle rest t.message kept t.read;
  written = t.written;
  answers = alone together false old.phase old.store t.message t.reply _ t.answers;
}
turn_alone together input middle rest written contents old (Err Unsent) new kept t =
    record { phase = t.phase; answers = one-alone together false input middle rest written contents old _ kept t.answers }
turn_alone together input middle rest written contents old (Err TooMany) new kept t = absurd t

-- ---- a group

members-long : (group : Group) (askings : List Asking) → group.members.items ≡ map member_of askings → length group.members.items ≡ length askings
members-long group askings are = ap length are ∙ length-map askings member_of

serves : (passes : Bool) (input rest : Option (List ℕ)) (store answered new : StoreView) (group : Group) (done : Result (Unit {0}) DiskFault) (t : TakesGroup input rest store group)
    → while_clean.Lists store group.entries.items group.bytes.items done answered → FollowsAll while_clean passes (length group.members.items) answered new
    → ServesGroup while_clean passes store t.bytes (replies_to done group.members.items) (session phases.Transmission new)
serves passes input rest store answered new group done t writes follows = record {
  askings = t.gathered.askings;
  several = omega (arith, t.several, members-long group t.gathered.askings t.gathered.members);
  group = t.gathered.is;
  message_is = t.gathered.bytes_are;
  done = done;
  answered = answered;
  writes = rw (← t.gathered.entries, ← t.gathered.data_is) writes;
  reply_is = ap (replies_to done) t.gathered.members;
  follows = rw (← members-long group t.gathered.askings t.gathered.members) follows;
  phase_is = refl;
}

group-one : (passes : Bool) (input rest written contents : Option (List ℕ)) (store new : StoreView) (group : Group) → TakesGroup input rest store group → AnswersGroup passes written contents store group new
    → AnswersOne while_clean true passes (streams input rest written contents) (session phases.Transmission store) (session phases.Transmission new)
group-one passes input rest written contents store new group t a = record {
  message = t.bytes;
  reply = replies_to a.done group.members.items;
  read = t.read;
  written = a.sent;
  answers = inr (serves passes input rest store a.answered new group a.done t a.writes a.follows);
}

group-stops : (fault : SessionFault) (input rest written contents : Option (List ℕ)) (store new : StoreView) (group : Group) → TakesGroup input rest store group → GroupGives written contents store group (Err fault) new
    → StopsSession while_clean true fault (streams input rest written contents) (session phases.Transmission store) new
group-stops Output input rest written contents store new group t a = record {
  message = t.bytes;
  reply = replies_to a.done group.members.items;
  phase = phases.Transmission;
  read = t.read;
  written = a.sent;
  answers = inr (serves false input rest store new new group a.done t a.writes refl);
}
group-stops Unsent input rest written contents store new group t a = record { phase = phases.Transmission; answers = group-one false input rest written contents store new group t a }
group-stops Input input rest written contents store new group t a = absurd a
group-stops Magic input rest written contents store new group t a = absurd a
group-stops TooMany input rest written contents store new group t a = absurd a

-- what comes of a group that is answered
pub group_answered : (together : Bool) (phase : Phase) (input rest written contents : Option (List ℕ)) (store new : StoreView) (group : Group) → together ≡ true → phase ≡ phases.Transmission → TakesGroup input rest store group
    → GroupGives written contents store group (Ok tt) new → TurnGives together (streams input rest written contents) (session phase store) (Ok (Some phases.Transmission)) new
group_answered together phase input rest written contents store new group may is t a = rw (may, is) (group-one true input rest written contents store new group t a)

-- and of one that is not
pub group_stopped : (together : Bool) (phase : Phase) (input rest written contents : Option (List ℕ)) (store new : StoreView) (group : Group) (r : Result (Option Phase) SessionFault) (fault : SessionFault) → IsErrAnd r (λ e. e ≡ fault)
    → together ≡ true → phase ≡ phases.Transmission → TakesGroup input rest store group → GroupGives written contents store group (Err fault) new
    → TurnGives together (streams input rest written contents) (session phase store) r new
group_stopped together phase input rest written contents store new group (Ok x) fault said may is t a = absurd said
group_stopped together phase input rest written contents store new group (Err e) fault said may is t a = rw (said, may, is) (group-stops fault input rest written contents store new group t a)
