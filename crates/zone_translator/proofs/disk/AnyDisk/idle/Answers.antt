use Rattle.std.proofs.Common.{refl}
use Rattle.zone_translator.specs.Changes.{IsCause}
use Rattle.zone_translator.proofs.CallLaws.{cause-of, idle-done, idle-refused, idle-unknown}
use Rattle.zone_translator.proofs.DiskLaws.{alike-of, below-next, cleaned-disk, holds-agrees, holds-serving, refused-turn, reserve-kept, turns-back, view_of}
use Rattle.zone_translator.proofs.RangeLaws.{range-cleaned}
use Rattle.zone_translator.proofs.RoomLaws.{clean_cause}
use Rattle.zone_translator.proofs.disk.AnyDisk.idle.Goals as goal

pub invariant_of-self : goal.invariant_of-self
invariant_of-self g c = record {
  sane = c.turn.ensures.stays.sane;
  when = λ clean.
      let was = c.turn.ensures.stays.shape.trusted clean in
      let cleaning = (c.in-Ok.ensures.answers clean).cleaning in
      rw (rw (← c.self.view_is) at c.in_ok-check_serving.ensures.serving) (holds-serving c.turn.new.disk c.turn.new.self (reserve-kept c.self.inside.mounted c.turn.new.disk cleaning.keeps.geometry cleaning.keeps.given (c.self.invariant.when was).reserve) cleaning.goes_on);
}

pub invariant_of-self-in-Err : goal.invariant_of-self-in-Err
invariant_of-self-in-Err g c = record {
  sane = c.turn.ensures.stays.sane;
  when = λ clean.
      let was = c.turn.ensures.stays.shape.trusted clean in
      let serves = holds-agrees c.self.inside.mounted c.self.inside.cleaner c.self.inside.status (rw (← c.self.view_is) at c.in_ok-check_serving.ensures.serving) (c.self.invariant.when was) in
      let cleaning = (c.in-Err.ensures.answers clean).cleaning in
      rw (c.status_of-self-inside.ensures, c.from-fault.ensures) (refused-turn c.self.inside.mounted c.turn.new.disk c.self.inside.cleaner c.turn.new.self c.in-Err.cause c.self.inside.status (c.self.invariant.when was).reserve serves cleaning.keeps cleaning.goes_on cleaning.cause).holds;
}

pub returns-in-Ok-clause-answers : goal.returns-in-Ok-clause-answers
returns-in-Ok-clause-answers g c = λ clean.
    let serving = c.in_ok-check_serving.ensures.serving in
    let keeps = (c.in-Ok.ensures.answers clean).cleaning.keeps in
    let new = view_of c.turn.new.disk c.turn.new.self c.self.inside.status in
    record {
      flat = idle-done c.args.self.now new serving (rw (← c.self.view_is) keeps.array) (rw (← c.self.view_is) keeps.size) (rw (← c.self.view_is) refl) (rw (← c.self.view_is) keeps.geometry);
      untouched = idle-unknown c.args.self.now new serving;
      kept = rw (← c.self.view_is) (cleaned-disk c.self.inside.mounted c.turn.new.disk c.self.inside.cleaner c.turn.new.self c.self.inside.status c.self.inside.status (λ e. e) (below-next c.turn.new.disk c.turn.new.self c.self.inside.status (c.in-Ok.ensures.answers clean).cleaning.goes_on) keeps).kept;
      durable = rw (← c.self.view_is) keeps.durable;
      cause = tt;
    }

pub returns-in-Ok-clause-turn : goal.returns-in-Ok-clause-turn
returns-in-Ok-clause-turn g c = λ clean.
    let done = c.in-Ok.ensures.answers clean in
    record { turn = rw (← c.self.view_is) (λ serving. done.leaves); turns = rw (← c.self.view_is) (λ serving. done.done.turns); refused = tt }

pub returns-in-Err-clause-answers : goal.returns-in-Err-clause-answers
returns-in-Err-clause-answers g c = λ clean.
    let was = c.turn.ensures.stays.shape.trusted clean in
    let serving = c.in_ok-check_serving.ensures.serving in
    let serves = holds-agrees c.self.inside.mounted c.self.inside.cleaner c.self.inside.status (rw (← c.self.view_is) at serving) (c.self.invariant.when was) in
    let cleaning = (c.in-Err.ensures.answers clean).cleaning in
    let keeps = cleaning.keeps in
    let new = view_of c.turn.new.disk c.turn.new.self c.status_of-self-inside.result in
    let cause : IsCause c.turn.new.disk.drive c.turn.new.disk.tables.next c.from-fault.result = rw c.from-fault.ensures (clean_cause c.turn.new.disk.drive c.turn.new.disk.tables.next c.in-Err.cause cleaning.cause) in
    record {
      flat = idle-refused c.args.self.now new c.from-fault.result serving (rw (← c.self.view_is) keeps.array) (rw (← c.self.view_is) keeps.size) c.status_of-self-inside.ensures (rw (← c.self.view_is) keeps.geometry) cause;
      untouched = idle-unknown c.args.self.now new serving;
      kept = rw (← c.self.view_is, c.status_of-self-inside.ensures, c.from-fault.ensures) (refused-turn c.self.inside.mounted c.turn.new.disk c.self.inside.cleaner c.turn.new.self c.in-Err.cause c.self.inside.status (c.self.invariant.when was).reserve serves keeps cleaning.goes_on cleaning.cause).kept.kept;
      durable = rw (← c.self.view_is) keeps.durable;
      cause = cause-of new c.from-fault.result cause;
    }

pub returns-in-Err-clause-turn : goal.returns-in-Err-clause-turn
returns-in-Err-clause-turn g c = λ clean.
    let lost = c.in-Err.ensures.answers clean in
    record {
      turn = rw (← c.self.view_is) (λ serving. (c.in-Err.cause, c.from-fault.ensures, lost.leaves));
      turns = λ serving. tt;
      refused = rw (← c.self.view_is) (turns-back c.self.inside.mounted c.turn.new.disk c.self.inside.cleaner c.turn.new.self c.self.inside.status c.status_of-self-inside.result lost.cleaning.keeps.geometry lost.refused);
    }

pub returns-in-Ok-clause-alike : goal.returns-in-Ok-clause-alike
returns-in-Ok-clause-alike g c = rw (← c.self.view_is) (alike-of c.self.inside.mounted c.turn.new.disk c.self.inside.cleaner c.turn.new.self c.self.inside.status c.self.inside.status (range-cleaned c.self.inside.mounted c.turn.new.disk c.turn.ensures.stays))

pub returns-in-Err-clause-alike : goal.returns-in-Err-clause-alike
returns-in-Err-clause-alike g c = rw (← c.self.view_is) (alike-of c.self.inside.mounted c.turn.new.disk c.self.inside.cleaner c.turn.new.self c.self.inside.status c.status_of-self-inside.result (range-cleaned c.self.inside.mounted c.turn.new.disk c.turn.ensures.stays))

pub turn-requires-clause-sane : goal.turn-requires-clause-sane
turn-requires-clause-sane g c = c.self.invariant.sane

pub turn-requires-clause-cleaned : goal.turn-requires-clause-cleaned
turn-requires-clause-cleaned g c = λ was. holds-agrees c.self.inside.mounted c.self.inside.cleaner c.self.inside.status (rw (← c.self.view_is) at c.in_ok-check_serving.ensures.serving) (c.self.invariant.when was)
