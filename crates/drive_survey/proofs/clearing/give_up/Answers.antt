use Rattle.std.proofs.Common.{refl}
use Rattle.drive_survey.proofs.WaitingLaws.{given-are, given-wait, ok-both, ok-given}
use Rattle.drive_survey.proofs.RecordHoldLaws.{few-less}
use Rattle.drive_survey.proofs.clearing.give_up.Goals as goal

pub returns-clause-few : goal.returns-clause-few
returns-clause-few c =
    ok-given c.wake_last.result
    (few-less c.args.survey.now.scanned.items c.forget.new.scanned.items c.args.candidates.now.records c.forget_records.new.records c.args.zone c.forget.ensures.heads c.forget_records.ensures.loses.gone c.forget_records.ensures.loses.others)

pub returns-clause-are : goal.returns-clause-are
returns-clause-are c =
    ok-both c.wake_last.result
    (λ then last. given-are c.args.survey.now (record { zones = c.args.survey.now.zones; scanned = c.forget.new.scanned; size = c.args.survey.now.size; given = c.args.survey.now.given }) c.args.candidates.now
    (record { records = c.forget_records.new.records; sizes = c.without-left.result; waiting = c.wake_last.new.waiting }) c.forget_records.new.waiting c.args.zone (record {
      forgets = record { heads = c.forget.ensures.heads; tails = c.forget.ensures.tails; zones = refl; size = refl; given = refl };
      loses = c.forget_records.ensures.loses;
      sizes = c.without-left.ensures;
      first = c.in_ok-forget_records.ensures.more;
      holders = c.in_ok-forget_records.ensures.holders;
      then = then;
      last = rw c.deref.ensures.value at last;
    }))
    c.wake_last.ensures.more c.wake_last.ensures.last

pub returns-clause-wait : goal.returns-clause-wait
returns-clause-wait c =
    ok-both c.wake_last.result
    (λ then last. given-wait c.args.survey.now (record { zones = c.args.survey.now.zones; scanned = c.forget.new.scanned; size = c.args.survey.now.size; given = c.args.survey.now.given }) c.args.candidates.now
    (record { records = c.forget_records.new.records; sizes = c.without-left.result; waiting = c.wake_last.new.waiting }) c.forget_records.new.waiting c.args.zone (record {
      forgets = record { heads = c.forget.ensures.heads; tails = c.forget.ensures.tails; zones = refl; size = refl; given = refl };
      loses = c.forget_records.ensures.loses;
      sizes = c.without-left.ensures;
      first = c.in_ok-forget_records.ensures.more;
      holders = c.in_ok-forget_records.ensures.holders;
      then = then;
      last = rw c.deref.ensures.value at last;
    }))
    c.wake_last.ensures.more c.wake_last.ensures.last
