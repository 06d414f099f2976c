use Rattle.std.proofs.Common.{None, [], refl, ap}
use Rattle.drive_survey.specs.declared.clearing.block_records.BlockRecords.{BlockRecords}
use Rattle.drive_survey.specs.BlockRecords.{forgets, own_list}
use Rattle.drive_survey.proofs.RecordHoldLaws.{others-own, put-others, put-own}
use Rattle.drive_survey.proofs.RecordKnownLaws.{known-forgets}
use Rattle.drive_survey.proofs.RecordTableLaws.{changed-more}
use Rattle.drive_survey.proofs.clearing.block_records.BlockRecords.forget.Goals as goal

pub returns-in_err-own-clause-loses : goal.returns-in_err-own-clause-loses
returns-in_err-own-clause-loses c =
    let new : BlockRecords = record { blocks = c.args.self.now.blocks; own = c.remove.new.self } in
    let updates = c.in_err-own.ensures.updates.0 in
    record {
      gone = put-own c.args.zone None c.args.self.now new updates;
      others = others-own c.args.self.now new c.args.zone (put-others c.args.zone None c.args.self.now new updates);
      more = λ block some. some;
      holds = λ drive n logs survey found. known-forgets drive n logs survey c.args.zone found [] c.args.self.now new (ap own_list c.in_err-own.ensures.value) (λ block sequence. refl);
    }

pub returns-clause-own : goal.returns-clause-own
returns-clause-own c = ap own_list c.in_ok-own.ensures.value

pub returns-clause-loses : goal.returns-clause-loses
returns-clause-loses c =
    let new : BlockRecords = record { blocks = c.forget_each.new.blocks; own = c.remove.new.self } in
    let updates = c.in_ok-own.ensures.updates.0 in
    let changes = rw c.deref.ensures.value at c.forget_each.ensures in
    record {
      gone = put-own c.args.zone None c.args.self.now new updates;
      others = others-own c.args.self.now new c.args.zone (put-others c.args.zone None c.args.self.now new updates);
      more = changed-more forgets c.args.self.now new c.in_ok-own.own.items changes;
      holds = λ drive n logs survey found. known-forgets drive n logs survey c.args.zone found c.in_ok-own.own.items c.args.self.now new (ap own_list c.in_ok-own.ensures.value) changes;
    }
