use Rattle.std.proofs.Common.{Some, ap, ◌∙◌}
use Rattle.std.specs.BTreeMap.{get}
use Rattle.std.specs.Ordering.{nat_cmp}
use Rattle.drive_survey.specs.declared.clearing.block_records.BlockRecords.{BlockRecords}
use Rattle.drive_survey.proofs.RecordHoldLaws.{put-others, put-own}
use Rattle.drive_survey.proofs.clearing.block_records.hold_zone.Goals as goal

pub returns-clause-covers : goal.returns-clause-covers
returns-clause-covers c =
    let new : BlockRecords = record { blocks = c.hold_blocks.new.table.blocks; own = c.insert.new.self } in
    let own = put-own c.args.zone (Some c.in_ok-own.own) c.hold_blocks.new.table new c.in_ok-insert.ensures.updates.0 in
    rw own (c.in_ok-own.ensures.newest, rw c.deref.ensures.value at c.in_ok-hold_blocks.ensures.holds)

pub returns-clause-few : goal.returns-clause-few
returns-clause-few c =
    let new : BlockRecords = record { blocks = c.hold_blocks.new.table.blocks; own = c.insert.new.self } in
    rw (put-own c.args.zone (Some c.in_ok-own.own) c.hold_blocks.new.table new c.in_ok-insert.ensures.updates.0) c.in_ok-own.ensures.few

pub returns-clause-others : goal.returns-clause-others
returns-clause-others c q apart =
    let new : BlockRecords = record { blocks = c.hold_blocks.new.table.blocks; own = c.insert.new.self } in
    put-others c.args.zone (Some c.in_ok-own.own) c.hold_blocks.new.table new c.in_ok-insert.ensures.updates.0 q apart ∙ ap (λ own. get nat_cmp own q) c.in_ok-hold_blocks.ensures.own
