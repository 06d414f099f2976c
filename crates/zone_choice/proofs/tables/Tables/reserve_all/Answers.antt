use Rattle.std.proofs.Common.{◌≡◌, ◌+◌, suc, false, rules, arith}
use Rattle.batch_log.specs.declared.header.Entry.{Entry}
use Rattle.zone_choice.proofs.ReadyLaws.{ready-more}
use Rattle.zone_choice.proofs.tables.Tables.reserve_all.Goals as goal

pub loop-entry-preserved : goal.loop-entry-preserved
loop-entry-preserved c =
    let none : Entry = record { block = 0; trim = false } in
    let step : c.loop-entry.entry-index + 1 ≡ suc c.loop-entry.entry-index = omega arith in (
      search rules,
      search rules,
      search rules,
      search rules,
      search rules,
      search rules,
      search rules,
      search rules,
      rw step (ready-more c.loop-entry.self-inside.map c.reserve_for.new.self c.args.entries.now c.loop-entry.entry-index none c.loop-entry-test.true c.in_ok-reserve_for.ensures.ok c.loop-entry.invariant.8),
    )
