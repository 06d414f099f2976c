use Rattle.std.proofs.Common.{arith, subst, ◌∙◌}
use Rattle.zone_choice.specs.Tables.{TablesView}
use Rattle.drive_inspection.specs.Found.{TellsZone}
use Rattle.drive_inspection.proofs.HoldLaws.{told-next}
use Rattle.drive_inspection.proofs.holding.zone_infos.Goals as goal

pub overflow_cast-zone : goal.overflow_cast-zone
overflow_cast-zone c = omega (arith, c.requires.in_range, c.loop-zone-test.true)

pub loop-zone-preserved : goal.loop-zone-preserved
loop-zone-preserved c =
    let was = c.loop-zone.invariant in
    let tells = subst (λ (t : TablesView). TellsZone c.args.scanned.now t.map c.loop-zone.zone c.zone_info-info.result) was.same c.zone_info-info.ensures.tells in
    let next = told-next c.args.scanned.now c.args.tables.now.map c.loop-zone.infos.items _ c.loop-zone.zone c.zone_info-info.result was.count was.each tells c.in_ok-push.ensures.items in
    record { same = c.zone_info-info.ensures.kept ∙ was.same; count = next.count; each = next.each }
