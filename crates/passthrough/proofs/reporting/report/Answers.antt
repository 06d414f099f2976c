use Rattle.std.proofs.Common.{◌*◌, ◌<◌, refl, arith}
use Rattle.drive_port.proofs.ClosingLaws.{IsClosing-refl, length-closing}
use Rattle.passthrough.proofs.ReportLaws.{reports-seen}
use Rattle.passthrough.proofs.reporting.report.Goals as goal

pub returns-then-asked-end-clause-err : goal.returns-then-asked-end-clause-err
returns-then-asked-end-clause-err g c = (λ memory. refl, IsClosing-refl _)

pub returns-in_default-clause-err : goal.returns-in_default-clause-err
returns-in_default-clause-err g c = (λ memory. refl, IsClosing-refl _)

pub returns-then-not-has_room-clause-err : goal.returns-then-not-has_room-clause-err
returns-then-not-has_room-clause-err g c = (λ memory. refl, IsClosing-refl _)

pub returns-clause-ok : goal.returns-clause-ok
returns-clause-ok g c =
    let low : c.args.asked.slba < c.args.geometry.zones * c.args.geometry.size = omega (arith, c.if-asked-end.false, c.end.ensures) in
    let lawful = c.requires.ready.leads.lawful in (
      refl,
      record {
        returned = _;
        joined = rw c.has_room.ensures at c.in_ok-add_report.ensures.ok;
        given = reports-seen _ _ _ _ _ _ _ _ _ _ low lawful.count (length-closing _ _ c.look_at_all.ensures.closes) c.requires.ready.are.count c.in_ok-look_at_all.ensures.seen refl;
      },
    )
