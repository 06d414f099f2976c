use Rattle.std.proofs.Common.{ap}
use Rattle.zone_choice.proofs.CloseLaws.{leaves-alone}
use Rattle.zone_choice.proofs.append.close_beside.Goals as goal

pub returns-clause-leaves : goal.returns-clause-leaves
returns-clause-leaves g c = λ clean.
    let few = rw c.geometry.ensures at c.if-geometry-gt1.false in
    leaves-alone c.args.disk.now.drive _ c.args.disk.now.tables _ c.args.zone few (rw (ap (λ m. m.tables) c.disk.view_is, c.in_ok-send_close.ensures.kept) at c.closed_beside.ensures) ((rw (← c.disk.view_is) at c.in_ok-send_close.ensures.leaves) clean)
