use Rattle.std.proofs.Common.{refl}
use Rattle.zone_choice.specs.Roles.{closed_beside, closed_unless}
use Rattle.zone_choice.proofs.MarkLaws.{marked-same}
use Rattle.zone_choice.proofs.RolesLaws.{apart-with, closed-zone, filling_at-with, roles_with}
use Rattle.zone_choice.proofs.roles.Roles.closed_beside.Goals as goal

pub invariant_of-self : goal.invariant_of-self
invariant_of-self c =
    let old = roles_with c.self.inside.empty c.self.inside.host c.self.inside.second in
    let keeps = closed-zone c.args.zone in
    rw (c.close_unless.ensures, c.close_second_unless.ensures) (
      apart-with (closed_unless c.args.zone) keeps old c.self.invariant.0,
      marked-same old (closed_beside old c.args.zone) c.self.inside.sealed.items c.self.invariant.1 refl (filling_at-with (closed_unless c.args.zone) keeps old),
    )
