use Rattle.std.proofs.Common.{refl}
use Rattle.zone_choice.specs.Roles.{grown, wrote}
use Rattle.zone_choice.proofs.MarkLaws.{marked-same}
use Rattle.zone_choice.proofs.RolesLaws.{apart-with, filling_at-with, grown-zone, roles_with}
use Rattle.zone_choice.proofs.roles.Roles.wrote.Goals as goal

pub invariant_of-self : goal.invariant_of-self
invariant_of-self c =
    let old = roles_with c.self.inside.empty c.self.inside.host c.self.inside.second in
    let keeps = grown-zone c.args.zone c.args.blocks in
    rw (c.grow.ensures, c.grow_second.ensures) (
      apart-with (grown c.args.zone c.args.blocks) keeps old c.self.invariant.0,
      marked-same old (wrote old c.args.zone c.args.blocks) c.self.inside.sealed.items c.self.invariant.1 refl (filling_at-with (grown c.args.zone c.args.blocks) keeps old),
    )
