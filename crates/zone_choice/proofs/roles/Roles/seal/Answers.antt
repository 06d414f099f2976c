use Rattle.zone_choice.proofs.MarkLaws.{host-marked, marked-seal}
use Rattle.zone_choice.proofs.RolesLaws.{apart-seal, roles_with}
use Rattle.zone_choice.proofs.roles.Roles.seal.Goals as goal

pub mark-requires : goal.mark-requires
mark-requires c = host-marked c.self.inside.empty c.self.inside.host c.self.inside.second c.self.inside.sealed.items c.self.invariant.0 c.self.invariant.1

pub invariant_of-self : goal.invariant_of-self
invariant_of-self c =
    rw c.mark.ensures (
      apart-seal (roles_with c.self.inside.empty c.self.inside.host c.self.inside.second) c.self.invariant.0,
      marked-seal c.self.inside.empty c.self.inside.host c.self.inside.second c.self.inside.sealed.items c.self.invariant.0 c.self.invariant.1,
    )
