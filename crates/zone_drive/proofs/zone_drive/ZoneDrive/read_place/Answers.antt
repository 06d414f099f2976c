use Rattle.std.proofs.Common.{rules, refl, ap}
use Rattle.std.proofs.Math.Nat.{mod-eq-sub-div-mul}
use Rattle.zone_drive.specs.Held.{HeldDrive}
use Rattle.zone_drive.proofs.ReadLaws.{passes-end}
use Rattle.zone_drive.proofs.zone_drive.ZoneDrive.read_place.Goals as goal

pub returns-then-eq-clause-refused : goal.returns-then-eq-clause-refused
returns-then-eq-clause-refused g c =
    rw (← c.self.view_is, passes-end c.self.inside.geometry.size c.args.slba c.args.blocks c.self.invariant.0.size.0 c.requires) (search rules)

pub returns-clause-passed : goal.returns-clause-passed
returns-clause-passed g c =
    rw (← c.self.view_is, passes-end c.self.inside.geometry.size c.args.slba c.args.blocks c.self.invariant.0.size.0 c.requires) (search rules)

pub returns-clause-from : goal.returns-clause-from
returns-clause-from g c =
    let geometry = ap (λ (d : HeldDrive _). d.drive.state.geometry) c.self.view_is in
    let number = rw geometry at c.zone_of-number.ensures.value in
    rw (c.from-2.ensures, c.from-3.ensures, geometry, number, ← mod-eq-sub-div-mul c.args.slba c.args.self.now.drive.state.geometry.size) refl
