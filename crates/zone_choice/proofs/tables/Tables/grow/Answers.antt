use Rattle.std.proofs.Common.{◌≡◌, rules}
use Rattle.zone_choice.proofs.LiveLaws.{blocks-grown, live-grown}
use Rattle.zone_choice.proofs.tables.Tables.grow.Goals as goal

pub invariant_of-self : goal.invariant_of-self
invariant_of-self c = (
  search rules,
  live-grown c.self.inside.map c.grow.new.self c.args.blocks c.self.inside.index c.grow.ensures c.self.invariant.1,
  blocks-grown c.self.inside.map c.grow.new.self c.args.blocks c.self.inside.unreadable.items c.grow.ensures c.self.invariant.2,
)
