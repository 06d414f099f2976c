use Rattle.std.proofs.Common.{◌+◌, refl, sym, ◌∙◌}
use Rattle.zone_choice.proofs.BuilderLaws.{entries-more}
use Rattle.zone_choice.proofs.batch.BatchBuilder.name.Goals as goal

pub loop-i-preserved : goal.loop-i-preserved
loop-i-preserved c = (
  c.loop-i.invariant.0,
  c.loop-i.invariant.1,
  c.loop-i.invariant.2,
  c.loop-i.invariant.3,
  c.in_ok-push.ensures.items ∙ rw c.loop-i.invariant.4 (sym (entries-more c.args.trim c.args.self.now.heading.entries c.args.first c.loop-i.i (c.args.first + c.loop-i.i) refl)),
  c.loop-i.invariant.5,
  c.loop-i.invariant.6,
)
