use Rattle.std.proofs.Common.{arith, sym}
use Rattle.zone_cleaner.proofs.FailLaws.{due-within}
use Rattle.zone_cleaner.proofs.cleaner.Cleaner.step.Goals as goal

pub gather-requires-clause-next : goal.gather-requires-clause-next
gather-requires-clause-next g c = (due-within c.args.disk.now c.in-Some.clean c.in-Gather.block c.in-Gather.place (sym c.in-Gather.ensures.step)).0

pub gather-requires-clause-few : goal.gather-requires-clause-few
gather-requires-clause-few g c = omega (arith, (due-within c.args.disk.now c.in-Some.clean c.in-Gather.block c.in-Gather.place (sym c.in-Gather.ensures.step)).1, c.requires.sane.short)
