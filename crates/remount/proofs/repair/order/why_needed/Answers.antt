use Rattle.std.proofs.Common.{sym, ◌∙◌}
use Rattle.drive_array.specs.ZoneLogs.{drive_logs}
use Rattle.drive_survey.proofs.ReadLaws.{keeps-none}
use Rattle.remount.proofs.CallLaws.{if-each}
use Rattle.remount.proofs.OrderLaws.{not-moved}
use Rattle.remount.proofs.repair.order.why_needed.Goals as goal

pub returns-then-not-are_moves-clause-ok : goal.returns-then-not-are_moves-clause-ok
returns-then-not-are_moves-clause-ok g c = λ clean.
    not-moved c.args.survey.now.scanned.items (drive_logs (g.D.Device.drive c.args.device.now)) c.args.zone c.index.result.now (c.requires.known clean).heads c.requires.in_range c.index.ensures (sym c.are_moves.ensures ∙ c.if-not-are_moves.true)

pub returns-then-not-are_moves-clause-kept : goal.returns-then-not-are_moves-clause-kept
returns-then-not-are_moves-clause-kept g c = keeps-none (g.D.Device.drive c.args.device.now) c.requires.zones.lawful

pub returns-clause-ok : goal.returns-clause-ok
returns-clause-ok g c = λ clean.
    let known = c.requires.known (c.examine_zone.ensures.kept.trusted clean) in
    if-each c.examine_zone.result (λ finding finds. finds (drive_logs (g.D.Device.drive c.args.device.now)) known) (c.examine_zone.ensures.ok clean)
