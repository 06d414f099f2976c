use Rattle.std.proofs.Common.{Global, Vec}
use Rattle.drive_survey.proofs.ReadLaws.{keeps-both}
use Rattle.tail_repair.specs.declared.tails.ForeignTail.{ForeignTail}
use Rattle.tail_repair.proofs.CauseLaws.{find-fails}
use Rattle.tail_repair.proofs.TailLaws.{found-before}
use Rattle.tail_repair.proofs.tails.find_tails.Goals as goal

pub returns-clause-ok : goal.returns-clause-ok
returns-clause-ok g c clean = found-before _ _ (λ (found : Vec ForeignTail Global). found.items) c.note_tails.result c.known_zones.ensures.kept (c.note_tails.ensures.ok clean)

pub returns-clause-kept : goal.returns-clause-kept
returns-clause-kept g c = keeps-both _ _ _ c.known_zones.ensures.kept c.note_tails.ensures.kept

pub returns-clause-err : goal.returns-clause-err
returns-clause-err g c clean = find-fails (g.D.Device.drive c.args.device.now) (g.D.Device.drive c.known_zones.new.device) (g.D.Device.drive c.note_tails.new.device) c.note_tails.result c.known_zones.ensures.kept (c.note_tails.ensures.err clean)
