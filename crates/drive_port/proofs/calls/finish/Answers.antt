use Rattle.drive_port.proofs.FinishLaws.{finish-leaves, finish-if_ok, finish-is_taken, finish-keeps}
use Rattle.drive_port.proofs.calls.finish.Goals as goal

pub returns : goal.returns
returns g c = record {
  gives = c.send.ensures.gives;
  finished = finish-if_ok _ _ c.args.zone_start c.send.result c.send.ensures.obeys.was_lawful c.send.ensures.gives;
  kept = finish-keeps _ _ c.args.zone_start c.send.result c.send.ensures.obeys.was_lawful c.send.ensures.obeys.geometry c.send.ensures.gives;
  leaves = finish-leaves _ _ c.args.zone_start c.send.result c.send.ensures.gives;
  taken = finish-is_taken _ _ c.args.zone_start c.send.result c.send.ensures.gives;
  obeys = c.send.ensures.obeys;
}
