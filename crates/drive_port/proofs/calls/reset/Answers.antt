use Rattle.drive_port.proofs.SendLaws.{reset-leaves, reset-if_ok, reset-is_taken, reset-keeps}
use Rattle.drive_port.proofs.calls.reset.Goals as goal

pub returns : goal.returns
returns g c = record {
  gives = c.send.ensures.gives;
  reset = reset-if_ok _ _ c.args.zone_start c.send.result c.send.ensures.obeys.was_lawful c.send.ensures.gives;
  kept = reset-keeps _ _ c.args.zone_start c.send.result c.send.ensures.obeys.was_lawful c.send.ensures.obeys.geometry c.send.ensures.gives;
  leaves = reset-leaves _ _ c.args.zone_start c.send.result c.send.ensures.gives;
  taken = reset-is_taken _ _ c.args.zone_start c.send.result c.send.ensures.gives;
  obeys = c.send.ensures.obeys;
}
