use Rattle.drive_port.proofs.SendLaws.{close-leaves, close-if_ok, close-is_taken, close-kept}
use Rattle.drive_port.proofs.calls.close.Goals as goal

pub returns : goal.returns
returns g c = record {
  gives = c.send.ensures.gives;
  closed = close-if_ok _ _ c.args.zone_start c.send.result c.send.ensures.obeys.was_lawful c.send.ensures.gives;
  kept = close-kept _ _ c.args.zone_start c.send.result c.send.ensures.obeys.was_lawful c.send.ensures.obeys.geometry c.send.ensures.gives;
  leaves = close-leaves _ _ c.args.zone_start c.send.result c.send.ensures.gives;
  taken = close-is_taken _ _ c.args.zone_start c.send.result c.send.ensures.gives;
  obeys = c.send.ensures.obeys;
}
