use Rattle.drive_port.proofs.FlushLaws.{flush-already, flush-closes, flush-completed, flush-fails, flush-if_ok, flush-is_taken, flush-keeps, flush-stops, flush-trusted, flush-unfailing}
use Rattle.drive_port.proofs.calls.flush.Goals as goal

pub returns : goal.returns
returns g c = record {
  gives = c.send_flush.ensures.gives;
  flushed = flush-if_ok _ _ c.send_flush.result c.send_flush.ensures.gives;
  durable = flush-keeps _ _ c.send_flush.result c.send_flush.ensures.gives;
  kept = flush-closes _ _ c.send_flush.result c.send_flush.ensures.gives;
  taken = flush-is_taken _ _ c.send_flush.result c.send_flush.ensures.gives;
  trusted = flush-trusted _ _ c.send_flush.result c.send_flush.ensures.gives;
  unfailing = flush-unfailing _ _ c.send_flush.result c.send_flush.ensures.gives;
  fails = flush-fails _ _ c.send_flush.result c.send_flush.ensures.gives;
  lawful = c.send_flush.ensures.lawful;
  already = flush-already _ _ c.send_flush.result c.send_flush.ensures.gives;
  stops = flush-stops _ _ c.send_flush.result c.send_flush.ensures.gives;
  completed = flush-completed _ _ c.send_flush.result c.send_flush.ensures.gives;
}
