use Rattle.drive_port.proofs.AppendLaws.{append-leaves, append-if_ok, append-is_taken, append-keeps}
use Rattle.drive_port.proofs.calls.append.Goals as goal

pub returns : goal.returns
returns g c = record {
  gives = (c.call.new.into.items, rw c.geometry.ensures.value at c.call.ensures.gives);
  appended = append-if_ok _ _ _ _ c.call.result c.call.ensures.obeys.was_lawful (c.call.new.into.items, rw c.geometry.ensures.value at c.call.ensures.gives);
  kept = append-keeps _ _ c.args.zone_start c.args.bytes.now c.call.result c.call.ensures.obeys.was_lawful c.call.ensures.obeys.geometry c.requires.whole (c.call.new.into.items, rw c.geometry.ensures.value at c.call.ensures.gives);
  leaves = append-leaves _ _ c.args.zone_start c.args.bytes.now c.call.result c.requires.whole (c.call.new.into.items, rw c.geometry.ensures.value at c.call.ensures.gives);
  taken = append-is_taken _ _ _ _ c.call.result c.call.ensures.obeys.was_lawful c.requires.whole (c.call.new.into.items, rw c.geometry.ensures.value at c.call.ensures.gives);
  obeys = c.call.ensures.obeys;
}
