use Rattle.drive_inspection.proofs.CheckLaws.{faults-tell}
use Rattle.drive_inspection.proofs.checking.list_zones.Goals as goal

pub returns-clause-tells : goal.returns-clause-tells
returns-clause-tells g c = rw (c.in_ok-list_reads.ensures.lists.batches, c.deref.ensures.value) (faults-tell 0 c.in_ok-reads.reads.items c.in_ok-reads.ensures.tell)
