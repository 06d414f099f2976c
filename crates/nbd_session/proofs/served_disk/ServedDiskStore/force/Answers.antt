use Rattle.nbd_session.proofs.SyncLaws.{sync_forces}
use Rattle.nbd_session.proofs.served_disk.ServedDiskStore.force.Goals as goal

pub returns-clause-forces : goal.returns-clause-forces
returns-clause-forces g c = λ clean. sync_forces c.args._first c.args._blocks _ c.sync.result _ (c.sync.ensures.syncs clean)
