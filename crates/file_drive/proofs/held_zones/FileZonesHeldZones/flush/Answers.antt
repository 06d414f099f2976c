use Rattle.file_drive.proofs.held_zones.FileZonesHeldZones.flush.Goals as goal

pub returns-clause-just : goal.returns-clause-just
returns-clause-just g c = rw c.release_freed.ensures.durable c.in_ok-flush_all.ensures.just

pub returns-clause-durable : goal.returns-clause-durable
returns-clause-durable g c = rw c.release_freed.ensures.durable c.flush_all.ensures.durable
