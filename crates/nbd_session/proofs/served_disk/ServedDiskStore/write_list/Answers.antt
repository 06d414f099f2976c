use Rattle.nbd_session.proofs.ServedLaws.{disk_calls, list_called}
use Rattle.nbd_session.proofs.served_disk.ServedDiskStore.write_list.Goals as goal

pub returns-clause-writes : goal.returns-clause-writes
returns-clause-writes g c = λ clean.
    rw (← c.self.view_is)
    (list_called c.self.inside.disk c.write_list.new.self (g.M.Medium.syncs c.self.inside.medium) c.self.inside.read_only c.self.inside.cleans (g.M.Medium.flushes c.self.inside.medium) c.args.entries.now c.args.bytes.now c.write_list.result
    c.requires.distinct (c.write_list.ensures.answers clean) (c.write_list.ensures.stores clean) (c.write_list.ensures.costs clean))

pub returns-clause-stays : goal.returns-clause-stays
returns-clause-stays g c = rw (← c.self.view_is) (disk_calls c.self.inside.disk c.write_list.new.self (g.M.Medium.syncs c.self.inside.medium) c.self.inside.read_only c.self.inside.cleans (g.M.Medium.flushes c.self.inside.medium) c.write_list.ensures.alike)
