use Rattle.std.proofs.Common.{Ok, Err}
use Rattle.nbd_session.proofs.ServedLaws.{disk_calls, read_called, read_cleared}
use Rattle.nbd_session.proofs.served_disk.ServedDiskStore.read.Goals as goal

pub returns-clause-shows : goal.returns-clause-shows
returns-clause-shows g c = λ clean.
    rw (← c.self.view_is) (read_called c.self.inside.disk c.read_joined.new.self (g.M.Medium.syncs c.self.inside.medium) c.self.inside.read_only c.self.inside.cleans (g.M.Medium.flushes c.self.inside.medium) _ _ (Ok tt) c.read_joined.new.into.items (c.in_default.ensures.answers clean) c.read_joined.ensures.turns c.read_joined.ensures.completed)

pub returns-in-Err-clause-shows : goal.returns-in-Err-clause-shows
returns-in-Err-clause-shows g c = λ clean.
    rw (← c.self.view_is) (read_called c.self.inside.disk c.read_joined.new.self (g.M.Medium.syncs c.self.inside.medium) c.self.inside.read_only c.self.inside.cleans (g.M.Medium.flushes c.self.inside.medium) _ _ (Err c.in-Err.fault) _
    (read_cleared c.self.inside.disk c.read_joined.new.self _ _ c.in-Err.fault c.read_joined.new.into.items _ (c.in-Err.ensures.answers clean) c.clear.ensures.items)
    c.read_joined.ensures.turns c.read_joined.ensures.completed)

pub returns-clause-stays : goal.returns-clause-stays
returns-clause-stays g c = rw (← c.self.view_is) (disk_calls c.self.inside.disk c.read_joined.new.self (g.M.Medium.syncs c.self.inside.medium) c.self.inside.read_only c.self.inside.cleans (g.M.Medium.flushes c.self.inside.medium) c.read_joined.ensures.alike)

pub returns-in-Err-clause-stays : goal.returns-in-Err-clause-stays
returns-in-Err-clause-stays g c = rw (← c.self.view_is) (disk_calls c.self.inside.disk c.read_joined.new.self (g.M.Medium.syncs c.self.inside.medium) c.self.inside.read_only c.self.inside.cleans (g.M.Medium.flushes c.self.inside.medium) c.read_joined.ensures.alike)
