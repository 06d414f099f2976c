use Rattle.std.proofs.Common.{Ok, false}
use Rattle.nbd_session.proofs.ServedLaws.{disk_calls, write_called, write_refused}
use Rattle.nbd_session.proofs.served_disk.ServedDiskStore.write_zeroes.Goals as goal

pub returns-clause-writes : goal.returns-clause-writes
returns-clause-writes g c = λ clean.
    rw (← c.self.view_is) (write_called false c.self.inside.disk c.fill.new.self (g.M.Medium.syncs c.self.inside.medium) c.self.inside.read_only c.self.inside.cleans (g.M.Medium.flushes c.self.inside.medium) _ _ _ (Ok tt) (c.in_ok-fill.ensures.answers clean) (c.in_ok-fill.ensures.stores clean) (c.in_ok-fill.ensures.costs clean))

pub returns-in_err-fill-clause-writes : goal.returns-in_err-fill-clause-writes
returns-in_err-fill-clause-writes g c = λ clean.
    rw (← c.self.view_is)
    (write_refused false c.self.inside.disk c.fill.new.self (g.M.Medium.syncs c.self.inside.medium) c.self.inside.read_only c.self.inside.cleans (g.M.Medium.flushes c.self.inside.medium) _ _ _ c.from_residual.result c.in_err-fill.field-0.0 c.from_residual.ensures.1 (c.in_err-fill.ensures.answers clean) (c.in_err-fill.ensures.stores clean) (c.in_err-fill.ensures.costs clean))

pub returns-clause-stays : goal.returns-clause-stays
returns-clause-stays g c = rw (← c.self.view_is) (disk_calls c.self.inside.disk c.fill.new.self (g.M.Medium.syncs c.self.inside.medium) c.self.inside.read_only c.self.inside.cleans (g.M.Medium.flushes c.self.inside.medium) c.fill.ensures.alike)

pub returns-in_err-fill-clause-stays : goal.returns-in_err-fill-clause-stays
returns-in_err-fill-clause-stays g c = rw (← c.self.view_is) (disk_calls c.self.inside.disk c.fill.new.self (g.M.Medium.syncs c.self.inside.medium) c.self.inside.read_only c.self.inside.cleans (g.M.Medium.flushes c.self.inside.medium) c.fill.ensures.alike)
