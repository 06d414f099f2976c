use Rattle.std.proofs.Common.{Ok, true}
use Rattle.nbd_session.proofs.ServedLaws.{disk_calls, write_called, write_refused}
use Rattle.nbd_session.proofs.served_disk.ServedDiskStore.trim.Goals as goal

pub returns-clause-trims : goal.returns-clause-trims
returns-clause-trims g c = λ clean.
    rw (← c.self.view_is) (write_called true c.self.inside.disk c.trim.new.self (g.M.Medium.syncs c.self.inside.medium) c.self.inside.read_only c.self.inside.cleans (g.M.Medium.flushes c.self.inside.medium) _ _ _ (Ok tt) (c.in_ok-trim.ensures.answers clean) (c.in_ok-trim.ensures.stores clean) (c.in_ok-trim.ensures.costs clean))

pub returns-in_err-trim-clause-trims : goal.returns-in_err-trim-clause-trims
returns-in_err-trim-clause-trims g c = λ clean.
    rw (← c.self.view_is)
    (write_refused true c.self.inside.disk c.trim.new.self (g.M.Medium.syncs c.self.inside.medium) c.self.inside.read_only c.self.inside.cleans (g.M.Medium.flushes c.self.inside.medium) _ _ _ c.from_residual.result c.in_err-trim.field-0.0 c.from_residual.ensures.1 (c.in_err-trim.ensures.answers clean) (c.in_err-trim.ensures.stores clean) (c.in_err-trim.ensures.costs clean))

pub returns-clause-stays : goal.returns-clause-stays
returns-clause-stays g c = rw (← c.self.view_is) (disk_calls c.self.inside.disk c.trim.new.self (g.M.Medium.syncs c.self.inside.medium) c.self.inside.read_only c.self.inside.cleans (g.M.Medium.flushes c.self.inside.medium) c.trim.ensures.alike)

pub returns-in_err-trim-clause-stays : goal.returns-in_err-trim-clause-stays
returns-in_err-trim-clause-stays g c = rw (← c.self.view_is) (disk_calls c.self.inside.disk c.trim.new.self (g.M.Medium.syncs c.self.inside.medium) c.self.inside.read_only c.self.inside.cleans (g.M.Medium.flushes c.self.inside.medium) c.trim.ensures.alike)
