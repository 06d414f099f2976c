use Rattle.zone_translator.proofs.FlushLaws.{flush-kept, flush_fails, flush_keeps}
use Rattle.zone_translator.proofs.flush.flush_drive.Goals as goal

pub returns-clause-kept : goal.returns-clause-kept
returns-clause-kept g c = λ clean.
    rw (← c.disk.view_is) (flush-kept (g.D.Device.drive c.disk.inside.device) _ c.disk.inside.tables ((rw (← c.disk.view_is) at c.requires.agrees) (c.in_default.ensures.trusted clean)) c.in_default.ensures)

pub returns-clause-durable : goal.returns-clause-durable
returns-clause-durable g c = c.in_default.ensures.flushed.durable

pub returns-clause-shape : goal.returns-clause-shape
returns-clause-shape g c = rw (← c.disk.view_is) (record { geometry = c.in_default.ensures.kept.contents.geometry; trusted = c.in_default.ensures.trusted; unfailing = c.in_default.ensures.unfailing })

pub returns-in-Err-clause-kept : goal.returns-in-Err-clause-kept
returns-in-Err-clause-kept g c = λ clean.
    rw (← c.disk.view_is) (flush_keeps (g.D.Device.drive c.disk.inside.device) _ c.disk.inside.tables c.in-Err.fault ((rw (← c.disk.view_is) at c.requires.agrees) (c.in-Err.ensures.trusted clean)) c.in-Err.ensures)

pub returns-in-Err-clause-may : goal.returns-in-Err-clause-may
returns-in-Err-clause-may g c = rw (← c.disk.view_is) (flush_fails (g.D.Device.drive c.disk.inside.device) _ c.in-Err.fault c.in-Err.ensures).may

pub returns-in-Err-clause-err : goal.returns-in-Err-clause-err
returns-in-Err-clause-err g c =
    let fails = flush_fails (g.D.Device.drive c.disk.inside.device) _ c.in-Err.fault c.in-Err.ensures in
    rw (c.fault_of.ensures fails.halt) fails.cause

pub returns-in-Err-clause-shape : goal.returns-in-Err-clause-shape
returns-in-Err-clause-shape g c = rw (← c.disk.view_is) (record { geometry = c.in-Err.ensures.kept.contents.geometry; trusted = c.in-Err.ensures.trusted; unfailing = c.in-Err.ensures.unfailing })
