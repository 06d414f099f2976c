use Rattle.std.proofs.Common.{◌≡◌, ◌∙◌, ◌++◌, List, Result, Err, ℕ, ap, arith, length, refl}
use Rattle.std.proofs.lemmas.List.{length-append}
use Rattle.drive_port.specs.declared.calls.PortFault.{PortFault}
use Rattle.zone_cleaner.specs.declared.fault.CleanFault.TheVariants as faults
use Rattle.zone_cleaner.proofs.FetchLaws.{fetch_halts, fetch_reads, fetch_shown}
use Rattle.zone_cleaner.proofs.gathered.fetch.Goals as goal

pub returns-in-Err-clause-asks : goal.returns-in-Err-clause-asks
returns-in-Err-clause-asks g c =
    let e = c.in-Err.ensures.read in
    rw (← c.disk.view_is) (record { shape = record { geometry = e.obeys.geometry; trusted = e.obeys.trusted; unfailing = e.obeys.unfailing }; tables = refl; completed = e.obeys.completed })

pub returns-in-Err-clause-reads : goal.returns-in-Err-clause-reads
returns-in-Err-clause-reads g c = λ clean.
    let e = c.in-Err.ensures.read in
    let stored = (rw (← c.disk.view_is) at c.requires) (e.obeys.trusted clean) in
    rw (← c.disk.view_is) (fetch_halts (g.D.Device.drive c.disk.inside.device) _ c.disk.inside.tables c.args.block c.args.address _ c.in-Err.fault stored e.gives.given e.kept.contents e.kept.closing e.obeys e.taken).reads

pub returns-in-Err-clause-err : goal.returns-in-Err-clause-err
returns-in-Err-clause-err g c = λ clean.
    let e = c.in-Err.ensures.read in
    let stored = (rw (← c.disk.view_is) at c.requires) (e.obeys.trusted clean) in
    let halts = fetch_halts (g.D.Device.drive c.disk.inside.device) _ c.disk.inside.tables c.args.block c.args.address _ c.in-Err.fault stored e.gives.given e.kept.contents e.kept.closing e.obeys e.taken in
    rw (c.command_fault.ensures.halt halts.halt) halts.cause

pub returns-in-Err-clause-fails : goal.returns-in-Err-clause-fails
returns-in-Err-clause-fails g c = λ failed.
    let is : c.command_fault.result ≡ faults.Failed = (let e = failed in cc) in
    (c.in-Err.ensures.read.obeys.fails (ap Err (c.command_fault.ensures.failed is))).0

pub returns-clause-asks : goal.returns-clause-asks
returns-clause-asks g c =
    let e = c.in_default.ensures.read in
    rw (← c.disk.view_is) (record { shape = record { geometry = e.obeys.geometry; trusted = e.obeys.trusted; unfailing = e.obeys.unfailing }; tables = refl; completed = e.obeys.completed })

pub returns-clause-adds : goal.returns-clause-adds
returns-clause-adds g c =
    let e = c.in_default.ensures.read in
    let returned = e.gives.returned in
    rw (← c.disk.view_is) (returned, e.gives.joined, omega (arith, e.shown.length_is, ap length e.gives.joined, length-append c.args.batch.now.bytes returned))

pub returns-clause-reads : goal.returns-clause-reads
returns-clause-reads g c = λ clean.
    let e = c.in_default.ensures.read in
    let stored = (rw (← c.disk.view_is) at c.requires) (e.obeys.trusted clean) in
    rw (← c.disk.view_is) (fetch_reads _ _ c.disk.inside.tables _ _ stored e.kept.contents e.kept.closing e.obeys.lawful e.obeys.unfailing e.obeys.durable e.shown.counts)

pub returns-clause-ok : goal.returns-clause-ok
returns-clause-ok g c = λ clean.
    let e = c.in_default.ensures.read in
    let stored = (rw (← c.disk.view_is) at c.requires) (e.obeys.trusted clean) in
    rw (← c.disk.view_is) (e.shown.bytes clean ∙ ap (λ (bytes : List ℕ). c.args.batch.now.bytes ++ bytes) (fetch_shown (g.D.Device.drive c.disk.inside.device) c.disk.inside.tables c.args.block c.args.address stored))
