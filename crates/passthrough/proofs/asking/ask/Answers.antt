use Rattle.std.proofs.Common.{rules, ◌≡◌, false, refl, inl}
use Rattle.drive_port.proofs.ClosingLaws.{IsClosing-refl}
use Rattle.passthrough.proofs.AskLaws.{asked-bare, flushed-ok, sent-err, sent-ok}
use Rattle.passthrough.proofs.asking.ask.Goals as goal

pub returns-in-Flush-clause-ok : goal.returns-in-Flush-clause-ok
returns-in-Flush-clause-ok g c = rw c.in-Flush.is (flushed-ok _ _ _ c.args.bytes.now _ _ c.flush.ensures.ok)

pub returns-in-Read-clause-ok : goal.returns-in-Read-clause-ok
returns-in-Read-clause-ok g c = rw c.in-Read.is (asked-bare _ _ _ _ c.args.bytes.now _ _ _ refl c.read.ensures.ok)

pub returns-in-Send-default-default-false-clause-ok : goal.returns-in-Send-default-default-false-clause-ok
returns-in-Send-default-default-false-clause-ok g c =
    let one : c.in-Send-default-default-false.all ≡ false = search rules in
    rw c.in-Send-default-default-false.is (sent-ok _ _ _ _ _ _ c.args.bytes.now _ _ one c.act_seen.ensures.asks)

pub returns-in-Send-default-default-false-clause-err : goal.returns-in-Send-default-default-false-clause-err
returns-in-Send-default-default-false-clause-err g c =
    let one : c.in-Send-default-default-false.all ≡ false = search rules in
    rw c.in-Send-default-default-false.is (sent-err _ _ _ _ _ _ c.args.bytes.now _ one c.act_seen.ensures.asks)

pub returns-in-Receive-clause-ok : goal.returns-in-Receive-clause-ok
returns-in-Receive-clause-ok g c = rw c.in-Receive.is (asked-bare _ _ _ _ c.args.bytes.now _ _ _ refl c.report.ensures.ok)

pub returns-in-Write-clause-err : goal.returns-in-Write-clause-err
returns-in-Write-clause-err g c = inl (IsClosing-refl _)

pub returns-in-Write-2-clause-err : goal.returns-in-Write-2-clause-err
returns-in-Write-2-clause-err g c = inl (IsClosing-refl _)
