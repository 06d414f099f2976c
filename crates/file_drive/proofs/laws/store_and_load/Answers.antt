use Rattle.std.proofs.Common.{◌≡◌, ◌∙◌, ap, inl, inr}
use Rattle.std.proofs.lemmas.Bool.{cases_Bool}
use Rattle.drive_port.specs.Run.{restarted}
use Rattle.zone_drive.specs.Habits.{made}
use Rattle.zone_drive.specs.Stored.{unused, zones_of}
use Rattle.file_drive.specs.Faults.{IsCallFault}
use Rattle.file_drive.specs.Tables.{zones_in}
use Rattle.file_drive.proofs.FaultLaws.{err-of}
use Rattle.file_drive.proofs.LoadLaws.{loaded-is}
use Rattle.file_drive.proofs.laws.store_and_load.Goals as goal

pub returns-in_err-found-clause-err : goal.returns-in_err-found-clause-err
returns-in_err-found-clause-err g c =
    let finds = c.in_ok-store.ensures.stored.finds g.S.System.boot in
    let usable = cases_Bool (g.F.FileBytes.is_usable c.open.new.file) in
    err-of c.from_residual-in_err-found.result _ IsCallFault (λ fault e. rw e (elim usable [
      | inl still ↦ inr (finds.opens c.in_err-found.field-0.0 (c.in_err-found.ensures.err still))
      | inr lost ↦ inl (c.in_err-found.ensures.unsynced lost)
    ])) c.from_residual-in_err-found.ensures.1

pub returns-in-Ok-clause-ok : goal.returns-in-Ok-clause-ok
returns-in-Ok-clause-ok g c =
    let drive = c.args.drive.now.state in
    let holds = c.in_ok-store.ensures.stored in
    let finds = holds.finds g.S.System.boot in
    let found = c.in_ok-found.found in
    let same : unused found.head.geometry (zones_of found.head.geometry.block (zones_in found.head.geometry (g.F.FileBytes.seen c.open.new.file) 0 found.entries.items)) ≡ unused drive.geometry (restarted drive).zones =
    loaded-is drive g.S.System.boot (g.F.FileBytes.seen c.store.new.file) (g.F.FileBytes.seen c.open.new.file) found.head.geometry found.entries.items holds
    c.in_ok-found.ensures.ok.served.head (c.open.ensures.unnoticed c.in_ok-found.ensures.ok.usable drive.geometry finds.shape).head c.in_ok-found.ensures.zones in
    c.in-Ok.ensures ∙ ap made same
