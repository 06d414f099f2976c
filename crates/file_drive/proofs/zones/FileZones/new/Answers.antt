use Rattle.std.proofs.Common.{false, refl}
use Rattle.file_drive.proofs.OutLaws.{still-owned}
use Rattle.file_drive.proofs.ServedLaws.{promised-durable}
use Rattle.file_drive.proofs.zones.FileZones.new.Goals as goal

pub invariant_of-result : goal.invariant_of-result
invariant_of-result g c =
    let is = c.requires in
    let tables = c.args.found.tables in (
      is.in_range,
      is.count,
      is.within,
      rw c.deref.ensures.value at c.of-resources.ensures,
      rw c.boot-named.ensures is.served,
      is.safe,
      λ e. (is.usable, is.promise),
      promised-durable c.args.found.head.geometry g.F.FileBytes.seen g.F.FileBytes.may_leave c.args.file tables.flushed tables.safe.items tables.other.items false is.safe is.promise,
      is.apart,
      λ e. refl,
      still-owned g.F.FileBytes.may_leave g.F.FileBytes.may_show g.F.FileBytes.is_usable g.F.FileBytes.is_stuck c.args.found.head.geometry g.S.System.boot c.boot-named.result _ c.args.file is.usable c.boot-named.ensures,
    )
