use Rattle.std.proofs.Common.{◌≡◌, true, false, eqb, [], arith, subst, sym}
use Rattle.std.proofs.lemmas.Bool.{eqb-true}
use Rattle.drive_survey.proofs.ReadLaws.{keeps-both}
use Rattle.tail_repair.specs.Repair.{AreTails}
use Rattle.tail_repair.proofs.CauseLaws.{find-repair, if-fault, late-repair, repair-before}
use Rattle.tail_repair.proofs.KeepLaws.{drive-then}
use Rattle.tail_repair.proofs.PlaceLaws.{all-before, all-of-none, tails-ascend}
use Rattle.tail_repair.proofs.MovedLaws.{none-found}
use Rattle.tail_repair.proofs.TailLaws.{logs-kept, look-keeps, no-items, no-tails, refused-same, same-contents}
use Rattle.tail_repair.proofs.repair.repair_tails.Goals as goal

pub returns-in_err-tails-clause-refused : goal.returns-in_err-tails-clause-refused
returns-in_err-tails-clause-refused g c = refused-same _ _ c.from_residual.result c.find_tails.ensures.kept

pub returns-in_err-tails-clause-kept : goal.returns-in_err-tails-clause-kept
returns-in_err-tails-clause-kept g c = look-keeps _ _ c.find_tails.ensures.kept

pub returns-then-is_empty-clause-ok : goal.returns-then-is_empty-clause-ok
returns-then-is_empty-clause-ok g c clean =
    let none : c.in_ok-tails.tails.items ≡ [] = no-items c.in_ok-tails.tails.items (omega (arith, c.in_ok-tails.tails.ok, eqb-true c.in_ok-tails.tails.len 0 (sym c.if-is_empty.ensures))) in
    logs-kept _ _ c.find_tails.ensures.kept (no-tails _ c.in_ok-tails.tails.items (c.in_ok-tails.ensures.ok clean) none)

pub returns-then-is_empty-clause-found : goal.returns-then-is_empty-clause-found
returns-then-is_empty-clause-found g c clean =
    let none : c.in_ok-tails.tails.items ≡ [] = no-items c.in_ok-tails.tails.items (omega (arith, c.in_ok-tails.tails.ok, eqb-true c.in_ok-tails.tails.len 0 (sym c.if-is_empty.ensures))) in
    rw c.new.ensures.items (subst (AreTails (g.D.Device.drive c.args.device.now)) none (c.in_ok-tails.ensures.ok clean))

pub returns-then-is_empty-clause-idle : goal.returns-then-is_empty-clause-idle
returns-then-is_empty-clause-idle g c none = same-contents _ _ c.find_tails.ensures.kept

pub returns-then-is_empty-clause-kept : goal.returns-then-is_empty-clause-kept
returns-then-is_empty-clause-kept g c = look-keeps _ _ c.find_tails.ensures.kept

pub returns-in_err-check_room-clause-refused : goal.returns-in_err-check_room-clause-refused
returns-in_err-check_room-clause-refused g c = refused-same _ _ c.from_residual-in_err-check_room.result (keeps-both _ _ _ c.find_tails.ensures.kept c.check_room.ensures.kept)

pub returns-in_err-check_room-clause-kept : goal.returns-in_err-check_room-clause-kept
returns-in_err-check_room-clause-kept g c = look-keeps _ _ (keeps-both _ _ _ c.find_tails.ensures.kept c.check_room.ensures.kept)

pub repair_all-requires-clause-range : goal.repair_all-requires-clause-range
repair_all-requires-clause-range g c = rw c.check_room.ensures.kept.geometry c.in_ok-tails.ensures.range

pub returns-in-Ok-clause-found : goal.returns-in-Ok-clause-found
returns-in-Ok-clause-found g c clean =
    let before = c.check_room.ensures.kept.trusted (c.repair_all.ensures.kept.trusted clean) in
    subst (AreTails (g.D.Device.drive c.args.device.now)) (sym (rw c.deref.ensures.value at c.in-Ok.ensures.tails)) (c.in_ok-tails.ensures.ok before)

pub returns-in-Ok-clause-idle : goal.returns-in-Ok-clause-idle
returns-in-Ok-clause-idle g c none =
    let empty = none-found c.in-Ok.moved.items c.in_ok-tails.tails.items (rw c.deref.ensures.value at c.in-Ok.ensures.tails) none in
    let len : c.in_ok-tails.tails.len ≡ 0 = omega (arith, empty, c.in_ok-tails.tails.ok) in
    let not : false ≡ eqb c.in_ok-tails.tails.len 0 = c.if-is_empty.ensures in
    let bad : false ≡ true = rw len at not in
    absurd (cc)

pub returns-in-Ok-clause-kept : goal.returns-in-Ok-clause-kept
returns-in-Ok-clause-kept g c = drive-then _ _ _ (look-keeps _ _ (keeps-both _ _ _ c.find_tails.ensures.kept c.check_room.ensures.kept)) c.repair_all.ensures.kept

pub returns-clause-kept : goal.returns-clause-kept
returns-clause-kept g c = drive-then _ _ _ (look-keeps _ _ (keeps-both _ _ _ c.find_tails.ensures.kept c.check_room.ensures.kept)) c.repair_all.ensures.kept

pub returns-in_err-tails-clause-err : goal.returns-in_err-tails-clause-err
returns-in_err-tails-clause-err g c clean = if-fault c.from_residual.result c.in_err-tails.field-0.0 _ c.from_residual.ensures.1 (find-repair (g.D.Device.drive c.args.device.now) (g.D.Device.drive c.find_tails.new.device) c.in_err-tails.field-0.0 (c.in_err-tails.ensures.err clean))

pub returns-in_err-check_room-clause-err : goal.returns-in_err-check_room-clause-err
returns-in_err-check_room-clause-err g c clean =
    if-fault c.from_residual-in_err-check_room.result c.in_err-check_room.field-0.0 _ c.from_residual-in_err-check_room.ensures.1 (repair-before (g.D.Device.drive c.args.device.now) (g.D.Device.drive c.find_tails.new.device) (g.D.Device.drive c.check_room.new.device) c.in_err-check_room.field-0.0 c.find_tails.ensures.kept c.in_err-check_room.ensures.err)

pub returns-clause-err : goal.returns-clause-err
returns-clause-err g c clean =
    late-repair (g.D.Device.drive c.args.device.now) (g.D.Device.drive c.repair_all.new.device) _ c.unfinished.ensures.late (c.unfinished.ensures.told (g.D.Device.drive c.repair_all.new.device) (c.in-Err.ensures.told clean))

pub repair_all-requires-clause-ascends : goal.repair_all-requires-clause-ascends
repair_all-requires-clause-ascends g c clean =
    rw c.deref.ensures.value (tails-ascend (g.D.Device.drive c.args.device.now) c.in_ok-tails.tails.items (c.in_ok-tails.ensures.ok (c.check_room.ensures.kept.trusted clean)))

pub returns-then-is_empty-clause-there : goal.returns-then-is_empty-clause-there
returns-then-is_empty-clause-there g c clean = all-of-none (g.D.Device.drive c.args.device.now) (g.D.Device.drive c.find_tails.new.device) c.new.result.items c.new.ensures.items

pub returns-in-Ok-clause-there : goal.returns-in-Ok-clause-there
returns-in-Ok-clause-there g c clean =
    all-before (g.D.Device.drive c.args.device.now) (g.D.Device.drive c.check_room.new.device) (g.D.Device.drive c.repair_all.new.device) c.in-Ok.moved.items (keeps-both _ _ _ c.find_tails.ensures.kept c.check_room.ensures.kept) (c.in-Ok.ensures.there clean)
