use Rattle.std.proofs.Common.{◌≡◌, [], arith, sym}
use Rattle.std.proofs.lemmas.Bool.{eqb-true}
use Rattle.tail_repair.proofs.CauseLaws.{find-told, if-fault}
use Rattle.tail_repair.proofs.KeepLaws.{drive-then}
use Rattle.tail_repair.proofs.PlaceLaws.{all-after}
use Rattle.tail_repair.proofs.TailLaws.{logs-kept, look-keeps, no-items, no-tails}
use Rattle.tail_repair.proofs.repair.repair_all.Goals as goal

pub returns-in_err-find_tails-clause-kept : goal.returns-in_err-find_tails-clause-kept
returns-in_err-find_tails-clause-kept g c = drive-then _ _ _ c.repair_each.ensures.kept (look-keeps _ _ c.find_tails.ensures.kept)

pub returns-then-not-is_empty-clause-kept : goal.returns-then-not-is_empty-clause-kept
returns-then-not-is_empty-clause-kept g c = drive-then _ _ _ c.repair_each.ensures.kept (look-keeps _ _ c.find_tails.ensures.kept)

pub returns-clause-ok : goal.returns-clause-ok
returns-clause-ok g c clean =
    let none : c.in_ok-find_tails.field-0.items ≡ [] = no-items c.in_ok-find_tails.field-0.items (omega (arith, c.in_ok-find_tails.field-0.ok, eqb-true c.in_ok-find_tails.field-0.len 0 (sym c.if-not-is_empty.ensures))) in
    logs-kept _ _ c.find_tails.ensures.kept (no-tails _ c.in_ok-find_tails.field-0.items (c.in_ok-find_tails.ensures.ok clean) none)

pub returns-clause-kept : goal.returns-clause-kept
returns-clause-kept g c = drive-then _ _ _ c.repair_each.ensures.kept (look-keeps _ _ c.find_tails.ensures.kept)

pub returns-in_err-find_tails-clause-told : goal.returns-in_err-find_tails-clause-told
returns-in_err-find_tails-clause-told g c clean =
    if-fault c.from_residual-in_err-find_tails.result c.in_err-find_tails.field-0.0 _ c.from_residual-in_err-find_tails.ensures.1 (find-told (g.D.Device.drive c.repair_each.new.device) (g.D.Device.drive c.find_tails.new.device) c.in_err-find_tails.field-0.0 (c.in_err-find_tails.ensures.err clean))

pub returns-clause-there : goal.returns-clause-there
returns-clause-there g c clean = all-after (g.D.Device.drive c.args.device.now) (g.D.Device.drive c.repair_each.new.device) (g.D.Device.drive c.find_tails.new.device) c.in_ok-moved.moved.items c.find_tails.ensures.kept (c.in_ok-moved.ensures.there (c.find_tails.ensures.kept.trusted clean))
