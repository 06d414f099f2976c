use Rattle.std.proofs.Common.{sym, ap, refl}
use Rattle.zone_states.specs.declared.geometry.Geometry.{Geometry}
use Rattle.drive_survey.proofs.ReadLaws.{keeps-none}
use Rattle.remount.proofs.CallLaws.{on-ok}
use Rattle.remount.proofs.MoveBuildLaws.{build-done, shape-done}
use Rattle.remount.proofs.repair.moves.build_move.Goals as goal

pub name_records-requires : goal.name_records-requires
name_records-requires g c = rw c.blocks_of-blocks.ensures c.requires.named

pub copy_records-requires : goal.copy_records-requires
copy_records-requires g c = record { named = rw c.blocks_of-blocks.ensures c.requires.named }

pub returns-in_err-name_records-clause-kept : goal.returns-in_err-name_records-clause-kept
returns-in_err-name_records-clause-kept g c = λ can. keeps-none (g.D.Device.drive c.args.device.now) can.known.lawful

pub returns-in_err-encode-clause-kept : goal.returns-in_err-encode-clause-kept
returns-in_err-encode-clause-kept g c = λ can. keeps-none (g.D.Device.drive c.args.device.now) can.known.lawful

pub returns-in_err-name_records-clause-stays : goal.returns-in_err-name_records-clause-stays
returns-in_err-name_records-clause-stays g c = record { geometry = refl; lawful = c.geometry-block_bytes.ensures.lawful; trusted = λ clean. clean; unfailing = λ up. up }

pub returns-in_err-encode-clause-stays : goal.returns-in_err-encode-clause-stays
returns-in_err-encode-clause-stays g c = record { geometry = refl; lawful = c.geometry-block_bytes.ensures.lawful; trusted = λ clean. clean; unfailing = λ up. up }

pub returns-clause-shaped : goal.returns-clause-shaped
returns-clause-shaped g c =
    on-ok c.copy_records.result
    (λ more. shape-done (g.D.Device.drive c.args.device.now) c.args.tables.now c.args.plan.now c.args.number _ _ _ c.blocks_of-blocks.result.now c.start.new.self c.name_records.new.batch c.encode.new.self c.copy_records.new.next.batch c.requires.range c.requires.heading
    (ap (λ (x : Geometry). x.block) c.geometry-block_bytes.ensures.value) c.blocks_of-blocks.ensures c.size_of.ensures refl c.start.ensures.heading c.in_ok-name_records.ensures c.in_ok-encode.ensures.heading c.in_ok-encode.ensures.bytes c.copy_records.ensures.heading more) c.copy_records.ensures.grown

pub returns-clause-built : goal.returns-clause-built
returns-clause-built g c = λ clean can.
    let start = g.D.Device.drive c.args.device.now in
    let all = rw (sym c.blocks_of-blocks.ensures) at can.places in
    on-ok c.copy_records.result
    (λ added. build-done start c.args.tables.now c.args.plan.now c.args.number _ _ _ c.blocks_of-blocks.result.now c.start.new.self c.name_records.new.batch c.encode.new.self c.copy_records.new.next.batch c.requires.range c.requires.heading
    (ap (λ (x : Geometry). x.block) c.geometry-block_bytes.ensures.value) c.blocks_of-blocks.ensures c.size_of.ensures refl c.start.ensures.heading c.in_ok-name_records.ensures c.in_ok-encode.ensures.heading c.in_ok-encode.ensures.bytes c.copy_records.ensures.heading added.bytes added.whole) (c.copy_records.ensures.bytes clean can.known all)

pub returns-clause-err : goal.returns-clause-err
returns-clause-err g c = λ can. c.copy_records.ensures.err can.known (rw (sym c.blocks_of-blocks.ensures) at can.places)

pub returns-clause-kept : goal.returns-clause-kept
returns-clause-kept g c = λ can. c.copy_records.ensures.kept can.known
