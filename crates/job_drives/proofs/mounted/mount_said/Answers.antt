use Rattle.std.proofs.Common.{◌≡◌, IsTrue, None, sym, subst, ◌∙◌}
use Rattle.zone_states.specs.declared.geometry.Geometry.{Geometry}
use Rattle.drive_port.specs.Drive.{DriveState}
use Rattle.zone_choice.specs.Sane.{KeepsShape}
use Rattle.job_drives.specs.Mounted.{IsFoundAgain, IsNotFound, IsNotServed, IsOneBlock, IsServed, TellsRoom}
use Rattle.job_drives.proofs.MountLaws.{again-served, block-refused, err-both, look-shape, ok-both, one-again, one-refused, said-served, shape-join}
use Rattle.job_drives.proofs.mounted.mount_said.Goals as goal

pub mount_one_block-requires : goal.mount_one_block-requires
mount_one_block-requires g c clean =
    let left = g.D.Device.drive c.into_device.result in
    rw c.into_device.ensures (one-again (g.D.Device.drive c.args.device) c.in-Ok.disk (c.in-Ok.ensures.disk (subst (λ (d : DriveState). IsTrue d.clean) c.into_device.ensures clean)) (sym c.blocks-in-Ok.ensures.size ∙ c.if-blocks-eq1.true))

pub returns-then-blocks-eq1-clause-disk : goal.returns-then-blocks-eq1-clause-disk
returns-then-blocks-eq1-clause-disk g c =
    let old = g.D.Device.drive c.args.device in
    let left = g.D.Device.drive c.into_device.result in
    ok-both (λ disk. IsTrue disk.drive.clean → IsFoundAgain left disk) (λ disk. KeepsShape left disk.drive) (λ disk. IsTrue disk.drive.clean → IsServed old None disk) c.mount_one_block.result
    (λ disk found shape clean.
    let one : IsOneBlock old left =
    record { disk = c.in-Ok.disk; mounted = c.in-Ok.ensures.disk (subst (λ (d : DriveState). IsTrue d.clean) c.into_device.ensures (shape.trusted clean)); one = sym c.blocks-in-Ok.ensures.size ∙ c.if-blocks-eq1.true; left_is = c.into_device.ensures } in
    again-served old left disk one (found clean))
    c.mount_one_block.ensures.disk c.mount_one_block.ensures.shape

pub returns-then-blocks-eq1-clause-err : goal.returns-then-blocks-eq1-clause-err
returns-then-blocks-eq1-clause-err g c =
    let old = g.D.Device.drive c.args.device in
    let left = g.D.Device.drive c.into_device.result in
    err-both (λ refusal. IsTrue (g.D.Device.drive refusal.1).clean → IsNotFound left refusal.0 (g.D.Device.drive refusal.1)) (λ refusal. KeepsShape left (g.D.Device.drive refusal.1))
    (λ refusal. IsTrue (g.D.Device.drive refusal.1).clean → IsNotServed old None refusal.0 (g.D.Device.drive refusal.1)) c.mount_one_block.result
    (λ refusal why shape clean.
    let one : IsOneBlock old left =
    record { disk = c.in-Ok.disk; mounted = c.in-Ok.ensures.disk (subst (λ (d : DriveState). IsTrue d.clean) c.into_device.ensures (shape.trusted clean)); one = sym c.blocks-in-Ok.ensures.size ∙ c.if-blocks-eq1.true; left_is = c.into_device.ensures } in
    one-refused old left (g.D.Device.drive refusal.1) refusal.0 one (why clean))
    c.mount_one_block.ensures.err c.mount_one_block.ensures.back

pub returns-then-blocks-eq1-clause-shape : goal.returns-then-blocks-eq1-clause-shape
returns-then-blocks-eq1-clause-shape g c =
    let old = g.D.Device.drive c.args.device in
    let left = g.D.Device.drive c.into_device.result in
    let here : KeepsShape old left = rw c.into_device.ensures c.in-Ok.ensures.shape in
    ok-both (λ disk. KeepsShape left disk.drive) (λ disk. KeepsShape left disk.drive) (λ disk. KeepsShape old disk.drive) c.mount_one_block.result
    (λ disk shape same. shape-join old left disk.drive here shape) c.mount_one_block.ensures.shape c.mount_one_block.ensures.shape

pub returns-then-blocks-eq1-clause-back : goal.returns-then-blocks-eq1-clause-back
returns-then-blocks-eq1-clause-back g c =
    let old = g.D.Device.drive c.args.device in
    let left = g.D.Device.drive c.into_device.result in
    let here : KeepsShape old left = rw c.into_device.ensures c.in-Ok.ensures.shape in
    err-both (λ refusal. KeepsShape left (g.D.Device.drive refusal.1)) (λ refusal. KeepsShape left (g.D.Device.drive refusal.1)) (λ refusal. KeepsShape old (g.D.Device.drive refusal.1)) c.mount_one_block.result
    (λ refusal shape same. shape-join old left (g.D.Device.drive refusal.1) here shape) c.mount_one_block.ensures.back c.mount_one_block.ensures.back

pub returns-then-blocks-eq1-clause-room : goal.returns-then-blocks-eq1-clause-room
returns-then-blocks-eq1-clause-room g c =
    let left = g.D.Device.drive c.into_device.result in
    let same : left.geometry ≡ (g.D.Device.drive c.args.device).geometry = rw c.into_device.ensures c.in-Ok.ensures.shape.geometry in
    rw same at c.mount_one_block.ensures.room

pub returns-else-blocks-eq1-clause-disk : goal.returns-else-blocks-eq1-clause-disk
returns-else-blocks-eq1-clause-disk g c clean =
    said-served (g.D.Device.drive c.args.device) c.in-Ok.disk (c.in-Ok.ensures.disk clean) (λ one. c.if-blocks-eq1.false (c.blocks-in-Ok.ensures.size ∙ one))

pub returns-in-Err-BlockOutOfRange-default-clause-err : goal.returns-in-Err-BlockOutOfRange-default-clause-err
returns-in-Err-BlockOutOfRange-default-clause-err g c clean =
    let was = c.out_of_range.ensures.kept.trusted clean in
    block-refused (g.D.Device.drive c.args.device) (g.D.Device.drive c.in-Err-BlockOutOfRange-default.device) (g.D.Device.drive c.out_of_range.result.1) c.out_of_range.result.0
    (rw c.in-Err-BlockOutOfRange-default.field-0-0-is at (c.in-Err-BlockOutOfRange-default.ensures.err was)) c.out_of_range.ensures.kept (c.out_of_range.ensures.told clean)

pub returns-in-Err-BlockOutOfRange-default-clause-back : goal.returns-in-Err-BlockOutOfRange-default-clause-back
returns-in-Err-BlockOutOfRange-default-clause-back g c =
    shape-join _ _ _ c.in-Err-BlockOutOfRange-default.ensures.back (look-shape _ _ c.out_of_range.ensures.kept)

pub returns-in-Err-BlockOutOfRange-default-clause-room : goal.returns-in-Err-BlockOutOfRange-default-clause-room
returns-in-Err-BlockOutOfRange-default-clause-room g c = subst (λ (x : Geometry). TellsRoom x c.out_of_range.result.0) c.in-Err-BlockOutOfRange-default.ensures.back.geometry c.out_of_range.ensures.room
