use Rattle.std.proofs.Common.{◌≡◌, ◌≤◌, true, refl, arith}
use Rattle.std.specs.List.{count_by}
use Rattle.std.proofs.lemmas.Bool.{false≢true}
use Rattle.std.proofs.lemmas.Result.{IfOk-weaker}
use Rattle.drive_port.specs.Contents.{Content, is_usable}
use Rattle.drive_array.specs.Mountable.{is_partly_written}
use Rattle.yardsticks.specs.Zones.{image_contents, held_logs}
use Rattle.yardsticks.proofs.MountableLaws.{all-images, disk-logs, images-all, mountable-is, repair-left}
use Rattle.yardsticks.proofs.mountable.is_mountable.Goals as goal

pub returns-then-not-are_usable : goal.returns-then-not-are_usable
returns-then-not-are_usable c =
    (λ e. absurd (false≢true e), λ all. c.if-not-are_usable.ensures.1 (all-images (λ (zone : Content). is_usable zone.usage ≡ true) c.args.zones.now all.disk.usable))

pub returns-then-not-branch : goal.returns-then-not-branch
returns-then-not-branch c =
    let are = rw c.in-Some.is at c.in_ok-drive.ensures.some in
    let tests = rw (c.deref.ensures.value, c.if-not-branch.true) at c.in_ok-are_of_disk.ensures in
    (λ e. absurd (false≢true e), λ all. tests.1 (disk-logs c.args.geometry.now (image_contents c.args.zones.now) c.args.n (held_logs c.in-Some.drive.logs.items) c.in-Some.drive.tails.items are all))

pub returns : goal.returns
returns c =
    let zones = image_contents c.args.zones.now in
    let logs = held_logs c.in-Some.drive.logs.items in
    let left = held_logs c.clear.new.logs.items in
    let tails = c.in-Some.drive.tails.items in
    let are = rw c.in-Some.is at c.in_ok-drive.ensures.some in
    let usable = images-all (λ (zone : Content). is_usable zone.usage ≡ true) c.args.zones.now (c.if-not-are_usable.ensures.0 refl) in
    let few : count_by is_partly_written zones ≤ 2 = omega (arith, c.partly_written.ensures, c.if-partly_written-gt2.false) in
    let disk = rw c.deref.ensures.value at (c.in_ok-are_of_disk.ensures.0 c.if-not-branch.false) in
    let clears = c.in_ok-clear.ensures in
    let can = rw (c.encoded_size-size.ensures, c.deref-2.ensures.value, c.deref-3.ensures.value, c.deref-4.ensures.value) at c.can_repair.ensures in
    IfOk-weaker c.can_repair.result _ _ (λ b repair. (
      λ e. mountable-is c.args.geometry.now zones c.args.n logs left tails are usable few disk clears (repair.0 e),
      λ all. repair.1 (repair-left c.args.geometry.now zones c.args.n logs left tails are clears all),
    )) can
