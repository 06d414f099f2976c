use Rattle.std.proofs.Common.{◌+◌, ◌*◌, arith, false, refl, true}
use Rattle.disk_files.specs.declared.trace_line.TraceLine.TheVariants.{Fill, Grow, Idle, Trim, Write}
use Rattle.zone_translator.specs.View.{flat_of}
use Rattle.disk_runs.specs.FlatLines.{turns}
use Rattle.zone_translator.proofs.CostLaws.{costs-plain, costs-within}
use Rattle.disk_runs.proofs.AnyLaws.{grown, remount_form, stays_alike, told_form}
use Rattle.disk_runs.proofs.RequestLaws.{growth_done, grows_once, never_memory, not_memory, of_disk}
use Rattle.disk_runs.proofs.RequestLaws.{on-ok, read_stops, remount_stops, stops_by, told, turns_told, whenever, write_done, writes_once}
use Rattle.disk_runs.proofs.requests.answer_request.Goals as goal

pub returns-in-Idle-clause-ok : goal.returns-in-Idle-clause-ok
returns-in-Idle-clause-ok g c = λ clean.
    rw c.in-Idle.is
    (on-ok c.tell-in-Idle.result (λ is. told (flat_of c.args.disk.now) (flat_of c.clean.new.disk) (turns c.in-Idle.turns) c.clean.result c.tell-in-Idle.new.reply.items (refl, c.clean.ensures.flat clean) is) c.tell-in-Idle.ensures.ok)

pub returns-in-Idle-clause-does : goal.returns-in-Idle-clause-does
returns-in-Idle-clause-does g c = λ clean.
    rw c.in-Idle.is
    (on-ok c.tell-in-Idle.result (λ turns. (c.clean.ensures.keeps clean, turns))
    (turns_told c.in-Idle.turns c.args.disk.now c.clean.new.disk c.clean.result c.tell-in-Idle.result c.tell-in-Idle.new.reply.items (c.clean.ensures.flat clean) c.tell-in-Idle.ensures.ok (c.clean.ensures.turns clean)))

pub returns-in-Idle-clause-stops : goal.returns-in-Idle-clause-stops
returns-in-Idle-clause-stops g c = λ clean.
    rw c.in-Idle.is (stops_by (Idle c.in-Idle.turns) c.args.bytes.now c.args.disk.now c.clean.new.disk c.clean.result c.tell-in-Idle.result c.tell-in-Idle.ensures.err (c.clean.ensures.keeps clean, c.clean.ensures.turns clean))

pub returns-in-Remount-clause-full : goal.returns-in-Remount-clause-full
returns-in-Remount-clause-full g c = never_memory c.mount_again.result _ c.mount_again.ensures.no_memory

pub returns-in-Remount-clause-stops : goal.returns-in-Remount-clause-stops
returns-in-Remount-clause-stops g c = λ clean.
    rw c.in-Remount.is (remount_stops c.args.bytes.now c.args.disk.now c.mount_again.new.disk c.mount_again.result c.mount_again.ensures.no_memory)

pub returns-in-Read-clause-stops : goal.returns-in-Read-clause-stops
returns-in-Read-clause-stops g c = λ clean.
    let read = c.read_blocks.ensures in
    rw c.in-Read.is (read_stops c.in-Read.first c.in-Read.blocks c.args.bytes.now c.args.disk.now c.read_blocks.new.disk c.read_blocks.result (read.keeps clean) read.costs read.few)

pub returns-in-Fill-clause-does : goal.returns-in-Fill-clause-does
returns-in-Fill-clause-does g c = λ clean.
    let fill = c.fill.ensures in
    rw c.in-Fill.is (writes_once _ false c.in-Fill.first c.in-Fill.blocks c.args.disk.now c.fill.new.self c.fill.result c.tell.result _ (fill.answers clean) (fill.stores clean) (fill.costs clean) c.tell.ensures.ok)

pub returns-in-Fill-clause-stops : goal.returns-in-Fill-clause-stops
returns-in-Fill-clause-stops g c = λ clean.
    let fill = c.fill.ensures in
    rw c.in-Fill.is
    (stops_by (Fill c.in-Fill.first c.in-Fill.blocks c.in-Fill.byte) c.args.bytes.now c.args.disk.now c.fill.new.self c.fill.result c.tell.result c.tell.ensures.err
    (write_done _ false c.in-Fill.first c.in-Fill.blocks c.args.disk.now c.fill.new.self c.fill.result (fill.answers clean) (fill.stores clean) (fill.costs clean)))

pub returns-in-Trim-clause-does : goal.returns-in-Trim-clause-does
returns-in-Trim-clause-does g c = λ clean.
    let trim = c.trim.ensures in
    rw c.in-Trim.is (writes_once _ true c.in-Trim.first c.in-Trim.blocks c.args.disk.now c.trim.new.self c.trim.result c.tell-in-Trim.result _ (trim.answers clean) (trim.stores clean) (trim.costs clean) c.tell-in-Trim.ensures.ok)

pub returns-in-Trim-clause-stops : goal.returns-in-Trim-clause-stops
returns-in-Trim-clause-stops g c = λ clean.
    let trim = c.trim.ensures in
    rw c.in-Trim.is
    (stops_by (Trim c.in-Trim.first c.in-Trim.blocks) c.args.bytes.now c.args.disk.now c.trim.new.self c.trim.result c.tell-in-Trim.result c.tell-in-Trim.ensures.err
    (write_done _ true c.in-Trim.first c.in-Trim.blocks c.args.disk.now c.trim.new.self c.trim.result (trim.answers clean) (trim.stores clean) (trim.costs clean)))

pub returns-in-Write-clause-does : goal.returns-in-Write-clause-does
returns-in-Write-clause-does g c = λ clean.
    let write = c.write.ensures in
    rw c.in-Write.is (writes_once _ false c.in-Write.first _ c.args.disk.now c.write.new.self c.write.result c.tell-in-Write.result _ (write.answers clean) (write.stores clean) (write.costs clean) c.tell-in-Write.ensures.ok)

pub returns-in-Write-clause-stops : goal.returns-in-Write-clause-stops
returns-in-Write-clause-stops g c = λ clean.
    let write = c.write.ensures in
    rw c.in-Write.is
    (stops_by (Write c.in-Write.first) c.args.bytes.now c.args.disk.now c.write.new.self c.write.result c.tell-in-Write.result c.tell-in-Write.ensures.err
    (write_done _ false c.in-Write.first _ c.args.disk.now c.write.new.self c.write.result (write.answers clean) (write.stores clean) (write.costs clean)))

pub returns-in-Grow-clause-does : goal.returns-in-Grow-clause-does
returns-in-Grow-clause-does g c = λ clean.
    let grow = c.grow.ensures in
    rw c.in-Grow.is
    (grows_once c.in-Grow.blocks c.args.disk.now c.grow.new.self c.grow.result c.tell-in-Grow.result _
    (growth_done c.in-Grow.blocks c.args.disk.now c.grow.new.self c.grow.result (grow.answers clean) (grow.says clean) (grow.turns clean) (grow.clean clean) grow.completed) (grow.answers clean).flat c.tell-in-Grow.ensures.ok)

pub returns-in-Grow-clause-stops : goal.returns-in-Grow-clause-stops
returns-in-Grow-clause-stops g c = λ clean.
    let grow = c.grow.ensures in
    rw c.in-Grow.is
    (stops_by (Grow c.in-Grow.blocks) c.args.bytes.now c.args.disk.now c.grow.new.self c.grow.result c.tell-in-Grow.result c.tell-in-Grow.ensures.err
    (growth_done c.in-Grow.blocks c.args.disk.now c.grow.new.self c.grow.result (grow.answers clean) (grow.says clean) (grow.turns clean) (grow.clean clean) grow.completed))

pub returns-in-Idle-clause-kind : goal.returns-in-Idle-clause-kind
returns-in-Idle-clause-kind g c = of_disk c.clean.result c.tell-in-Idle.result c.tell-in-Idle.ensures.err

pub returns-in-Fill-clause-kind : goal.returns-in-Fill-clause-kind
returns-in-Fill-clause-kind g c = of_disk c.fill.result c.tell.result c.tell.ensures.err

pub returns-in-Trim-clause-kind : goal.returns-in-Trim-clause-kind
returns-in-Trim-clause-kind g c = of_disk c.trim.result c.tell-in-Trim.result c.tell-in-Trim.ensures.err

pub returns-in-Write-clause-kind : goal.returns-in-Write-clause-kind
returns-in-Write-clause-kind g c = of_disk c.write.result c.tell-in-Write.result c.tell-in-Write.ensures.err

pub returns-in-Grow-clause-kind : goal.returns-in-Grow-clause-kind
returns-in-Grow-clause-kind g c = of_disk c.grow.result c.tell-in-Grow.result c.tell-in-Grow.ensures.err

-- ---- whatever the Reads returned

pub returns-in-Idle-clause-stays : goal.returns-in-Idle-clause-stays
returns-in-Idle-clause-stays g c =
    rw c.in-Idle.is (stays_alike _ _ _ c.clean.ensures.alike (λ same. same) (costs-plain _ _ _ c.clean.ensures.completed))

pub returns-in-Idle-clause-memory : goal.returns-in-Idle-clause-memory
returns-in-Idle-clause-memory g c = not_memory c.clean.result c.tell-in-Idle.result _ c.tell-in-Idle.ensures.err

pub returns-in-Fill-clause-stays : goal.returns-in-Fill-clause-stays
returns-in-Fill-clause-stays g c =
    rw c.in-Fill.is (stays_alike _ _ _ c.fill.ensures.alike (λ same. same) c.fill.ensures.completed)

pub returns-in-Fill-clause-memory : goal.returns-in-Fill-clause-memory
returns-in-Fill-clause-memory g c = not_memory c.fill.result c.tell.result _ c.tell.ensures.err

pub returns-in-Trim-clause-stays : goal.returns-in-Trim-clause-stays
returns-in-Trim-clause-stays g c =
    rw c.in-Trim.is (stays_alike _ _ _ c.trim.ensures.alike (λ same. same) c.trim.ensures.completed)

pub returns-in-Trim-clause-memory : goal.returns-in-Trim-clause-memory
returns-in-Trim-clause-memory g c = not_memory c.trim.result c.tell-in-Trim.result _ c.tell-in-Trim.ensures.err

pub returns-in-Write-clause-stays : goal.returns-in-Write-clause-stays
returns-in-Write-clause-stays g c =
    rw c.in-Write.is (stays_alike _ _ _ c.write.ensures.alike (λ same. same) c.write.ensures.completed)

pub returns-in-Write-clause-memory : goal.returns-in-Write-clause-memory
returns-in-Write-clause-memory g c = not_memory c.write.result c.tell-in-Write.result _ c.tell-in-Write.ensures.err

pub returns-in-Grow-clause-stays : goal.returns-in-Grow-clause-stays
returns-in-Grow-clause-stays g c =
    rw c.in-Grow.is
    (record {
      shape = c.grow.ensures.shape;
      size = grown c.grow.result c.grow.ensures.size c.grow.ensures.same;
      completed = λ none. costs-within c.args.disk.now c.grow.new.self (λ each. 1 * each) (λ each. each) (λ each. omega arith) c.grow.ensures.completed;
    })

pub returns-in-Grow-clause-memory : goal.returns-in-Grow-clause-memory
returns-in-Grow-clause-memory g c = not_memory c.grow.result c.tell-in-Grow.result _ c.tell-in-Grow.ensures.err

pub returns-in-Read-clause-stays : goal.returns-in-Read-clause-stays
returns-in-Read-clause-stays g c =
    let read = c.read_blocks.ensures in
    rw c.in-Read.is (stays_alike _ _ _ read.alike (λ same. same) (costs-plain _ _ _ read.costs.completed))

pub returns-in-Read-clause-memory : goal.returns-in-Read-clause-memory
returns-in-Read-clause-memory g c = whenever c.read_blocks.result _ (record { alike = c.read_blocks.ensures.alike; reads = c.read_blocks.ensures.few })

pub returns-in-Remount-clause-stays : goal.returns-in-Remount-clause-stays
returns-in-Remount-clause-stays g c = rw c.in-Remount.is (record { shape = c.mount_again.ensures.shape; size = tt; completed = λ none. absurd (cc) })

pub returns-in-Remount-clause-memory : goal.returns-in-Remount-clause-memory
returns-in-Remount-clause-memory g c = never_memory c.mount_again.result _ c.mount_again.ensures.no_memory

pub returns-in-Idle-clause-form : goal.returns-in-Idle-clause-form
returns-in-Idle-clause-form g c = rw c.in-Idle.is (told_form c.args.disk.now.drive.geometry.block (Idle c.in-Idle.turns) c.clean.result c.tell-in-Idle.result _ refl c.tell-in-Idle.ensures.ok)

pub returns-in-Fill-clause-form : goal.returns-in-Fill-clause-form
returns-in-Fill-clause-form g c = rw c.in-Fill.is (told_form c.args.disk.now.drive.geometry.block (Fill c.in-Fill.first c.in-Fill.blocks c.in-Fill.byte) c.fill.result c.tell.result _ refl c.tell.ensures.ok)

pub returns-in-Trim-clause-form : goal.returns-in-Trim-clause-form
returns-in-Trim-clause-form g c = rw c.in-Trim.is (told_form c.args.disk.now.drive.geometry.block (Trim c.in-Trim.first c.in-Trim.blocks) c.trim.result c.tell-in-Trim.result _ refl c.tell-in-Trim.ensures.ok)

pub returns-in-Write-clause-form : goal.returns-in-Write-clause-form
returns-in-Write-clause-form g c = rw c.in-Write.is (told_form c.args.disk.now.drive.geometry.block (Write c.in-Write.first) c.write.result c.tell-in-Write.result _ refl c.tell-in-Write.ensures.ok)

pub returns-in-Grow-clause-form : goal.returns-in-Grow-clause-form
returns-in-Grow-clause-form g c = rw c.in-Grow.is (told_form c.args.disk.now.drive.geometry.block (Grow c.in-Grow.blocks) c.grow.result c.tell-in-Grow.result _ refl c.tell-in-Grow.ensures.ok)

pub returns-in-Read-clause-form : goal.returns-in-Read-clause-form
returns-in-Read-clause-form g c = rw c.in-Read.is c.read_blocks.ensures.form

pub returns-in-Remount-clause-form : goal.returns-in-Remount-clause-form
returns-in-Remount-clause-form g c = rw c.in-Remount.is (remount_form c.args.disk.now.drive.geometry.block c.mount_again.result _ c.mount_again.ensures.form)
