use Rattle.std.proofs.Common.{List, drop, length, arith, ap, ◌∙◌}
use Rattle.std.proofs.lemmas.List.{take_at}
use Rattle.zone_states.specs.Stored.{StoredZone}
use Rattle.zone_drive.specs.Stored.{zones_of}
use Rattle.drive_journal.proofs.FileLaws.{file-read, handed-on, image-told, journal-fault, no-drive-read}
use Rattle.drive_journal.proofs.file.open_drive.Goals as goal

pub returns-in_err-end-clause-err : goal.returns-in_err-end-clause-err
returns-in_err-end-clause-err g c =
    let saved = c.in_ok-saved.saved in
    let fault = c.in_err-end.field-0.0 in
    let from_is = rw c.deref.ensures.value at c.image_length-from.ensures in
    handed-on c.from_residual-in_err-end.result fault _ c.from_residual-in_err-end.ensures.1
    (journal-fault saved.geometry saved.zones.items _ (g.R.Read.remaining c.read_image_front.new.reader) fault c.in_ok-saved.ensures.ok (rw from_is at c.in_err-end.ensures.err))

pub returns-in_err-drive-clause-err : goal.returns-in_err-drive-clause-err
returns-in_err-drive-clause-err g c =
    let saved = c.in_ok-saved.saved in
    let fault = c.in_err-drive.field-0.0 in
    let from_is = rw c.deref.ensures.value at c.image_length-from.ensures in
    let replays = rw (from_is, c.deref_mut.ensures.value) at c.in_ok-end.ensures.ok in
    let after = take_at c.replay.new.zones (drop (length c.replay.new.zones) saved.zones.items) saved.zones.len (omega (arith, c.replay.auto.zones, c.deref_mut.ensures.len)) in
    let last = take_at c.settle.new.zones (drop (length c.settle.new.zones) c.replay.new.zones) saved.zones.len (omega (arith, c.settle.auto.zones, c.deref_mut-2.ensures.len)) in
    handed-on c.from_residual-in_err-drive.result fault _ c.from_residual-in_err-drive.ensures.1
    (rw c.in_err-drive.ensures.err (no-drive-read saved.geometry saved.zones.items _ (g.R.Read.remaining c.read_image_front.new.reader) c.in_ok-saved.ensures.ok c.in_ok-end.end _ replays _
    (rw after (ap (λ (zs : List StoredZone). zones_of saved.geometry.block zs) last ∙ (rw (c.deref_mut-2.ensures.value, after, from_is) at c.settle.ensures.zones))) c.in_err-drive.ensures.none))

pub returns-clause-ok : goal.returns-clause-ok
returns-clause-ok g c =
    let saved = c.in_ok-saved.saved in
    let from_is = rw c.deref.ensures.value at c.image_length-from.ensures in
    let replays = rw (from_is, c.deref_mut.ensures.value) at c.in_ok-end.ensures.ok in
    let after = take_at c.replay.new.zones (drop (length c.replay.new.zones) saved.zones.items) saved.zones.len (omega (arith, c.replay.auto.zones, c.deref_mut.ensures.len)) in
    let last = take_at c.settle.new.zones (drop (length c.settle.new.zones) c.replay.new.zones) saved.zones.len (omega (arith, c.settle.auto.zones, c.deref_mut-2.ensures.len)) in
    file-read saved.geometry saved.zones.items _ (g.R.Read.remaining c.read_image_front.new.reader) c.in_ok-saved.ensures.ok c.in_ok-end.end _ replays _ c.in_ok-drive.drive.state
    (rw after (ap (λ (zs : List StoredZone). zones_of saved.geometry.block zs) last ∙ (rw (c.deref_mut-2.ensures.value, after, from_is) at c.settle.ensures.zones))) c.in_ok-drive.ensures.ok

pub returns-clause-image : goal.returns-clause-image
returns-clause-image g c =
    let saved = c.in_ok-saved.saved in
    let from_is = rw c.deref.ensures.value at c.image_length-from.ensures in
    let replays = rw (from_is, c.deref_mut.ensures.value) at c.in_ok-end.ensures.ok in
    let after = take_at c.replay.new.zones (drop (length c.replay.new.zones) saved.zones.items) saved.zones.len (omega (arith, c.replay.auto.zones, c.deref_mut.ensures.len)) in
    let last = take_at c.settle.new.zones (drop (length c.settle.new.zones) c.replay.new.zones) saved.zones.len (omega (arith, c.settle.auto.zones, c.deref_mut-2.ensures.len)) in
    rw (c.is_rested_image-is_image.ensures, from_is)
    (image-told saved.geometry saved.zones.items _ (g.R.Read.remaining c.read_image_front.new.reader) c.in_ok-saved.ensures.ok c.in_ok-end.end _ replays c.deref-2.result.now c.in_ok-drive.drive.state
    (rw (c.deref-2.ensures.value, after) (ap (λ (zs : List StoredZone). zones_of saved.geometry.block zs) last ∙ (rw (c.deref_mut-2.ensures.value, after, from_is) at c.settle.ensures.zones))) (rw c.deref-2.ensures.value c.in_ok-drive.ensures.ok))
