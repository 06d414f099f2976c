use Rattle.std.proofs.Common.{rules}
use Rattle.drive_images.specs.Reading.{FailsInZone, IsFrontFault}
use Rattle.drive_images.proofs.ImageLaws.{bad_head, fails_after_head, front_read}
use Rattle.drive_images.proofs.TellingLaws.{after_any, after_front, if_fault}
use Rattle.drive_images.proofs.read.read_image_front.Goals as goal

pub returns-in_err-geometry-clause-err : goal.returns-in_err-geometry-clause-err
returns-in_err-geometry-clause-err g c =
    let fault = c.in_err-geometry.field-0.0 in
    if_fault c.from_residual-in_err-geometry.result fault _ c.from_residual-in_err-geometry.ensures.1
    (after_any _ _ c.fill.new.buffer (λ bytes. IsFrontFault bytes fault) c.in_ok-fill.ensures.ok
    (λ rest. bad_head c.fill.new.buffer (search rules) rest fault c.in_err-geometry.ensures.err))

pub returns-in_err-zones-clause-err : goal.returns-in_err-zones-clause-err
returns-in_err-zones-clause-err g c =
    let head = c.fill.new.buffer in
    let geometry = c.in_ok-geometry.geometry in
    let fault = c.in_err-zones.field-0.0 in
    if_fault c.from_residual-in_err-zones.result fault _ c.from_residual-in_err-zones.ensures.1
    (after_front _ _ head (λ rest. FailsInZone geometry rest fault) (λ bytes. IsFrontFault bytes fault) c.in_ok-fill.ensures.ok
    (λ rest fails. fails_after_head geometry head rest fault c.in_ok-geometry.ensures.in_range c.in_ok-geometry.ensures.ok fails) c.in_err-zones.ensures.err)

pub returns-clause-ok : goal.returns-clause-ok
returns-clause-ok g c =
    front_read c.in_ok-geometry.geometry c.in_ok-zones.zones.items _ _ _ c.fill.new.buffer c.in_ok-geometry.ensures.in_range c.in_ok-geometry.ensures.ok c.in_ok-fill.ensures.ok c.in_ok-zones.ensures.ok c.in_ok-zones.ensures.count
