use Rattle.drive_images.specs.Reading.{IsFrontFault, IsImageFault}
use Rattle.drive_images.proofs.ImageLaws.{front_fault, image_followed, image_read}
use Rattle.drive_images.proofs.TellingLaws.{if_fault, some_so}
use Rattle.drive_images.proofs.read.read_image.Goals as goal

pub returns-in_err-saved-clause-err : goal.returns-in_err-saved-clause-err
returns-in_err-saved-clause-err g c =
    let fault = c.in_err-saved.field-0.0 in
    if_fault c.from_residual.result fault _ c.from_residual.ensures.1
    (some_so _ (λ bytes. IsFrontFault bytes fault) (λ bytes. IsImageFault bytes fault) (λ bytes. front_fault bytes fault) c.in_err-saved.ensures.err)

pub returns-in_err-expect_end-clause-err : goal.returns-in_err-expect_end-clause-err
returns-in_err-expect_end-clause-err g c =
    let saved = c.in_ok-saved.saved in
    let fault = c.in_err-expect_end.field-0.0 in
    if_fault c.from_residual-in_err-expect_end.result fault _ c.from_residual-in_err-expect_end.ensures.1
    (image_followed saved.geometry saved.zones.items _ _ c.in_ok-saved.ensures.ok fault c.in_err-expect_end.ensures.err)

pub returns-clause-ok : goal.returns-clause-ok
returns-clause-ok g c =
    let saved = c.in_ok-saved.saved in
    rw c.in-Ok.ensures.ok (image_read saved.geometry saved.zones.items _ _ c.in_ok-saved.ensures.ok c.in_ok-expect_end.ensures.ok)
