use Rattle.std.proofs.Common.{List, sym, ap, subst, ◌∙◌}
use Rattle.zone_states.specs.Geometry.{IsInRange}
use Rattle.drive_array.specs.Reserve.{most_size}
use Rattle.drive_survey.specs.declared.scan.ScannedZone.{ScannedZone}
use Rattle.drive_survey.specs.Scan.{heads_in}
use Rattle.drive_survey.specs.Survey.{greatest_in}
use Rattle.job_drives.proofs.HeaderLaws.{said-found}
use Rattle.job_drives.proofs.headers.look.Goals as goal

pub returns-clause-ok : goal.returns-clause-ok
returns-clause-ok g c clean =
    said-found (g.D.Device.drive c.args.device.now) (g.D.Device.drive c.survey_drive.new.device) c.args.given c.in_ok-survey.survey
    (record { size = c.greatest_size.result; is_unwritten = c.have_no_batch.result; most = c.most_blocks.result }) c.survey_drive.ensures.kept (c.in_ok-survey.ensures.ok clean)
    (c.greatest_size.ensures ∙ ap (λ (zs : List ScannedZone). greatest_in (heads_in zs)) c.deref.ensures.value) (rw c.deref-2.ensures.value at c.have_no_batch.ensures)
    (c.most_blocks.ensures.is ∙ ap most_size c.geometry.ensures.value)

pub most_blocks-requires : goal.most_blocks-requires
most_blocks-requires g c = subst IsInRange (sym (c.geometry.ensures.value ∙ c.survey_drive.ensures.kept.geometry)) c.in_ok-survey.ensures.reported.can.geometry

pub returns-clause-most : goal.returns-clause-most
returns-clause-most g c = c.most_blocks.ensures.is ∙ ap most_size (c.geometry.ensures.value ∙ c.survey_drive.ensures.kept.geometry)
