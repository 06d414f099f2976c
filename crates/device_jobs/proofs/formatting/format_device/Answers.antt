use Rattle.std.proofs.lemmas.Result.{IfErr-weaker}
use Rattle.device_jobs.specs.Formats.{HasFormatCause, IsUnformatted, IsUnsaid}
use Rattle.device_jobs.proofs.FormatFaultLaws.{unsaid-cause, unsaid-so}
use Rattle.device_jobs.proofs.formatting.format_device.Goals as goal

pub returns-clause-err : goal.returns-clause-err
returns-clause-err g c =
    let old = g.D.Device.drive c.args.device.now in
    let new = g.D.Device.drive c.empty_usable.new.device in
    IfErr-weaker c.say_ok.result IsUnsaid (IsUnformatted c.args.force old new) (unsaid-so c.args.force old new c.in_ok-empty_usable.ensures.ok) c.say_ok.ensures.err

pub returns-clause-cause : goal.returns-clause-cause
returns-clause-cause g c clean =
    let old = g.D.Device.drive c.args.device.now in
    let new = g.D.Device.drive c.empty_usable.new.device in
    IfErr-weaker c.say_ok.result IsUnsaid (HasFormatCause old new) (unsaid-cause old new) c.say_ok.ensures.err
