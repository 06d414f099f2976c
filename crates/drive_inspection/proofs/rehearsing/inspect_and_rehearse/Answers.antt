use Rattle.std.proofs.Common.{IsTrue, ap, refl, subst, arith}
use Rattle.std.specs.Prelude.{IfErr, IfOk}
use Rattle.drive_port.specs.Drive.{DriveState}
use Rattle.drive_survey.specs.Scan.{FailsBy}
use Rattle.remount.specs.Kept.{Stays}
use Rattle.remount.specs.Mount.{MountFails}
use Rattle.drive_counter.specs.Counting.{commands_of, tallied}
use Rattle.drive_inspection.specs.Info.{Rehearses}
use Rattle.drive_inspection.proofs.InspectLaws.{keeps-uncounted, rehearsed-so}
use Rattle.drive_inspection.proofs.rehearsing.inspect_and_rehearse.Goals as goal

pub returns-in_default-clause-ok : goal.returns-in_default-clause-ok
returns-in_default-clause-ok g c clean =
    let looked = g.D.Device.drive c.inspect_drive.new.device in
    let seen : DriveState = record looked { completed = 0 } in
    let last = tallied c.rehearse_mount-mounted.new.device in
    let same = ap tallied c.new-tally.ensures in
    let n = c.args.given in
    let mounted = c.rehearse_mount-mounted.result in
    let now : IsTrue last.clean = subst (λ (d : DriveState). IsTrue d.clean) c.into_inner-device.ensures clean in
    let was : IsTrue looked.clean = (subst (λ (d : DriveState). Stays d last) same c.rehearse_mount-mounted.ensures.stays).trusted now in
    record {
      looked = looked;
      info = c.in-Ok.ensures.ok was;
      seen = seen;
      uncounted = refl;
      keeps = keeps-uncounted (g.D.Device.drive c.args.device) looked c.inspect_drive.ensures.kept;
      last = last;
      mounted = rehearsed-so seen last n mounted
          (subst (λ (d : DriveState). IfOk mounted (Rehearses d last n)) same (c.rehearse_mount-mounted.ensures.ok now))
          (subst (λ (d : DriveState). IfErr mounted (FailsBy (MountFails d n) last)) same (c.rehearse_mount-mounted.ensures.err now));
      counted = let same_counts = ap commands_of c.counts-counts.ensures in omega (arith, same_counts);
    }
