use Rattle.drive_survey.proofs.ReadLaws.{keeps-both}
use Rattle.drive_inspection.proofs.CheckLaws.{all-before, by-report-before}
use Rattle.drive_inspection.proofs.FaultLaws.{end-tells}
use Rattle.drive_inspection.proofs.InspectLaws.{found-so, reported-before}
use Rattle.drive_inspection.proofs.inspecting.inspect_drive.Goals as goal

pub returns-in_err-zones-clause-kept : goal.returns-in_err-zones-clause-kept
returns-in_err-zones-clause-kept g c = keeps-both _ _ _ c.find_info-looked.ensures.kept c.zones_reported.ensures.kept

pub returns-in_err-faults-clause-kept : goal.returns-in_err-faults-clause-kept
returns-in_err-faults-clause-kept g c = keeps-both _ _ _ c.find_info-looked.ensures.kept (keeps-both _ _ _ c.zones_reported.ensures.kept c.faults_of.ensures.kept)

pub returns-clause-ok : goal.returns-clause-ok
returns-clause-ok g c clean =
    let old = g.D.Device.drive c.args.device.now in
    let middle = g.D.Device.drive c.find_info-looked.new.device in
    let third = g.D.Device.drive c.zones_reported.new.device in
    let last = g.D.Device.drive c.faults_of.new.device in
    let then = c.faults_of.ensures.kept.trusted clean in
    let was = c.zones_reported.ensures.kept.trusted then in
    let before = keeps-both old middle third c.find_info-looked.ensures.kept c.zones_reported.ensures.kept in
    record {
      report = record {
        geometry_is = c.geometry-geometry.ensures.value;
        reported = reported-before old middle c.in_ok-zones.zones.items c.find_info-looked.ensures.kept c.in_ok-zones.ensures.ok;
        tells = c.in_ok-found.ensures.ok.1;
        refusal = c.in_ok-faults.ensures.refusal;
        faults = by-report-before old third c.in_ok-faults.faults before c.in_ok-faults.ensures.reported;
      };
      found = found-so old middle last c.args.given c.find_info-looked.result c.in_ok-found.found (c.find_info-looked.ensures.ok was) (c.find_info-looked.ensures.err was) c.in_ok-found.ensures.ok.0 c.in_ok-found.ensures.ok.1
          c.find_info-looked.ensures.kept (keeps-both _ _ _ c.zones_reported.ensures.kept c.faults_of.ensures.kept);
      faults = all-before old third last c.args.given c.in_ok-faults.faults before (c.in_ok-faults.ensures.ok clean);
    }

pub returns-clause-reported : goal.returns-clause-reported
returns-clause-reported g c =
    let old = g.D.Device.drive c.args.device.now in
    let middle = g.D.Device.drive c.find_info-looked.new.device in
    let third = g.D.Device.drive c.zones_reported.new.device in
    record {
      geometry_is = c.geometry-geometry.ensures.value;
      reported = reported-before old middle c.in_ok-zones.zones.items c.find_info-looked.ensures.kept c.in_ok-zones.ensures.ok;
      tells = c.in_ok-found.ensures.ok.1;
      refusal = c.in_ok-faults.ensures.refusal;
      faults = by-report-before old third c.in_ok-faults.faults (keeps-both old middle third c.find_info-looked.ensures.kept c.zones_reported.ensures.kept) c.in_ok-faults.ensures.reported;
    }

pub returns-clause-kept : goal.returns-clause-kept
returns-clause-kept g c = keeps-both _ _ _ c.find_info-looked.ensures.kept (keeps-both _ _ _ c.zones_reported.ensures.kept c.faults_of.ensures.kept)
