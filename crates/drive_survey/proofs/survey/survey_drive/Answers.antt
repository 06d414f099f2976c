use Rattle.std.proofs.Common.{List, ℕ, length, ◌≡◌, true, false, refl, sym, ap, subst, ◌∙◌, arith}
use Rattle.zone_states.specs.declared.geometry.Geometry.{Geometry}
use Rattle.drive_port.specs.Contents.{contents}
use Rattle.drive_array.specs.Reserve.{FitsReserve}
use Rattle.drive_array.specs.Sizes.{size_or}
use Rattle.drive_survey.specs.declared.scan.ScannedZone.{ScannedZone}
use Rattle.drive_survey.specs.Scan.{ScansAll, heads_in}
use Rattle.drive_survey.specs.Survey.{AreBelow, drive_size, greatest_in}
use Rattle.drive_survey.proofs.ReadLaws.{keeps-both}
use Rattle.drive_survey.proofs.NextLaws.{if-fault}
use Rattle.drive_survey.proofs.SurveyLaws.{block-refused, known-kept, reserve-refused, scan-refused, scans-kept, size-found, sound-found}
use Rattle.drive_survey.specs.Reads.{blocks_reported}
use Rattle.drive_survey.proofs.CountLaws.{kept-count, known-count}
use Rattle.drive_survey.proofs.survey.survey_drive.Goals as goal

pub returns-in_err-scanned-clause-err : goal.returns-in_err-scanned-clause-err
returns-in_err-scanned-clause-err g c clean =
    if-fault c.from_residual-in_err-scanned.result c.in_err-scanned.field-0.0 _ c.from_residual-in_err-scanned.ensures.1
    (scan-refused (g.D.Device.drive c.args.device.now) (g.D.Device.drive c.usable_zones.new.device) (g.D.Device.drive c.scan_zones.new.device) c.args.given _ c.usable_zones.ensures.kept c.in_ok-zones.ensures.ok.0 (c.in_err-scanned.ensures.err clean))

pub returns-in_err-scanned-clause-kept : goal.returns-in_err-scanned-clause-kept
returns-in_err-scanned-clause-kept g c = keeps-both _ _ _ c.usable_zones.ensures.kept c.scan_zones.ensures.kept

pub returns-then-not-fits_reserve-clause-err : goal.returns-then-not-fits_reserve-clause-err
returns-then-not-fits_reserve-clause-err g c clean =
    let old = g.D.Device.drive c.args.device.now in
    let middle = g.D.Device.drive c.usable_zones.new.device in
    let last = g.D.Device.drive c.scan_zones.new.device in
    let scanned = c.in_ok-scanned.scanned.items in
    let scans : ScansAll old.geometry (contents old.zones) scanned = scans-kept old middle scanned c.usable_zones.ensures.kept (c.in_ok-scanned.ensures.ok clean) in
    let kept = keeps-both old middle last c.usable_zones.ensures.kept c.scan_zones.ensures.kept in
    let geometry : c.geometry.result ≡ old.geometry = c.geometry.ensures.value ∙ kept.geometry in
    let found : c.found_size-size.result ≡ size_or c.args.given (greatest_in (heads_in scanned)) = c.found_size-size.ensures ∙ ap (λ (zs : List ScannedZone). size_or c.args.given (greatest_in (heads_in zs))) c.deref-2.ensures.value in
    let size : c.found_size-size.result ≡ drive_size old c.args.given = size-found old.geometry (contents old.zones) scanned c.args.given c.found_size-size.result scans found in
    let never : FitsReserve old.geometry c.found_size-size.result → ⊥ = λ fits. let bad : false ≡ true = c.if-not-fits_reserve.ensures.1 (subst (λ (x : Geometry). FitsReserve x c.found_size-size.result) (sym geometry) fits) in absurd (cc) in
    reserve-refused old last c.args.given c.found_size-size.result scanned c.in_ok-zones.ensures.ok.0 scans size never

pub returns-then-not-fits_reserve-clause-kept : goal.returns-then-not-fits_reserve-clause-kept
returns-then-not-fits_reserve-clause-kept g c = keeps-both _ _ _ c.usable_zones.ensures.kept c.scan_zones.ensures.kept

pub returns-then-not-are_below-clause-err : goal.returns-then-not-are_below-clause-err
returns-then-not-are_below-clause-err g c clean =
    let old = g.D.Device.drive c.args.device.now in
    let middle = g.D.Device.drive c.usable_zones.new.device in
    let last = g.D.Device.drive c.scan_zones.new.device in
    let scanned = c.in_ok-scanned.scanned.items in
    let scans : ScansAll old.geometry (contents old.zones) scanned = scans-kept old middle scanned c.usable_zones.ensures.kept (c.in_ok-scanned.ensures.ok clean) in
    let kept = keeps-both old middle last c.usable_zones.ensures.kept c.scan_zones.ensures.kept in
    let geometry : c.geometry.result ≡ old.geometry = c.geometry.ensures.value ∙ kept.geometry in
    let found : c.found_size-size.result ≡ size_or c.args.given (greatest_in (heads_in scanned)) = c.found_size-size.ensures ∙ ap (λ (zs : List ScannedZone). size_or c.args.given (greatest_in (heads_in zs))) c.deref-2.ensures.value in
    let size : c.found_size-size.result ≡ drive_size old c.args.given = size-found old.geometry (contents old.zones) scanned c.args.given c.found_size-size.result scans found in
    let fits : FitsReserve old.geometry c.found_size-size.result = subst (λ (x : Geometry). FitsReserve x c.found_size-size.result) geometry (c.if-not-fits_reserve.ensures.0 refl) in
    let never : AreBelow c.found_size-size.result scanned → ⊥ = λ below. let bad : false ≡ true = c.if-not-are_below.ensures.1 (subst (λ (zs : List ScannedZone). AreBelow c.found_size-size.result zs) (sym c.deref-3.ensures.value) below) in absurd (cc) in
    block-refused old last c.args.given c.found_size-size.result scanned c.in_ok-zones.ensures.ok.0 scans size fits never

pub returns-then-not-are_below-clause-kept : goal.returns-then-not-are_below-clause-kept
returns-then-not-are_below-clause-kept g c = keeps-both _ _ _ c.usable_zones.ensures.kept c.scan_zones.ensures.kept

pub returns-clause-ok : goal.returns-clause-ok
returns-clause-ok g c clean =
    let old = g.D.Device.drive c.args.device.now in
    let middle = g.D.Device.drive c.usable_zones.new.device in
    let last = g.D.Device.drive c.scan_zones.new.device in
    let scanned = c.in_ok-scanned.scanned.items in
    let scans : ScansAll old.geometry (contents old.zones) scanned = scans-kept old middle scanned c.usable_zones.ensures.kept (c.in_ok-scanned.ensures.ok clean) in
    let kept = keeps-both old middle last c.usable_zones.ensures.kept c.scan_zones.ensures.kept in
    let geometry : c.geometry.result ≡ old.geometry = c.geometry.ensures.value ∙ kept.geometry in
    let found : c.found_size-size.result ≡ size_or c.args.given (greatest_in (heads_in scanned)) = c.found_size-size.ensures ∙ ap (λ (zs : List ScannedZone). size_or c.args.given (greatest_in (heads_in zs))) c.deref-2.ensures.value in
    let size : c.found_size-size.result ≡ drive_size old c.args.given = size-found old.geometry (contents old.zones) scanned c.args.given c.found_size-size.result scans found in
    let fits : FitsReserve old.geometry c.found_size-size.result = subst (λ (x : Geometry). FitsReserve x c.found_size-size.result) geometry (c.if-not-fits_reserve.ensures.0 refl) in
    let below : AreBelow c.found_size-size.result scanned = subst (λ (zs : List ScannedZone). AreBelow c.found_size-size.result zs) c.deref-3.ensures.value (c.if-not-are_below.ensures.0 refl) in
    record {
      can = c.in_ok-zones.ensures.ok.0;
      sound = sound-found old.geometry (contents old.zones) scanned c.args.given c.found_size-size.result scans size below;
      size_is = size;
      given_is = refl;
      reserve = subst (λ (k : ℕ). FitsReserve old.geometry k) size fits;
      zones = known-kept middle last c.in_ok-zones.zones.items c.scan_zones.ensures.kept c.in_ok-zones.ensures.ok.1;
      shut = c.in_ok-zones.ensures.ok.2;
      scans = scans;
    }

pub returns-clause-kept : goal.returns-clause-kept
returns-clause-kept g c = keeps-both _ _ _ c.usable_zones.ensures.kept c.scan_zones.ensures.kept

pub returns-in_err-scanned-clause-unsent : goal.returns-in_err-scanned-clause-unsent
returns-in_err-scanned-clause-unsent g c never = absurd (never (record { geometry = c.in_ok-zones.ensures.ok.0.geometry; reserve = c.in_ok-zones.ensures.ok.0.reserve }))

pub returns-then-not-fits_reserve-clause-unsent : goal.returns-then-not-fits_reserve-clause-unsent
returns-then-not-fits_reserve-clause-unsent g c never = absurd (never (record { geometry = c.in_ok-zones.ensures.ok.0.geometry; reserve = c.in_ok-zones.ensures.ok.0.reserve }))

pub returns-then-not-are_below-clause-unsent : goal.returns-then-not-are_below-clause-unsent
returns-then-not-are_below-clause-unsent g c never = absurd (never (record { geometry = c.in_ok-zones.ensures.ok.0.geometry; reserve = c.in_ok-zones.ensures.ok.0.reserve }))

pub returns-clause-unsent : goal.returns-clause-unsent
returns-clause-unsent g c never = absurd (never (record { geometry = c.in_ok-zones.ensures.ok.0.geometry; reserve = c.in_ok-zones.ensures.ok.0.reserve }))

pub returns-in_err-scanned-clause-completed : goal.returns-in_err-scanned-clause-completed
returns-in_err-scanned-clause-completed g c =
    let count = known-count (g.D.Device.drive c.usable_zones.new.device) c.in_ok-zones.zones.items c.in_ok-zones.ensures.ok.1 in
    let same = kept-count (g.D.Device.drive c.args.device.now) (g.D.Device.drive c.usable_zones.new.device) c.usable_zones.ensures.kept in
    let zones = ap blocks_reported c.deref.ensures.value in
    omega (arith, count, same, zones, c.usable_zones.ensures.completed, c.scan_zones.ensures.completed)

pub returns-then-not-fits_reserve-clause-completed : goal.returns-then-not-fits_reserve-clause-completed
returns-then-not-fits_reserve-clause-completed g c =
    let count = known-count (g.D.Device.drive c.usable_zones.new.device) c.in_ok-zones.zones.items c.in_ok-zones.ensures.ok.1 in
    let same = kept-count (g.D.Device.drive c.args.device.now) (g.D.Device.drive c.usable_zones.new.device) c.usable_zones.ensures.kept in
    let zones = ap blocks_reported c.deref.ensures.value in
    omega (arith, count, same, zones, c.usable_zones.ensures.completed, c.scan_zones.ensures.completed)

pub returns-then-not-are_below-clause-completed : goal.returns-then-not-are_below-clause-completed
returns-then-not-are_below-clause-completed g c =
    let count = known-count (g.D.Device.drive c.usable_zones.new.device) c.in_ok-zones.zones.items c.in_ok-zones.ensures.ok.1 in
    let same = kept-count (g.D.Device.drive c.args.device.now) (g.D.Device.drive c.usable_zones.new.device) c.usable_zones.ensures.kept in
    let zones = ap blocks_reported c.deref.ensures.value in
    omega (arith, count, same, zones, c.usable_zones.ensures.completed, c.scan_zones.ensures.completed)

pub returns-clause-completed : goal.returns-clause-completed
returns-clause-completed g c =
    let count = known-count (g.D.Device.drive c.usable_zones.new.device) c.in_ok-zones.zones.items c.in_ok-zones.ensures.ok.1 in
    let same = kept-count (g.D.Device.drive c.args.device.now) (g.D.Device.drive c.usable_zones.new.device) c.usable_zones.ensures.kept in
    let zones = ap blocks_reported c.deref.ensures.value in
    omega (arith, count, same, zones, c.usable_zones.ensures.completed, c.scan_zones.ensures.completed)

pub returns-clause-reads : goal.returns-clause-reads
returns-clause-reads g c =
    let zones = ap blocks_reported c.deref.ensures.value in
    omega (arith, zones, c.usable_zones.ensures.completed, c.in_ok-scanned.ensures.reads)

pub returns-clause-reported : goal.returns-clause-reported
returns-clause-reported g c = record {
  can = c.in_ok-zones.ensures.ok.0;
  given_is = refl;
  zones = known-kept (g.D.Device.drive c.usable_zones.new.device) (g.D.Device.drive c.scan_zones.new.device) c.in_ok-zones.zones.items c.scan_zones.ensures.kept c.in_ok-zones.ensures.ok.1;
  shut = c.in_ok-zones.ensures.ok.2;
  scanned = c.in_ok-scanned.ensures.count ∙ ap length c.deref.ensures.value;
}
