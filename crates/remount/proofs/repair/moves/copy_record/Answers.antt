use Rattle.std.proofs.Common.{◌*◌, ◌-◌, ◌++◌, ◌≡◌, [], ap, refl, sym, ◌∙◌, append-nil, length, arith}
use Rattle.zone_states.specs.declared.geometry.Geometry.{Geometry}
use Rattle.drive_survey.specs.Scan.{block_of, readable_at}
use Rattle.remount.specs.Torn.{data_count_at}
use Rattle.drive_survey.proofs.ReadLaws.{keeps-none, read-halts, read-shown}
use Rattle.remount.proofs.CallLaws.{read-kept}
use Rattle.remount.proofs.MoveBuildLaws.{no-count, no-data}
use Rattle.remount.proofs.repair.moves.copy_record.Goals as goal

pub returns-in_default : goal.returns-in_default
returns-in_default g c =
    let old = g.D.Device.drive c.args.device.now in
    let none = no-data (readable_at old c.args.zone.number) (c.args.zone.number * old.geometry.size) c.args.place c.in_default.not-At in
    record {
      bytes = λ clean known is. rw none (record { bytes = sym (append-nil c.args.next.now.batch.bytes); whole = tt });
      grown = record { got = []; joined = sym (append-nil c.args.next.now.batch.bytes); long = rw (no-count c.args.place c.in_default.not-At) (omega arith) };
      err = λ known is. tt;
      heading = refl;
      kept = λ known. keeps-none old known.lawful;
      stays = record { geometry = refl; lawful = c.geometry-geometry.ensures.lawful; trusted = λ clean. clean; unfailing = λ up. up };
    }

pub returns-then-address-start-clause-kept : goal.returns-then-address-start-clause-kept
returns-then-address-start-clause-kept g c = λ known. keeps-none _ known.lawful

pub returns-then-address-start-clause-stays : goal.returns-then-address-start-clause-stays
returns-then-address-start-clause-stays g c = record { geometry = refl; lawful = c.geometry-geometry.ensures.lawful; trusted = λ clean. clean; unfailing = λ up. up }

pub returns-then-offset-zone-clause-kept : goal.returns-then-offset-zone-clause-kept
returns-then-offset-zone-clause-kept g c = λ known. keeps-none _ known.lawful

pub returns-then-offset-zone-clause-stays : goal.returns-then-offset-zone-clause-stays
returns-then-offset-zone-clause-stays g c = record { geometry = refl; lawful = c.geometry-geometry.ensures.lawful; trusted = λ clean. clean; unfailing = λ up. up }

pub returns-in-Err-clause-err : goal.returns-in-Err-clause-err
returns-in-Err-clause-err g c = λ known is.
    let old = g.D.Device.drive c.args.device.now in
    let start : c.start_of-start.result ≡ c.args.zone.number * old.geometry.size = c.start_of-start.ensures ∙ ap (λ (x : Geometry). c.args.zone.number * x.size) c.geometry-geometry.ensures.value in
    let h = read-halts old _ c.args.zone.number (c.in-At.address - c.start_of-start.result) c.in-At.address c.args.zone.reported _ c.in-Err.fault known (omega (arith, c.if-offset-zone.false)) (omega (arith, start, c.if-address-start.false)) c.in-Err.ensures.gives c.read.ensures.kept.closing c.in-Err.ensures.obeys c.in-Err.ensures.taken in
    rw (c.fault_or_damaged.ensures h.halt) h.cause

pub returns-in-Err-clause-kept : goal.returns-in-Err-clause-kept
returns-in-Err-clause-kept g c = λ known.
    let old = g.D.Device.drive c.args.device.now in
    let start : c.start_of-start.result ≡ c.args.zone.number * old.geometry.size = c.start_of-start.ensures ∙ ap (λ (x : Geometry). c.args.zone.number * x.size) c.geometry-geometry.ensures.value in
    (read-halts old _ c.args.zone.number (c.in-At.address - c.start_of-start.result) c.in-At.address c.args.zone.reported _ c.in-Err.fault known (omega (arith, c.if-offset-zone.false)) (omega (arith, start, c.if-address-start.false)) c.in-Err.ensures.gives c.read.ensures.kept.closing c.in-Err.ensures.obeys c.in-Err.ensures.taken).kept

pub returns-in-Err-clause-stays : goal.returns-in-Err-clause-stays
returns-in-Err-clause-stays g c = record { geometry = c.in-Err.ensures.obeys.geometry; lawful = c.in-Err.ensures.obeys.lawful; trusted = c.in-Err.ensures.obeys.trusted; unfailing = c.in-Err.ensures.obeys.unfailing }

pub returns-in_err-copy-clause-kept : goal.returns-in_err-copy-clause-kept
returns-in_err-copy-clause-kept g c = λ known. read-kept _ _ c.in_default-read.ensures.obeys c.read.ensures.kept.closing c.in_default-read.ensures.shown.counts

pub returns-in_err-copy-clause-stays : goal.returns-in_err-copy-clause-stays
returns-in_err-copy-clause-stays g c = record { geometry = c.in_default-read.ensures.obeys.geometry; lawful = c.in_default-read.ensures.obeys.lawful; trusted = c.in_default-read.ensures.obeys.trusted; unfailing = c.in_default-read.ensures.obeys.unfailing }

pub returns-clause-bytes : goal.returns-clause-bytes
returns-clause-bytes g c = λ clean known is.
    let old = g.D.Device.drive c.args.device.now in
    let start : c.start_of-start.result ≡ c.args.zone.number * old.geometry.size = c.start_of-start.ensures ∙ ap (λ (x : Geometry). c.args.zone.number * x.size) c.geometry-geometry.ensures.value in
    let shown = read-shown old c.args.zone.number (c.in-At.address - c.start_of-start.result) c.in-At.address c.args.zone.reported _ known (omega (arith, c.if-offset-zone.false)) (omega (arith, start, c.if-address-start.false)) (c.in_default-read.ensures.shown.bytes clean) in
    let there = block_of old c.args.zone.number (c.in-At.address - c.start_of-start.result) in
    let here : c.deref.result.now ≡ there = c.deref.ensures.value ∙ shown in
    rw (c.in-At.is, ← start) (record {
      bytes = c.in_ok-copy.ensures.bytes ∙ ap (λ xs. c.args.next.now.batch.bytes ++ xs) (here ∙ sym (append-nil there));
      whole = (omega (arith, ap length here, ap length c.deref.ensures.value, c.in_default-read.ensures.shown.length_is), tt);
    })

pub returns-clause-grown : goal.returns-clause-grown
returns-clause-grown g c = record {
  got = c.deref.result.now;
  joined = c.in_ok-copy.ensures.bytes;
  long = omega (arith, ap (λ p. data_count_at p * (g.D.Device.drive c.args.device.now).geometry.block) c.in-At.is, ap length c.deref.ensures.value, c.in_default-read.ensures.shown.length_is);
}

pub returns-clause-kept : goal.returns-clause-kept
returns-clause-kept g c = λ known. read-kept _ _ c.in_default-read.ensures.obeys c.read.ensures.kept.closing c.in_default-read.ensures.shown.counts

pub returns-clause-stays : goal.returns-clause-stays
returns-clause-stays g c = record { geometry = c.in_default-read.ensures.obeys.geometry; lawful = c.in_default-read.ensures.obeys.lawful; trusted = c.in_default-read.ensures.obeys.trusted; unfailing = c.in_default-read.ensures.obeys.unfailing }
