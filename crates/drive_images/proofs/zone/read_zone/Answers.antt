use Rattle.std.proofs.Common.{◌≡◌, ◌*◌, ◌++◌, refl, sym, rules}
use Rattle.std.specs.Prelude.{length}
use Rattle.std.specs.Io.KnownBytes.{Consumes}
use Rattle.drive_images.specs.Image.{zone_head_bytes}
use Rattle.std.proofs.KnownBytes.{Consumes-trans}
use Rattle.drive_images.specs.Reading.{TellsFirst, zone_fault}
use Rattle.drive_images.specs.declared.fault.ImageFault.TheVariants.{Limits, Written}
use Rattle.drive_images.proofs.TellingLaws.{after_any, after_front, if_fault}
use Rattle.drive_images.proofs.ZoneLaws.{is-lawful, is-whole, over_limit, tells_bad_head, tells_short_zone, too_many, zone_bytes-is}
use Rattle.zone_drive.proofs.ZonesLaws.{block-some}
use Rattle.drive_images.proofs.zone.read_zone.Goals as goal

pub returns-in_err-head-clause-err : goal.returns-in_err-head-clause-err
returns-in_err-head-clause-err g c =
    let fault = c.in_err-head.field-0.0 in
    if_fault c.from_residual-in_err-head.result fault _ c.from_residual-in_err-head.ensures.1
    (after_any _ _ c.fill.new.buffer (λ bytes. TellsFirst (zone_fault c.args.geometry.now c.args.counts.now bytes) fault) c.in_ok-fill.ensures.ok
    (λ rest. tells_bad_head c.args.geometry.now c.args.counts.now c.fill.new.buffer rest fault (search rules) c.in_err-head.ensures.err))

pub returns-then-not-may_hold-clause-err : goal.returns-then-not-may_hold-clause-err
returns-then-not-may_hold-clause-err g c =
    let head = c.in_ok-head in
    after_any _ _ c.fill.new.buffer (λ bytes. TellsFirst (zone_fault c.args.geometry.now c.args.counts.now bytes) Written) c.in_ok-fill.ensures.ok
    (λ rest. too_many c.args.geometry.now c.args.counts.now c.fill.new.buffer head.head (search rules) head.ensures.told rest (sym c.if-not-may_hold.ensures))

pub returns-in_default-clause-err : goal.returns-in_default-clause-err
returns-in_default-clause-err g c =
    let head = c.in_ok-head in
    after_any _ _ c.fill.new.buffer (λ bytes. TellsFirst (zone_fault c.args.geometry.now c.args.counts.now bytes) Limits) c.in_ok-fill.ensures.ok
    (λ rest. over_limit c.args.geometry.now c.args.counts.now c.fill.new.buffer head.head (search rules) head.ensures.told (sym c.if-not-may_hold.ensures) rest (sym c.in_default.ensures.none))

pub returns-in_err-written-clause-err : goal.returns-in_err-written-clause-err
returns-in_err-written-clause-err g c =
    let head = c.in_ok-head in
    let fault = c.in_err-written.field-0.0 in
    let within = sym c.in-Some.ensures.none in
    if_fault c.from_residual-in_err-written.result fault _ c.from_residual-in_err-written.ensures.1
    (after_front _ _ c.fill.new.buffer _ (λ bytes. TellsFirst (zone_fault c.args.geometry.now c.args.counts.now bytes) fault) c.in_ok-fill.ensures.ok
    (λ rest t. tells_short_zone c.args.geometry.now c.args.counts.now c.fill.new.buffer head.head (search rules) head.ensures.told (sym c.if-not-may_hold.ensures) rest fault within t) c.in_err-written.ensures.err)

pub returns-clause-ok : goal.returns-clause-ok
returns-clause-ok g c =
    let head = c.in_ok-head.head in
    let bytes = c.in_ok-written.written.items in
    let some = block-some c.args.geometry.now c.requires.in_range in
    let long : length bytes ≡ head.written * c.args.geometry.now.block = c.in_ok-written.ensures.count in
    let made = zone_bytes-is c.args.geometry.now.block head.written bytes some long head.state in
    let read : Consumes _ _ (zone_head_bytes head.state head.written ++ bytes) = Consumes-trans _ _ _ _ bytes (rw c.in_ok-head.ensures.ok at c.in_ok-fill.ensures.ok) c.in_ok-written.ensures.ok in
    let within = sym c.in-Some.ensures.none in
    rw c.from_parts.ensures (record {
      text = rw made read;
      whole = is-whole c.args.geometry.now.block head.written bytes some long;
      lawful = is-lawful c.args.geometry.now.block head.written bytes some long c.args.geometry.now head.state refl (sym c.if-not-may_hold.ensures);
      counts = c.in-Some.ensures.some;
      within = rw c.in-Some.ensures.some within;
    })
