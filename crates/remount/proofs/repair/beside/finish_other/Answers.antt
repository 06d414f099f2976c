use Rattle.std.proofs.Common.{arith, refl, sym, ◌∙◌}
use Rattle.std.proofs.lemmas.Option.{slice_get_read}
use Rattle.drive_port.specs.Contents.{Finishes, content_at, contents}
use Rattle.remount.proofs.KeepLaws.{CanFinishZone, finish-keeps, keeps-mountable-none}
use Rattle.remount.proofs.EmptyLaws.{stays-none}
use Rattle.remount.proofs.FinishLaws.{fits-finished}
use Rattle.remount.proofs.CallLaws.{active-usage, active-whole, active-writable, finished-zone, on-ok, reported-active, settles-finished, settles-same}
use Rattle.remount.proofs.NotedLaws.{finish-notes}
use Rattle.remount.proofs.repair.beside.finish_other.Goals as goal

pub returns-then-zone-torn-clause-fits : goal.returns-then-zone-torn-clause-fits
returns-then-zone-torn-clause-fits g c = record { fits = c.requires.fits; count = refl }

pub returns-then-zone-torn-clause-kept : goal.returns-then-zone-torn-clause-kept
returns-then-zone-torn-clause-kept g c = λ clean n. keeps-mountable-none n _ c.requires.fits.zones.lawful

pub returns-then-zone-torn-clause-stays : goal.returns-then-zone-torn-clause-stays
returns-then-zone-torn-clause-stays g c = stays-none _ c.requires.fits.zones.lawful

pub returns-then-not-is_active-clause-fits : goal.returns-then-not-is_active-clause-fits
returns-then-not-is_active-clause-fits g c = record { fits = c.requires.fits; count = refl }

pub returns-then-not-is_active-clause-kept : goal.returns-then-not-is_active-clause-kept
returns-then-not-is_active-clause-kept g c = λ clean n. keeps-mountable-none n _ c.requires.fits.zones.lawful

pub returns-then-not-is_active-clause-stays : goal.returns-then-not-is_active-clause-stays
returns-then-not-is_active-clause-stays g c = stays-none _ c.requires.fits.zones.lawful

pub returns-then-not-is_active-clause-ok : goal.returns-then-not-is_active-clause-ok
returns-then-not-is_active-clause-ok g c = λ clean.
    let old = g.D.Device.drive c.args.device.now in
    let r = c.index.result.now in
    let there = slice_get_read c.args.survey.now.zones.items _ c.args.zone r refl c.requires.in_range c.index.ensures in
    λ n known. settles-same n old c.args.survey.now c.args.torn c.args.zone known (λ ne. reported-active old c.args.survey.now.zones.items c.args.zone r known.zones there ∙ sym (active-usage r.state) ∙ sym c.is_active.ensures ∙ c.if-not-is_active.true)

pub returns-clause-fits : goal.returns-clause-fits
returns-clause-fits g c =
    on-ok c.finish_zone.result
    (λ one. fits-finished (g.D.Device.drive c.args.device.now) (g.D.Device.drive c.finish_zone.new.device) c.args.survey.now c.finish_zone.new.survey c.args.zone c.requires.fits one) (c.finish_zone.ensures.ok c.requires.fits.zones)

pub returns-clause-ok : goal.returns-clause-ok
returns-clause-ok g c = λ clean.
    let old = g.D.Device.drive c.args.device.now in
    let was = c.finish_zone.ensures.stays.trusted clean in
    let r = c.index.result.now in
    let there = slice_get_read c.args.survey.now.zones.items _ c.args.zone r refl c.requires.in_range c.index.ensures in
    let active = reported-active old c.args.survey.now.zones.items c.args.zone r c.requires.fits.zones there ∙ sym (active-usage r.state) ∙ sym c.is_active.ensures ∙ c.if-not-is_active.false in
    let whole = active-whole old c.args.survey.now.zones.items c.args.torn c.args.zone c.requires.fits.zones (c.requires.vacant was) (c.requires.torn was) c.if-zone-torn.false (omega (arith, c.requires.in_range, c.requires.fits.zones.count)) active in
    on-ok c.finish_zone.result
    (λ one n known. settles-finished n old (g.D.Device.drive c.finish_zone.new.device) c.args.survey.now c.finish_zone.new.survey c.args.torn c.args.zone known
    (finished-zone n old (g.D.Device.drive c.finish_zone.new.device) c.args.survey.now c.finish_zone.new.survey c.args.zone known active whole one)) (c.finish_zone.ensures.ok c.requires.fits.zones)

pub returns-clause-kept : goal.returns-clause-kept
returns-clause-kept g c = λ clean.
    let old = g.D.Device.drive c.args.device.now in
    let was = c.finish_zone.ensures.stays.trusted clean in
    let r = c.index.result.now in
    let there = slice_get_read c.args.survey.now.zones.items _ c.args.zone r refl c.requires.in_range c.index.ensures in
    let active = reported-active old c.args.survey.now.zones.items c.args.zone r c.requires.fits.zones there ∙ sym (active-usage r.state) ∙ sym c.is_active.ensures ∙ c.if-not-is_active.false in
    let whole = active-whole old c.args.survey.now.zones.items c.args.torn c.args.zone c.requires.fits.zones (c.requires.vacant was) (c.requires.torn was) c.if-zone-torn.false (omega (arith, c.requires.in_range, c.requires.fits.zones.count)) active in
    let can : CanFinishZone old c.args.zone = record { small = c.requires.fits.zones.lawful.geometry.block; writable = (active-writable (content_at (contents old.zones) c.args.zone) active).0; whole = whole } in
    λ n. finish-keeps n old (g.D.Device.drive c.finish_zone.new.device) c.args.zone (λ a b. Finishes a b c.args.zone) (λ a b changes. (changes, can)) (c.finish_zone.ensures.kept c.requires.fits.zones)

pub returns-clause-noted : goal.returns-clause-noted
returns-clause-noted g c =
    on-ok c.finish_zone.result
    (λ one. finish-notes (g.D.Device.drive c.args.device.now) (g.D.Device.drive c.finish_zone.new.device) c.args.survey.now c.finish_zone.new.survey c.args.zone one) (c.finish_zone.ensures.ok c.requires.fits.zones)

pub returns-clause-stays : goal.returns-clause-stays
returns-clause-stays g c = c.finish_zone.ensures.stays

pub returns-clause-err : goal.returns-clause-err
returns-clause-err g c = c.finish_zone.ensures.err c.requires.fits.zones
