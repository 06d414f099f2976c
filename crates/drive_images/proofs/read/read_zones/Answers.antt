use Rattle.std.proofs.Common.{◌∷◌, [], refl, arith}
use Rattle.std.proofs.lemmas.List.{length-append}
use Rattle.drive_images.proofs.TellingLaws.{if_fault}
use Rattle.drive_images.proofs.ZonesLaws.{counts_next, fails_next, no_zones, within_limits, zones_next}
use Rattle.drive_images.proofs.read.read_zones.Goals as goal

pub loop-init : goal.loop-init
loop-init g c = rw c.new-zones.ensures.items (record { count = refl; read = no_zones c.args.geometry.now _; counts = c.none-counts.ensures })

pub read_zone-requires-clause-within : goal.read_zone-requires-clause-within
read_zone-requires-clause-within g c = within_limits c.args.geometry.now _ c.loop.counts c.loop.invariant.counts c.loop.invariant.read.begins

pub returns-in_err-zone-clause-err : goal.returns-in_err-zone-clause-err
returns-in_err-zone-clause-err g c =
    let at = c.loop in
    let fault = c.in_err-zone.field-0.0 in
    if_fault c.from_residual.result fault _ c.from_residual.ensures.1
    (fails_next c.args.geometry.now at.zones.items _ _ at.invariant.read at.counts fault at.invariant.counts (omega (arith, at.invariant.count)) c.in_err-zone.ensures.err)

pub loop-preserved : goal.loop-preserved
loop-preserved g c =
    let at = c.loop in
    let zone = c.in_ok-zone.zone in
    let next = c.in_ok-zone.ensures.ok in
    let old = g.R.Read.remaining c.args.reader.now in
    let mid = g.R.Read.remaining at.reader in
    let new = g.R.Read.remaining c.read_zone.new.reader in
    rw c.in_ok-push.ensures.items (record {
      count = omega (arith, at.invariant.count, length-append at.zones.items (zone ∷ []));
      read = zones_next c.args.geometry.now at.zones.items zone at.counts c.read_zone.new.counts old mid new at.invariant.counts at.invariant.read next;
      counts = counts_next c.args.geometry.now at.zones.items zone at.counts c.read_zone.new.counts old mid new at.invariant.counts next;
    })

pub returns-clause-ok : goal.returns-clause-ok
returns-clause-ok g c = c.loop.invariant.read

pub returns-clause-count : goal.returns-clause-count
returns-clause-count g c = omega (arith, c.loop.invariant.count)
