use Rattle.std.proofs.Common.{arith}
use Rattle.drive_survey.specs.Scan.{heads_in}
use Rattle.remount.proofs.ListingLaws.{zones-all, zones-more, zones-none}
use Rattle.remount.proofs.tables.batches.list_all.Goals as goal

pub loop-zone-init : goal.loop-zone-init
loop-zone-init c = zones-none (heads_in c.args.scanned.now) _ c.new-batches.ensures.items

pub returns-in_default : goal.returns-in_default
returns-in_default c few = zones-all c.args.scanned.now c.loop-zone.batches.items c.loop-zone.zone c.in_default.ensures.lookup.3 c.loop-zone.invariant

pub loop-zone-preserved : goal.loop-zone-preserved
loop-zone-preserved c =
    zones-more c.args.scanned.now c.loop-zone.zone _ c.in-Some.found.now c.loop-zone.batches.items c.list_zone.new.batches.items c.in-Some.ensures.lookup.3.0 c.in-Some.ensures.lookup.1 (omega arith) c.in_ok-list_zone.ensures c.loop-zone.invariant

pub returns : goal.returns
returns c few = zones-all c.args.scanned.now c.loop-zone.batches.items c.loop-zone.zone (omega (arith, few, c.loop-zone-test.false)) c.loop-zone.invariant
