use Rattle.std.proofs.Common.{rules, ◌≡◌, ◌<◌, ◌∙◌, ◌++◌, true, false, length, arith, ap}
use Rattle.std.specs.Prelude.{ℕ, Vec}
use Rattle.std.specs.declared.alloc.Global.{Global}
use Rattle.nvme_wire.specs.Descriptor.{descriptor_bytes}
use Rattle.zone_report.specs.Report.{is_chosen, descriptor_of}
use Rattle.zone_report.proofs.Listing.{Continues-written, Continues-counted}
use Rattle.zone_report.proofs.MatchingLaws.{matching-skips, matching-takes}
use Rattle.zone_report.proofs.report.write_descriptors.Goals as goal
use Rattle.zone_report.proofs.report.write_descriptors.Goals.{then-named-room+in_ok-extend_from_slice, else-named-room}

pub loop-number-preserved-then-not-is_chosen : goal.loop-number-preserved-then-not-is_chosen
loop-number-preserved-then-not-is_chosen g c =
    let lt : c.loop-number.number < length (g.Z.ReportedZones.zones c.args.zones.now) = omega arith in
    let chosen : is_chosen c.args.options c.status-zone.result.state ≡ false = search rules in
    let same = matching-skips c.args.geometry c.args.options _ _ c.status-zone.result lt c.status-zone.ensures chosen in
    (omega arith, rw same at c.loop-number.invariant.1)

pub loop-number-preserved : goal.loop-number-preserved
loop-number-preserved g c =
    let lt : c.loop-number.number < length (g.Z.ReportedZones.zones c.args.zones.now) = omega arith in
    let chosen : is_chosen c.args.options c.status-zone.result.state ≡ true = search rules in
    let takes = matching-takes c.args.geometry c.args.options _ _ c.status-zone.result lt c.status-zone.ensures chosen in
    let so_far = rw takes at c.loop-number.invariant.1 in (
      omega arith,
      elim c.if-named-room.branch [
        | then-named-room+in_ok-extend_from_slice w ↦
            let items : c.if-named-room.bytes.items ≡ c.loop-number.bytes.items ++ descriptor_bytes (descriptor_of c.args.geometry c.loop-number.number c.status-zone.result) = ap (λ (v : Vec ℕ Global). v.items) w.bytes-is ∙ w.in_ok-extend_from_slice.ensures.items ∙ ap (λ bs. c.loop-number.bytes.items ++ bs) (w.encode.ensures ∙ ap descriptor_bytes w.descriptor_of.ensures) in
            rw items (Continues-written _ _ _ _ _ _ _ w.if-named-room.true so_far)
        | else-named-room w ↦ rw w.bytes-is (Continues-counted _ _ _ _ _ _ _ w.if-named-room.false so_far)
      ],
    )
