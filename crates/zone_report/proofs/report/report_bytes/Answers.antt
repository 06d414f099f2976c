use Rattle.std.proofs.Common.{rules, ◌≡◌, ◌∙◌, ◌-◌, ◌+◌, ◌++◌, ◌*◌, ◌/◌, ℕ, length, drop, take, replicate, min, ap, arith}
use Rattle.std.specs.List.{flat_map}
use Rattle.nvme_wire.specs.Descriptor.{descriptor_bytes}
use Rattle.zone_report.specs.Report.{matching, descriptor_room}
use Rattle.zone_report.proofs.ReportLaws.{length-listed, report-written}
use Rattle.zone_report.proofs.report.report_bytes.Goals as goal

pub finish-requires : goal.finish-requires
finish-requires g c =
    let first = c.zone_of-first.result in
    let room = (c.in-Some.length - 64) / 64 in
    let whole = matching c.args.geometry c.args.options first (drop first (g.Z.ReportedZones.zones c.args.zones.now)) in
    let zeros : c.extend_from_slice.new.self.items ≡ replicate 64 0 = c.in_ok-extend_from_slice.ensures.items ∙ ap (λ front. front ++ replicate {A = ℕ} 64 0) c.in_ok-bytes.ensures.items in
    let listed : c.write_descriptors.new.bytes.items ≡ replicate 64 0 ++ flat_map descriptor_bytes (take room whole) = c.in_ok-named.ensures.ok ∙ ap (λ front. front ++ flat_map descriptor_bytes (take room whole)) zeros in
    let long : length c.write_descriptors.new.bytes.items ≡ 64 + 64 * min room (length whole) = ap length listed ∙ length-listed room whole in
    let size_is : c.in-Some.length ≡ 4 * c.args.dwords = omega (arith, c.in-Some.ensures) in
    (omega (arith, long), omega (arith, long, size_is))

pub returns-clause-ok : goal.returns-clause-ok
returns-clause-ok g c =
    let first = c.args.start / c.args.geometry.size in
    let room = (c.in-Some.length - 64) / 64 in
    let whole = matching c.args.geometry c.args.options first (drop first (g.Z.ReportedZones.zones c.args.zones.now)) in
    let zeros : c.extend_from_slice.new.self.items ≡ replicate 64 0 = c.in_ok-extend_from_slice.ensures.items ∙ ap (λ front. front ++ replicate {A = ℕ} 64 0) c.in_ok-bytes.ensures.items in
    let listed : c.write_descriptors.new.bytes.items ≡ replicate 64 0 ++ flat_map descriptor_bytes (take room whole) = rw (c.zone_of-first.ensures.value, zeros) at c.in_ok-named.ensures.ok in
    let size_is : c.in-Some.length ≡ 4 * c.args.dwords = omega (arith, c.in-Some.ensures) in
    let room_is : room ≡ descriptor_room c.args.dwords = ap (λ n. (n - 64) / 64) size_is in
    (search rules, report-written c.args.geometry (g.Z.ReportedZones.zones c.args.zones.now) c.args.start c.args.options c.args.partial c.args.dwords c.in-Some.length _ c.in_ok-named.named c.counted.result c.write_descriptors.new.bytes.items _ size_is room_is (rw c.zone_of-first.ensures.value at c.in_ok-named.ensures.count) listed c.counted.ensures c.in_ok-finish.ensures.ok)
