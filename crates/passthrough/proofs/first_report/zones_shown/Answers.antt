use Rattle.std.proofs.Common.{rules, ◌≡◌, ◌*◌, ◌+◌, length, arith}
use Rattle.std.proofs.Math.Seq.{take-append_seam}
use Rattle.passthrough.proofs.FirstLaws.{rows-seen}
use Rattle.passthrough.proofs.first_report.zones_shown.Goals as goal

pub returns-clause-seen : goal.returns-clause-seen
returns-clause-seen c = λ zones lawful shows.
    let long : length c.args.report.now ≡ 64 + 64 * c.args.geometry.zones = omega (arith, c.if-report-from.false, c.from.ensures) in
    let count : length c.see_zones.new.seen ≡ c.args.geometry.zones = search rules in
    let len : c.in_ok-seen.seen.len ≡ length c.see_zones.new.seen = search rules in
    rw (len, take-append_seam c.see_zones.new.seen _) (rows-seen c.args.geometry c.args.report.now c.see_zones.new.seen c.requires long count c.in_ok-see_zones.ensures.ok zones lawful shows)

pub returns-clause-rows : goal.returns-clause-rows
returns-clause-rows c =
    let count : length c.see_zones.new.seen ≡ c.args.geometry.zones = search rules in
    let len : c.in_ok-seen.seen.len ≡ length c.see_zones.new.seen = search rules in
    rw (len, take-append_seam c.see_zones.new.seen _) c.in_ok-see_zones.ensures.ok
