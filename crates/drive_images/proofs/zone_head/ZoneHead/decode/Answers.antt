use Rattle.std.proofs.Common.{◌≡◌, true, length, sym, ap, ◌∙◌, arith}
use Rattle.std.proofs.lemmas.Bool.Decides.{nat_tests}
use Rattle.drive_images.specs.Reading.{begins_with}
use Rattle.drive_images.proofs.HeadLaws.{begins_whole, length-zone_head}
use Rattle.drive_images.proofs.zone_head.ZoneHead.decode.Goals as goal

pub returns-clause-ok : goal.returns-clause-ok
returns-clause-ok c =
    let begins : begins_with c.args.bytes.now c.encode.result ≡ true = grind (arith, nat_tests) in
    let long = ap length c.encode.ensures ∙ length-zone_head c.in-Some.state c.read_u32.result in
    begins_whole c.args.bytes.now c.encode.result begins (c.told-bytes ∙ sym long) ∙ c.encode.ensures
