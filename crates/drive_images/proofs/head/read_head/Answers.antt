use Rattle.std.proofs.Common.{◌≡◌, true, length, sym, ap, ◌∙◌, arith}
use Rattle.std.proofs.lemmas.Bool.Decides.{nat_tests}
use Rattle.drive_images.specs.Reading.{begins_with}
use Rattle.drive_images.proofs.HeadLaws.{begins_whole, length-head}
use Rattle.drive_images.proofs.head.read_head.Goals as goal

pub returns-clause-ok : goal.returns-clause-ok
returns-clause-ok c =
    let begins : begins_with c.args.head.now c.head_bytes.result ≡ true = grind (arith, nat_tests) in
    let long = ap length c.head_bytes.ensures ∙ length-head c.geometry_in-geometry.result in
    begins_whole c.args.head.now c.head_bytes.result begins (c.told-head ∙ sym long) ∙ c.head_bytes.ensures
